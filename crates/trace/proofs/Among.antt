-- Senders among others: when two are the same, who is among more and among a front, and lists in which none stands
-- twice.
-- Assumes nothing.
use Prim.Native.Nat.{ℕ, zero, suc}
use mathlib.Core.Bool.{true, false, true≢false, ◌||◌, ◌&&◌}
use mathlib.Core.List.{List, [], ◌∷◌, ◌++◌}
use mathlib.Core.Path.{◌≡◌, refl, sym, ◌∙◌}
use borrow.Author.Tests.{eqb-true, eq-eqb}
use lib.Dec.{eqb}
use lib.ListN.{take}
use Rattle.octets.proofs.Cases.{cases, holds?, neither, both}
use Rattle.senders.specs.declared.Sender.{Sender}
use Rattle.senders.specs.Sender.{same, among}

-- the same are equal
pub same_refl : (a : Sender) → same a a ≡ true
same_refl a =
    simp (eq-eqb a.address a.address refl, eq-eqb a.pan_id a.pan_id refl, eq-eqb a.octets a.octets refl)

pub same_true : (a b : Sender) → same a b ≡ true → a ≡ b
same_true a b e =
    let abc = both (eqb a.address b.address && eqb a.pan_id b.pan_id) (eqb a.octets b.octets) e in
    let ab = both (eqb a.address b.address) (eqb a.pan_id b.pan_id) abc.0 in
    let address = eqb-true a.address b.address ab.0 in
    let pan = eqb-true a.pan_id b.pan_id ab.1 in
    let octets = eqb-true a.octets b.octets abc.1 in
    λ i. record { octets = octets i; pan_id = pan i; address = address i }

pub same_not : (a b : Sender) → same a b ≡ false → same b a ≡ false
same_not a b e =
    cases (holds? (same b a))
    (λ t. absurd (true≢false (sym (same_refl a) ∙ rw (same_true b a t) at e)))
    (λ t. t)

-- among more
among_append : (who : Sender) (a b : List Sender) → among who (a ++ b) ≡ (among who a || among who b)
unfolding among
among_append who [] b = refl
among_append who (s ∷ a) b =
    cases (holds? (same who s)) (λ t. simp t) (λ t. simp t (among_append who a b))

pub among_last : (who : Sender) (ms : List Sender) → among who (ms ++ (who ∷ [])) ≡ true
unfolding among
among_last who [] = simp (same_refl who)
among_last who (m ∷ ms) = cases (holds? (same who m)) (λ t. simp t) (λ t. simp t (among_last who ms))

pub among_left : (who : Sender) (a b : List Sender) → among who a ≡ true → among who (a ++ b) ≡ true
among_left who a b e = rw (among_append who a b, e)

pub among_none : (who : Sender) (ms : List Sender) (m : Sender) → among who ms ≡ false → same who m ≡ false →
    among who (ms ++ (m ∷ [])) ≡ false
unfolding among
among_none who ms m e f = rw (among_append who ms (m ∷ []), e) (simp f)

-- among a front
pub among_take : (n : ℕ) (who : Sender) (ms : List Sender) → among who (take n ms) ≡ true → among who ms ≡ true
unfolding among
among_take zero who ms e = absurd (true≢false (sym e))
among_take (suc n) who [] e = e
among_take (suc n) who (m ∷ ms) e =
    cases (holds? (same who m)) (λ t. simp t) (λ t. simp t (among_take n who ms (simp t at e)))

none_taken : (n : ℕ) (who : Sender) (ms : List Sender) → among who ms ≡ false → among who (take n ms) ≡ false
none_taken n who ms e = cases (holds? (among who (take n ms))) (λ t. absurd (true≢false (sym (among_take n who ms t) ∙ e))) (λ t. t)

pub taken_left : (n : ℕ) (who : Sender) (a b : List Sender) → among who (take n a) ≡ true → among who (take n (a ++ b)) ≡ true
unfolding among
taken_left zero who a b e = e
taken_left (suc n) who [] b e = absurd (true≢false (sym e))
taken_left (suc n) who (m ∷ a) b e =
    cases (holds? (same who m)) (λ t. simp t) (λ t. simp t (taken_left n who a b (simp t at e)))

-- no sender stands twice: a frame changes the counts of the first row whose sender is its own, and there is no other
abbrev pub Distinct : List Sender → Type 0
Distinct [] = Unit
Distinct (m ∷ ms) = (among m ms ≡ false) × Distinct ms

pub distinct_on : (ms : List Sender) (who : Sender) → Distinct ms → among who ms ≡ false → Distinct (ms ++ (who ∷ []))
unfolding among
distinct_on [] who d e = (refl, tt)
distinct_on (m ∷ ms) who d e =
    let apart = neither (same who m) (among who ms) e in
    (among_none m ms who d.0 (same_not who m apart.0), distinct_on ms who d.1 apart.1)

pub distinct_taken : (n : ℕ) (ms : List Sender) → Distinct ms → Distinct (take n ms)
distinct_taken zero ms d = tt
distinct_taken (suc n) [] d = tt
distinct_taken (suc n) (m ∷ ms) d = (none_taken n m ms d.0, distinct_taken n ms d.1)

-- each frame's sender is among some
abbrev pub AllAmong : List Sender → List (Sender × ℕ) → Type 0
AllAmong ks [] = Unit
AllAmong ks (h ∷ hs) = (among h.0 ks ≡ true) × AllAmong ks hs

pub all_left : (ks ts : List Sender) (hs : List (Sender × ℕ)) → AllAmong ks hs → AllAmong (ks ++ ts) hs
all_left ks ts [] a = tt
all_left ks ts (h ∷ hs) a = (among_left h.0 ks ts a.0, all_left ks ts hs a.1)
