-- The senders of frames where one frame more is heard: who was met, who is known, which numbers each has, and how many
-- frames are of others.
-- Assumes nothing.
use Prim.Native.Nat.{ℕ, ◌+◌, ◌<◌, ◌≤◌}
use native.Mathlib.Omega.{arith}
use mathlib.Core.Bool.{true, false, true≢false, cond, not}
use mathlib.Core.List.{List, [], ◌∷◌, ◌++◌}
use mathlib.Core.Path.{◌≡◌, refl, sym, ap, ◌∙◌}
use lib.ListN.{length, take, length-append, length-take}
use lib.Seq.{take_all, take-append-le}
use Rattle.octets.specs.Bits.{bit_of}
use Rattle.octets.proofs.Cases.{cases, holds?}
use Rattle.senders.specs.declared.Sender.{Sender}
use Rattle.senders.specs.Sender.{same, among}
use Rattle.senders.specs.Hearing.{senders_most}
use Rattle.trace.specs.Plain.{met, known, numbers_of, strangers}
use Rattle.trace.proofs.Among.{same_true, among_last, among_left, among_none, among_take, taken_left}
use Rattle.trace.proofs.Among.{Distinct, distinct_on, distinct_taken, AllAmong, all_left}

-- those who were met, and one frame more
abbrev next : List Sender → Sender → List Sender
next ms who = cond (among who ms) ms (ms ++ (who ∷ []))

next_has : (ms : List Sender) (who : Sender) → among who (next ms who) ≡ true
next_has ms who = cases (holds? (among who ms)) (λ t. simp t) (λ t. simp t (among_last who ms))

next_keeps : (ms : List Sender) (m who : Sender) → among who ms ≡ true → among who (next ms m) ≡ true
next_keeps ms m who e = cases (holds? (among m ms)) (λ t. simp t e) (λ t. simp t (among_left who ms (m ∷ []) e))

met_join : (ms : List Sender) (hs ts : List (Sender × ℕ)) → met ms (hs ++ ts) ≡ met (met ms hs) ts
unfolding met
met_join ms [] ts = refl
met_join ms (h ∷ hs) ts = met_join (next ms h.0) hs ts

met_keeps : (ms : List Sender) (hs : List (Sender × ℕ)) (who : Sender) → among who ms ≡ true → among who (met ms hs) ≡ true
unfolding met
met_keeps ms [] who e = e
met_keeps ms (h ∷ hs) who e = met_keeps (next ms h.0) hs who (next_keeps ms h.0 who e)

-- the first n of those who were met stay the first n
front_keeps : (n : ℕ) (ms : List Sender) (hs : List (Sender × ℕ)) (who : Sender) → among who (take n ms) ≡ true →
    among who (take n (met ms hs)) ≡ true
unfolding met
front_keeps n ms [] who e = e
front_keeps n ms (h ∷ hs) who e =
    cases (holds? (among h.0 ms)) (λ t. simp t (front_keeps n ms hs who e))
    (λ t. simp t (front_keeps n (ms ++ (h.0 ∷ [])) hs who (taken_left n who ms (h.0 ∷ []) e)))

front_full : (n : ℕ) (ms : List Sender) (hs : List (Sender × ℕ)) → n ≤ length ms → take n (met ms hs) ≡ take n ms
unfolding met
front_full n ms [] l = refl
front_full n ms (h ∷ hs) l =
    cases (holds? (among h.0 ms)) (λ t. simp t (front_full n ms hs l))
    (λ t.
    let more : n ≤ length (ms ++ (h.0 ∷ [])) = simp length-append (omega arith) in
    simp t (front_full n (ms ++ (h.0 ∷ [])) hs more ∙ take-append-le n ms (h.0 ∷ []) l))

-- all are met, and none twice
met_all : (ms : List Sender) (hs : List (Sender × ℕ)) → AllAmong (met ms hs) hs
unfolding met
met_all ms [] = tt
met_all ms (h ∷ hs) = (met_keeps (next ms h.0) hs h.0 (next_has ms h.0), met_all (next ms h.0) hs)

met_distinct : (ms : List Sender) (hs : List (Sender × ℕ)) → Distinct ms → Distinct (met ms hs)
unfolding met
met_distinct ms [] d = d
met_distinct ms (h ∷ hs) d =
    cases (holds? (among h.0 ms)) (λ t. simp t (met_distinct ms hs d))
    (λ t. simp t (met_distinct (ms ++ (h.0 ∷ [])) hs (distinct_on ms h.0 d t)))

pub known_distinct : (hs : List (Sender × ℕ)) → Distinct (known hs)
unfolding known
known_distinct hs = distinct_taken senders_most (met [] hs) (met_distinct [] hs tt)

-- the numbers of a sender's frames
pub numbers_on : (who m : Sender) (n : ℕ) (hs : List (Sender × ℕ)) →
    numbers_of who (hs ++ ((m, n) ∷ [])) ≡ cond (same who m) (numbers_of who hs ++ (n ∷ [])) (numbers_of who hs)
unfolding numbers_of
numbers_on who m n [] = refl
numbers_on who m n (h ∷ hs) =
    cases (holds? (same who h.0))
    (λ t. cases (holds? (same who m)) (λ u. simp (t, u) (ap (λ (l : List ℕ). h.1 ∷ l) (numbers_on who m n hs ∙ simp u)))
    (λ u. simp (t, u) (ap (λ (l : List ℕ). h.1 ∷ l) (numbers_on who m n hs ∙ simp u))))
    (λ t. simp t (numbers_on who m n hs))

-- none of a sender who is none of theirs, some of one who was met
numbers_none : (ks : List Sender) (hs : List (Sender × ℕ)) (who : Sender) → AllAmong ks hs → among who ks ≡ false → numbers_of who hs ≡ []
unfolding numbers_of
numbers_none ks [] who a e = refl
numbers_none ks (h ∷ hs) who a e =
    cases (holds? (same who h.0))
    (λ t. absurd (true≢false (sym a.0 ∙ rw (same_true who h.0 t) at e)))
    (λ t. simp t (numbers_none ks hs who a.1 e))

numbers_some : (ms : List Sender) (hs : List (Sender × ℕ)) (who : Sender) → among who ms ≡ false → among who (met ms hs) ≡ true →
    0 < length (numbers_of who hs)
unfolding numbers_of met
numbers_some ms [] who e f = absurd (true≢false (sym f ∙ e))
numbers_some ms (h ∷ hs) who e f =
    cases (holds? (same who h.0)) (λ t. simp t (omega arith))
    (λ t. simp t (cases (holds? (among h.0 ms))
    (λ u. numbers_some ms hs who e (simp u at f))
    (λ u. numbers_some (ms ++ (h.0 ∷ [])) hs who (among_none who ms h.0 e t) (simp u at f))))

-- frames of others
pub strangers_on : (ks : List Sender) (m : Sender) (n : ℕ) (hs : List (Sender × ℕ)) →
    strangers ks (hs ++ ((m, n) ∷ [])) ≡ strangers ks hs + bit_of (not (among m ks))
unfolding strangers
strangers_on ks m n [] = cases (holds? (among m ks)) (λ t. simp t) (λ t. simp t)
strangers_on ks m n (h ∷ hs) =
    cases (holds? (among h.0 ks)) (λ t. simp t (strangers_on ks m n hs))
    (λ t. simp t (omega (arith, strangers_on ks m n hs)))

strangers_none : (ks : List Sender) (hs : List (Sender × ℕ)) → AllAmong ks hs → strangers ks hs ≡ 0
unfolding strangers
strangers_none ks [] a = refl
strangers_none ks (h ∷ hs) a = simp a.0 (strangers_none ks hs a.1)

-- a front that is short is all, and one that is full is of enough
few : (n : ℕ) (ms : List Sender) → length (take n ms) < n → length ms < n
few n ms l = omega (arith, length-take n ms)

many : (n : ℕ) (ms : List Sender) → n ≤ length (take n ms) → n ≤ length ms
many n ms l = omega (arith, length-take n ms)

module _ (hs : List (Sender × ℕ)) where
  -- the known senders, where more frames are heard
  pub known_keeps : (ts : List (Sender × ℕ)) (who : Sender) → among who (known hs) ≡ true → among who (known (hs ++ ts)) ≡ true
  unfolding known
  known_keeps ts who e = rw (met_join [] hs ts) (front_keeps senders_most (met [] hs) ts who e)

  pub known_full : (ts : List (Sender × ℕ)) → senders_most ≤ length (known hs) → known (hs ++ ts) ≡ known hs
  unfolding known
  known_full ts l = rw (met_join [] hs ts) (front_full senders_most (met [] hs) ts (many senders_most (met [] hs) l))

  -- where there is room, all who were met are known
  all_met : length (known hs) < senders_most → known hs ≡ met [] hs
  unfolding known
  all_met l = take_all senders_most (met [] hs) (omega (arith, few senders_most (met [] hs) l))

  module _ (who : Sender) (n : ℕ) where
    -- one frame of a known sender, and one of a new one
    pub known_again : among who (known hs) ≡ true → known (hs ++ ((who, n) ∷ [])) ≡ known hs
    unfolding known met
    known_again e =
        let t = among_take senders_most who (met [] hs) e in
        rw (met_join [] hs ((who, n) ∷ []), t)

    pub known_new : among who (known hs) ≡ false → length (known hs) < senders_most →
        known (hs ++ ((who, n) ∷ [])) ≡ known hs ++ (who ∷ [])
    unfolding known met
    known_new e l =
        let ms = met [] hs in
        let short = few senders_most ms l in
        let t : among who ms ≡ false = rw (all_met l) at e in
        let room : length (ms ++ (who ∷ [])) ≤ senders_most = simp length-append (omega arith) in
        rw (met_join [] hs ((who, n) ∷ []), t, take_all senders_most ms (omega arith)) (take_all senders_most (ms ++ (who ∷ [])) room)

  -- the numbers of a known sender, and of a new one
  pub known_numbers : (who : Sender) → among who (known hs) ≡ true → 0 < length (numbers_of who hs)
  unfolding known among
  known_numbers who e = numbers_some [] hs who refl (among_take senders_most who (met [] hs) e)

  pub new_numbers : (who : Sender) → among who (known hs) ≡ false → length (known hs) < senders_most → numbers_of who hs ≡ []
  new_numbers who e l = numbers_none (met [] hs) hs who (met_all [] hs) (rw (all_met l) at e)

  -- where there is room, no frame is of others
  pub strangers_new : (ts : List Sender) → length (known hs) < senders_most → strangers (known hs ++ ts) hs ≡ 0
  strangers_new ts l = rw (all_met l) (strangers_none (met [] hs ++ ts) hs (all_left (met [] hs) ts hs (met_all [] hs)))
