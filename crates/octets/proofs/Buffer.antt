-- Laws of a buffer after stores.
-- Assumes nothing.
use Prim.Native.Nat.{ℕ, suc, ◌+◌, ◌-◌, ◌/◌, ◌%◌, ◌≤◌, ◌<◌, min}
use native.Mathlib.Nat.{add-zero, zero-add, add-suc, suc-add}
use native.Mathlib.Numerals.{add-one}
use native.Mathlib.Omega.{arith}
use mathlib.Core.List.{List, [], ◌∷◌, ◌++◌, append_assoc}
use mathlib.Core.Path.{◌≡◌, refl, sym, ap, ◌∙◌}
use borrow.Author.Tests.{leb-true, leb-false, eqb-true, eqb-false}
use lib.Dec.{leb, eqb}
use lib.ListN.{length, set, take, drop}
use lib.Seq.{sets, sets-eq, set_comm, set-set, length-sets}
use Rattle.std.proofs.lemmas.List.{set_past}
use Rattle.octets.specs.Little.{split}
use Rattle.octets.specs.Buffer.{laid}
use Rattle.octets.proofs.Cases.{cases, holds?}

-- one turn of a store: the lowest byte at p, the rest from the next place on
pub store_next : (l : List ℕ) (p q j k v : ℕ) → q ≡ p + 1 → k ≡ j + 1 →
    laid (set l p (v % 256)) q (split j (v / 256)) ≡ laid l p (split k v)
unfolding split laid
store_next l p q j k v e f = rw (e, f, add-one p, add-one j)

pub laid_none : (l : List ℕ) (at : ℕ) → laid l at [] ≡ l
unfolding laid
laid_none l at = refl

-- one byte and then the rest, from the next place on
pub laid_cons : (l : List ℕ) (at x : ℕ) (b : List ℕ) → laid (set l at x) (at + 1) b ≡ laid l at (x ∷ b)
unfolding laid
laid_cons l at x b = rw add-one

laid_append : (l : List ℕ) (at : ℕ) (a b : List ℕ) → laid (laid l at a) (at + length a) b ≡ laid l at (a ++ b)
unfolding laid
laid_append l at [] b = rw add-zero
laid_append l at (x ∷ a) b =
    ap (λ (k : ℕ). sets (sets (set l at x) (suc at) a) k b) (add-suc at (length a) ∙ sym (suc-add at (length a)))
    ∙ laid_append (set l at x) (suc at) a b

pub laid_length : (l : List ℕ) (at : ℕ) (b : List ℕ) → length (laid l at b) ≡ length l
unfolding laid
laid_length l at b = length-sets l at b

-- past the end nothing is stored
pub laid_past : (l : List ℕ) (at : ℕ) (b : List ℕ) → length l ≤ at → laid l at b ≡ l
unfolding laid
laid_past l at [] h = refl
laid_past l at (x ∷ b) h =
    ap (λ (m : List ℕ). sets m (suc at) b) (set_past l at x h) ∙ laid_past l (suc at) b (omega arith)

-- one store and the next are one
pub laid_join : (l : List ℕ) (at next n : ℕ) (a b : List ℕ) → length a ≡ n → next ≡ at + n → laid (laid l at a) next b ≡ laid l at (a ++ b)
laid_join l at next n a b e f = rw (f, sym e) (laid_append l at a b)

-- nothing is left to store, or no room is
pub store_end : (l : List ℕ) (p k v : ℕ) → min k (length l - p) ≡ 0 → laid l p (split k v) ≡ l
unfolding split laid
store_end l p k v e =
    cases (holds? (eqb k 0)) (λ t. rw (eqb-true k 0 t))
    (λ t. let h = eqb-false k 0 t in laid_past l p (split k v) (omega (arith, h)))

-- one store and the next, from the place behind what had room, are one
pub laid_on : (l : List ℕ) (at next n : ℕ) (a b : List ℕ) → length a ≡ n → next ≡ at + min n (length l - at) →
    laid (laid l at a) next b ≡ laid l at (a ++ b)
laid_on l at next n a b e f =
    cases (holds? (leb n (length l - at)))
    (λ t. laid_join l at next n a b e (let h : n ≤ length l - at = leb-true _ _ t in omega arith))
    (λ t.
    let h : length l - at < n = leb-false _ _ t in
    laid_past (laid l at a) next b (omega (arith, laid_length l at a))
    ∙ sym (laid_past (laid l at a) (at + length a) b (omega (arith, laid_length l at a)))
    ∙ laid_append l at a b)

-- place and buffer of two such stores
places_on : (at next r n k room rest : ℕ) → next ≡ at + min n (room - at) → rest ≡ room → r ≡ next + min k (rest - next) →
    r ≡ at + min (n + k) (room - at)
places_on at next r n k room rest e f g = omega arith

pub stored_on : (l : List ℕ) (at : ℕ) (a : List ℕ) (n : ℕ) (b : List ℕ) (k : ℕ) {m o : List ℕ} {next r : ℕ} → length a ≡ n →
    (next ≡ at + min n (length l - at)) × (m ≡ laid l at a) →
    (r ≡ next + min k (length m - next)) × (o ≡ laid m next b) →
    (r ≡ at + min (n + k) (length l - at)) × (o ≡ laid l at (a ++ b))
stored_on l at a n b k {m} {o} {next} {r} long one two = (
  places_on at next r n k (length l) (length m) one.0 (ap length one.1 ∙ laid_length l at a) two.0,
  two.1 ∙ ap (λ (x : List ℕ). laid x next b) one.1 ∙ laid_on l at next n a b long one.0,
)

-- and so are the buffers that two calls left
pub laid_two : (l : List ℕ) (at n next : ℕ) (a b : List ℕ) {m r : List ℕ} → length a ≡ n → next ≡ at + n → m ≡ laid l at a →
    r ≡ laid m next b →
    r ≡ laid l at (a ++ b)
laid_two l at n next a b long behind one two = rw (two, one) (laid_join l at next n a b long behind)

-- storing the same bytes again changes nothing
set_before : (l b : List ℕ) (i j x : ℕ) → i < j → set (sets l j b) i x ≡ sets (set l i x) j b
set_before l [] i j x h = refl
set_before l (y ∷ b) i j x h =
    set_before (set l j y) b i (suc j) x (omega arith)
    ∙ ap (λ (l : List ℕ). sets l (suc j) b) (set_comm l j i y x (λ e. omega arith))

pub laid_again : (l : List ℕ) (at : ℕ) (b : List ℕ) → laid (laid l at b) at b ≡ laid l at b
unfolding laid
laid_again l at [] = refl
laid_again l at (x ∷ b) =
    ap (λ (l : List ℕ). sets l (suc at) b)
    (set_before (set l at x) b at (suc at) x (omega arith) ∙ ap (λ (l : List ℕ). sets l (suc at) b) (set-set l at x x))
    ∙ laid_again (set l at x) (suc at) b

-- a store at a place parts the buffer: what lies before, what was stored, what lies behind
pub laid_parts : (l : List ℕ) (at : ℕ) (b : List ℕ) → at + length b ≤ length l → laid l at b ≡ take at l ++ (b ++ drop (at + length b) l)
unfolding laid
laid_parts l at b h = sets-eq b l at h ∙ append_assoc (take at l) b (drop (at + length b) l)

-- a whole write from the beginning: the bytes, and what lay behind them
pub laid_all : (l b : List ℕ) (n : ℕ) → length b ≡ n → n ≤ length l → laid l 0 b ≡ b ++ drop n l
unfolding laid
laid_all l b n e h = sets-eq b l 0 (omega arith) ∙ ap (λ (k : ℕ). b ++ drop k l) (zero-add (length b) ∙ e)
