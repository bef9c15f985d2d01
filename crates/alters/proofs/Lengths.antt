-- How long an answer is: at most 250 bytes longer than its line.
-- Assumes nothing.
use Prim.Native.Nat.{ℕ, zero, suc, ◌+◌, ◌*◌, ◌≤◌, ◌<◌}
use native.Mathlib.Omega.{arith}
use mathlib.Core.List.{List, [], ◌∷◌, ◌++◌, flat_map}
use mathlib.Core.Path.{ap}
use lib.ListN.{length, length-append}
use Rattle.octets.specs.Outcome.{Outcome, number_of, length_of}
use Rattle.octets.specs.Bits.{bit}
use Rattle.octets.proofs.Cases.{cases, holds?}
use Rattle.labelled.proofs.Answer.{labelled_most}
use Rattle.labelled.proofs.Decimal.{decimal_few}
use Rattle.labelled.specs.Decimal.{decimal}
use Rattle.alterations.specs.Altered.{altered}
use Rattle.alterations.specs.Rewriting.{rewrite_frame}
use Rattle.alterations.proofs.Bounds.{altered_few, altered_near, rewrite_most}
use Rattle.alterations.proofs.Places.{Below}
use Rattle.alters.specs.Answer.{space, told, bits_told, column, outcome_told, said, answer}
use Rattle.alters.specs.Bits.{bits_below, bits_of}
use Rattle.alters.specs.Steps.{marked}
use Rattle.alters.proofs.Marks.{undashed}

-- bits that are told by two digits and one
abbrev Short : List (ℕ × ℕ) → Type 0
Short [] = Unit
Short (b ∷ l) = (b.0 < 100) × ((b.1 < 10) × Short l)

short_append : (a b : List (ℕ × ℕ)) → Short a → Short b → Short (a ++ b)
short_append [] b s t = t
short_append (x ∷ a) b s t = (s.0, (s.1.0, short_append a b s.1.1 t))

-- as many bits as were looked at, or fewer
module _ (place mask : ℕ) where
  below_few : (k : ℕ) → length (bits_below place mask k) ≤ k
  unfolding bits_below
  below_few zero = omega arith
  below_few (suc k) =
      rw (length-append (bits_below place mask k))
      (cases (holds? (bit mask k)) (λ t. simp t (omega (arith, below_few k))) (λ t. simp t (omega (arith, below_few k))))

  below_short : (k : ℕ) → place < 100 → k ≤ 8 → Short (bits_below place mask k)
  unfolding bits_below
  below_short zero p h = tt
  below_short (suc k) p h =
      let s = below_short k p (omega arith) in
      cases (holds? (bit mask k)) (λ t. simp t (short_append (bits_below place mask k) ((place, k) ∷ []) s (p, (omega arith, tt))))
      (λ t. simp t (short_append (bits_below place mask k) [] s tt))

bits_few : (l : List (ℕ × ℕ)) → length (bits_of l) ≤ 8 * length l
unfolding flat_map
bits_few [] = omega arith
bits_few (b ∷ l) = rw (length-append (bits_below b.0 b.1 8)) (omega (arith, below_few b.0 b.1 8, bits_few l))

bits_short : (l : List (ℕ × ℕ)) → Below 100 l → Short (bits_of l)
unfolding flat_map
bits_short [] h = tt
bits_short (b ∷ l) h =
    let here = below_short b.0 b.1 8 h.0 (omega arith) in
    short_append (bits_below b.0 b.1 8) (bits_of l) here (bits_short l h.1)

-- each is told by a mark, two digits, a dot and a digit at most
marked_most : (mark : ℕ) (l : List (ℕ × ℕ)) → Short l → length (marked mark l) ≤ 5 * length l
unfolding marked
marked_most mark [] s = omega arith
marked_most mark (b ∷ l) s =
    let place = decimal_few 1 b.0 s.0 in
    let number = decimal_few 0 b.1 s.1.0 in
    rw (length-append (told b), length-append (decimal b.0)) (omega (arith, place, number, marked_most space l s.1.1))

column_most : (l : List (ℕ × ℕ)) → Short l → length (column l) ≤ 5 * length l + 2
unfolding bits_told
column_most [] s = omega arith
column_most (b ∷ l) s = omega (arith, marked_most 9 (b ∷ l) s, ap length (undashed (b ∷ l) (λ e. omega (arith, e))))

outcome_most : (o : Outcome) → (number_of o ≤ 6) × (length_of o ≤ 133) → length (outcome_told o) ≤ 6
unfolding outcome_told
outcome_most o h =
    let number = decimal_few 0 (number_of o) (omega (arith, h.0)) in
    let size = decimal_few 2 (length_of o) (omega (arith, h.1)) in
    rw (length-append (decimal (number_of o))) (omega (arith, number, size))

said_most : (s : List ℕ) → length (said s) ≤ 250
unfolding said
said_most s =
    let bits = bits_of (altered s) in
    rw (length-append (outcome_told (rewrite_frame s)), length-append (column bits))
    (omega (
      arith,
      outcome_most (rewrite_frame s) (rewrite_most s),
      column_most bits (bits_short (altered s) (altered_near s)),
      bits_few (altered s),
      altered_few s,
    ))

pub answer_most_lem : (l : List ℕ) → length (answer l) ≤ length l + 250
answer_most_lem = labelled_most said 250 (omega arith) said_most
