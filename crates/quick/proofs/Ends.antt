-- Where a header ends, counted from behind its security control, and what is told of a slice that ends before it.
-- Assumes nothing.
use Prim.Native.Nat.{ℕ, ◌+◌, ◌-◌, ◌/◌, ◌%◌, ◌≤◌, ◌<◌}
use native.Mathlib.Omega.{arith}
use mathlib.Core.Bool.{true}
use mathlib.Core.List.{List, [], ◌∷◌}
use mathlib.Core.Path.{◌≡◌, refl}
use borrow.Author.Tests.{lt-ltb, eq-eqb, eqb-true, eqb-false}
use lib.Dec.{ltb}
use lib.ListN.{length, get_or}
use Rattle.octets.specs.{Bits.bits, Bits.bit, Little.number}
use Rattle.octets.proofs.Cases.{cases, holds?}
use Rattle.octets.proofs.Little.{number_one}
use Rattle.header_bytes.specs.Layout.{security_size, source_end, header_end}
use Rattle.header_bytes.proofs.Sizes.{header_end_lem, control_inside}
use Rattle.octets.specs.Outcome.{code_of, answered, Outcome}
use Rattle.octets.specs.declared.Refusal.TheVariants.{Ended}
use Rattle.quick.specs.Table.{control_end}

-- what is told behind the frame control: all bytes of the header are there, or 1
abbrev pub rest : List ℕ → ℕ → Outcome
rest s w = answered ((ltb (length s) (header_end s w), Ended) ∷ []) (header_end s w)

module _ (s : List ℕ) (w : ℕ) where
  pub ended : length s < header_end s w → 1001 ≡ code_of (rest s w)
  ended h = rw (lt-ltb (length s) (header_end s w) h) refl

  -- without a security part the header ends with the source
  pub plain_end : bits w 3 1 ≡ 0 → control_end w ≡ header_end s w
  plain_end e = simp e (omega arith)

  -- with one, behind its control by what the key mode says
  pub secured_end : (n r : ℕ) → n ≡ control_end w → (bits w 3 1 ≡ 0 → ⊥) → 1 + r ≡ security_size (get_or s (n - 1) 0 / 8 % 4) →
      n + r ≡ header_end s w
  secured_end n r e f g =
      let one : bits w 3 1 ≡ 1 = omega (arith, f) in
      let on : bit w 3 ≡ true = eq-eqb (bits w 3 1) 1 one in
      let at : n - 1 ≡ source_end w = omega (arith, e, one) in
      let size : 1 + r ≡ security_size (bits (number s (source_end w) 1) 3 2) = rw (number_one s (source_end w)) (rw at at g) in
      rw on (omega (arith, e, one, size))

  pub control_end_lem : control_end w ≤ header_end s w
  control_end_lem =
      cases (holds? (bit w 3))
      (λ t. let one = eqb-true (bits w 3 1) 1 t in omega (arith, one, control_inside w s t))
      (λ f. let none = eqb-false (bits w 3 1) 1 f in omega (arith, none, (header_end_lem w s).0))
