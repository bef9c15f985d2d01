-- `header_bytes::measure_header` meets its contract: its tests are the definition's, in their order.
-- Assumes nothing.
use Prim.Native.Nat.{ℕ, ◌%◌, ◌^◌}
use mathlib.Core.Bool.{Bool}
use mathlib.Core.List.{List}
use mathlib.Core.Path.{◌≡◌, sym, ap, ◌∙◌}
use lib.Dec.{eqb}
use borrow.Author.Tests.{lt-ltb, le-ltb, eq-eqb, ne_eqb}
use Rattle.octets.proofs.Bits.{bits_low}
use Rattle.octets.specs.{Bits.bits, Little.number, Outcome.answered}
use Rattle.header_bytes.specs.{Layout.header_end, Reading.read_tests, Reading.measured}
use Rattle.header_bytes.proofs.measure_header.Goals as goal

-- the definition, by a frame control that was read
by_control : (s : List ℕ) (w : ℕ) → w ≡ number s 0 2 → measured s ≡ answered (read_tests s w) (header_end s w)
unfolding measured
by_control s w e = ap (λ (w : ℕ). answered (read_tests s w) (header_end s w)) (sym e)

-- the test on the type, by the remainder that the code looks at
type_test : (w : ℕ) {b : Bool} → eqb (w % 2 ^ 3) 4 ≡ b → eqb (bits w 0 3) 4 ≡ b
type_test w e = ap (λ (n : ℕ). eqb n 4) (bits_low w 3) ∙ e

pub returns-then-s-lt3 : goal.returns-then-s-lt3
unfolding measured
returns-then-s-lt3 c = simp (lt-ltb _ _ c.if-s-lt3.true)

pub returns-then-w-eq3 : goal.returns-then-w-eq3
returns-then-w-eq3 c =
    rw (by_control _ _ c.u16_at-w.ensures) (simp (le-ltb _ _ c.if-s-lt3.false, eq-eqb _ _ c.if-w-eq3.true))

pub returns-then-w-eq4 : goal.returns-then-w-eq4
returns-then-w-eq4 c =
    rw (by_control _ _ c.u16_at-w.ensures)
    (simp (le-ltb _ _ c.if-s-lt3.false, ne_eqb _ _ c.if-w-eq3.false, type_test _ (eq-eqb _ _ c.if-w-eq4.true)))

pub returns-then-w-eq1 : goal.returns-then-w-eq1
returns-then-w-eq1 c =
    rw (by_control _ _ c.u16_at-w.ensures)
    (simp (
      le-ltb _ _ c.if-s-lt3.false,
      ne_eqb _ _ c.if-w-eq3.false,
      type_test _ (ne_eqb _ _ c.if-w-eq4.false),
      eq-eqb _ _ c.if-w-eq1.true,
    ))

pub returns-then-w-eq1-2 : goal.returns-then-w-eq1-2
returns-then-w-eq1-2 c =
    rw (by_control _ _ c.u16_at-w.ensures)
    (simp (
      le-ltb _ _ c.if-s-lt3.false,
      ne_eqb _ _ c.if-w-eq3.false,
      type_test _ (ne_eqb _ _ c.if-w-eq4.false),
      ne_eqb _ _ c.if-w-eq1.false,
      eq-eqb _ _ c.if-w-eq1-2.true,
    ))

pub returns : goal.returns
returns c =
    rw (by_control _ _ c.u16_at-w.ensures)
    (simp (
      le-ltb _ _ c.if-s-lt3.false,
      ne_eqb _ _ c.if-w-eq3.false,
      type_test _ (ne_eqb _ _ c.if-w-eq4.false),
      ne_eqb _ _ c.if-w-eq1.false,
      ne_eqb _ _ c.if-w-eq1-2.false,
    ) c.measure_fields.ensures)
