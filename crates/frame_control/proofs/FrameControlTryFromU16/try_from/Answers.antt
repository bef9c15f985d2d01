-- `frame_control::FrameControl::try_from` meets its contract: its tests are the definition's, in their order.
-- Assumes nothing.
use Prim.Native.Nat.{ℕ, ◌%◌}
use mathlib.Core.Bool.{true, false}
use mathlib.Core.Path.{◌≡◌, sym, ap, ◌∙◌}
use borrow.Author.Tests.{eq-eqb, ne_eqb}
use lib.Dec.{eqb}
use Rattle.octets.specs.Bits.{bits}
use Rattle.octets.proofs.Bits.{bits_low}
use Rattle.std.specs.Prelude.{Ok}
use Rattle.frame_control.specs.Control.{control_in}
use Rattle.frame_control.proofs.Control.{Known, control_read}
use Rattle.frame_control.proofs.FrameControlTryFromU16.try_from.Goals as goal

-- the test on the type, from what the code's own showed
type_four : (w : ℕ) → w % 8 ≡ 4 → eqb (bits w 0 3) 4 ≡ true
type_four w e = eq-eqb _ _ (bits_low w 3 ∙ e)

type_other : (w : ℕ) → (w % 8 ≡ 4 → ⊥) → eqb (bits w 0 3) 4 ≡ false
type_other w f = ap (λ (n : ℕ). eqb n 4) (bits_low w 3) ∙ ne_eqb _ _ f

pub returns-then-bits-eq3 : goal.returns-then-bits-eq3
unfolding control_in
returns-then-bits-eq3 c = simp (eq-eqb _ _ c.if-bits-eq3.true)

pub returns-then-bits-eq4 : goal.returns-then-bits-eq4
unfolding control_in
returns-then-bits-eq4 c = simp (ne_eqb _ _ c.if-bits-eq3.false, type_four _ c.if-bits-eq4.true)

pub returns-then-bits-eq1 : goal.returns-then-bits-eq1
unfolding control_in
returns-then-bits-eq1 c = simp (ne_eqb _ _ c.if-bits-eq3.false, type_other _ c.if-bits-eq4.false, eq-eqb _ _ c.if-bits-eq1.true)

pub returns-then-bits-eq1-2 : goal.returns-then-bits-eq1-2
unfolding control_in
returns-then-bits-eq1-2 c =
    simp (
      ne_eqb _ _ c.if-bits-eq3.false,
      type_other _ c.if-bits-eq4.false,
      ne_eqb _ _ c.if-bits-eq1.false,
      eq-eqb _ _ c.if-bits-eq1-2.true,
    )

pub returns : goal.returns
returns c =
    let known : Known _ = record {
      version = ne_eqb _ _ c.if-bits-eq3.false;
      type = type_other _ c.if-bits-eq4.false;
      destination = ne_eqb _ _ c.if-bits-eq1.false;
      source = ne_eqb _ _ c.if-bits-eq1-2.false;
    } in
    ap Ok c.of.ensures ∙ sym (control_read _ known)
