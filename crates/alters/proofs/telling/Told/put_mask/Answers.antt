-- `alters::telling::Told::put_mask` meets its contract. The invariant: the bits below the one at hand are told.
-- Assumes nothing.
use mathlib.Core.Path.{refl, ◌∙◌}
use Rattle.labelled.proofs.Putting.{none}
use Rattle.alters.specs.Bits.{bits_below}
use Rattle.alters.specs.Steps.{marked}
use Rattle.alters.proofs.Marks.{told_set, told_clear}
use Rattle.alters.proofs.telling.Told.put_mask.Goals as goal
use Rattle.alters.proofs.telling.Told.put_mask.Goals.{then-byte-bit-eq1, else-byte-bit-eq1}

pub loop-bit-init : goal.loop-bit-init
unfolding bits_below marked
loop-bit-init c = record { put = none _ _; mark = refl }

pub loop-bit-preserved : goal.loop-bit-preserved
loop-bit-preserved c =
    let a = c.args in
    let l = c.loop-bit in
    elim c.if-byte-bit-eq1.branch [
      | then-byte-bit-eq1 w ↦
          let s = told_set a.self.mark l.told.mark a.byte.place a.byte.mask l.bit l.invariant.mark l.invariant.put w.if-byte-bit-eq1.true w.put_bit-told.ensures.put in
          rw (w.out-is, w.told-is) (record { put = s.0; mark = w.put_bit-told.ensures.mark_value ∙ s.1 })
      | else-byte-bit-eq1 w ↦
          let s = told_clear a.self.mark l.told.mark a.byte.place a.byte.mask l.bit l.invariant.mark l.invariant.put w.if-byte-bit-eq1.false in
          rw (w.out-is, w.told-is) (record { put = s.0; mark = s.1 })
    ]
