-- `beacon::Beacon::read` meets its contract: its tests are the definition's, in turn, and a part that is not refused is the part at its
-- place.
-- Assumes nothing.
use native.Mathlib.Omega.{arith}
use mathlib.Core.Path.{sym, ap, ◌∙◌}
use Rattle.std.specs.Prelude.{is_err}
use Rattle.beacon.specs.Beacon.{beacon_in, beacon_length_in, read_beacon}
use Rattle.beacon.proofs.Parts.{superframe_there, slots_there, pending_there}
use Rattle.beacon.proofs.Beacon.read.Goals as goal

pub returns-then-is_err : goal.returns-then-is_err
unfolding read_beacon
returns-then-is_err c = simp (rw c.read-superframe.ensures at (sym c.is_err.ensures.value ∙ c.if-is_err.true), c.refused.ensures)

pub overflow_add-at : goal.overflow_add-at
overflow_add-at c =
    let one = superframe_there _ _ _ c.read-superframe.ensures (sym c.is_err.ensures.value ∙ c.if-is_err.false) in
    omega (arith, one.within, c.well_formed.0.0)

pub returns-in_default : goal.returns-in_default
unfolding read_beacon
returns-in_default c =
    let one = superframe_there _ _ _ c.read-superframe.ensures (sym c.is_err.ensures.value ∙ c.if-is_err.false) in
    simp (one.told, rw c.read-slots.ensures at (ap is_err c.in_default.is), c.refused-in_default.ensures)

pub overflow_add-at-2 : goal.overflow_add-at-2
overflow_add-at-2 c =
    let one = superframe_there _ _ _ c.read-superframe.ensures (sym c.is_err.ensures.value ∙ c.if-is_err.false) in
    omega (arith, one.within, c.well_formed.0.0)

pub overflow_add-at-3 : goal.overflow_add-at-3
overflow_add-at-3 c =
    let two = slots_there _ _ _ _ c.read-slots.ensures c.in-Ok.is in omega (arith, two.within, two.size, c.well_formed.0.0)

pub returns-in_default-outcome : goal.returns-in_default-outcome
unfolding read_beacon
returns-in_default-outcome c =
    let one = superframe_there _ _ _ c.read-superframe.ensures (sym c.is_err.ensures.value ∙ c.if-is_err.false) in
    let two = slots_there _ _ _ _ c.read-slots.ensures c.in-Ok.is in
    simp (
      one.told,
      two.told,
      rw (rw two.size at c.read-pending.ensures) at (ap is_err c.in_default-outcome.is),
      c.refused-in_default-outcome.ensures,
    )

pub overflow_add-result : goal.overflow_add-result
overflow_add-result c =
    let two = slots_there _ _ _ _ c.read-slots.ensures c.in-Ok.is in omega (arith, two.within, two.size, c.well_formed.0.0)

pub overflow_add-result-2 : goal.overflow_add-result-2
overflow_add-result-2 c =
    let two = slots_there _ _ _ _ c.read-slots.ensures c.in-Ok.is in
    let three = pending_there _ _ _ _ c.read-pending.ensures c.in-Ok-outcome.is in
    omega (arith, two.within, two.size, three.within, three.size, c.well_formed.0.0)

pub returns : goal.returns
unfolding beacon_in beacon_length_in read_beacon
returns c =
    let one = superframe_there _ _ _ c.read-superframe.ensures (sym c.is_err.ensures.value ∙ c.if-is_err.false) in
    let two = slots_there _ _ _ _ c.read-slots.ensures c.in-Ok.is in
    let three = pending_there _ _ _ _ (rw two.size at c.read-pending.ensures) c.in-Ok-outcome.is in
    simp (one.is, one.told, two.is, two.told, two.size, three.is, three.told, three.size)
