-- `time_slots::put_list` meets its contract: the directions and the slots, two stores side by side, are one.
-- Assumes nothing.
use Prim.Native.Nat.{◌≤◌}
use mathlib.Core.Path.{sym}
use Rattle.octets.proofs.Buffer.{laid_none, laid_on}
use native.Mathlib.Omega.{arith}
use lib.ListN.{length}
use Rattle.octets.proofs.Little.{split_length}
use Rattle.time_slots.proofs.TimeSlots.{list_none, list_some}
use Rattle.time_slots.proofs.put_list.Goals as goal

pub returns-then-slots-eq0 : goal.returns-then-slots-eq0
returns-then-slots-eq0 c =
    let slots = c.args.slots in
    let nothing = list_none slots.places slots.count c.if-slots-eq0.true in
    sym (rw nothing (laid_none _ _))

pub returns : goal.returns
returns c =
    let slots = c.args.slots in
    let few : slots.count ≤ length slots.places = omega (arith, c.well_formed, c.requires) in
    rw (
      c.put.ensures.out_after,
      c.put-next.ensures.out_after,
      c.directions-byte.ensures,
      list_some slots.places slots.count few c.if-slots-eq0.false,
    )
    (laid_on _ _ _ 1 _ _ (split_length 1 _) c.put-next.ensures.value)
