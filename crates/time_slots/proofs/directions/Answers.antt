-- `time_slots::directions` meets its contract. The invariant: behind the slots that are left stand those that the byte has.
-- Assumes nothing.
use native.Mathlib.Omega.{arith}
use mathlib.Core.List.{[], ◌∷◌, ◌++◌, append_assoc, append-nil}
use mathlib.Core.Path.{refl, sym, ap, ◌∙◌}
use lib.ListN.{length-take}
use Rattle.time_slots.specs.TimeSlots.{directions_of}
use Rattle.time_slots.proofs.TimeSlots.{direction_small, directions_bound, all_passed}
use Rattle.time_slots.proofs.directions.Goals as goal

pub loop-slot-init : goal.loop-slot-init
unfolding directions_of
loop-slot-init c = (tt, tt, ([], rw append-nil (cc), refl))

pub overflow_mul-byte : goal.overflow_mul-byte
overflow_mul-byte c =
    let passed = c.loop-slot.invariant.2 in
    let small = directions_bound _ _ _ _ passed.0 (omega (arith, length-take c.args.slots.count c.args.slots.places)) passed.1 c.in-Some.ensures.steps in
    omega (arith, small, passed.2)

pub overflow_add-byte : goal.overflow_add-byte
overflow_add-byte c =
    let passed = c.loop-slot.invariant.2 in
    let small = directions_bound _ _ _ _ passed.0 (omega (arith, length-take c.args.slots.count c.args.slots.places)) passed.1 c.in-Some.ensures.steps in
    omega (arith, small, passed.2, c.from.ensures.0, direction_small c.in-Some.slot.now.direction)

pub loop-slot-preserved : goal.loop-slot-preserved
unfolding directions_of
loop-slot-preserved c =
    let passed = c.loop-slot.invariant.2 in
    let slot = c.in-Some.slot.now in (
      tt,
      tt,
      (
        slot ∷ passed.0,
        passed.1 ∙ ap (λ l. l ++ passed.0) c.in-Some.ensures.steps ∙ append_assoc c.next.new.self.iter.rest.now (slot ∷ []) passed.0,
        rw (c.from.ensures.0, passed.2),
      ),
    )

pub returns : goal.returns
returns c =
    let passed = c.loop-slot.invariant.2 in
    passed.2 ∙ ap directions_of (sym (all_passed _ _ passed.0 c.in-None.ensures.steps.0 passed.1))
