-- `time_slots::directions` meets its contract. The invariant: behind the slots that are left stand those that the byte has.
-- Assumes nothing.
use mathlib.Core.List.{List, ◌++◌}
use mathlib.Core.Path.{◌≡◌}
use lib.ListN.{take}
use Rattle.time_slots.specs.declared.GuaranteedTimeSlotDescriptor.{GuaranteedTimeSlotDescriptor}
use Rattle.time_slots.specs.TimeSlots.{directions_of}
use Rattle.time_slots.proofs.directions.Given as goal

abbrev pub invariant-loop-slot : goal.invariant-loop-slot
invariant-loop-slot l =
    (goal.iterator-loop-slot).can_next l.slot-iterator
    × (goal.iterator-loop-slot).is_finite l.slot-iterator
    × ((passed : List GuaranteedTimeSlotDescriptor)
    × (take l.fn.slots.count l.fn.slots.places ≡ l.slot-iterator.iter.rest.now ++ passed)
    × (l.byte ≡ directions_of passed))
