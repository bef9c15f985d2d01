-- `time_slots::GuaranteedTimeSlotDescriptor::at` meets its contract.
-- Assumes nothing.
use native.Mathlib.Nat.{div-one}
use Rattle.time_slots.specs.Descriptor.{descriptor_in}
use Rattle.time_slots.proofs.GuaranteedTimeSlotDescriptor.at.Goals as goal

pub returns : goal.returns
unfolding descriptor_in
returns c = simp (div-one, c.u8_at-slot.ensures, c.u16_at.ensures)
