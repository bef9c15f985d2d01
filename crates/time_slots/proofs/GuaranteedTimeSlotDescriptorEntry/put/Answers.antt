-- `time_slots::GuaranteedTimeSlotDescriptor::put` meets its contract: two stores side by side are one.
-- Assumes nothing.
use Rattle.octets.proofs.Little.{split_length}
use Rattle.octets.proofs.Buffer.{stored_on}
use Rattle.time_slots.specs.Descriptor.{descriptor_bytes}
use Rattle.time_slots.proofs.GuaranteedTimeSlotDescriptorEntry.put.Goals as goal

pub returns-clause-out_after : goal.returns-clause-out_after
unfolding descriptor_bytes
returns-clause-out_after c =
    (stored_on _ _ _ 2 _ 1 (split_length 2 _) (c.put-next.ensures.value, c.put-next.ensures.out_after) (c.put.ensures.value, c.put.ensures.out_after)).1
