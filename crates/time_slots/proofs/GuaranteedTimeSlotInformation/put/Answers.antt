-- `time_slots::GuaranteedTimeSlotInformation::put` meets its contract: the header and the list, two stores side by side, are one.
-- Assumes nothing.
use Rattle.octets.proofs.Little.{split_length}
use Rattle.octets.proofs.Buffer.{laid_on}
use Rattle.time_slots.specs.TimeSlots.{time_slots_bytes}
use Rattle.time_slots.proofs.GuaranteedTimeSlotInformation.put.Goals as goal

pub returns : goal.returns
unfolding time_slots_bytes
returns c =
    rw (c.put_list.ensures, c.put-next.ensures.out_after, c.header-header.ensures, c.slots.ensures)
    (laid_on _ _ _ 1 _ _ (split_length 1 _) c.put-next.ensures.value)
