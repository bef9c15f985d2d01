-- `time_slots::slot_at` meets its contract.
-- Assumes nothing.
use Rattle.time_slots.specs.TimeSlots.{slot_at}
use Rattle.time_slots.proofs.slot_at.Goals as goal

pub returns : goal.returns
unfolding slot_at
returns c = simp (c.at.ensures, c.from-direction.ensures, c.u8_at.ensures)
