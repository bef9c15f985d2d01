-- `time_slots::GuaranteedTimeSlotInformation::too_large` meets its contract: its tests are the definition's, in turn.
-- Assumes nothing.
use borrow.Author.Tests.{lt-ltb, le-ltb}
use Rattle.time_slots.specs.TimeSlots.{time_slots_too_large}
use Rattle.time_slots.proofs.GuaranteedTimeSlotInformation.too_large.Goals as goal

pub returns-then-self-gt7 : goal.returns-then-self-gt7
unfolding time_slots_too_large
returns-then-self-gt7 c = simp (lt-ltb 7 _ c.if-self-gt7.true)

pub returns : goal.returns
unfolding time_slots_too_large
returns c = simp (le-ltb 7 _ c.if-self-gt7.false, c.some_too_large.ensures, c.slots.ensures)
