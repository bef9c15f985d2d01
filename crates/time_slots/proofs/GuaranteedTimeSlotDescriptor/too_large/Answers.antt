-- `time_slots::GuaranteedTimeSlotDescriptor::too_large` meets its contract.
-- Assumes nothing.
use borrow.Author.Tests.{lt-ltb, le-ltb}
use Rattle.time_slots.specs.Descriptor.{descriptor_too_large}
use Rattle.time_slots.proofs.GuaranteedTimeSlotDescriptor.too_large.Goals as goal

pub returns-then-self-gt15 : goal.returns-then-self-gt15
unfolding descriptor_too_large
returns-then-self-gt15 c = simp (lt-ltb 15 _ c.if-self-gt15.true)

pub returns-else-self-gt15 : goal.returns-else-self-gt15
unfolding descriptor_too_large
returns-else-self-gt15 c = simp (le-ltb 15 _ c.if-self-gt15.false)
