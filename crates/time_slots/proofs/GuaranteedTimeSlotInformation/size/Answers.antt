-- `time_slots::GuaranteedTimeSlotInformation::size` meets its contract: its test is the definition's.
-- Assumes nothing.
use native.Mathlib.Omega.{arith}
use borrow.Author.Tests.{lt-ltb, le-ltb}
use Rattle.time_slots.proofs.GuaranteedTimeSlotInformation.size.Goals as goal

pub returns-then-self-le7 : goal.returns-then-self-le7
returns-then-self-le7 c =
    record {
      value = simp (le-ltb 7 _ c.if-self-le7.true, c.slots_length.ensures.value);
      upper_bound = omega (arith, c.slots_length.ensures.upper_bound);
    }

pub returns-else-self-le7 : goal.returns-else-self-le7
returns-else-self-le7 c =
    record {
      value = simp (lt-ltb 7 _ c.if-self-le7.false);
      upper_bound = omega arith;
    }
