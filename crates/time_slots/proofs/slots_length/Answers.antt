-- `time_slots::slots_length` meets its contract.
-- Assumes nothing.
use mathlib.Core.Path.{sym}
use native.Mathlib.Omega.{arith}
use Rattle.time_slots.proofs.TimeSlots.{length_some}
use Rattle.time_slots.proofs.slots_length.Goals as goal

pub returns-else-n-eq0 : goal.returns-else-n-eq0
returns-else-n-eq0 c =
    record {
      value = sym (length_some _ c.if-n-eq0.false);
      upper_bound = omega arith;
    }
