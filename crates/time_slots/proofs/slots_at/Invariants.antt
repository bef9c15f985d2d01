-- `time_slots::slots_at` meets its contract. The invariant: the places passed hold their slots, and the others are empty.
-- Assumes nothing.
use mathlib.Core.Path.{◌≡◌}
use Rattle.time_slots.specs.TimeSlots.{slots_in}
use Rattle.time_slots.proofs.slots_at.Given as goal

abbrev pub invariant-loop-k : goal.invariant-loop-k
invariant-loop-k l = l.slots ≡ slots_in l.s l.at l.k
