-- The direction of a guaranteed time slot, seen from the device that it is for (IEEE 802.15.4-2011, 5.2.2.1.4).
-- Document 02, request 6, where document 01 has the crate's "set is Transmit": "a set bit is Receive, a clear bit
-- Transmit".
use Rattle.std.specs.Prelude.{ℕ, cond, eqb}
use Rattle.time_slots.specs.declared.{Direction.Direction}
use Rattle.time_slots.specs.declared.Direction.TheVariants.{Receive, Transmit}

-- the bit that stands for a direction: the one place that says which of the two a set bit means
abbrev pub direction_bit : Direction → ℕ
direction_bit Receive = 1
direction_bit Transmit = 0

-- the direction that a bit stands for
abbrev pub direction_of : ℕ → Direction
direction_of b = cond (eqb b (direction_bit Transmit)) Transmit Receive
