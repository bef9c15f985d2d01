-- `time_slots::GuaranteedTimeSlotInformation::read` meets its contract: its tests are the definition's, in turn.
-- Assumes nothing.
use native.Mathlib.Nat.{div-one}
use native.Mathlib.Omega.{arith}
use Rattle.octets.proofs.Part.{fewer, enough}
use Rattle.time_slots.specs.TimeSlots.{time_slots_in, read_time_slots}
use Rattle.time_slots.proofs.GuaranteedTimeSlotInformation.read.Goals as goal

pub returns-then-left-lt1 : goal.returns-then-left-lt1
unfolding read_time_slots
returns-then-left-lt1 c = simp (fewer c.left.ensures c.if-left-lt1.true, c.refused.ensures)

pub returns-then-left-slots_length : goal.returns-then-left-slots_length
unfolding read_time_slots
returns-then-left-slots_length c =
    simp (
      div-one,
      enough c.left.ensures c.if-left-lt1.false,
      fewer c.left-2.ensures (rw (c.slots_length.ensures.value, c.u8_at-header.ensures) at c.if-left-slots_length.true),
      c.refused-then-left-slots_length.ensures,
    )

pub slots_at-slots-requires : goal.slots_at-slots-requires
slots_at-slots-requires c =
    record {
      n_bound = omega arith;
      n_in_bounds = omega (arith, c.slots_length.ensures.value, c.left-2.ensures);
    }

pub returns : goal.returns
unfolding read_time_slots time_slots_in
returns c =
    simp (
      div-one,
      enough c.left.ensures c.if-left-lt1.false,
      enough c.left-2.ensures (rw (c.slots_length.ensures.value, c.u8_at-header.ensures) at c.if-left-slots_length.false),
      c.slots_length-2.ensures.value,
      c.slots_at-slots.ensures,
      c.u8_at-header.ensures,
    )
