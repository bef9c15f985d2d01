-- `time_slots::GuaranteedTimeSlotInformation::write` meets its contract: the three ends of a writer, and `put` stores where there is room.
-- Assumes nothing.
use mathlib.Core.Path.{◌≡◌, refl, ◌∙◌}
use Rattle.octets.proofs.Value.{too_large, plain, no_room, stored}
use Rattle.time_slots.specs.TimeSlots.{time_slots_size, write_time_slots}
use Rattle.time_slots.proofs.TimeSlots.{fitting, plain_size}
use Rattle.time_slots.proofs.GuaranteedTimeSlotInformation.write.Goals as goal

pub returns-then-too_large : goal.returns-then-too_large
unfolding write_time_slots
returns-then-too_large c =
    record {
      value = too_large c.too_large.ensures _ c.if-too_large.true;
      out_after = refl;
    }

pub returns-then-left-n : goal.returns-then-left-n
unfolding write_time_slots
returns-then-left-n c =
    -- the size, where no number is too large
    let whole : c.size-n.result ≡ time_slots_size c.args.self = c.size-n.ensures.value ∙ plain_size _ (plain c.too_large.ensures c.if-too_large.false) in
    record {
      value = no_room c.too_large.ensures c.if-too_large.false whole c.left.ensures c.if-left-n.true;
      out_after = refl;
    }

pub put-requires : goal.put-requires
put-requires c = (fitting _ (plain c.too_large.ensures c.if-too_large.false)).0

pub returns : goal.returns
unfolding write_time_slots
returns c =
    let whole : c.size-n.result ≡ time_slots_size c.args.self = c.size-n.ensures.value ∙ plain_size _ (plain c.too_large.ensures c.if-too_large.false) in
    record {
      value = stored c.too_large.ensures c.if-too_large.false whole c.left.ensures c.if-left-n.false;
      out_after = c.put.ensures;
    }
