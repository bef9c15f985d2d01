-- `beacon::Beacon::write` meets its contract: the three ends of a writer, and `put` stores where there is room.
-- Assumes nothing.
use mathlib.Core.Path.{refl}
use Rattle.octets.proofs.Value.{too_large, plain, no_room, all_room, stored}
use Rattle.beacon.specs.Beacon.{write_beacon}
use Rattle.beacon.proofs.Beacon.write.Goals as goal

pub returns-then-too_large : goal.returns-then-too_large
unfolding write_beacon
returns-then-too_large c =
    record {
      value = too_large c.too_large.ensures _ c.if-too_large.true;
      out_after = refl;
    }

pub size-n-requires : goal.size-n-requires
unfolding write_beacon
size-n-requires c = plain c.too_large.ensures c.if-too_large.false

pub returns-then-left-n : goal.returns-then-left-n
unfolding write_beacon
returns-then-left-n c =
    record {
      value = no_room c.too_large.ensures c.if-too_large.false c.size-n.ensures.value c.left.ensures c.if-left-n.true;
      out_after = refl;
    }

pub put-requires : goal.put-requires
unfolding write_beacon
put-requires c =
    let both = all_room c.too_large.ensures c.if-too_large.false c.size-n.ensures.value c.left.ensures c.if-left-n.false in record {
      self_value = both.0;
      self_in_bounds = both.1;
    }

pub returns : goal.returns
unfolding write_beacon
returns c =
    record {
      value = stored c.too_large.ensures c.if-too_large.false c.size-n.ensures.value c.left.ensures c.if-left-n.false;
      out_after = c.put.ensures;
    }
