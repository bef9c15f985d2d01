-- `seven_places::Listed::put_each` meets its contract. The invariant: what is left, stored from where the loop stands, gives what is wanted.
-- Assumes nothing.
use mathlib.Core.Path.{refl}
use lib.ListN.{drop_of_length-le}
use Rattle.seven_places.proofs.Seven.{left_next, put_more, put_done}
use Rattle.seven_places.proofs.Listed.put_each.Goals as goal

pub loop-entry-init : goal.loop-entry-init
loop-entry-init g c = (refl, refl)

pub loop-entry-preserved : goal.loop-entry-preserved
loop-entry-preserved g c =
    let entry = g.T.Entry in
    put_more entry.bytes entry.WIDTH _ _ _ _ _ _ _ (left_next _ _ _ c.loop-entry-test.true c.entry-item.is) (g.met.T.Entry.width _)
    c.put-next.ensures.value c.put-next.ensures.out_after c.loop-entry.invariant

pub returns : goal.returns
returns g c =
    let entry = g.T.Entry in
    let done = put_done entry.bytes entry.WIDTH _ _ _ _ _ (drop_of_length-le _ c.loop-entry-test.false) c.loop-entry.invariant in
    record { value = done.0; out_after = done.1 }
