-- `superframe::SuperframeSpecification::put` meets its contract: two stores side by side are one.
-- Assumes nothing.
use Rattle.octets.proofs.Little.{split_length}
use Rattle.octets.proofs.Buffer.{laid_on}
use Rattle.superframe.specs.Superframe.{superframe_bytes}
use Rattle.superframe.proofs.SuperframeSpecification.put.Goals as goal

pub returns : goal.returns
unfolding superframe_bytes
returns c =
    rw (c.put.ensures.out_after, c.put-next.ensures.out_after, c.orders-orders.ensures, c.rest-rest.ensures)
    (laid_on _ _ _ 1 _ _ (split_length 1 _) c.put-next.ensures.value)
