-- `trace::telling::put_count` meets its contract: two stores, one after the other.
-- Assumes nothing.
use Rattle.labelled.proofs.Putting.{copied, join}
use Rattle.trace.proofs.telling.put_count.Goals as goal

pub returns : goal.returns
returns c = join (copied _ _ _ (c.copy-next.ensures.value, c.copy-next.ensures.out_after)) c.put_column.ensures
