-- `trace::telling::put_counts` meets its contract: three stores, one after the other.
-- Assumes nothing.
use Rattle.labelled.proofs.Putting.{join}
use Rattle.trace.proofs.telling.put_counts.Goals as goal

pub returns : goal.returns
returns c = join c.put_column-next.ensures (join c.put_column-next-2.ensures c.put_column.ensures)
