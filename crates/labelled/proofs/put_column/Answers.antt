-- `labelled::put_column` meets its contract: two stores, one after the other.
-- Assumes nothing.
use Rattle.labelled.proofs.Putting.{join}
use Rattle.labelled.proofs.put_column.Goals as goal

pub returns : goal.returns
returns c = join c.put_byte-next.ensures c.put_decimal.ensures
