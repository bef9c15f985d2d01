-- `trace::telling::put_who` meets its contract: three stores, one after the other.
-- Assumes nothing.
use Rattle.labelled.proofs.Putting.{join}
use Rattle.trace.proofs.telling.put_who.Goals as goal

pub returns : goal.returns
returns c = join c.put_hex-next.ensures (join c.put_byte-next.ensures c.put_hex.ensures)
