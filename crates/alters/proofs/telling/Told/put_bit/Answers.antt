-- `alters::telling::Told::put_bit` meets its contract: four stores, one after the other.
-- Assumes nothing.
use Rattle.labelled.proofs.Putting.{join}
use Rattle.alters.proofs.telling.Told.put_bit.Goals as goal

pub returns-clause-put : goal.returns-clause-put
returns-clause-put c =
    join c.put_byte-next.ensures (join c.put_decimal-next.ensures (join c.put_byte-next-2.ensures c.put_decimal-next-2.ensures))
