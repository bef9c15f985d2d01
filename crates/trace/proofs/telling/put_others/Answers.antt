-- `trace::telling::put_others` meets its contract: five stores, one after the other.
-- Assumes nothing.
use Rattle.labelled.proofs.Putting.{join}
use Rattle.trace.specs.Output.{other_lines}
use Rattle.trace.proofs.telling.put_others.Goals as goal

pub returns : goal.returns
unfolding other_lines
returns c =
    join c.put_count-next.ensures
    (join c.put_count-next-2.ensures (join c.put_count-next-3.ensures (join c.put_column-next.ensures c.put_byte.ensures)))
