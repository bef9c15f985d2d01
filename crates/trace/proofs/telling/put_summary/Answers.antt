-- `trace::telling::put_summary` meets its contract: two stores, one after the other.
-- Assumes nothing.
use Rattle.labelled.proofs.Putting.{join}
use Rattle.trace.specs.Output.{other_lines, summary}
use Rattle.trace.proofs.telling.put_summary.Goals as goal

pub returns : goal.returns
unfolding other_lines summary
returns c = join c.put_senders-next.ensures c.put_others.ensures
