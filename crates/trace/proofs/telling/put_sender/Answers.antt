-- `trace::telling::put_sender` meets its contract: four stores, one after the other.
-- Assumes nothing.
use Rattle.labelled.proofs.Putting.{copied, join, same}
use Rattle.trace.proofs.Stores.{line_parts}
use Rattle.trace.proofs.telling.put_sender.Goals as goal

pub returns : goal.returns
returns c =
    same (line_parts _)
    (join (copied _ _ _ (c.copy-next.ensures.value, c.copy-next.ensures.out_after)) (join c.put_who-next.ensures (join c.put_counts-next.ensures c.put_byte.ensures)))
