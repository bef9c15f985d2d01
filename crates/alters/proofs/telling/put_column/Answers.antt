-- `alters::telling::put_column` meets its contract: the mark tells whether there was a bit.
-- Assumes nothing.
use mathlib.Core.Path.{sym, ◌∙◌}
use Rattle.labelled.proofs.Putting.{join, same}
use Rattle.alters.proofs.Marks.{dashed, undashed}
use Rattle.alters.proofs.telling.put_column.Goals as goal

pub returns-then-told-eq9 : goal.returns-then-told-eq9
returns-then-told-eq9 c =
    same (dashed _ (sym c.put_masks-told.ensures.mark_value ∙ c.if-told-eq9.true))
    (join c.put_masks-told.ensures.put (join c.put_byte-next.ensures c.put_byte.ensures))

pub returns : goal.returns
returns c = same (undashed _ (λ z. c.if-told-eq9.false (c.put_masks-told.ensures.mark_value ∙ z))) c.put_masks-told.ensures.put
