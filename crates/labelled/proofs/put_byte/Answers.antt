-- `labelled::put_byte` meets its contract.
-- Assumes nothing.
use Rattle.labelled.proofs.Putting.{one, past}
use Rattle.labelled.proofs.put_byte.Goals as goal

pub returns-then-at-out : goal.returns-then-at-out
returns-then-at-out c = one _ _ _ c.if-at-out.true

pub returns : goal.returns
returns c = past _ _ _ c.if-at-out.false
