-- `hexadecimal::values` meets its contract: the table that the loop has filled is the definition's.
-- Assumes nothing.
use mathlib.Core.Path.{refl, ◌∙◌}
use lib.ListN.{length-set}
use Rattle.hexadecimal.proofs.Table.{filled, filled_next, filled_all}
use Rattle.hexadecimal.proofs.values.Goals as goal

pub loop-b-init : goal.loop-b-init
unfolding filled
loop-b-init c = (refl, refl)

pub loop-b-preserved : goal.loop-b-preserved
loop-b-preserved c =
    let l = c.loop-b in
    (simp length-set l.invariant.0, filled_next l.table l.b-index _ c.value.ensures l.invariant.1)

pub returns : goal.returns
returns c = let l = c.loop-b in l.invariant.1 ∙ filled_all l.b-index c.loop-b-test.false l.auto.b-index-end
