-- `alters::telling::put_said` meets its contract: the list holds the bits of the frame's.
-- Assumes nothing.
use mathlib.Core.List.{[], ◌∷◌, ◌++◌}
use mathlib.Core.Path.{ap, ◌∙◌}
use Rattle.labelled.proofs.Putting.{join, same}
use Rattle.alterations.specs.declared.Alterations.{Alterations}
use Rattle.alterations.specs.Altered.{alterations}
use Rattle.alters.specs.Answer.{column, outcome_told, said}
use Rattle.alters.specs.Bits.{bits_of}
use Rattle.alters.proofs.telling.put_said.Goals as goal

pub returns : goal.returns
unfolding said alterations
returns c =
    let outcome = ap (λ (a : Alterations). a.outcome) c.altered_bits-list.ensures in
    let bits = c.as_slice.ensures.value ∙ ap (λ (a : Alterations). a.bytes) c.altered_bits-list.ensures in
    same (λ i. outcome_told (outcome i) ++ (column (bits_of (bits i)) ++ (10 ∷ [])))
    (join c.put_outcome-next.ensures (join c.put_column-next.ensures c.put_byte.ensures))
