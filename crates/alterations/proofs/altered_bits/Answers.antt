-- `alterations::altered_bits` meets its contract: nothing is told of a frame that is not rewritten.
-- Assumes nothing.
use mathlib.Core.Path.{sym, ap, ◌∙◌}
use Rattle.beacon.specs.Beacon.{refuses}
use Rattle.alterations.specs.Altered.{told, alterations}
use Rattle.alterations.proofs.Told.{altered_none, altered_some}
use Rattle.alterations.proofs.altered_bits.Goals as goal

pub returns-then-is_err : goal.returns-then-is_err
unfolding alterations
returns-then-is_err c =
    let e = c.rewriting-outcome.ensures in
    let none = altered_none _ (ap refuses (sym e) ∙ sym c.is_err.ensures.value ∙ c.if-is_err.true) in
    λ i. told (e i) ((c.new.ensures ∙ sym none) i)

pub returns : goal.returns
unfolding alterations
returns c =
    let e = c.rewriting-outcome.ensures in
    let some = altered_some _ (ap refuses (sym e) ∙ sym c.is_err.ensures.value ∙ c.if-is_err.false) in
    λ i. told (e i) ((c.note_frame.ensures ∙ sym some) i)
