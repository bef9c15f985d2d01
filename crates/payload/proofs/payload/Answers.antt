-- `payload::payload` meets its contract: the payload begins within the frame.
-- Assumes nothing.
use mathlib.Core.Path.{sym, ap, ◌∙◌}
use Rattle.payload.specs.declared.FrameRead.{FrameRead}
use Rattle.payload.proofs.Within.{frame_within}
use Rattle.payload.proofs.payload.Goals as goal

pub slice_bounds-result-count : goal.slice_bounds-result-count
slice_bounds-result-count c = frame_within _ _ (ap (λ (r : FrameRead). r.outcome) (sym c.read-outcome.ensures) ∙ c.in-Ok.is)

pub slice_bounds-result-start : goal.slice_bounds-result-start
slice_bounds-result-start c = frame_within _ _ (ap (λ (r : FrameRead). r.outcome) (sym c.read-outcome.ensures) ∙ c.in-Ok.is)
