-- No more is looked at of a line than is kept.
use Rattle.std.specs.Prelude.{◌+◌, cond, [], ltb}
use mathlib.Core.Path.{ap}
use Rattle.line_cutter.specs.{Line.kept_most, Lines.Sees}
use Rattle.trace_line.specs.{declared.Saying.Saying}
use Rattle.trace_line.proofs.Telling.{saying_front}
use Rattle.trace.specs.{Plain.lines_most, Output.message, Steps.step_on, Steps.answer_to, Steps.says, State.step_said}

pub step_sees : Sees kept_most step_on
unfolding step_on
step_sees t l = ap (step_said t) (saying_front l)

pub says_sees : Sees kept_most says
unfolding says
says_sees t l = ap (λ (s : Saying). cond (ltb t.lines lines_most) (message (t.lines + 1) (answer_to t s)) []) (saying_front l)
