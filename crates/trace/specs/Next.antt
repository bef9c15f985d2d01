-- What is written for a line by what it says.
use Rattle.std.specs.Prelude.{ℕ, ◌+◌, List}
use Rattle.trace_line.specs.{declared.Saying.Saying}
use Rattle.trace.specs.{Plain.Trace, Output.message, State.answer_said}

abbrev pub says_said : Trace → Saying → List ℕ
says_said t s = message (t.lines + 1) (answer_said t s)
