-- What the program keeps of a trace, numbers and a table of senders, and what it then has told.
use Rattle.std.specs.Prelude.{ℕ, cond, List, ltb}
use Rattle.senders.specs.{Table.counted_in}
use Rattle.trace_line.specs.{declared.Saying.Saying}
use Rattle.trace.specs.{declared.counting.Counts.Counts}
use Rattle.trace.specs.Plain.{Trace, lines_most}
use Rattle.trace.specs.Steps.{counted_on, passed, answer_to}

abbrev pub trace_of : Counts → List ℕ → Trace
trace_of c table = record {
  lines = c.lines;
  senders = counted_in table c.rows;
  refused = c.refused;
  sourceless = c.sourceless;
  unread = c.unread;
  crowded = c.crowded;
}

-- one more line by what it says, and how it is answered
abbrev pub step_said : Trace → Saying → Trace
step_said t s = cond (ltb t.lines lines_most) (counted_on t s) (passed t)

abbrev pub answer_said : Trace → Saying → ℕ
answer_said t s = cond (ltb t.lines lines_most) (answer_to t s) 0
