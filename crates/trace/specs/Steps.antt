-- The same from line to line: what one more line makes of what was told so far, and what is written for it.
use Rattle.std.specs.Prelude.{ℕ, ◌+◌, Bool, false, cond, List, [], ◌∷◌, ◌++◌, ltb, take, min}
use Rattle.octets.specs.{Bits.bit_of, Order.first}
use Rattle.line_cutter.specs.{Line.kept_most, Lines.ended, Lines.begun, Lines.last, Lines.run, Telling.told}
use Rattle.senders.specs.{declared.Counted.Counted}
use Rattle.senders.specs.Hearing.{is_crowded, heard_of}
use Rattle.trace_line.specs.{declared.Saying.Saying, Saying.saying}
use Rattle.trace_line.specs.declared.Saying.TheVariants.{Unread, Refused, Sourceless, Heard}
use Rattle.trace.specs.Plain.{Trace, lines_most, unread_most, is_unread, is_refused, is_sourceless}
use Rattle.trace.specs.{Output.message, Output.summary}

-- nothing is read yet
abbrev pub untold : Trace
untold = record { lines = 0; senders = []; refused = 0; sourceless = 0; unread = 0; crowded = 0 }

-- the senders behind a line, and whether there is no place for its sender
abbrev pub senders_behind : List Counted → Saying → List Counted
senders_behind cs Unread = cs
senders_behind cs Refused = cs
senders_behind cs Sourceless = cs
senders_behind cs (Heard who number) = heard_of who number cs

abbrev pub crowds : List Counted → Saying → Bool
crowds cs Unread = false
crowds cs Refused = false
crowds cs Sourceless = false
crowds cs (Heard who number) = is_crowded who cs

-- one line more that is answered 10
abbrev pub one_more : ℕ → ℕ
one_more n = min (n + 1) unread_most

-- one of the first 1,000,000 lines, and one that comes later
unfoldable pub counted_on : Trace → Saying → Trace
counted_on t s = record {
  lines = t.lines + 1;
  senders = senders_behind t.senders s;
  refused = t.refused + bit_of (is_refused s);
  sourceless = t.sourceless + bit_of (is_sourceless s);
  unread = cond (is_unread s) (one_more t.unread) t.unread;
  crowded = t.crowded + bit_of (crowds t.senders s);
}

unfoldable pub passed : Trace → Trace
passed t = record {
  lines = t.lines;
  senders = t.senders;
  refused = t.refused;
  sourceless = t.sourceless;
  unread = one_more t.unread;
  crowded = t.crowded;
}

unfoldable pub step_on : Trace → List ℕ → Trace
step_on t l = cond (ltb t.lines lines_most) (counted_on t (saying l)) (passed t)

-- how a line is answered: 10, 11, or 0 where nothing is written
abbrev pub answer_to : Trace → Saying → ℕ
answer_to t s = first ((is_unread s, 10) ∷ (crowds t.senders s, 11) ∷ []) 0

-- what is written for it
unfoldable pub says : Trace → List ℕ → List ℕ
says t l = cond (ltb t.lines lines_most) (message (t.lines + 1) (answer_to t (saying l))) []

-- what is written at the end of the input, where l is kept of a line that is not ended
unfoldable pub closing : Trace → List ℕ → List ℕ
closing t l = told step_on says t (last l) ++ summary (run step_on t (last l))

-- what the chunks of an input write, one after the other, and then its end
unfoldable pub printed : Trace → List ℕ → List (List ℕ) → List ℕ
printed t l [] = closing t l
printed t l (c ∷ cs) =
    told step_on says t (ended l c) ++ printed (run step_on t (ended l c)) (take kept_most (begun l c)) cs
