-- What is written for a trace, tab-parted lines: each line answered 10 or 11 as it is met, then each sender with its
-- counts, then the other counts.
use Rattle.std.specs.Prelude.{ℕ, ◌+◌, ◌*◌, cond, List, [], ◌∷◌, ◌++◌, eqb}
use Rattle.octets.specs.Words.{flat_map}
use Rattle.line_cutter.specs.{Line.tab_byte, Line.line_feed}
use Rattle.labelled.specs.{Decimal.column, Hexed.hex_by}
use Rattle.senders.specs.{declared.Sender.Sender, declared.Counted.Counted, Sender.among}
use Rattle.trace_line.specs.{declared.Saying.Saying}
use Rattle.trace_line.specs.declared.Saying.TheVariants.{Unread, Refused, Sourceless, Heard}
use Rattle.trace.specs.Plain.{Trace, sayings, heard_in, known, traced}

-- `line`, its number counted from 1, and its answer; nothing for the answer 0
unfoldable pub message : ℕ → ℕ → List ℕ
message n answer =
    cond (eqb answer 0) [] (108 ∷ 105 ∷ 110 ∷ 101 ∷ (column n ++ (column answer ++ (line_feed ∷ []))))

-- how a line is answered, where some senders are known
abbrev pub answer_of : List Sender → Saying → ℕ
answer_of ks Unread = 10
answer_of ks Refused = 0
answer_of ks Sourceless = 0
answer_of ks (Heard who number) = cond (among who ks) 0 11

unfoldable pub messages : ℕ → List Sender → List Saying → List ℕ
messages n ks [] = []
messages n ks (s ∷ ss) = message (n + 1) (answer_of ks s) ++ messages (n + 1) ks ss

-- `sender`, PAN id, address, frames, repeats, missing
unfoldable pub sender_line : Counted → List ℕ
sender_line c =
    115 ∷ 101 ∷ 110 ∷ 100 ∷ 101 ∷ 114 ∷ tab_byte
    ∷ (hex_by 4 c.who.pan_id ++ (tab_byte ∷ (hex_by (2 * c.who.octets) c.who.address
    ++ (column c.frames ++ (column c.repeats ++ (column c.missing ++ (line_feed ∷ [])))))))

-- `refused`, `sourceless` and `unread` with their counts
unfoldable pub other_lines : Trace → List ℕ
other_lines t =
    114 ∷ 101 ∷ 102 ∷ 117 ∷ 115 ∷ 101 ∷ 100 ∷ (column t.refused ++ (line_feed
    ∷ 115 ∷ 111 ∷ 117 ∷ 114 ∷ 99 ∷ 101 ∷ 108 ∷ 101 ∷ 115 ∷ 115 ∷ (column t.sourceless ++ (line_feed
    ∷ 117 ∷ 110 ∷ 114 ∷ 101 ∷ 97 ∷ 100 ∷ (column t.unread ++ (column t.crowded ++ (line_feed ∷ [])))))))

unfoldable pub summary : Trace → List ℕ
summary t = flat_map sender_line t.senders ++ other_lines t

-- what is written for the lines of a trace
unfoldable pub output : List (List ℕ) → List ℕ
output ls = messages 0 (known (heard_in (sayings ls))) (sayings ls) ++ summary (traced ls)
