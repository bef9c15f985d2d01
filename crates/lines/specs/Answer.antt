-- The answer to one line, given without its line feed: document 01, "Line program".
use Rattle.std.specs.Prelude.{ℕ, List, [], ◌∷◌, ◌++◌}
use Rattle.line_cutter.specs.{Line.tab_byte, Line.line_feed}
use Rattle.labelled.specs.{Answer.labelled, Decimal.digit_of, Decimal.decimal}
use Rattle.header.specs.{Read.read_header, Read.read_outcome}
use Rattle.octets.specs.Outcome.{Outcome, number_of, length_of}

-- behind a label: tab, number, tab, length, line feed
unfoldable pub columns : Outcome → List ℕ
columns o = tab_byte ∷ digit_of (number_of o) ∷ tab_byte ∷ (decimal (length_of o) ++ (line_feed ∷ []))

-- what the header of a frame says
abbrev pub said : List ℕ → List ℕ
said frame = columns (read_outcome (read_header frame))

-- a label and what the header says, or `bad`
abbrev pub answer : List ℕ → List ℕ
answer = labelled said
