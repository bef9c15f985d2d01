-- The answer to one line, given without its line feed: its label, what rewriting its frame answers (number and length),
-- and every bit that this alters.
use Rattle.std.specs.Prelude.{ℕ, List, [], ◌∷◌, ◌++◌}
use Rattle.octets.specs.Words.{flat_map}
use Rattle.octets.specs.Outcome.{Outcome, number_of, length_of}
use Rattle.line_cutter.specs.{Line.tab_byte, Line.line_feed}
use Rattle.labelled.specs.{Answer.labelled, Decimal.decimal}
use Rattle.alterations.specs.{Altered.altered, Rewriting.rewrite_frame}
use Rattle.alters.specs.{Bits.bits_of}

abbrev pub dash : ℕ
dash = 45

abbrev pub dot : ℕ
dot = 46

abbrev pub space : ℕ
space = 32

-- a bit as BYTE.BIT, the place of its byte in the frame and its number there
abbrev pub told : ℕ × ℕ → List ℕ
told b = decimal b.0 ++ (dot ∷ decimal b.1)

-- bits, parted by one space; a dash where there is none
unfoldable pub bits_told : List (ℕ × ℕ) → List ℕ
bits_told [] = dash ∷ []
bits_told (b ∷ bits) = told b ++ flat_map (λ (b : ℕ × ℕ). space ∷ told b) bits

-- the column of bits, behind its tab
abbrev pub column : List (ℕ × ℕ) → List ℕ
column bits = tab_byte ∷ bits_told bits

-- the columns of number and length, each behind its tab
unfoldable pub outcome_told : Outcome → List ℕ
outcome_told o = tab_byte ∷ (decimal (number_of o) ++ (tab_byte ∷ decimal (length_of o)))

-- what is said of a frame
unfoldable pub said : List ℕ → List ℕ
said frame = outcome_told (rewrite_frame frame) ++ (column (bits_of (altered frame)) ++ (line_feed ∷ []))

-- a label and what is said of the frame, or `bad`
abbrev pub answer : List ℕ → List ℕ
answer = labelled said
