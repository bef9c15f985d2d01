-- Calls of a reader, one after the other, and what they hand back (document 02, request 1: "for each way of cutting the
-- input").
use Rattle.std.specs.Prelude.{ℕ, ◌+◌, Bool, true, false, cond, not, eqb, List, [], ◌∷◌, map, Some, None, Ok, Err}
use Rattle.octets.specs.{Words.flat_map, Outcome.refusal_number}
use Rattle.pieces.specs.declared.{HeaderReader.HeaderReader, PieceTaken.PieceTaken}
use Rattle.pieces.specs.Answer.{PieceAnswer}
use Rattle.pieces.specs.Reader.{taken, ended}

-- a piece, or the end
pub data Call : Type 0 where
  piece : List ℕ → Call
  end : Call

-- what a reader hands back to a call
abbrev pub handed : HeaderReader → Call → PieceTaken
handed r (piece p) = taken r p
handed r end = ended r

-- the reader behind calls
unfoldable pub behind : HeaderReader → List Call → HeaderReader
behind r [] = r
behind r (c ∷ cs) = behind (handed r c).reader cs

-- what is handed back to each of them
unfoldable pub run : HeaderReader → List Call → List PieceTaken
run r [] = []
run r (c ∷ cs) = handed r c ∷ run (handed r c).reader cs

-- pieces as calls, and the bytes of them all
abbrev pub pieces : List (List ℕ) → List Call
pieces ps = map piece ps

abbrev pub joined : List (List ℕ) → List ℕ
joined ps = flat_map (λ (p : List ℕ). p) ps

-- the answers that are neither more nor 9
abbrev pub final : PieceAnswer → Bool
final (Ok None) = false
final (Ok (Some p)) = true
final (Err r) = not (eqb (refusal_number r) 9)

unfoldable pub finals : List PieceTaken → List PieceAnswer
finals [] = []
finals (t ∷ ts) = cond (final t.answer) (t.answer ∷ finals ts) (finals ts)

-- the bytes used by all of them
unfoldable pub used_sum : List PieceTaken → ℕ
used_sum [] = 0
used_sum (t ∷ ts) = t.used + used_sum ts
