-- What the reader says of a piece: more, or once what the whole reader says of the bytes, and from then on 9, "a piece
-- or an end after the answer was given" (document 02, request 1).
use Rattle.std.specs.Prelude.{ℕ, Option, None, Some, Result, Ok, Err}
use Rattle.octets.specs.declared.Refusal.{Refusal}
use Rattle.octets.specs.declared.Refusal.TheVariants.{Over}
use Rattle.octets.specs.Outcome.{Outcome}
use Rattle.header.specs.declared.Header.{Header}

-- more, or a header with its length; 9 is the refusal `Over`
abbrev pub PieceAnswer : Type 0
PieceAnswer = Result (Option (Header × ℕ)) Refusal

abbrev pub more : PieceAnswer
more = Ok None

abbrev pub nine : PieceAnswer
nine = Err Over

-- what the whole reader says, as an answer to a piece
abbrev pub told : Result (Header × ℕ) Refusal → PieceAnswer
told (Ok p) = Ok (Some p)
told (Err r) = Err r

-- the length: 0 where more is awaited, which no header has
abbrev pub piece_outcome : PieceAnswer → Outcome
piece_outcome (Ok None) = Ok 0
piece_outcome (Ok (Some p)) = Ok p.1
piece_outcome (Err r) = Err r
