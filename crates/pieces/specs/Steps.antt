-- What the reader's own functions tell on the way to an answer: no part of its definition.
use Rattle.std.specs.Prelude.{ℕ, min, cond, List, ◌++◌, ltb, length}
use Rattle.header.specs.{Read.read_header}
use Rattle.pieces.specs.declared.{HeaderReader.HeaderReader}
use Rattle.pieces.specs.{Answer.PieceAnswer, Answer.more, Answer.told, Reader.seen, Reader.awaited_with, Reader.grown}

-- the reader that a piece leads to
abbrev pub grown_with : HeaderReader → List ℕ → List ℕ → ℕ → HeaderReader
grown_with r p j n = grown r p (min n (length j)) n

unfoldable pub gathered : HeaderReader → List ℕ → HeaderReader
gathered r p = grown_with r p (seen r ++ p) (awaited_with r.awaited (seen r ++ p))

-- what it says of the bytes that it has seen
abbrev pub spoken : HeaderReader → PieceAnswer
spoken r = cond (ltb r.count r.awaited) more (told (read_header (seen r)))
