-- The reader that takes a header in pieces (document 02, request 1): what it hands back to a piece and to the end, by
-- the bytes that it has seen and those of the piece joined to them.
use Rattle.std.specs.Prelude.{ℕ, ◌-◌, min, max, Bool, cond, ◌&&◌, List, ◌++◌, ltb, leb, length, take, replicate, Err}
use Rattle.octets.specs.{Buffer.laid}
use Rattle.octets.specs.declared.Refusal.TheVariants.{Ended}
use Rattle.header.specs.{Read.read_header}
use Rattle.pieces.specs.declared.{HeaderReader.HeaderReader, PieceTaken.PieceTaken}
use Rattle.pieces.specs.{Needed.needed, Answer.PieceAnswer, Answer.more, Answer.nine, Answer.told}

-- the longest header
abbrev pub header_most : ℕ
header_most = 37

-- a new reader has seen nothing
abbrev pub new_reader : HeaderReader
new_reader = record { bytes = replicate header_most 0; count = 0; awaited = 3 }

-- the bytes that it has seen
abbrev pub seen : HeaderReader → List ℕ
seen r = take r.count r.bytes

-- it waits: for more bytes than it has seen, and for no more than it can hold. Any other reader has given its answer,
-- or is one that no calls lead to
abbrev pub waits : HeaderReader → Bool
waits r = ltb r.count r.awaited && leb r.awaited header_most

-- how many bytes it awaits where j are there and it awaited n: it looks at them once there are n
abbrev pub awaited_with : ℕ → List ℕ → ℕ
awaited_with n j = cond (ltb (length j) n) n (max n (needed j))

-- what it says of the bytes j where it awaits n: more, or what the whole reader says of these n
abbrev pub says : ℕ → List ℕ → PieceAnswer
says n j = cond (ltb (length j) n) more (told (read_header (take n j)))

-- with m bytes seen, the last of them from a piece p, and n awaited
abbrev pub grown : HeaderReader → List ℕ → ℕ → ℕ → HeaderReader
grown r p m n = record { bytes = laid r.bytes r.count (take (m - r.count) p); count = m; awaited = n }

-- what a piece p leads to, where j are the bytes seen before it and all of its own
abbrev pub taken_with : HeaderReader → List ℕ → List ℕ → ℕ → PieceTaken
taken_with r p j n =
    record { reader = grown r p (min n (length j)) n; answer = says n j; used = min n (length j) - r.count }

-- 9, the state kept, no byte used
abbrev pub over : HeaderReader → PieceTaken
over r = record { reader = r; answer = nine; used = 0 }

-- 1, nothing more awaited
abbrev pub cut_short : HeaderReader → PieceTaken
cut_short r =
    record {
      reader = record { bytes = r.bytes; count = r.count; awaited = r.count };
      answer = Err Ended;
      used = 0;
    }

-- a piece, and the end: 9 unless it waits
unfoldable pub taken : HeaderReader → List ℕ → PieceTaken
taken r p = cond (waits r) (taken_with r p (seen r ++ p) (awaited_with r.awaited (seen r ++ p))) (over r)

unfoldable pub ended : HeaderReader → PieceTaken
ended r = cond (waits r) (cut_short r) (over r)
