-- One line of an input at a time (document 01, "Line program"): a line feed ends a line and is no part of it.
use Rattle.std.specs.Prelude.{ℕ, ◌+◌, Bool, cond, ◌||◌, ◌&&◌, List, [], ◌∷◌, ltb, eqb, length, get_or, drop}
use Rattle.octets.specs.{Buffer.fitting}
use Rattle.line_cutter.specs.{declared.Taken.Taken}

-- the bytes that part what stands in a line, and lines
abbrev pub tab_byte : ℕ
tab_byte = 9

abbrev pub line_feed : ℕ
line_feed = 10

-- the longest line that is not too long, without its line feed, and how much of a line is kept to tell
abbrev pub line_most : ℕ
line_most = 1024

abbrev pub kept_most : ℕ
kept_most = line_most + 1

-- the bytes of s before the first that is a or b
unfoldable pub before : ℕ → ℕ → List ℕ → List ℕ
before a b [] = []
before a b (c ∷ s) = cond (eqb c a || eqb c b) [] (c ∷ before a b s)

-- b stands at a place of s
abbrev pub is_at : List ℕ → ℕ → ℕ → Bool
is_at s i b = ltb i (length s) && eqb (get_or s i 0) b

-- the bytes of s before its first line feed
abbrev pub line_of : List ℕ → List ℕ
line_of s = before line_feed line_feed s

-- a line feed stands in s
abbrev pub line_ends : List ℕ → Bool
line_ends s = ltb (length (line_of s)) (length s)

-- what follows the first line feed
abbrev pub behind : List ℕ → List ℕ
behind s = drop (length (line_of s) + 1) s

-- what is taken of s, which begins at a place of its chunk, where n bytes of a buffer hold the line so far
unfoldable pub taken : List ℕ → ℕ → List ℕ → ℕ → Taken
taken s at line n = record {
  n = n + length (fitting line n (line_of s));
  at = cond (line_ends s) (at + length (line_of s) + 1) (at + length (line_of s));
  ended = line_ends s;
}
