-- A buffer after stores, and after an answer: document 01, "A refused write returns 0 and the buffer keeps every byte".
use Rattle.std.specs.Prelude.{ℕ, ◌-◌, cond, List, is_ok, length, take}
use Rattle.octets.specs.{Words.sets, Outcome.Outcome}

-- the buffer l with the bytes b stored from the place at on
unfoldable pub laid : List ℕ → ℕ → List ℕ → List ℕ
laid l at b = sets l at b

-- the buffer l after a write of b at a place: stored where the answer accepts, kept whole where it refuses
abbrev pub after : Outcome → List ℕ → ℕ → List ℕ → List ℕ
after o l at b = cond (is_ok o) (laid l at b) l

-- as much of s as has room in a buffer from a place on
abbrev pub fitting : List ℕ → ℕ → List ℕ → List ℕ
fitting out at s = take (length out - at) s
