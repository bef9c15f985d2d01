-- What the program's own functions tell on the way to an answer: no part of its definition.
use Rattle.std.specs.Prelude.{ℕ, List, [], ◌∷◌, ◌++◌}
use Rattle.alters.specs.Answer.{space, told}

-- bits, the first behind a given mark, each other behind a space
unfoldable pub marked : ℕ → List (ℕ × ℕ) → List ℕ
marked mark [] = []
marked mark (b ∷ bits) = mark ∷ (told b ++ marked space bits)

-- the mark for the next bit
abbrev pub next_mark : ℕ → List (ℕ × ℕ) → ℕ
next_mark mark [] = mark
next_mark mark (b ∷ bits) = space
