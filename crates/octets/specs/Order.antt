-- The first test that holds: document 01, "Each is given exactly when it is the first in its order, and not otherwise".
use Rattle.std.specs.Prelude.{Bool, cond, List, [], ◌∷◌}

-- what stands beside the first test that holds, or other where none does
abbrev pub first : {A : Type 0} → List (Bool × A) → A → A
first [] other = other
first (test ∷ rest) other = cond test.0 test.1 (first rest other)
