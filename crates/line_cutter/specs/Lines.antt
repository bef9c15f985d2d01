-- All lines of an input: each that a line feed ends, and a last one that need not be ended. An input that ends in a
-- line feed has no further line (document 01, "Line program": "A last line need not be ended").
use Rattle.std.specs.Prelude.{ℕ, cond, List, [], ◌∷◌, ◌++◌, ◌≡◌, eqb, take}
use Rattle.line_cutter.specs.{Line.line_feed}

-- the lines that end in s, where l is what came of the first one before s
unfoldable pub ended : List ℕ → List ℕ → List (List ℕ)
ended l [] = []
ended l (b ∷ s) = cond (eqb b line_feed) (l ∷ ended [] s) (ended (l ++ (b ∷ [])) s)

-- what has come of the next line where s ends
unfoldable pub begun : List ℕ → List ℕ → List ℕ
begun l [] = l
begun l (b ∷ s) = cond (eqb b line_feed) (begun [] s) (begun (l ++ (b ∷ [])) s)

-- where the input ends: a line if it has a byte
unfoldable pub last : List ℕ → List (List ℕ)
last [] = []
last (b ∷ l) = (b ∷ l) ∷ []

unfoldable pub lines : List ℕ → List (List ℕ)
lines s = ended [] s ++ last (begun [] s)

-- a program's work on lines, one after the other, each a step from one state to the next
unfoldable pub run : {S : Type 0} → (S → List ℕ → S) → S → List (List ℕ) → S
run step s [] = s
run step s (l ∷ ls) = run step (step s l) ls

-- chunks put together
unfoldable pub joined : List (List ℕ) → List ℕ
joined [] = []
joined (c ∷ cs) = c ++ joined cs

-- the same work on chunks as they come, from the line l at hand on, of which k bytes are kept from chunk to chunk
unfoldable pub in_chunks : {S : Type 0} → (S → List ℕ → S) → ℕ → S → List ℕ → List (List ℕ) → S
in_chunks step k s l [] = run step s (last l)
in_chunks step k s l (c ∷ cs) = in_chunks step k (run step s (ended l c)) (take k (begun l c)) cs

-- a step, or what is said of a line, looks at k bytes of it
abbrev pub Sees : {S T : Type 0} → ℕ → (S → List ℕ → T) → Type 0
Sees {S} k f = (s : S) (l : List ℕ) → f s (take k l) ≡ f s l
