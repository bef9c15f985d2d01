-- Arrays of seven, of which the first n places are in use (document 01, "Beacon layout": "Unused places of the arrays
-- of seven hold" the empty entry).
use Rattle.std.specs.Prelude.{ℕ, Bool, false, cond, ◌||◌, List, [], ◌∷◌, map, ltb, get_or}

-- the entries 0 to n - 1, and empty ones behind them
unfoldable pub seven : {A : Type 0} → (ℕ → A) → A → ℕ → List A
seven entry empty n = map (λ (k : ℕ). cond (ltb k n) (entry k) empty) (0 ∷ 1 ∷ 2 ∷ 3 ∷ 4 ∷ 5 ∷ 6 ∷ [])

-- an array of seven with its unused places made empty
abbrev pub emptied : {A : Type 0} → List A → A → ℕ → List A
emptied l empty n = seven (λ (k : ℕ). get_or l k empty) empty n

-- the test holds of some entry
unfoldable pub some : {A : Type 0} → (A → Bool) → List A → Bool
some test [] = false
some test (x ∷ l) = test x || some test l
