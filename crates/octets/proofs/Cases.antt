-- Going by cases, on a test above all.
-- Assumes nothing.
use mathlib.Core.Bool.{Bool, true, false, true≢false, ◌||◌, ◌&&◌}
use mathlib.Core.Logic.{◌⊎◌, inl, inr, ⊎_elim}
use mathlib.Core.Path.{◌≡◌, refl, sym}

-- two cases, the sum that parts them first
pub cases : {A B C : Type 0} → A ⊎ B → (A → C) → (B → C) → C
cases sum left right = ⊎_elim left right sum

-- a test holds or fails
pub holds? : (b : Bool) → (b ≡ true) ⊎ (b ≡ false)
holds? true = inl refl
holds? false = inr refl

-- where one test or another fails, each fails
pub neither : (a b : Bool) → (a || b) ≡ false → (a ≡ false) × (b ≡ false)
neither true b e = (e, absurd (true≢false e))
neither false b e = (refl, e)

-- where one test and another hold, each holds
pub both : (a b : Bool) → (a && b) ≡ true → (a ≡ true) × (b ≡ true)
both true b e = (refl, e)
both false b e = (e, absurd (true≢false (sym e)))
