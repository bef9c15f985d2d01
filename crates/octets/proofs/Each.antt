-- A test that is computed at each number below a bound, turned into a law.
-- Assumes nothing.
use Prim.Native.Nat.{ℕ, zero, suc, ◌<◌}
use native.Mathlib.Nat.{not-suc-le-zero, le_of_suc-le-suc, eq-or-lt_of_le}
use mathlib.Core.Bool.{Bool, true, false}
use mathlib.Core.Logic.{⊎_elim}
use mathlib.Core.Path.{◌≡◌, sym, subst}
use lib.Dec.{T, eqb, eqb→eq}

abbrev both : Bool → Bool → Bool
both true b = b
both false b = false

abbrev pub below : (ℕ → Bool) → ℕ → Bool
below test zero = true
below test (suc n) = both (test n) (below test n)

both_left : (a b : Bool) → T (both a b) → T a
both_left true b t = tt
both_left false b t = t

both_right : (a b : Bool) → T (both a b) → T b
both_right true b t = t
both_right false b t = absurd t

-- the test holds at each number below n, where it was computed to
pub each : (test : ℕ → Bool) (n : ℕ) → T (below test n) → (k : ℕ) → k < n → T (test k)
each test zero t k h = absurd (not-suc-le-zero h)
each test (suc n) t k h =
    ⊎_elim (λ e. subst (λ (j : ℕ). T (test j)) (sym e) (both_left (test n) (below test n) t))
    (each test n (both_right (test n) (below test n) t) k)
    (eq-or-lt_of_le (le_of_suc-le-suc h))

-- two numbers that were computed to be equal at each number below n are equal there
pub same : (f g : ℕ → ℕ) (n : ℕ) → T (below (λ (k : ℕ). eqb (f k) (g k)) n) → (k : ℕ) → k < n → f k ≡ g k
same f g n t k h = eqb→eq (f k) (g k) (each (λ (k : ℕ). eqb (f k) (g k)) n t k h)
