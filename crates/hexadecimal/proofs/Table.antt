-- The table of what bytes count for, made by looking at the digits alone.
-- Assumes nothing.
use Prim.Native.Nat.{ℕ, zero, suc, ◌+◌, ◌≤◌}
use native.Mathlib.Numerals.{add-one}
use native.Mathlib.Omega.{arith}
use mathlib.Core.List.{List, [], ◌∷◌}
use mathlib.Core.Path.{◌≡◌}
use lib.ListN.{get_or, set, replicate}
use Rattle.hexadecimal.specs.Hex.{digit, worth, worths}

-- every digit
abbrev pub digits : List ℕ
digits =
    48 ∷ 49 ∷ 50 ∷ 51 ∷ 52 ∷ 53 ∷ 54 ∷ 55 ∷ 56 ∷ 57 ∷ 65 ∷ 66 ∷ 67 ∷ 68 ∷ 69 ∷ 70 ∷ 97 ∷ 98 ∷ 99 ∷ 100 ∷ 101 ∷ 102 ∷ []

-- a table in which nothing is a digit, and then the first n digits are
unfoldable pub filled : ℕ → List ℕ
filled zero = replicate 256 256
filled (suc n) = set (filled n) (get_or digits n 0) (worth (get_or digits n 0))

pub filled_next : (table : List ℕ) (n v : ℕ) → v ≡ worth (get_or digits n 0) → table ≡ filled n → set table (get_or digits n 0) v ≡ filled (n + 1)
unfolding filled
filled_next table n v e f = rw (add-one n, e, f)

-- with all digits it is the definition's: both are computed
pub filled_all : (n : ℕ) → 22 ≤ n → n ≤ 22 → filled n ≡ worths 256
unfolding filled worths digit
filled_all n l h = let e : n ≡ 22 = omega arith in rw e
