-- Numbers and bytes in hex, as a program tells them, in lower case.
use Rattle.std.specs.Prelude.{ℕ, zero, suc, ◌+◌, ◌/◌, ◌%◌, cond, List, [], ◌∷◌, ◌++◌, ltb}
use Rattle.octets.specs.Words.{flat_map}

-- the digit of a number below 16
abbrev pub hex_digit : ℕ → ℕ
hex_digit n = cond (ltb n 10) (48 + n) (87 + n)

-- so many low digits of a number, the highest first
unfoldable pub hex_by : ℕ → ℕ → List ℕ
hex_by zero n = []
hex_by (suc k) n = hex_by k (n / 16) ++ (hex_digit (n % 16) ∷ [])

-- two digits to each byte, or a dash where there is none
unfoldable pub hexed : List ℕ → List ℕ
hexed [] = 45 ∷ []
hexed (b ∷ s) = flat_map (hex_by 2) (b ∷ s)
