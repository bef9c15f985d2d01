-- Numbers in decimal.
use Rattle.std.specs.Prelude.{ℕ, zero, suc, ◌+◌, ◌/◌, ◌%◌, cond, List, [], ◌∷◌, ◌++◌, ltb}
use Rattle.line_cutter.specs.{Line.tab_byte}

-- the digit of a number below 10
abbrev pub digit_of : ℕ → ℕ
digit_of n = 48 + n

-- a number below 10 ^ k, by so many digits at most
unfoldable pub decimal_by : ℕ → ℕ → List ℕ
decimal_by zero n = []
decimal_by (suc k) n = cond (ltb n 10) (digit_of n ∷ []) (decimal_by k (n / 10) ++ (digit_of (n % 10) ∷ []))

-- a number that a program holds: twenty digits are enough
abbrev pub decimal : ℕ → List ℕ
decimal n = decimal_by 20 n

-- a tab and a number in decimal
abbrev pub column : ℕ → List ℕ
column n = tab_byte ∷ decimal n
