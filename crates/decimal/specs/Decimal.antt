-- Numbers in decimal, as a text has them: document 02, request 3, "A decimal is one or more digits", "a decimal below
-- 2^64". Zeros may lead.
use Rattle.std.specs.Prelude.{ℕ, ◌+◌, ◌-◌, ◌*◌, ◌^◌, Bool, true, cond, ◌&&◌, Option, Some, None, List, [], ◌∷◌, ltb, leb, length}
use Rattle.decimal.specs.{declared.Decimal.Decimal}

-- a digit, 0 to 9
abbrev pub is_numeral : ℕ → Bool
is_numeral b = leb 48 b && ltb b 58

-- every byte is one
unfoldable pub numeric : List ℕ → Bool
numeric [] = true
numeric (b ∷ s) = is_numeral b && numeric s

-- the number that digits make behind others that make n, and the number that they make alone
unfoldable pub value_from : ℕ → List ℕ → ℕ
value_from n [] = n
value_from n (b ∷ s) = value_from (10 * n + (b - 48)) s

abbrev pub value_of : List ℕ → ℕ
value_of s = value_from 0 s

-- one or more digits that make a number below 2^64
unfoldable pub is_decimal : List ℕ → Bool
is_decimal s = ltb 0 (length s) && numeric s && ltb (value_of s) (2 ^ 64)

-- the digits at the front of s
unfoldable pub numerals : List ℕ → List ℕ
numerals [] = []
numerals (b ∷ s) = cond (is_numeral b) (b ∷ numerals s) []

-- what digits make with one more behind them, where that is below 2^64
abbrev pub appended : Option ℕ → ℕ → Option ℕ
appended None digit = None
appended (Some n) digit = cond (ltb (10 * n + digit) (2 ^ 64)) (Some (10 * n + digit)) None

-- what is read of s, which begins at a place: what the digits at its front make, where they are a decimal, and the place
-- behind them
unfoldable pub decimal_in : List ℕ → ℕ → Decimal
decimal_in s at = record {
  value = cond (is_decimal (numerals s)) (Some (value_of (numerals s))) None;
  end = at + length (numerals s);
}
