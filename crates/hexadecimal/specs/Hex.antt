-- Bytes in hex: document 01, "Line program", "bytes in hex (either case, possibly none)" and "an odd or foreign digit".
use Rattle.std.specs.Prelude.{ℕ, zero, suc, ◌+◌, ◌-◌, ◌*◌, ◌%◌, Bool, true, false, cond, ◌&&◌, List, [], ◌∷◌, ◌++◌}
use Rattle.std.specs.Prelude.{ltb, leb, eqb, length, get_or, take, drop}
use Rattle.octets.specs.{Order.first}

-- b is one of the count bytes from low on
abbrev pub among : ℕ → ℕ → ℕ → Bool
among low count b = leb low b && ltb b (low + count)

-- the value of a digit, 0 to 9, A to F or a to f, and 16 of a byte that is none
unfoldable pub digit : ℕ → ℕ
digit b = first ((among 48 10 b, b - 48) ∷ (among 65 6 b, b - 55) ∷ (among 97 6 b, b - 87) ∷ []) 16

abbrev pub is_digit : ℕ → Bool
is_digit b = ltb (digit b) 16

-- what a byte counts for in a pair: more than any pair where it is no digit
abbrev pub worth : ℕ → ℕ
worth b = cond (is_digit b) (digit b) 256

-- what each byte below n counts for: each byte, where n is 256
unfoldable pub worths : ℕ → List ℕ
worths zero = []
worths (suc n) = worths n ++ (worth n ∷ [])

-- a digit is left over
abbrev pub odd : List ℕ → Bool
odd s = eqb (length s % 2) 1

-- some byte is no digit
unfoldable pub foreign : List ℕ → Bool
foreign [] = false
foreign (b ∷ s) = cond (is_digit b) (foreign s) true

-- the bytes that the pairs of digits at the front of s stand for, up to the first pair that is not two digits
unfoldable pub unhex : List ℕ → List ℕ
unhex [] = []
unhex (a ∷ []) = []
unhex (a ∷ b ∷ s) = cond (is_digit a && is_digit b) ((16 * digit a + digit b) ∷ unhex s) []

-- what a pair makes by a table of what bytes count for, whatever the table has
abbrev pub pair_by : List ℕ → ℕ → ℕ → ℕ
pair_by table a b = 16 * get_or table a 0 + get_or table b 0

-- the bytes that the pairs at the front of s make by a table, up to the first pair that makes more than a byte
unfoldable pub unhex_by : List ℕ → List ℕ → List ℕ
unhex_by table [] = []
unhex_by table (a ∷ []) = []
unhex_by table (a ∷ b ∷ s) = cond (ltb (pair_by table a b) 256) (pair_by table a b ∷ unhex_by table s) []

-- as many of them as there is room for, from a place of s on
abbrev pub decoded : List ℕ → ℕ → ℕ → List ℕ
decoded s at room = take room (unhex (drop at s))

abbrev pub decoded_by : List ℕ → List ℕ → ℕ → ℕ → List ℕ
decoded_by table s at room = take room (unhex_by table (drop at s))
