-- The bits of a number, counted from 0 at the low end, and values listed by number.
use Rattle.std.specs.Prelude.{ℕ, ◌-◌, ◌*◌, ◌/◌, ◌%◌, ◌^◌, Bool, cond, List, [], ◌∷◌, eqb, get_or, set}
use Rattle.std.specs.Int.{from_bool}

-- the count bits of w from bit at on, as a number
abbrev pub bits : ℕ → ℕ → ℕ → ℕ
bits w at count = w / 2 ^ at % 2 ^ count

-- bit at of w is set
abbrev pub bit : ℕ → ℕ → Bool
bit w at = eqb (bits w at 1) 1

-- a flag as one bit
abbrev pub bit_of : Bool → ℕ
bit_of flag = from_bool flag

-- w with the count bits from bit at on cleared
abbrev pub clear : ℕ → ℕ → ℕ → ℕ
clear at count w = w - bits w at count * 2 ^ at

-- a list of bytes with those bits of the byte at a place cleared
abbrev pub clear_at : ℕ → ℕ → ℕ → List ℕ → List ℕ
clear_at place at count s = set s place (clear at count (get_or s place 0))

-- what is made of the value listed beside n, or other where n is not listed
abbrev pub find : {A B : Type 0} → List (ℕ × A) → B → (A → B) → ℕ → B
find [] other make n = other
find (entry ∷ rest) other make n = cond (eqb n entry.0) (make entry.1) (find rest other make n)
