-- Numbers as bytes, the lowest first: document 01, "All numbers are little-endian".
use Rattle.std.specs.Prelude.{ℕ, zero, suc, ◌+◌, ◌*◌, ◌/◌, ◌%◌, ◌<◌, List, [], ◌∷◌, take, drop}

-- the number that bytes stand for
unfoldable pub join : List ℕ → ℕ
join [] = 0
join (b ∷ s) = b + 256 * join s

-- the n low bytes of v
unfoldable pub split : ℕ → ℕ → List ℕ
split zero v = []
split (suc n) v = v % 256 ∷ split n (v / 256)

-- the number in the n bytes of s from at on
unfoldable pub number : List ℕ → ℕ → ℕ → ℕ
number s at n = join (take n (drop at s))

-- each element is a byte
abbrev pub Bytes : List ℕ → Type 0
Bytes [] = Unit
Bytes (b ∷ s) = (b < 256) × Bytes s
