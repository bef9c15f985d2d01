-- Bits by their places: bit b of byte i.
use Rattle.std.specs.Prelude.{ℕ, ◌<◌, Bool, false, ◌||◌, ◌&&◌, List, [], ◌∷◌, eqb, get_or}
use Rattle.octets.specs.Bits.{bit}

-- it is set
abbrev pub bit_at : List ℕ → ℕ → ℕ → Bool
bit_at s i b = bit (get_or s i 0) b

-- a list of places and masks names it
abbrev pub named : List (ℕ × ℕ) → ℕ → ℕ → Bool
named [] i b = false
named (x ∷ l) i b = (eqb i x.0 && bit x.1 b) || named l i b

-- it is one of the listed bits, places with the numbers of the bits listed there
abbrev pub among : List ℕ → ℕ → Bool
among [] b = false
among (x ∷ l) b = eqb b x || among l b

abbrev pub is_listed : List (ℕ × List ℕ) → ℕ → ℕ → Bool
is_listed [] i b = false
is_listed (x ∷ l) i b = (eqb i x.0 && among x.1 b) || is_listed l i b

-- the places rise, all of them above one that went before
abbrev pub Above : {A : Type 0} → ℕ → List (ℕ × A) → Type 0
Above place [] = Unit
Above place (x ∷ l) = (place < x.0) × Above x.0 l

abbrev pub Rising : {A : Type 0} → List (ℕ × A) → Type 0
Rising [] = Unit
Rising (x ∷ l) = Above x.0 l
