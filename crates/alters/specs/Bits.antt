-- The bits that masks stand for, each as the place of its byte and its number there, in order.
use Rattle.std.specs.Prelude.{ℕ, zero, suc, cond, List, [], ◌∷◌, ◌++◌}
use Rattle.octets.specs.Words.{flat_map}
use Rattle.octets.specs.{Bits.bit}

-- those below bit k of the byte at a place that are set in its mask
unfoldable pub bits_below : ℕ → ℕ → ℕ → List (ℕ × ℕ)
bits_below place mask zero = []
bits_below place mask (suc k) = bits_below place mask k ++ cond (bit mask k) ((place, k) ∷ []) []

-- all eight of each byte
abbrev pub bits_of : List (ℕ × ℕ) → List (ℕ × ℕ)
bits_of bytes = flat_map (λ (b : ℕ × ℕ). bits_below b.0 b.1 8) bytes
