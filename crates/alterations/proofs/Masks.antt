-- Laws of masks: the bits of a byte that stand side by side, by their number.
-- Assumes nothing.
use Prim.Native.Nat.{ℕ, ◌+◌, ◌*◌, ◌/◌, ◌%◌, ◌^◌, ◌<◌}
use mathlib.Core.Bool.{Bool}
use mathlib.Core.List.{[], ◌∷◌}
use mathlib.Core.Path.{◌≡◌}
use lib.Dec.{eqb}
use Rattle.octets.specs.Bits.{bits}
use Rattle.octets.proofs.Each.{below, each, same}
use Rattle.alterations.specs.Altered.{mask, span}

-- those of count bits from bit at on that are set in a byte, where they stand: one test computed for all of them
abbrev held : ℕ → ℕ → ℕ → ℕ
held at count b = bits b at count * 2 ^ at

abbrev of_byte : ℕ → ℕ → Bool
of_byte at count = below (λ (b : ℕ). eqb (held at count b) (mask (span at count) b)) 256

pub held_mask : (b at count : ℕ) → b < 256 → at < 8 → count < 8 → bits b at count * 2 ^ at ≡ mask (span at count) b
unfolding mask
held_mask b at count h i j =
    same (held at count) (mask (span at count)) 256
    (each (of_byte at) 8 (each (λ (at : ℕ). below (of_byte at) 8) 8 tt at i) count j) b h

-- bits 3 and 7
pub pending_held : (b : ℕ) → b < 256 → b / 8 % 2 * 8 + b / 128 * 128 ≡ mask (3 ∷ 7 ∷ []) b
unfolding mask
pending_held b h = same (λ (b : ℕ). b / 8 % 2 * 8 + b / 128 * 128) (mask (3 ∷ 7 ∷ [])) 256 tt b h
