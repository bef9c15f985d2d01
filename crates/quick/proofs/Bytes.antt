-- The frame control by its two bytes: the number that they stand for, and its bits.
-- Assumes nothing.
use Prim.Native.Nat.{ℕ, ◌+◌, ◌*◌, ◌/◌, ◌%◌, ◌<◌}
use native.Mathlib.Omega.{arith}
use mathlib.Core.List.{List, [], ◌∷◌}
use mathlib.Core.Path.{◌≡◌, refl}
use lib.ListN.{get_or}
use Rattle.octets.specs.{Bits.bits, Little.join, Little.number}

pub two_bytes : (s : List ℕ) → number s 0 2 ≡ get_or s 0 0 + 256 * get_or s 1 0
unfolding number join
two_bytes [] = refl
two_bytes (a ∷ []) = omega arith
two_bytes (a ∷ b ∷ s) = omega arith

module _ (a b : ℕ) where
  pub type_bits_lem : bits (a + 256 * b) 0 3 ≡ a % 8
  type_bits_lem = omega arith

  pub security_bit : bits (a + 256 * b) 3 1 ≡ a / 8 % 2
  security_bit = omega arith

  pub upper_bits : a < 256 → b < 256 → bits (a + 256 * b) 10 6 ≡ b / 4
  upper_bits h k = omega arith
