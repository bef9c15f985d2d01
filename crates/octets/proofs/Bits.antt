-- Laws of the bits of a number.
-- Assumes nothing.
use Prim.Native.Nat.{ℕ, zero, suc, ◌+◌, ◌*◌, ◌/◌, ◌%◌, ◌^◌, ◌≤◌, ◌<◌}
use native.Mathlib.Nat.{mul_comm, mod-le, div-one}
use native.Mathlib.Omega.{arith}
use mathlib.Core.Bool.{Bool, true, false}
use mathlib.Core.List.{List, [], ◌∷◌, ◌++◌}
use mathlib.Core.Path.{◌≡◌, refl, ap, ◌∙◌}
use lib.Arith.{mod-mul}
use lib.Dec.{eqb}
use lib.ListN.{length, set, length-set, get_or-append}
use lib.Pow.{pow-add, pow_pos}
use Rattle.std.proofs.lemmas.List.{set-append_left}
use Rattle.octets.specs.Bits.{bits, bit_of, clear, clear_at}
use Rattle.octets.proofs.Each.{same}

-- a flag to a bit and back
pub bit_back : (flag : Bool) → eqb (bit_of flag) 1 ≡ flag
bit_back true = refl
bit_back false = refl

pub bit_again : (x : ℕ) → x < 2 → bit_of (eqb x 1) ≡ x
bit_again zero h = refl
bit_again (suc zero) h = refl
bit_again (suc (suc x)) h = absurd (omega arith)

pub bit_small : (flag : Bool) → bit_of flag < 2
bit_small true = omega arith
bit_small false = omega arith

-- the lowest bits are a remainder
pub bits_low : (w count : ℕ) → bits w 0 count ≡ w % 2 ^ count
bits_low w count = ap (λ (x : ℕ). x % 2 ^ count) (div-one w)

-- the low bits and the next ones are the low bits of a longer part
pub bits_join : (w at count : ℕ) → w % 2 ^ (at + count) ≡ bits w at count * 2 ^ at + w % 2 ^ at
bits_join w at count = rw (pow-add 2 at count, mul_comm (2 ^ at) (2 ^ count)) (mod-mul w (pow_pos count) (pow_pos at))

-- the bits of a number are a part of it
pub bits_part : (w at count : ℕ) → bits w at count * 2 ^ at ≤ w
bits_part w at count = omega (arith, bits_join w at count, mod-le w (2 ^ (at + count)))

-- a one shifted within a byte
pub shifted_one : (k : ℕ) → k < 8 → 1 * 2 ^ k % 256 ≡ 2 ^ k
shifted_one k h = same (λ (k : ℕ). 1 * 2 ^ k % 256) (λ (k : ℕ). 2 ^ k) 8 tt k h

pub shifted_some : (k : ℕ) → k < 8 → 0 < 1 * 2 ^ k % 256
shifted_some k h = rw (shifted_one k h) (pow_pos k)

-- the bits of a byte taken by shifts
pub shifted_part : (b at count : ℕ) → at < 8 → count < 8 → b / 2 ^ at % (1 * 2 ^ count % 256) * (1 * 2 ^ at % 256) ≤ b
shifted_part b at count h k = rw (shifted_one at h, shifted_one count k) (bits_part b at count)

-- bits cleared behind other bytes
clear_after : (p l : List ℕ) (at count : ℕ) → clear_at (length p) at count (p ++ l) ≡ p ++ clear_at 0 at count l
clear_after [] l at count = refl
clear_after (x ∷ p) l at count = ap (λ (l : List ℕ). x ∷ l) (clear_after p l at count)

pub clear_behind : (p l : List ℕ) (place at count : ℕ) → length p ≡ place → clear_at place at count (p ++ l) ≡ p ++ clear_at 0 at count l
clear_behind p l place at count e = rw (← e) (clear_after p l at count)

-- bits cleared in front of other bytes
pub clear_append : (l m : List ℕ) (place at count : ℕ) → place < length l → clear_at place at count (l ++ m) ≡ clear_at place at count l ++ m
clear_append l m place at count h =
    ap (λ (b : ℕ). set (l ++ m) place (clear at count b)) (get_or-append l m 0 place h) ∙ set-append_left l m place _ h

pub clear_length : (l : List ℕ) (place at count : ℕ) → length (clear_at place at count l) ≡ length l
clear_length l place at count = length-set l place _
