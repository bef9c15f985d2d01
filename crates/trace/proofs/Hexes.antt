-- Laws of numbers in hex, digit by digit from the highest on.
-- Assumes nothing.
use Prim.Native.Nat.{ℕ, suc, ◌+◌, ◌-◌, ◌*◌, ◌/◌, ◌%◌, ◌^◌, ◌≤◌, ◌<◌}
use native.Mathlib.Omega.{arith}
use mathlib.Core.List.{[], ◌∷◌, ◌++◌}
use mathlib.Core.Path.{◌≡◌, ap, ◌∙◌}
use lib.Pow.{shr-shr}
use Rattle.labelled.specs.Hexed.{hex_digit, hex_by}

module _ (v digits : ℕ) where
  -- no digit yet
  pub hex_none : [] ≡ hex_by (digits - digits) (v / 2 ^ (4 * digits))
  unfolding hex_by
  hex_none = let e : digits - digits ≡ 0 = omega arith in rw e

  -- the next digit
  pub hex_more : (i : ℕ) → 0 < i → i ≤ digits →
      hex_by (digits - i) (v / 2 ^ (4 * i)) ++ (hex_digit (v / 2 ^ (4 * (i - 1)) % 16) ∷ [])
      ≡ hex_by (digits - (i - 1)) (v / 2 ^ (4 * (i - 1)))
  unfolding hex_by
  hex_more i h l =
      let e : digits - (i - 1) ≡ suc (digits - i) = omega arith in
      let f : 4 * (i - 1) + 4 ≡ 4 * i = omega arith in
      let g = shr-shr v (4 * (i - 1)) 4 ∙ ap (λ (x : ℕ). v / 2 ^ x) f in
      rw (e, g)

  -- all digits
  pub hex_all : (i : ℕ) → i ≡ 0 → hex_by (digits - i) (v / 2 ^ (4 * i)) ≡ hex_by digits v
  hex_all i e =
      let f : v / 2 ^ (4 * 0) ≡ v = omega arith in
      let g : digits - 0 ≡ digits = omega arith in
      rw (e, f, g)
