-- A security control written is read as it was, and one read is written with bits 5 to 7 cleared.
-- Assumes nothing.
use Prim.Native.Nat.{ℕ, zero, suc, ◌+◌, ◌*◌, ◌^◌, ◌<◌}
use native.Mathlib.Omega.{arith}
use mathlib.Core.Path.{◌≡◌, refl}
use Rattle.octets.specs.Bits.{bits, clear}
use Rattle.octets.proofs.Each.{same}
use Rattle.security_control.specs.declared.KeyIdentifierMode.{KeyIdentifierMode}
use Rattle.security_control.specs.declared.KeyIdentifierMode.TheVariants.{None, KeyIndex, KeySource4, KeySource8}
use Rattle.security_control.specs.declared.SecurityControl.{SecurityControl}
use Rattle.security_control.specs.Control.{key_mode_of, key_mode_bits, security_control_in, security_control_bits}
use Rattle.std.specs.Prelude.{None}

pub mode_back : (m : KeyIdentifierMode) → key_mode_of (key_mode_bits m) ≡ m
unfolding key_mode_of
mode_back None = refl
mode_back KeyIndex = refl
mode_back KeySource4 = refl
mode_back KeySource8 = refl

pub mode_again : (n : ℕ) → n < 4 → key_mode_bits (key_mode_of n) ≡ n
unfolding key_mode_of
mode_again zero h = refl
mode_again (suc zero) h = refl
mode_again (suc (suc zero)) h = refl
mode_again (suc (suc (suc zero))) h = refl
mode_again (suc (suc (suc (suc n)))) h = absurd (omega arith)

pub mode_small : (m : KeyIdentifierMode) → key_mode_bits m < 4
mode_small None = omega arith
mode_small KeyIndex = omega arith
mode_small KeySource4 = omega arith
mode_small KeySource8 = omega arith

pub control_small : (c : SecurityControl) → security_control_bits c < 32
control_small c = omega (arith, mode_small c.key_id_mode)

parts : (l m : ℕ) → l < 8 → m < 4 → (bits (l + 2 ^ 3 * m) 0 3 ≡ l) × (bits (l + 2 ^ 3 * m) 3 2 ≡ m)
parts l m h k = (omega arith, omega arith)

pub control_back : (c : SecurityControl) → c.security_level < 8 → security_control_in (security_control_bits c) ≡ c
control_back c h =
    let level : bits c.security_level 0 3 ≡ c.security_level = omega arith in
    let at = parts c.security_level (key_mode_bits c.key_id_mode) h (mode_small c.key_id_mode) in
    rw (level, at.0, at.1, mode_back c.key_id_mode)

pub control_again : (b : ℕ) → b < 256 → security_control_bits (security_control_in b) ≡ clear 5 3 b
control_again b h =
    rw (mode_again (bits b 3 2) (omega arith))
    (same (λ (b : ℕ). bits (bits b 0 3) 0 3 + 2 ^ 3 * bits b 3 2) (clear 5 3) 256 tt b h)
