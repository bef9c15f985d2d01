-- The security control byte, document 01, "Header layout" (IEEE 802.15.4-2011, 7.4.1): level bits 0-2, all eight
-- accepted, key mode bits 3-4, bits 5-7 not read.
use Rattle.std.specs.Prelude.{ℕ, ◌+◌, ◌*◌, ◌^◌, Bool, List, [], ◌∷◌, ltb, Result}
use Rattle.octets.specs.declared.{Refusal.Refusal, Refusal.TheVariants.Ended}
use Rattle.octets.specs.{Bits.bits, Bits.find, Little.number, Part.ends, Outcome.answered}
use Rattle.security_control.specs.declared.{KeyIdentifierMode.KeyIdentifierMode, SecurityControl.SecurityControl}
use Rattle.security_control.specs.declared.KeyIdentifierMode.TheVariants.{None, KeyIndex, KeySource4, KeySource8}

-- the mode of two bits
unfoldable pub key_mode_of : ℕ → KeyIdentifierMode
key_mode_of n = find ((0, None) ∷ (1, KeyIndex) ∷ (2, KeySource4) ∷ []) KeySource8 (λ m. m) n

abbrev pub key_mode_bits : KeyIdentifierMode → ℕ
key_mode_bits None = 0
key_mode_bits KeyIndex = 1
key_mode_bits KeySource4 = 2
key_mode_bits KeySource8 = 3

abbrev pub security_control_of : ℕ → KeyIdentifierMode → SecurityControl
security_control_of level mode = record { security_level = level; key_id_mode = mode }

-- what the byte b says
abbrev pub security_control_in : ℕ → SecurityControl
security_control_in b = security_control_of (bits b 0 3) (key_mode_of (bits b 3 2))

-- the byte of a level, of which only three bits are written, and a mode
abbrev pub security_control_bits : SecurityControl → ℕ
security_control_bits c = bits c.security_level 0 3 + 2 ^ 3 * key_mode_bits c.key_id_mode

-- refusal 8: a security level above 7
abbrev pub level_too_large : SecurityControl → Bool
level_too_large c = ltb 7 c.security_level

-- the control at a place
unfoldable pub read_security_control : List ℕ → ℕ → Result SecurityControl Refusal
read_security_control s at = answered ((ends s at 1, Ended) ∷ []) (security_control_in (number s at 1))
