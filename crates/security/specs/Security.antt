-- The auxiliary security header, document 01, "Header layout" (IEEE 802.15.4-2011, 7.4): control (1), frame counter
-- (4), key identifier.
use Rattle.std.specs.Prelude.{ℕ, ◌+◌, ◌<◌, List, ◌++◌, Option}
use Rattle.octets.specs.Little.{number, split}
use Rattle.security_control.specs.declared.{SecurityControl.SecurityControl}
use Rattle.security_control.specs.Control.{security_control_of, security_control_in, security_control_bits}
use Rattle.key_identifier.specs.Key.{mode_of_key, key_length, key_in, key_bytes, SmallKey}
use Rattle.security.specs.declared.{AuxiliarySecurityHeader.AuxiliarySecurityHeader}
use Rattle.key_identifier.specs.declared.KeyIdentifier.{KeyIdentifier}

abbrev pub security_of : SecurityControl → ℕ → Option KeyIdentifier → AuxiliarySecurityHeader
security_of control counter key = record { control = control; frame_counter = counter; key_identifier = key }

-- the control at a place, how many bytes it announces, and what they say
abbrev pub control_at : List ℕ → ℕ → SecurityControl
control_at s at = security_control_in (number s at 1)

abbrev pub length_in : List ℕ → ℕ → ℕ
length_in s at = 5 + key_length (control_at s at).key_id_mode

unfoldable pub security_in : List ℕ → ℕ → AuxiliarySecurityHeader
security_in s at = security_of (control_at s at) (number s (at + 1) 4) (key_in (control_at s at).key_id_mode s (at + 5))

abbrev pub level_of : AuxiliarySecurityHeader → ℕ
level_of h = h.control.security_level

-- how many bytes a record takes: 5, 6, 10 or 14
abbrev pub security_length : AuxiliarySecurityHeader → ℕ
security_length h = 5 + key_length (mode_of_key h.key_identifier)

-- the control byte of a record: its level, and the mode of its key identifier
abbrev pub security_control_written : AuxiliarySecurityHeader → ℕ
security_control_written h = security_control_bits (security_control_of (level_of h) (mode_of_key h.key_identifier))

-- the bytes of a record, written with a counter
unfoldable pub security_bytes : AuxiliarySecurityHeader → ℕ → List ℕ
security_bytes h counter = split 1 (security_control_written h) ++ (split 4 counter ++ key_bytes h.key_identifier)

-- each number within its width, and the level within three bits
abbrev pub SmallSecurity : AuxiliarySecurityHeader → Type 0
SmallSecurity h = (level_of h < 8) × SmallKey h.key_identifier
