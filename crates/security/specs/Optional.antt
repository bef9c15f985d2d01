-- What may be absent: a header's security part, and the counter that a writer is handed.
use Rattle.std.specs.Prelude.{ℕ, Bool, true, false, cond, ◌&&◌, List, [], Option, Some, None}
use Rattle.security_control.specs.Control.{level_too_large}
use Rattle.security.specs.Security.{security_in, security_length, security_bytes}
use Rattle.security.specs.declared.AuxiliarySecurityHeader.{AuxiliarySecurityHeader}

abbrev pub is_present : Option AuxiliarySecurityHeader → Bool
is_present None = false
is_present (Some k) = true

-- the security part at a place, where the frame control announces one
abbrev pub optional_in : Bool → List ℕ → ℕ → Option AuxiliarySecurityHeader
optional_in on s at = cond on (Some (security_in s at)) None

-- refusal 8: a security level above 7, where there is a security part
abbrev pub optional_too_large : Option AuxiliarySecurityHeader → Bool
optional_too_large None = false
optional_too_large (Some k) = level_too_large k.control

abbrev pub optional_length : Option AuxiliarySecurityHeader → ℕ
optional_length None = 0
optional_length (Some k) = security_length k

-- its bytes, written with a counter
abbrev pub optional_bytes : Option AuxiliarySecurityHeader → ℕ → List ℕ
optional_bytes None counter = []
optional_bytes (Some k) counter = security_bytes k counter

abbrev pub missing : Option ℕ → Bool
missing None = true
missing (Some n) = false

-- refusal 7: a security part and no counter
abbrev pub optional_lacks : Option AuxiliarySecurityHeader → Option ℕ → Bool
optional_lacks part counter = is_present part && missing counter

-- the counter that is written; with none, nothing is
abbrev pub counter_of : Option ℕ → ℕ
counter_of None = 0
counter_of (Some n) = n

-- the counter that was read with a security part
abbrev pub counter_read : Option AuxiliarySecurityHeader → Option ℕ
counter_read None = None
counter_read (Some k) = Some k.frame_counter
