-- Demand 3 for a security header: read, written again with the counter that was read, and read once more.
use Rattle.std.specs.Prelude.{ℕ, ◌+◌, ◌-◌, ◌≤◌, List, ◌++◌, ◌≡◌, length, take, drop, Some, Ok}
use Rattle.octets.specs.{Bits.clear_at, Buffer.laid}
use Rattle.security_control.specs.Control.{security_control_of}
use Rattle.key_identifier.specs.Key.{mode_of_key}
use Rattle.security.specs.declared.{AuxiliarySecurityHeader.AuxiliarySecurityHeader}
use Rattle.security.specs.Security.{security_of, length_in, level_of, security_bytes}
use Rattle.security.specs.Answer.{read_security, write_security}

-- the bytes of the security header at a place, with control bits 5, 6, 7 cleared and no others (document 01, "Bits that
-- writing clears")
abbrev pub security_cleared : List ℕ → ℕ → List ℕ
security_cleared s at = clear_at 0 5 3 (take (length_in s at) (drop at s))

-- what is read of a record that was written with a counter: that counter, and the mode of its key identifier
abbrev pub security_told : AuxiliarySecurityHeader → ℕ → AuxiliarySecurityHeader
security_told h counter =
    security_of (security_control_of (level_of h) (mode_of_key h.key_identifier)) counter h.key_identifier

-- the bytes that a record is written as with its own counter
abbrev pub security_rewritten : AuxiliarySecurityHeader → List ℕ
security_rewritten h = security_bytes h h.frame_counter

-- what holds of a security header h of n bytes that was read from s at a place
pub record RoundTrip (s : List ℕ) (at : ℕ) (h : AuxiliarySecurityHeader) (n : ℕ) : Type 0 where
  -- it lies in the input
  pub within : n ≤ length s - at
  -- with room, writing it again is accepted
  pub accepted : (out : List ℕ) (place : ℕ) → n ≤ length out - place →
      write_security h (Some h.frame_counter) out place ≡ Ok n
  -- it gives the bytes that were read, but for the listed bits cleared, and as many
  pub written : security_rewritten h ≡ security_cleared s at
  pub long : length (security_rewritten h) ≡ n
  -- what lay before and behind them in the buffer stays
  pub buffer : (out : List ℕ) (to : ℕ) → to + n ≤ length out →
      laid out to (security_rewritten h) ≡ take to out ++ (security_rewritten h ++ drop (to + n) out)
  -- reading them gives the same record, wherever they stand
  pub again : (before after : List ℕ) →
      read_security (before ++ (security_rewritten h ++ after)) (length before) ≡ Ok (h, n)
  -- there is nothing left to clear
  pub settled : security_cleared (security_rewritten h) 0 ≡ security_rewritten h
  -- bytes added behind the input alter none of this
  pub behind : (more : List ℕ) → read_security (s ++ more) at ≡ Ok (h, n)
