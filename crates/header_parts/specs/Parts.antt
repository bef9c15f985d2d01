-- The length of a header's parts, and writing a header by its parts, document 01: 8; 1 below three bytes of room; 6; 1
-- addresses; 7; 1 security part. 8 is also given for a wrong kept length (document 02, request 4).
use Rattle.std.specs.Prelude.{ℕ, ◌+◌, Bool, not, List, [], ◌∷◌, ltb, eqb, Option}
use Rattle.octets.specs.declared.Refusal.{Refusal}
use Rattle.octets.specs.declared.Refusal.TheVariants.{Ended, MissingAddress, MissingCounter, TooLarge, WrongLength}
use Rattle.octets.specs.Outcome.{Outcome, answered}
use Rattle.address.specs.declared.Address.{Address}
use Rattle.address_pair.specs.Pair.{pair_end, pair_lacks}
use Rattle.security.specs.Optional.{optional_too_large, optional_length, optional_lacks}
use Rattle.security.specs.declared.AuxiliarySecurityHeader.{AuxiliarySecurityHeader}

-- the sum of the parts as they lie in a frame: frame control and sequence number, the addresses, the security header
abbrev pub parts_length : Bool → Option Address → Option Address → Option AuxiliarySecurityHeader → ℕ
parts_length compress destination source security = pair_end compress destination source + optional_length security

-- the refusals of writing a header of these parts, with the length that it keeps, into room bytes, in their order
abbrev pub write_tests : ℕ → Bool → Option Address → Option Address → Option AuxiliarySecurityHeader → Option ℕ → ℕ →
    List (Bool × Refusal)
write_tests kept compress destination source security counter room =
    (not (eqb kept (parts_length compress destination source security)), WrongLength) ∷
    (optional_too_large security, TooLarge) ∷
    (ltb room 3, Ended) ∷
    (pair_lacks compress destination source, MissingAddress) ∷
    (ltb room (pair_end compress destination source), Ended) ∷
    (optional_lacks security counter, MissingCounter) ∷
    (ltb room (parts_length compress destination source security), Ended) ∷
    []

-- what that answers
unfoldable pub write_parts : ℕ → Bool → Option Address → Option Address → Option AuxiliarySecurityHeader → Option ℕ → ℕ →
    Outcome
write_parts kept compress destination source security counter room =
    answered (write_tests kept compress destination source security counter room)
    (parts_length compress destination source security)
