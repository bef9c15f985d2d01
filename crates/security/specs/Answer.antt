-- What reading and writing a security header answers: reading only 1; writing 8, then 7, then 1 (document 01, "Refusal
-- numbers").
use Rattle.std.specs.Prelude.{ℕ, List, [], ◌∷◌, Option, Result}
use Rattle.octets.specs.declared.Refusal.{Refusal}
use Rattle.octets.specs.declared.Refusal.TheVariants.{Ended, MissingCounter, TooLarge}
use Rattle.octets.specs.{Part.ends, Outcome.Outcome, Outcome.answered}
use Rattle.security_control.specs.Control.{level_too_large}
use Rattle.security.specs.declared.AuxiliarySecurityHeader.{AuxiliarySecurityHeader}
use Rattle.security.specs.Security.{length_in, security_in, security_length}
use Rattle.security.specs.Optional.{missing}

-- the security header at a place, as long as its control byte announces, with its length
unfoldable pub read_security : List ℕ → ℕ → Result (AuxiliarySecurityHeader × ℕ) Refusal
read_security s at = answered ((ends s at (length_in s at), Ended) ∷ []) (security_in s at, length_in s at)

-- writing one at a place with a counter, where one is handed over
unfoldable pub write_security : AuxiliarySecurityHeader → Option ℕ → List ℕ → ℕ → Outcome
write_security h counter out at =
    answered
    ((level_too_large h.control, TooLarge) ∷
    (missing counter, MissingCounter) ∷
    (ends out at (security_length h), Ended) ∷
    [])
    (security_length h)
