-- What rewriting a header answers, reading it and writing it again with the counter that was read, by its bytes alone.
-- Reading's refusals come before writing's, and of those, document 01's "8; 1 below three bytes of room; 6; 1
-- addresses; 7; 1 security part", 8 and 7 cannot be: three bits hold no level above 7, and the counter is there.
use Rattle.std.specs.Prelude.{ℕ, Bool, ◌&&◌, List, [], ◌∷◌, ◌++◌, ltb, eqb}
use Rattle.octets.specs.declared.Refusal.{Refusal}
use Rattle.octets.specs.declared.Refusal.TheVariants.{Ended, MissingAddress}
use Rattle.octets.specs.{Outcome.Outcome, Outcome.answered, Bits.bits, Bits.bit, Little.number}
use Rattle.header_bytes.specs.Layout.{source_end, header_end}
use Rattle.header_bytes.specs.Reading.{read_tests}

-- refusal 6 of a header that was read: compression without a source
abbrev pub sourceless : ℕ → Bool
sourceless w = bit w 6 && eqb (bits w 14 2) 0

-- the tests of writing it into room bytes
abbrev pub again_tests : List ℕ → ℕ → ℕ → List (Bool × Refusal)
again_tests s w room =
    (ltb room 3, Ended) ∷
    (sourceless w, MissingAddress) ∷
    (ltb room (source_end w), Ended) ∷
    (ltb room (header_end s w), Ended) ∷
    []

unfoldable pub rewrite_header : List ℕ → ℕ → Outcome
rewrite_header s room =
    answered (read_tests s (number s 0 2) ++ again_tests s (number s 0 2) room) (header_end s (number s 0 2))
