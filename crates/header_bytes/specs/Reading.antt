-- What reading a header answers, by its bytes alone, document 01: 1 below three bytes; 2; 3; 4 destination; 4 source; 1
-- destination; 5; 1 source; 1 security part. Each is given exactly when it is the first in its order.
use Rattle.std.specs.Prelude.{ℕ, Bool, ◌&&◌, List, [], ◌∷◌, ltb, eqb, length}
use Rattle.octets.specs.declared.Refusal.{Refusal}
use Rattle.octets.specs.declared.Refusal.TheVariants.{Ended, Version, FrameType, AddressMode, NoDestination}
use Rattle.octets.specs.{Outcome.Outcome, Outcome.answered, Bits.bits, Bits.bit, Little.number}
use Rattle.header_bytes.specs.Layout.{destination_end, source_end, header_end}

-- refusal 5: compression is set, and there is no destination whose PAN id a source could share
abbrev pub unshared : ℕ → Bool
unshared w = bit w 6 && eqb (bits w 10 2) 0

-- the tests behind the frame control, each with its refusal
abbrev pub field_tests : List ℕ → ℕ → List (Bool × Refusal)
field_tests s w =
    (ltb (length s) (destination_end w), Ended) ∷
    (unshared w, NoDestination) ∷
    (ltb (length s) (source_end w), Ended) ∷
    (ltb (length s) (header_end s w), Ended) ∷
    []

-- all of them
abbrev pub read_tests : List ℕ → ℕ → List (Bool × Refusal)
read_tests s w =
    (ltb (length s) 3, Ended) ∷
    (eqb (bits w 12 2) 3, Version) ∷
    (eqb (bits w 0 3) 4, FrameType) ∷
    (eqb (bits w 10 2) 1, AddressMode) ∷
    (eqb (bits w 14 2) 1, AddressMode) ∷
    field_tests s w

-- the length of the header at the beginning of s, or the first refusal
unfoldable pub measured : List ℕ → Outcome
measured s = answered (read_tests s (number s 0 2)) (header_end s (number s 0 2))
