-- One look at the frame control (document 02, request 7): "a constant table of 256 entries, indexed by compression,
-- security and frame-control bits 10 to 15, giving the refusal 2, 4 or 5, or the length up to the security control,
-- that byte included".
use Rattle.std.specs.Prelude.{ℕ, ◌+◌, ◌*◌, ◌^◌, Bool, List, [], ◌∷◌, map, eqb}
use Rattle.octets.specs.declared.Refusal.{Refusal}
use Rattle.octets.specs.declared.Refusal.TheVariants.{Version, AddressMode, NoDestination}
use Rattle.octets.specs.{Bits.bits, Order.first, Outcome.refusal_number}
use Rattle.header_bytes.specs.{Layout.source_end, Reading.unshared}

-- the tests of a frame control w that have an entry, each with its refusal: document 01's order without the type
abbrev pub entry_tests : ℕ → List (Bool × Refusal)
entry_tests w =
    (eqb (bits w 12 2) 3, Version) ∷
    (eqb (bits w 10 2) 1, AddressMode) ∷
    (eqb (bits w 14 2) 1, AddressMode) ∷
    (unshared w, NoDestination) ∷
    []

-- where the security control ends, or the source where there is none
abbrev pub control_end : ℕ → ℕ
control_end w = source_end w + bits w 3 1

-- a refusal is its number's digit in ASCII, from 48 on; a length is a small letter, the first at 97 being 1
abbrev pub digit : Refusal → ℕ
digit refusal = 48 + refusal_number refusal

abbrev pub letter : ℕ → ℕ
letter size = 96 + size

-- the entry of a frame control
abbrev pub entry_of : ℕ → ℕ
entry_of w = first (map (λ (test : Bool × Refusal). (test.0, digit test.1)) (entry_tests w)) (letter (control_end w))

-- the index of a frame control: bits 10 to 15, then security (bit 3) and compression (bit 6)
abbrev pub index_of : ℕ → ℕ
index_of w = bits w 10 6 * 4 + bits w 3 1 * 2 + bits w 6 1

-- the frame control that has the eight bits of an index, and no others
abbrev pub control_at : ℕ → ℕ
control_at i = bits i 2 6 * 2 ^ 10 + bits i 1 1 * 2 ^ 3 + bits i 0 1 * 2 ^ 6

-- the table: at each index the entry of that frame control
abbrev pub table_at : ℕ → ℕ
table_at i = entry_of (control_at i)

-- four entries beside each other
abbrev pub row_of : ℕ → List ℕ
row_of k = table_at (4 * k) ∷ table_at (4 * k + 1) ∷ table_at (4 * k + 2) ∷ table_at (4 * k + 3) ∷ []
