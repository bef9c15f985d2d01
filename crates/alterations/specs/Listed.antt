-- The bits that rewriting a given frame may alter, document 01, "Bits that writing clears": for each byte of the
-- frame's parts that has some, in the order of the bytes, its place and the numbers of those bits.
use Rattle.std.specs.Prelude.{ℕ, zero, suc, ◌+◌, Bool, cond, not, ◌&&◌, List, [], ◌∷◌, ◌++◌, eqb, drop}
use Rattle.octets.specs.{Bits.bits, Bits.bit, Little.number}
use Rattle.header_bytes.specs.Layout.{source_end, header_end}
use Rattle.time_slots.specs.TimeSlots.{slot_count_in}
use Rattle.beacon.specs.Beacon.{pending_place}

-- "Header: frame-control bits 7, 8, 9; security control bits 5, 6, 7", by the frame control w
abbrev pub header_bits : ℕ → List (ℕ × List ℕ)
header_bits w = (0, 7 ∷ []) ∷ (1, 0 ∷ 1 ∷ []) ∷ cond (bit w 3) ((source_end w, 5 ∷ 6 ∷ 7 ∷ []) ∷ []) []

-- "direction bits n to 7 where n > 0", of a direction byte at a place
abbrev pub direction_bits : ℕ → ℕ → List (ℕ × List ℕ)
direction_bits zero place = []
direction_bits (suc k) place = (place, drop (suc k) (0 ∷ 1 ∷ 2 ∷ 3 ∷ 4 ∷ 5 ∷ 6 ∷ 7 ∷ [])) ∷ []

-- "Beacon: byte 1 bit 5; GTS header bits 3-6; direction bits ..; pending header bits 3 and 7", of a beacon at a place
abbrev pub beacon_bits : List ℕ → ℕ → List (ℕ × List ℕ)
beacon_bits s at =
    (at + 1, 5 ∷ []) ∷
    (at + 2, 3 ∷ 4 ∷ 5 ∷ 6 ∷ []) ∷
    (direction_bits (slot_count_in s (at + 2)) (at + 3) ++ ((pending_place s at, 3 ∷ 7 ∷ []) ∷ []))

-- a beacon is looked at in an unsecured frame of type 0
abbrev pub holds_beacon : ℕ → Bool
holds_beacon w = eqb (bits w 0 3) 0 && not (bit w 3)

-- those of a frame, by its frame control: its header's and, where it holds a beacon, those of the beacon behind that
abbrev pub listed_by : List ℕ → ℕ → List (ℕ × List ℕ)
listed_by s w = header_bits w ++ cond (holds_beacon w) (beacon_bits s (header_end s w)) []

abbrev pub listed : List ℕ → List (ℕ × List ℕ)
listed s = listed_by s (number s 0 2)
