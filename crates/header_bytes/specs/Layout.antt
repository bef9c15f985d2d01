-- Where the parts of a header lie, by its frame control w, the number in bytes 0 and 1 (document 01, "Header layout";
-- IEEE 802.15.4-2011, 5.2.1): security bit 3, compression 6, sequence suppression 8, destination mode bits 10-11,
-- source mode 14-15. Modes are numbers, 2 short and 3 extended.
use Rattle.std.specs.Prelude.{ℕ, ◌+◌, Bool, cond, not, ◌&&◌, List, [], ◌∷◌, ltb}
use Rattle.octets.specs.{Bits.bits, Bits.bit, Bits.find, Little.number}

-- where the addresses begin, by sequence suppression, bit 8, which alters nothing: the sequence byte is always there
abbrev pub start : Bool → ℕ
start suppressed = 3

-- which PAN ids stand in the frame, by the two modes and compression: a destination's, and that of a source that does
-- not share the destination's
abbrev pub own_destination : ℕ → ℕ → Bool → Bool
own_destination to from compress = ltb 1 to

abbrev pub own_source : ℕ → ℕ → Bool → Bool
own_source to from compress = not compress && ltb 1 from

-- bytes of a PAN id, and of an address by its mode
abbrev pub pan_size : Bool → ℕ
pan_size own = cond own 2 0

abbrev pub address_size : ℕ → ℕ
address_size mode = find ((2, 2) ∷ (3, 8) ∷ []) 0 (λ n. n) mode

-- where destination and source end
abbrev pub destination_end : ℕ → ℕ
destination_end w =
    start (bit w 8) + (pan_size (own_destination (bits w 10 2) (bits w 14 2) (bit w 6)) + address_size (bits w 10 2))

abbrev pub source_end : ℕ → ℕ
source_end w =
    destination_end w + (pan_size (own_source (bits w 10 2) (bits w 14 2) (bit w 6)) + address_size (bits w 14 2))

-- bytes of a security part by its key mode: control (1), frame counter (4) and key identifier (0, 1, 5 or 9)
abbrev pub security_size : ℕ → ℕ
security_size mode = find ((0, 5) ∷ (1, 6) ∷ (2, 10) ∷ []) 14 (λ n. n) mode

-- where the header ends: the security control tells its key mode in bits 3-4
abbrev pub header_end : List ℕ → ℕ → ℕ
header_end s w = cond (bit w 3) (source_end w + security_size (bits (number s (source_end w) 1) 3 2)) (source_end w)
