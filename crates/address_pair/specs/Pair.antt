-- The two addresses of a header, destination and source, by PAN compression (document 01, "Header layout"; IEEE
-- 802.15.4-2011, 5.2.1.3 to 5.2.1.6): under compression the source is without a PAN id, which is the destination's.
use Rattle.std.specs.Prelude.{ℕ, ◌+◌, Bool, true, false, not, ◌&&◌, List, ◌++◌, eqb, Option, Some, None}
use Rattle.header_bytes.specs.Layout.{own_destination, own_source}
use Rattle.frame_control.specs.Modes.{mode_bits}
use Rattle.address.specs.{Address.mode_of, Address.pan_of}
use Rattle.address.specs.Layout.{address_length, address_bytes}
use Rattle.address.specs.declared.Address.{Address}

-- which PAN ids stand in the frame, by the modes of the addresses and by compression
abbrev pub owns_to : Bool → Option Address → Option Address → Bool
owns_to compress destination source = own_destination (mode_bits (mode_of destination)) (mode_bits (mode_of source)) compress

abbrev pub owns_from : Bool → Option Address → Option Address → Bool
owns_from compress destination source = own_source (mode_bits (mode_of destination)) (mode_bits (mode_of source)) compress

-- where they end in a frame, behind frame control and sequence number
abbrev pub pair_end : Bool → Option Address → Option Address → ℕ
pair_end compress destination source =
    3
    + address_length (owns_to compress destination source) destination
    + address_length (owns_from compress destination source) source

-- their bytes
abbrev pub pair_bytes : Bool → Option Address → Option Address → List ℕ
pair_bytes compress destination source =
    address_bytes (owns_to compress destination source) destination
    ++ address_bytes (owns_from compress destination source) source

-- refusal 6: compression set, either address missing
abbrev pub both_present : Option Address → Option Address → Bool
both_present None source = false
both_present (Some d) None = false
both_present (Some d) (Some s) = true

abbrev pub pair_lacks : Bool → Option Address → Option Address → Bool
pair_lacks compress destination source = compress && not (both_present destination source)

-- refusal 12 is given unless both addresses are there with equal PAN ids (document 02, request 4)
abbrev pub pair_shares : Option Address → Option Address → Bool
pair_shares None source = false
pair_shares (Some d) None = false
pair_shares (Some d) (Some s) = eqb (pan_of d).0 (pan_of s).0
