-- Pending addresses, document 01, "Beacon layout" (IEEE 802.15.4-2011, 5.2.2.1.6 and 5.2.2.1.7). Header: short count
-- bits 0-2, extended count 4-6; short addresses first.
use Rattle.std.specs.Prelude.{ℕ, ◌+◌, ◌*◌, ◌^◌, Bool, ◌||◌, List, [], ◌∷◌, ◌++◌, ltb, take, replicate, Ok, Err}
use Rattle.octets.specs.Words.{flat_map}
use Rattle.octets.specs.{Bits.bits, Order.first, Part.ends, Value.write_value}
use Rattle.octets.specs.Little.{number, split}
use Rattle.identifiers.specs.declared.{ShortAddress.ShortAddress, ExtendedAddress.ExtendedAddress}
use Rattle.seven_places.specs.declared.{Listed.Listed}
use Rattle.pending.specs.declared.{PendingAddress.PendingAddress, PendingRead.PendingRead}
use Rattle.pending.specs.Addresses.{empty_short, empty_extended, shorts_in, extendeds_in, short_bytes, extended_bytes}
use Rattle.octets.specs.Outcome.{Outcome}
use Rattle.octets.specs.declared.Refusal.TheVariants.{Ended}

-- how many bytes the addresses take behind the header
abbrev pub addresses_length : ℕ → ℕ → ℕ
addresses_length shorts extendeds = 2 * shorts + 8 * extendeds

abbrev pub pending_of : ℕ → List ShortAddress → ℕ → List ExtendedAddress → PendingAddress
pending_of m shorts n extendeds =
    record {
      short_address_count = m;
      short_addresses = shorts;
      extended_address_count = n;
      extended_addresses = extendeds;
    }

abbrev pub empty_pending : PendingAddress
empty_pending = pending_of 0 (replicate 7 empty_short) 0 (replicate 7 empty_extended)

-- its short and its extended addresses: "the count with the array"
abbrev pub shorts_of : PendingAddress → Listed ShortAddress
shorts_of x = record { count = x.short_address_count; places = x.short_addresses }

abbrev pub extendeds_of : PendingAddress → Listed ExtendedAddress
extendeds_of x = record { count = x.extended_address_count; places = x.extended_addresses }

-- the counts in the header at a place, and all that stands there
abbrev pub short_count_in : List ℕ → ℕ → ℕ
short_count_in s at = bits (number s at 1) 0 3

abbrev pub extended_count_in : List ℕ → ℕ → ℕ
extended_count_in s at = bits (number s at 1) 4 3

unfoldable pub pending_in : List ℕ → ℕ → PendingAddress
pending_in s at =
    pending_of (short_count_in s at) (shorts_in s (at + 1) (short_count_in s at))
    (extended_count_in s at) (extendeds_in s (at + 1 + 2 * short_count_in s at) (extended_count_in s at))

abbrev pub pending_length_in : List ℕ → ℕ → ℕ
pending_length_in s at = 1 + addresses_length (short_count_in s at) (extended_count_in s at)

-- and what reading it there answers
abbrev pub pending_refused : PendingRead
pending_refused = record { outcome = Err Ended; pending_address = empty_pending }

unfoldable pub read_pending : List ℕ → ℕ → PendingRead
read_pending s at =
    first ((ends s at 1, pending_refused) ∷ (ends s at (pending_length_in s at), pending_refused) ∷ [])
    (record { outcome = Ok (pending_length_in s at); pending_address = pending_in s at })

-- the header, bits 3 and 7 clear
abbrev pub pending_header : PendingAddress → ℕ
pending_header x = x.short_address_count + 2 ^ 4 * x.extended_address_count

unfoldable pub pending_bytes : PendingAddress → List ℕ
pending_bytes x =
    split 1 (pending_header x)
    ++ (flat_map short_bytes (take x.short_address_count x.short_addresses)
    ++ flat_map extended_bytes (take x.extended_address_count x.extended_addresses))

abbrev pub pending_size : PendingAddress → ℕ
pending_size x = 1 + addresses_length x.short_address_count x.extended_address_count

-- refusal 8: a count above 7
unfoldable pub pending_too_large : PendingAddress → Bool
pending_too_large x = ltb 7 x.short_address_count || ltb 7 x.extended_address_count

unfoldable pub write_pending : PendingAddress → List ℕ → ℕ → Outcome
write_pending x out at = write_value (pending_too_large x) out at (pending_size x)
