-- Lists of short and of extended addresses side by side (IEEE 802.15.4-2011, 5.2.2.1.7), two and eight bytes each.
use Rattle.std.specs.Prelude.{ℕ, ◌+◌, ◌-◌, ◌*◌, ◌^◌, List}
use Rattle.octets.specs.Little.{number, split}
use Rattle.identifiers.specs.declared.{ShortAddress.ShortAddress, ExtendedAddress.ExtendedAddress}
use Rattle.identifiers.specs.{ShortAddress.short, ExtendedAddress.extended}
use Rattle.seven_places.specs.Seven.{seven}

-- address k of the list at a place, of so many bytes, made of its number
abbrev pub address_at : {T : Type 0} → ℕ → (ℕ → T) → List ℕ → ℕ → ℕ → T
address_at width of s at k = of (number s (at + width * k) width)

unfoldable pub short_at : List ℕ → ℕ → ℕ → ShortAddress
short_at = address_at 2 short

unfoldable pub extended_at : List ℕ → ℕ → ℕ → ExtendedAddress
extended_at = address_at 8 extended

-- an unused place: a broadcast address
abbrev pub empty_short : ShortAddress
empty_short = short 0xffff

abbrev pub empty_extended : ExtendedAddress
empty_extended = extended 0xffff_ffff_ffff_ffff

-- the n addresses of the list, and broadcast ones behind them
abbrev pub addresses_in : {T : Type 0} → ℕ → (ℕ → T) → List ℕ → ℕ → ℕ → List T
addresses_in width of s at n = seven (address_at width of s at) (of (256 ^ width - 1)) n

abbrev pub shorts_in : List ℕ → ℕ → ℕ → List ShortAddress
shorts_in s at n = seven (short_at s at) empty_short n

abbrev pub extendeds_in : List ℕ → ℕ → ℕ → List ExtendedAddress
extendeds_in s at n = seven (extended_at s at) empty_extended n

-- the bytes of one
abbrev pub short_bytes : ShortAddress → List ℕ
short_bytes a = split 2 a.0

abbrev pub extended_bytes : ExtendedAddress → List ℕ
extended_bytes a = split 8 a.0
