-- The extended address: eight bytes, little-endian (document 01, "Header layout"; IEEE 802.15.4-2011, 5.2.1.4 and
-- 5.2.1.6).
use Rattle.std.specs.Prelude.{ℕ, List, Result}
use Rattle.octets.specs.declared.Refusal.{Refusal}
use Rattle.identifiers.specs.declared.ExtendedAddress.{ExtendedAddress}
use Rattle.identifiers.specs.Identifier.{read_identifier}

abbrev pub extended : ℕ → ExtendedAddress
extended n = record { 0 = n }

-- the extended address at a place
abbrev pub read_extended : List ℕ → ℕ → Result ExtendedAddress Refusal
read_extended = read_identifier 8 extended
