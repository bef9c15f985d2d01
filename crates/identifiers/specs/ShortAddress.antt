-- The short address: two bytes, little-endian (document 01, "Header layout"; IEEE 802.15.4-2011, 5.2.1.4 and 5.2.1.6).
use Rattle.std.specs.Prelude.{ℕ, List, Result}
use Rattle.octets.specs.declared.Refusal.{Refusal}
use Rattle.identifiers.specs.declared.ShortAddress.{ShortAddress}
use Rattle.identifiers.specs.Identifier.{read_identifier}

abbrev pub short : ℕ → ShortAddress
short n = record { 0 = n }

-- the short address at a place
abbrev pub read_short : List ℕ → ℕ → Result ShortAddress Refusal
read_short = read_identifier 2 short
