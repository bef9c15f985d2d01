-- The PAN id: two bytes, little-endian (document 01, "Header layout"; IEEE 802.15.4-2011, 5.2.1.3 and 5.2.1.5).
use Rattle.std.specs.Prelude.{ℕ, List, Result}
use Rattle.octets.specs.declared.Refusal.{Refusal}
use Rattle.identifiers.specs.declared.PanId.{PanId}
use Rattle.identifiers.specs.Identifier.{read_identifier}

abbrev pub pan : ℕ → PanId
pan n = record { 0 = n }

-- the PAN id at a place
abbrev pub read_pan_id : List ℕ → ℕ → Result PanId Refusal
read_pan_id = read_identifier 2 pan
