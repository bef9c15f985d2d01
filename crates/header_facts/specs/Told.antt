-- From a record's side: what is read of a record that was written with a counter, and which records a program can hold.
use Rattle.std.specs.Prelude.{ℕ, ◌^◌, ◌<◌, Option, Some, None}
use Rattle.key_identifier.specs.Key.{SmallKey}
use Rattle.address.specs.{Address.shared_pan, Layout.sharing, Layout.SmallAddress}
use Rattle.security.specs.{declared.AuxiliarySecurityHeader.AuxiliarySecurityHeader, RoundTrip.security_told}
use Rattle.header.specs.{declared.Header.Header, Record.owns_source}
use Rattle.header_facts.specs.Rewritten.{quiet}

-- both flags false, that counter, the key mode of the key identifier and, under compression, the destination's PAN id
-- for the source's
abbrev pub part_told : Option AuxiliarySecurityHeader → ℕ → Option AuxiliarySecurityHeader
part_told None counter = None
part_told (Some k) counter = Some (security_told k counter)

abbrev pub header_told : Header → ℕ → Header
header_told h counter =
    quiet h
    (sharing (owns_source h) (shared_pan h.destination) h.source)
    (part_told h.auxiliary_security_header counter)

-- each number within its width, as in every record that a program can hold
abbrev pub SmallPart : Option AuxiliarySecurityHeader → Type 0
SmallPart None = Unit
SmallPart (Some k) = SmallKey k.key_identifier

pub record Small (h : Header) : Type 0 where
  pub seq : h.seq < 256 ^ 1
  pub destination : SmallAddress h.destination
  pub source : SmallAddress h.source
  pub security : SmallPart h.auxiliary_security_header
