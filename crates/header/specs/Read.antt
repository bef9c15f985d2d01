-- Reading a header: the first of document 01's refusals that holds (header_bytes/specs/Reading has the list, test by
-- test), or the record of its fields. Behind the frame control come the sequence byte, always, the addresses, and the
-- security header where the security bit announces one.
use Rattle.std.specs.Prelude.{ℕ, List, Option, Result, Ok, Err}
use Rattle.octets.specs.declared.Refusal.{Refusal}
use Rattle.octets.specs.{Bits.bits, Bits.bit, Little.number, Outcome.Outcome, Outcome.answered}
use Rattle.header_bytes.specs.{Layout.start, Layout.own_destination, Layout.own_source}
use Rattle.header_bytes.specs.{Layout.destination_end, Layout.source_end, Layout.header_end, Reading.read_tests}
use Rattle.frame_control.specs.{Control.control_of, Modes.mode_in}
use Rattle.identifiers.specs.PanId.{pan}
use Rattle.address.specs.declared.Address.{Address}
use Rattle.address.specs.{Address.shared_pan, Layout.address_in}
use Rattle.security.specs.Optional.{optional_in}
use Rattle.header.specs.declared.{Header.Header}
use Rattle.header.specs.Record.{header_of}

-- the addresses of a frame with the frame control w: a PAN id that does not stand in the frame is the destination's
abbrev pub destination_in : List ℕ → ℕ → Option Address
destination_in s w =
    address_in (own_destination (bits w 10 2) (bits w 14 2) (bit w 6)) (pan 0) (mode_in (bits w 10 2)) s (start (bit w 8))

abbrev pub source_in : List ℕ → ℕ → Option Address
source_in s w =
    address_in (own_source (bits w 10 2) (bits w 14 2) (bit w 6)) (shared_pan (destination_in s w)) (mode_in (bits w 14 2)) s
    (destination_end w)

-- the record of its fields
abbrev pub header_in : List ℕ → ℕ → Header
header_in s w =
    header_of (control_of w) (number s 2 1) (destination_in s w) (source_in s w) (optional_in (bit w 3) s (source_end w))

-- the header at the beginning of s, where its frame control is w, with its length
unfoldable pub read_by : List ℕ → ℕ → Result (Header × ℕ) Refusal
read_by s w = answered (read_tests s w) (header_in s w, header_end s w)

abbrev pub read_header : List ℕ → Result (Header × ℕ) Refusal
read_header s = read_by s (number s 0 2)

-- the length alone, or the refusal
abbrev pub read_outcome : Result (Header × ℕ) Refusal → Outcome
read_outcome (Ok p) = Ok p.1
read_outcome (Err r) = Err r
