-- The header record: how it is made, with the length that it keeps; whether it is secured, which PAN ids it has in a
-- frame, and its two lengths (document 01, "Header layout"; document 02, request 4).
use Rattle.std.specs.Prelude.{ℕ, ◌+◌, Bool, true, Option}
use Rattle.frame_control.specs.declared.{FrameControl.FrameControl}
use Rattle.address.specs.{Address.mode_of, Layout.address_length}
use Rattle.address_pair.specs.declared.AddressPair.{AddressPair}
use Rattle.address_pair.specs.Pair.{owns_to, owns_from, pair_end}
use Rattle.security.specs.Optional.{is_present}
use Rattle.header_parts.specs.Parts.{parts_length}
use Rattle.header.specs.declared.{Header.Header}
use Rattle.address.specs.declared.Address.{Address}
use Rattle.security.specs.declared.AuxiliarySecurityHeader.{AuxiliarySecurityHeader}

-- the record of a frame control, a sequence number, two addresses and a security header, which keeps the sum of its
-- parts: reading and the edits make every record by it
abbrev pub header_of : FrameControl → ℕ → Option Address → Option Address → Option AuxiliarySecurityHeader → Header
header_of control seq destination source security =
    record {
      frame_type = control.frame_type;
      frame_pending = control.frame_pending;
      ack_request = control.ack_request;
      pan_id_compress = control.pan_id_compress;
      seq_no_suppress = control.seq_no_suppress;
      ie_present = control.ie_present;
      version = control.version;
      seq = seq;
      destination = destination;
      source = source;
      auxiliary_security_header = security;
      length = parts_length control.pan_id_compress destination source security;
    }

abbrev pub secured : Header → Bool
secured h = is_present h.auxiliary_security_header

-- the frame control that a record's fields say, compressed or not
abbrev pub control_with : Header → Bool → FrameControl
control_with h compress =
    record {
      frame_type = h.frame_type;
      security = secured h;
      frame_pending = h.frame_pending;
      ack_request = h.ack_request;
      pan_id_compress = compress;
      seq_no_suppress = h.seq_no_suppress;
      ie_present = h.ie_present;
      destination = mode_of h.destination;
      version = h.version;
      source = mode_of h.source;
    }

-- the record with compression and addresses exchanged for those given: all else stays, and it keeps the sum of its
-- parts, whatever it kept before
abbrev pub edited : Header → Bool → Option Address → Option Address → Header
edited h compress destination source =
    header_of (control_with h compress) h.seq destination source h.auxiliary_security_header

-- the same record with the length of its parts
abbrev pub with_length : Header → Header
with_length h = edited h h.pan_id_compress h.destination h.source

-- the addresses, under compression or not
abbrev pub pair_of : Header → AddressPair
pair_of h = record { compress = h.pan_id_compress; destination = h.destination; source = h.source }

-- which PAN ids stand in the frame
abbrev pub owns_destination : Header → Bool
owns_destination h = owns_to h.pan_id_compress h.destination h.source

abbrev pub owns_source : Header → Bool
owns_source h = owns_from h.pan_id_compress h.destination h.source

-- the Rust crate's number: 3, plus 4 or 10 for each address, blind to compression and security
abbrev pub octet_size : Header → ℕ
octet_size h = 3 + address_length true h.destination + address_length true h.source

-- the bytes really occupied, which the record should keep
abbrev pub addresses_end : Header → ℕ
addresses_end h = pair_end h.pan_id_compress h.destination h.source

abbrev pub header_length : Header → ℕ
header_length h = parts_length h.pan_id_compress h.destination h.source h.auxiliary_security_header
