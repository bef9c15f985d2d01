-- Writing a header: the first refusal that holds (header_parts/specs/Parts has them in document 01's order, test by
-- test), or its bytes. The writer clears frame-control bits 7, 8 and 9, takes the key mode from the key identifier and
-- the counter from the caller.
use Rattle.std.specs.Prelude.{ℕ, Bool, List, ◌++◌, Option}
use Rattle.octets.specs.Little.{split}
use Rattle.frame_control.specs.{declared.FrameControl.FrameControl, Control.control_bits, Control.quiet_control}
use Rattle.address_pair.specs.Pair.{pair_bytes, pair_lacks}
use Rattle.security.specs.Optional.{optional_bytes}
use Rattle.header_parts.specs.{Parts.write_parts}
use Rattle.header.specs.declared.{Header.Header}
use Rattle.header.specs.Record.{control_with}
use Rattle.octets.specs.Outcome.{Outcome}

-- refusal 6: compression set, either address missing
abbrev pub lacks_address : Header → Bool
lacks_address h = pair_lacks h.pan_id_compress h.destination h.source

-- what writing into room bytes answers: the first refusal of its parts, in their order, or the length
abbrev pub write_header : Header → Option ℕ → ℕ → Outcome
write_header h counter room =
    write_parts
    h.length h.pan_id_compress h.destination h.source h.auxiliary_security_header
    counter room

-- the frame control of a record as it is written: both flags of bits 8 and 9 false
abbrev pub written_control : Header → FrameControl
written_control h = quiet_control (control_with h h.pan_id_compress)

-- the bytes of a record, part by part, written with a counter
abbrev pub fixed_bytes : Header → List ℕ
fixed_bytes h = split 2 (control_bits (written_control h)) ++ split 1 h.seq

abbrev pub addresses_bytes : Header → List ℕ
addresses_bytes h = pair_bytes h.pan_id_compress h.destination h.source

unfoldable pub header_bytes : Header → ℕ → List ℕ
header_bytes h counter = fixed_bytes h ++ (addresses_bytes h ++ optional_bytes h.auxiliary_security_header counter)
