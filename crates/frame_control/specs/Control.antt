-- The frame control field, document 01, "Header layout" (IEEE 802.15.4-2011, 5.2.1.1): type bits 0-2, security 3,
-- pending 4, acknowledgement request 5, PAN compression 6, bit 7 not read, sequence suppression 8, elements present 9,
-- destination mode 10-11, version 12-13, source mode 14-15.
use Rattle.std.specs.Prelude.{ℕ, ◌+◌, ◌*◌, ◌^◌, false, [], ◌∷◌, eqb, Result}
use Rattle.octets.specs.{declared.Refusal.Refusal, Bits.bits, Bits.bit, Bits.bit_of, Outcome.answered}
use Rattle.frame_control.specs.declared.FrameControl.{FrameControl}
use Rattle.frame_control.specs.{Types.type_in, Types.type_bits, Versions.version_in, Versions.version_bits}
use Rattle.frame_control.specs.{Modes.mode_in, Modes.mode_bits}

-- the fields of the number w
abbrev pub control_of : ℕ → FrameControl
control_of w =
    record {
      frame_type = type_in (bits w 0 3);
      security = bit w 3;
      frame_pending = bit w 4;
      ack_request = bit w 5;
      pan_id_compress = bit w 6;
      seq_no_suppress = bit w 8;
      ie_present = bit w 9;
      destination = mode_in (bits w 10 2);
      version = version_in (bits w 12 2);
      source = mode_in (bits w 14 2);
    }

-- what the number w says, or the first refusal: version, type, destination mode, source mode
unfoldable pub control_in : ℕ → Result FrameControl Refusal
control_in w =
    answered
    ((eqb (bits w 12 2) 3, Refusal.Version) ∷
    (eqb (bits w 0 3) 4, Refusal.FrameType) ∷
    (eqb (bits w 10 2) 1, Refusal.AddressMode) ∷
    (eqb (bits w 14 2) 1, Refusal.AddressMode) ∷
    [])
    (control_of w)

-- the fields put together, bit 7 clear
unfoldable pub control_bits : FrameControl → ℕ
control_bits c =
    type_bits c.frame_type
    + 2 ^ 3 * bit_of c.security
    + 2 ^ 4 * bit_of c.frame_pending
    + 2 ^ 5 * bit_of c.ack_request
    + 2 ^ 6 * bit_of c.pan_id_compress
    + 2 ^ 8 * bit_of c.seq_no_suppress
    + 2 ^ 9 * bit_of c.ie_present
    + 2 ^ 10 * mode_bits c.destination
    + 2 ^ 12 * version_bits c.version
    + 2 ^ 14 * mode_bits c.source

-- the fields with the flags of bits 8 and 9 false, as a header's writer puts them together
abbrev pub quiet_control : FrameControl → FrameControl
quiet_control c =
    record {
      frame_type = c.frame_type;
      security = c.security;
      frame_pending = c.frame_pending;
      ack_request = c.ack_request;
      pan_id_compress = c.pan_id_compress;
      seq_no_suppress = false;
      ie_present = false;
      destination = c.destination;
      version = c.version;
      source = c.source;
    }
