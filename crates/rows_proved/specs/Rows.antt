-- Document 01, "Frames to try", rows P1 to P13: what reading a header, a beacon or a GTS field answers, its record, its
-- lengths, and what writing it again gives. P12 and P13 are as requests 6 and 2 of document 02 change them.
use Rattle.std.specs.Prelude.{ℕ, Bool, true, false, List, [], ◌∷◌, replicate, Option, Some, None, Result, Ok, Err}
use Rattle.octets.specs.{declared.Refusal.Refusal, Outcome.Outcome, Outcome.refusal_number}
use Rattle.key_identifier.specs.Key.{key_of}
use Rattle.frame_control.specs.declared.{FrameType.FrameType}
use Rattle.frame_control.specs.declared.FrameType.TheVariants.{Beacon as BeaconFrame, Data as DataFrame}
use Rattle.frame_control.specs.declared.FrameVersion.TheVariants.{Ieee802154_2003}
use Rattle.identifiers.specs.{PanId.pan, ShortAddress.short}
use Rattle.address.specs.declared.{Address.Address, Address.TheVariants.Short}
use Rattle.address.specs.Address.{mode_of}
use Rattle.security_control.specs.Control.{security_control_of}
use Rattle.security_control.specs.declared.KeyIdentifierMode.TheVariants.{KeyIndex}
use Rattle.security.specs.declared.{AuxiliarySecurityHeader.AuxiliarySecurityHeader}
use Rattle.security.specs.{Optional.is_present, Security.security_of}
use Rattle.header.specs.declared.{Header.Header}
use Rattle.header.specs.Record.{header_of, octet_size}
use Rattle.header.specs.Read.{read_header}
use Rattle.header.specs.Write.{write_header}
use Rattle.header_facts.specs.Rewritten.{own_counter, rewritten}
use Rattle.superframe.specs.declared.{SuperframeSpecification.SuperframeSpecification}
use Rattle.superframe.specs.declared.BeaconOrder.TheVariants.{BeaconOrder}
use Rattle.superframe.specs.declared.SuperframeOrder.TheVariants.{SuperframeOrder}
use Rattle.time_slots.specs.declared.{GuaranteedTimeSlotInformation.GuaranteedTimeSlotInformation}
use Rattle.time_slots.specs.declared.{TimeSlotsRead.TimeSlotsRead}
use Rattle.time_slots.specs.Descriptor.{descriptor_of, empty_descriptor}
use Rattle.time_slots.specs.TimeSlots.{time_slots_of, read_time_slots, time_slots_bytes, write_time_slots}
use Rattle.time_slots.specs.declared.{Direction.Direction}
use Rattle.time_slots.specs.declared.Direction.TheVariants.{Receive, Transmit}
use Rattle.pending.specs.Pending.{empty_pending}
use Rattle.beacon.specs.declared.{Beacon.Beacon, BeaconRead.BeaconRead}
use Rattle.beacon.specs.Beacon.{beacon_of, read_beacon, beacon_bytes, write_beacon}

-- what is asked for: the header, the beacon or the GTS field at the beginning of bytes
pub data Asked : Type 0 where
  header? : List ℕ → Asked
  beacon? : List ℕ → Asked
  slots? : List ℕ → Asked

-- what writing a record gives: its length and its bytes, or the refusal's number
pub data Written : Type 0 where
  written : ℕ → List ℕ → Written
  refused : ℕ → Written

-- what is to be seen of an answer: a refusal's number; or the record, its length, of a header also the length that the
-- record keeps and the Rust crate's number, and what writing it again gives, into a buffer of its length
pub data Seen : Type 0 where
  refusal : ℕ → Seen
  header : record { read : Header; length : ℕ; kept : ℕ; get_octet_size : ℕ; again : Written } → Seen
  beacon : record { read : Beacon; length : ℕ; again : Written } → Seen
  slots : record { read : GuaranteedTimeSlotInformation; length : ℕ; again : Written } → Seen

abbrev written_as : Outcome → List ℕ → Written
written_as (Ok n) bytes = written n bytes
written_as (Err r) bytes = refused (refusal_number r)

abbrev header_again : Header → ℕ → Written
header_again h n = written_as (write_header h (own_counter h) n) (rewritten h)

abbrev beacon_again : Beacon → ℕ → Written
beacon_again x n = written_as (write_beacon x (replicate n 0) 0) (beacon_bytes x)

abbrev slots_again : GuaranteedTimeSlotInformation → ℕ → Written
slots_again x n = written_as (write_time_slots x (replicate n 0) 0) (time_slots_bytes x)

abbrev pub header_seen : Result (Header × ℕ) Refusal → Seen
header_seen (Ok (h, n)) =
    header (record { read = h; length = n; kept = h.length; get_octet_size = octet_size h; again = header_again h n })
header_seen (Err r) = refusal (refusal_number r)

-- of an answer with its outcome beside it
abbrev outcome_seen : Outcome → (ℕ → Seen) → Seen
outcome_seen (Ok n) accepted = accepted n
outcome_seen (Err r) accepted = refusal (refusal_number r)

abbrev pub beacon_seen : BeaconRead → Seen
beacon_seen r =
    let x = r.beacon in
    outcome_seen r.outcome (λ n. beacon (record { read = x; length = n; again = beacon_again x n }))

abbrev pub slots_seen : TimeSlotsRead → Seen
slots_seen r =
    let x = r.guaranteed_time_slot_info in
    outcome_seen r.outcome (λ n. slots (record { read = x; length = n; again = slots_again x n }))

abbrev pub seen : Asked → Seen
seen (header? s) = header_seen (read_header s)
seen (beacon? s) = beacon_seen (read_beacon s 0)
seen (slots? s) = slots_seen (read_time_slots s 0)

-- the headers of the rows: version 0, no pending data and no acknowledgement asked for; compressed or not; flagged, by
-- bits 8 and 9 both, or by neither
abbrev pub header_with : FrameType → (compressed flagged : Bool) → ℕ → (destination source : Option Address) →
    Option AuxiliarySecurityHeader → Header
header_with kind compressed flagged seq destination source security =
    header_of
    (record {
      frame_type = kind;
      security = is_present security;
      frame_pending = false;
      ack_request = false;
      pan_id_compress = compressed;
      seq_no_suppress = flagged;
      ie_present = flagged;
      destination = mode_of destination;
      version = Ieee802154_2003;
      source = mode_of source;
    })
    seq destination source security

abbrev compressed : Bool
compressed = true

abbrev uncompressed : Bool
uncompressed = false

abbrev flagged : Bool
flagged = true

abbrev unflagged : Bool
unflagged = false

-- a short address in a PAN
abbrev pub device : (panId address : ℕ) → Option Address
device p a = Some (Short (pan p) (short a))

abbrev pub nobody : Option Address
nobody = None

abbrev pub unsecured : Option AuxiliarySecurityHeader
unsecured = None

-- level 5, counter 1, a key's index 7 and no source of it
abbrev pub level_five : Option AuxiliarySecurityHeader
level_five = Some (security_of (security_control_of 5 KeyIndex) 1 (key_of None 7))

-- orders 6 and 4, slot 15, coordinator, association permit
abbrev pub orders_six_four : SuperframeSpecification
orders_six_four =
    record {
      beacon_order = BeaconOrder 6;
      superframe_order = SuperframeOrder 4;
      final_cap_slot = 15;
      battery_life_extension = false;
      pan_coordinator = true;
      association_permit = true;
    }

-- permit, one slot of device 2, start 5, length 3
abbrev pub one_slot : Direction → GuaranteedTimeSlotInformation
one_slot direction = time_slots_of true 1 (descriptor_of (short 2) 5 3 direction ∷ replicate 6 empty_descriptor)

abbrev pub p7 : List ℕ
p7 = 0x41 ∷ 0x88 ∷ 0x07 ∷ 0x34 ∷ 0x12 ∷ 0x01 ∷ 0x00 ∷ 0x02 ∷ 0x00 ∷ []

abbrev pub p13 : List ℕ
p13 = 0x81 ∷ 0x01 ∷ 0x02 ∷ 0x00 ∷ 0x35 ∷ []

abbrev pub p13clear : List ℕ
p13clear = 0x81 ∷ 0x00 ∷ 0x02 ∷ 0x00 ∷ 0x35 ∷ []

abbrev pub rows : List (Asked × Seen)
rows =
    -- P1
    (header? [], refusal 1) ∷
    -- P2
    (
      header? (0x00 ∷ 0x00 ∷ 0x05 ∷ []),
      header (record {
        read = header_with BeaconFrame uncompressed unflagged 5 nobody nobody unsecured;
        length = 3;
        kept = 3;
        get_octet_size = 3;
        again = written 3 (0x00 ∷ 0x00 ∷ 0x05 ∷ []);
      }),
    ) ∷
    -- P3: version 3, though type 4 too
    (header? (0x04 ∷ 0x30 ∷ 0x00 ∷ []), refusal 2) ∷
    -- P4
    (header? (0x04 ∷ 0x00 ∷ 0x00 ∷ []), refusal 3) ∷
    -- P5
    (header? (0x01 ∷ 0x40 ∷ 0x00 ∷ []), refusal 4) ∷
    -- P6: compression without a destination, though no source bytes follow
    (header? (0x41 ∷ 0x80 ∷ 0x00 ∷ []), refusal 5) ∷
    -- P7
    (
      header? p7,
      header (record {
        read = header_with DataFrame compressed unflagged 7 (device 0x1234 1) (device 0x1234 2) unsecured;
        length = 9;
        kept = 9;
        get_octet_size = 11;  -- blind to compression
        again = written 9 p7;
      }),
    ) ∷
    -- P8: P7 less its last byte
    (header? (0x41 ∷ 0x88 ∷ 0x07 ∷ 0x34 ∷ 0x12 ∷ 0x01 ∷ 0x00 ∷ 0x02 ∷ []), refusal 1) ∷
    -- P9: compression without a source is read, and not written
    (
      header? (0x41 ∷ 0x08 ∷ 0x07 ∷ 0x34 ∷ 0x12 ∷ 0x01 ∷ 0x00 ∷ []),
      header (record {
        read = header_with DataFrame compressed unflagged 7 (device 0x1234 1) nobody unsecured;
        length = 7;
        kept = 7;
        get_octet_size = 7;
        again = refused 6;
      }),
    ) ∷
    -- P10: bits 7, 8 and 9 set, rewritten as P7
    (
      header? (0xC1 ∷ 0x8B ∷ 0x07 ∷ 0x34 ∷ 0x12 ∷ 0x01 ∷ 0x00 ∷ 0x02 ∷ 0x00 ∷ []),
      header (record {
        read = header_with DataFrame compressed flagged 7 (device 0x1234 1) (device 0x1234 2) unsecured;
        length = 9;
        kept = 9;
        get_octet_size = 11;
        again = written 9 p7;
      }),
    ) ∷
    -- P11: security control bits 5 to 7 set, rewritten with 0D for ED
    (
      header? (0x09 ∷ 0x00 ∷ 0x01 ∷ 0xED ∷ 0x01 ∷ 0x00 ∷ 0x00 ∷ 0x00 ∷ 0x07 ∷ []),
      header (record {
        read = header_with DataFrame uncompressed unflagged 1 nobody nobody level_five;
        length = 9;
        kept = 9;
        get_octet_size = 3;
        again = written 9 (0x09 ∷ 0x00 ∷ 0x01 ∷ 0x0D ∷ 0x01 ∷ 0x00 ∷ 0x00 ∷ 0x00 ∷ 0x07 ∷ []);
      }),
    ) ∷
    -- P12: one direction bit of a slot that is there, set and so Receive (request 6), seven of slots that are not
    (
      beacon? (0x46 ∷ 0xCF ∷ 0x81 ∷ 0xFF ∷ 0x02 ∷ 0x00 ∷ 0x35 ∷ 0x00 ∷ []),
      beacon (record {
        read = beacon_of orders_six_four (one_slot Receive) empty_pending;
        length = 8;
        again = written 8 (0x46 ∷ 0xCF ∷ 0x81 ∷ 0x01 ∷ 0x02 ∷ 0x00 ∷ 0x35 ∷ 0x00 ∷ []);
      }),
    ) ∷
    -- P13: a GTS field alone, less its last byte and whole, with nothing behind it (request 2)
    (slots? (0x81 ∷ 0x01 ∷ 0x02 ∷ 0x00 ∷ []), refusal 1) ∷
    (slots? p13, slots (record { read = one_slot Receive; length = 5; again = written 5 p13 })) ∷
    -- and with its direction bit clear: the slot is Transmit, unused places stay Receive (request 6)
    (slots? p13clear, slots (record { read = one_slot Transmit; length = 5; again = written 5 p13clear })) ∷
    []
