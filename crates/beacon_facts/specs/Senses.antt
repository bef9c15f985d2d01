-- The two senses of a direction bit, side by side. Document 02, request 6: "a set bit is Receive, a clear bit Transmit,
-- unused places stay Receive .. Bytes written from a read beacon don't change; records .. do". The crate's sense,
-- document 01's "set is Transmit, as in `beacon.rs`", is stated here, to be held beside `direction_bit`: no reader and
-- no writer has it.
use Rattle.std.specs.Prelude.{ℕ, ◌+◌, ◌*◌, cond, List, [], ◌∷◌, ◌++◌, map, eqb, take, drop}
use Rattle.octets.specs.Words.{flat_map}
use Rattle.octets.specs.Bits.{bits, bit}
use Rattle.octets.specs.Little.{number, split}
use Rattle.octets.specs.{Buffer.after, Order.first, Outcome.Outcome}
use Rattle.seven_places.specs.Seven.{seven}
use Rattle.superframe.specs.Superframe.{superframe_in, read_superframe, superframe_bytes}
use Rattle.time_slots.specs.declared.{Direction.Direction}
use Rattle.time_slots.specs.declared.Direction.TheVariants.{Receive, Transmit}
use Rattle.time_slots.specs.declared.{GuaranteedTimeSlotDescriptor.GuaranteedTimeSlotDescriptor}
use Rattle.time_slots.specs.declared.{GuaranteedTimeSlotInformation.GuaranteedTimeSlotInformation}
use Rattle.time_slots.specs.Descriptor.{descriptor_of, empty_descriptor, descriptor_in, descriptor_bytes}
use Rattle.time_slots.specs.TimeSlots.{time_slots_of, slot_count_in, read_time_slots, time_slots_header}
use Rattle.pending.specs.Pending.{pending_in, read_pending, pending_bytes}
use Rattle.beacon.specs.declared.{Beacon.Beacon, BeaconRead.BeaconRead}
use Rattle.beacon.specs.Beacon.{beacon_of, pending_place, beacon_length_in, refuses, beacon_refused, beacon_accepted}
use Rattle.beacon.specs.Beacon.{write_beacon}

-- a sense: the bit that stands for each direction
abbrev pub Sense : Type 0
Sense = Direction → ℕ

abbrev pub crate_sense : Sense
crate_sense Receive = 0
crate_sense Transmit = 1

-- the direction that a bit stands for
abbrev pub direction_in : Sense → ℕ → Direction
direction_in sense b = cond (eqb b (sense Transmit)) Transmit Receive

-- slot k of the list at a place, the GTS information and the beacon there; unused places are empty in every sense
abbrev pub slot_in : Sense → List ℕ → ℕ → ℕ → GuaranteedTimeSlotDescriptor
slot_in sense s at k = descriptor_in s (at + 1 + 3 * k) (direction_in sense (bits (number s at 1) k 1))

abbrev pub time_slots_in_sense : Sense → List ℕ → ℕ → GuaranteedTimeSlotInformation
time_slots_in_sense sense s at =
    let n = slot_count_in s at in
    time_slots_of (bit (number s at 1) 7) n (seven (slot_in sense s (at + 1)) empty_descriptor n)

abbrev pub beacon_in_sense : Sense → List ℕ → ℕ → Beacon
beacon_in_sense sense s at =
    beacon_of (superframe_in s at) (time_slots_in_sense sense s (at + 2)) (pending_in s (pending_place s at))

-- what reading the beacon answers
abbrev pub read_in_sense : Sense → List ℕ → ℕ → BeaconRead
read_in_sense sense s at =
    first (
    (refuses (read_superframe s at).outcome, beacon_refused) ∷
    (refuses (read_time_slots s (at + 2)).outcome, beacon_refused) ∷
    (refuses (read_pending s (pending_place s at)).outcome, beacon_refused) ∷
    []
    )
    (beacon_accepted (beacon_in_sense sense s at) (beacon_length_in s at))

-- the direction byte of a list of slots, what follows the GTS header, and the bytes of GTS information and of a beacon
abbrev pub directions_in_sense : Sense → List GuaranteedTimeSlotDescriptor → ℕ
directions_in_sense sense [] = 0
directions_in_sense sense (x ∷ l) = sense x.direction + 2 * directions_in_sense sense l

abbrev pub list_in_sense : Sense → List GuaranteedTimeSlotDescriptor → List ℕ
list_in_sense sense [] = []
list_in_sense sense (x ∷ l) = split 1 (directions_in_sense sense (x ∷ l)) ++ flat_map descriptor_bytes (x ∷ l)

abbrev pub time_slots_bytes_in_sense : Sense → GuaranteedTimeSlotInformation → List ℕ
time_slots_bytes_in_sense sense x =
    split 1 (time_slots_header x) ++ list_in_sense sense (take x.slot_count x.slots)

abbrev pub beacon_bytes_in_sense : Sense → Beacon → List ℕ
beacon_bytes_in_sense sense x =
    superframe_bytes x.superframe_spec
    ++ (time_slots_bytes_in_sense sense x.guaranteed_time_slot_info
    ++ pending_bytes x.pending_address)

-- read at a place and written into a buffer, both in one sense: what reading and writing answer, and the buffer
pub record Rewriting : Type 0 where
  pub read : Outcome
  pub written : Outcome
  pub buffer : List ℕ

abbrev pub writing_in_sense : Sense → BeaconRead → List ℕ → ℕ → Rewriting
writing_in_sense sense r out to =
    let written = write_beacon r.beacon out to in
    record {
      read = r.outcome;
      written = written;
      buffer = after written out to (beacon_bytes_in_sense sense r.beacon);
    }

abbrev pub rewriting_in_sense : Sense → List ℕ → ℕ → List ℕ → ℕ → Rewriting
rewriting_in_sense sense s at out to = writing_in_sense sense (read_in_sense sense s at) out to

-- a record with the names of its listed slots' directions exchanged; its unused places are as they are
abbrev pub other : Direction → Direction
other Receive = Transmit
other Transmit = Receive

abbrev pub turned : GuaranteedTimeSlotDescriptor → GuaranteedTimeSlotDescriptor
turned x = descriptor_of x.short_address x.starting_slot x.length (other x.direction)

abbrev pub turned_first : ℕ → List GuaranteedTimeSlotDescriptor → List GuaranteedTimeSlotDescriptor
turned_first n l = map turned (take n l) ++ drop n l

abbrev pub time_slots_exchanged : GuaranteedTimeSlotInformation → GuaranteedTimeSlotInformation
time_slots_exchanged x = time_slots_of x.permit x.slot_count (turned_first x.slot_count x.slots)

abbrev pub beacon_exchanged : Beacon → Beacon
beacon_exchanged x =
    beacon_of x.superframe_spec (time_slots_exchanged x.guaranteed_time_slot_info) x.pending_address

abbrev pub read_exchanged : BeaconRead → BeaconRead
read_exchanged r = record { outcome = r.outcome; beacon = beacon_exchanged r.beacon }
