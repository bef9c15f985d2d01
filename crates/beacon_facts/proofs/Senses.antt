-- The two senses of a direction bit beside each other. In the crate's sense bytes are read as the record with the names of its listed
-- slots' directions exchanged, a record is written as that with the names exchanged is here, and so what is read and written again gives
-- the same bytes in both.
-- Assumes nothing.
use Prim.Native.Nat.{ℕ, zero, suc, ◌+◌, ◌≤◌, ◌<◌}
use native.Mathlib.Omega.{arith}
use mathlib.Core.List.{List, [], ◌∷◌, map, flat_map}
use mathlib.Core.Path.{◌≡◌, refl, sym, ap, ◌∙◌}
use lib.ListN.{take}
use Rattle.octets.specs.Bits.{bits}
use Rattle.octets.specs.Little.{number}
use Rattle.octets.proofs.Cases.{cases, holds?}
use Rattle.seven_places.specs.Seven.{seven, some}
use Rattle.seven_places.proofs.Seven.{seven_same, in_use_changed}
use Rattle.superframe.specs.Superframe.{read_superframe}
use Rattle.time_slots.specs.declared.Direction.{Direction}
use Rattle.time_slots.specs.declared.Direction.TheVariants.{Receive, Transmit}
use Rattle.time_slots.specs.declared.GuaranteedTimeSlotDescriptor.{GuaranteedTimeSlotDescriptor}
use Rattle.time_slots.specs.declared.GuaranteedTimeSlotInformation.{GuaranteedTimeSlotInformation}
use Rattle.time_slots.specs.Direction.{direction_bit, direction_of}
use Rattle.time_slots.specs.Descriptor.{empty_descriptor, descriptor_in, descriptor_bytes, descriptor_too_large}
use Rattle.time_slots.specs.TimeSlots.{slot_at, slots_in, slot_count_in, time_slots_in, read_time_slots, directions_of, list_bytes, time_slots_bytes}
use Rattle.time_slots.specs.TimeSlots.{time_slots_too_large}
use Rattle.pending.specs.Pending.{read_pending}
use Rattle.beacon.specs.declared.{Beacon.Beacon, BeaconRead.BeaconRead}
use Rattle.beacon.specs.Beacon.{pending_place, beacon_in, refuses, read_beacon, beacon_bytes, beacon_too_large, write_beacon}
use Rattle.beacon_facts.specs.RoundTrip.{beacon_after}
use Rattle.beacon_facts.specs.Senses.{crate_sense, direction_in, slot_in, time_slots_in_sense, read_in_sense, directions_in_sense, list_in_sense}
use Rattle.beacon_facts.specs.Senses.{time_slots_bytes_in_sense, beacon_bytes_in_sense, writing_in_sense, rewriting_in_sense}
use Rattle.beacon_facts.specs.Senses.{other, turned, turned_first, time_slots_exchanged, beacon_exchanged, read_exchanged}

-- in the sense of `direction_bit` they are the definitions of the readers and the writers
pub time_slots_here : (s : List ℕ) (at : ℕ) → time_slots_in_sense direction_bit s at ≡ time_slots_in s at
unfolding time_slots_in slot_at
time_slots_here s at = refl

pub read_here : (s : List ℕ) (at : ℕ) → read_in_sense direction_bit s at ≡ read_beacon s at
unfolding read_beacon beacon_in time_slots_in slot_at
read_here s at = refl

directions_here : (l : List GuaranteedTimeSlotDescriptor) → directions_in_sense direction_bit l ≡ directions_of l
unfolding directions_of
directions_here [] = refl
directions_here (x ∷ l) = rw (directions_here l)

list_here : (l : List GuaranteedTimeSlotDescriptor) → list_in_sense direction_bit l ≡ list_bytes l
unfolding list_bytes
list_here [] = refl
list_here (x ∷ l) = rw (directions_here (x ∷ l))

pub time_slots_bytes_here : (x : GuaranteedTimeSlotInformation) → time_slots_bytes_in_sense direction_bit x ≡ time_slots_bytes x
unfolding time_slots_bytes
time_slots_bytes_here x = rw (list_here (take x.slot_count x.slots))

pub beacon_bytes_here : (x : Beacon) → beacon_bytes_in_sense direction_bit x ≡ beacon_bytes x
unfolding beacon_bytes
beacon_bytes_here x = rw (time_slots_bytes_here x.guaranteed_time_slot_info)

-- in the crate's sense a direction has the other one's bit, and a bit means the other direction
bit_exchanged : (d : Direction) → crate_sense d ≡ direction_bit (other d)
bit_exchanged Receive = refl
bit_exchanged Transmit = refl

direction_exchanged : (b : ℕ) → b < 2 → direction_in crate_sense b ≡ other (direction_of b)
direction_exchanged zero h = refl
direction_exchanged (suc zero) h = refl
direction_exchanged (suc (suc b)) h = absurd (omega arith)

-- bytes are read in the crate's sense as they are here, but for the names of the listed slots' directions
slot_exchanged : (s : List ℕ) (at k : ℕ) → slot_in crate_sense s at k ≡ turned (slot_at s at k)
unfolding slot_at descriptor_in
slot_exchanged s at k = rw (direction_exchanged (bits (number s at 1) k 1) (omega arith))

slots_exchanged : (s : List ℕ) (at n : ℕ) → n ≤ 7 → seven (slot_in crate_sense s at) empty_descriptor n ≡ turned_first n (slots_in s at n)
slots_exchanged s at n few =
    seven_same (slot_in crate_sense s at) (λ (k : ℕ). turned (slot_at s at k)) empty_descriptor n (λ k h. slot_exchanged s at k)
    ∙ sym (in_use_changed turned (slot_at s at) empty_descriptor n few)

pub time_slots_exchanged_lem : (s : List ℕ) (at : ℕ) → time_slots_in_sense crate_sense s at ≡ time_slots_exchanged (time_slots_in s at)
unfolding time_slots_in
time_slots_exchanged_lem s at = rw (slots_exchanged s (at + 1) (slot_count_in s at) (omega arith))

pub read_exchanged_lem : (s : List ℕ) (at : ℕ) → read_in_sense crate_sense s at ≡ read_exchanged (read_beacon s at)
unfolding read_beacon beacon_in
read_exchanged_lem s at =
    cases (holds? (refuses (read_superframe s at).outcome)) (λ e. simp e) (λ e.
    cases (holds? (refuses (read_time_slots s (at + 2)).outcome)) (λ f. simp (e, f)) (λ f.
    cases (holds? (refuses (read_pending s (pending_place s at)).outcome)) (λ g. simp (e, f, g)) (λ g.
    simp (e, f, g, time_slots_exchanged_lem s (at + 2)))))

-- exchanged twice, the names are as they were
other_twice : (d : Direction) → other (other d) ≡ d
other_twice Receive = refl
other_twice Transmit = refl

turned_twice : (n : ℕ) (l : List GuaranteedTimeSlotDescriptor) → turned_first n (turned_first n l) ≡ l
turned_twice zero l = refl
turned_twice (suc n) [] = refl
turned_twice (suc n) (x ∷ l) = rw (other_twice x.direction, turned_twice n l)

pub exchanged_twice : (x : GuaranteedTimeSlotInformation) → time_slots_exchanged (time_slots_exchanged x) ≡ x
exchanged_twice x = rw (turned_twice x.slot_count x.slots)

-- of what is written, only the direction byte sees an exchange
turned_first_lem : (n : ℕ) (l : List GuaranteedTimeSlotDescriptor) → take n (turned_first n l) ≡ map turned (take n l)
turned_first_lem zero l = refl
turned_first_lem (suc n) [] = refl
turned_first_lem (suc n) (x ∷ l) = rw (turned_first_lem n l)

directions_turned : (l : List GuaranteedTimeSlotDescriptor) → directions_in_sense crate_sense l ≡ directions_of (map turned l)
unfolding directions_of
directions_turned [] = refl
directions_turned (x ∷ l) = rw (bit_exchanged x.direction, directions_turned l)

slots_turned : (l : List GuaranteedTimeSlotDescriptor) → flat_map descriptor_bytes (map turned l) ≡ flat_map descriptor_bytes l
unfolding flat_map descriptor_bytes
slots_turned [] = refl
slots_turned (x ∷ l) = rw (slots_turned l)

fits_turned : (l : List GuaranteedTimeSlotDescriptor) → some descriptor_too_large (map turned l) ≡ some descriptor_too_large l
unfolding some descriptor_too_large
fits_turned [] = refl
fits_turned (x ∷ l) = rw (fits_turned l)

list_turned : (l : List GuaranteedTimeSlotDescriptor) → list_in_sense crate_sense l ≡ list_bytes (map turned l)
unfolding list_bytes
list_turned [] = refl
list_turned (x ∷ l) = rw (directions_turned (x ∷ l), slots_turned (x ∷ l))

-- a record is written in the crate's sense as it is here with the names exchanged, and answered alike
pub time_slots_written : (x : GuaranteedTimeSlotInformation) → time_slots_bytes_in_sense crate_sense x ≡ time_slots_bytes (time_slots_exchanged x)
unfolding time_slots_bytes
time_slots_written x = rw (list_turned (take x.slot_count x.slots), turned_first_lem x.slot_count x.slots)

pub time_slots_fit_alike : (x : GuaranteedTimeSlotInformation) → time_slots_too_large (time_slots_exchanged x) ≡ time_slots_too_large x
unfolding time_slots_too_large
time_slots_fit_alike x = rw (turned_first_lem x.slot_count x.slots, fits_turned (take x.slot_count x.slots))

pub beacon_written : (x : Beacon) → beacon_bytes_in_sense crate_sense x ≡ beacon_bytes (beacon_exchanged x)
unfolding beacon_bytes
beacon_written x = rw (time_slots_written x.guaranteed_time_slot_info)

pub beacon_answered : (x : Beacon) (out : List ℕ) (to : ℕ) → write_beacon (beacon_exchanged x) out to ≡ write_beacon x out to
unfolding write_beacon beacon_too_large
beacon_answered x out to = rw (time_slots_fit_alike x.guaranteed_time_slot_info)

-- so the bytes of GTS information that was read are the same in both senses
pub time_slots_same_bytes : (s : List ℕ) (at : ℕ) →
    time_slots_bytes_in_sense crate_sense (time_slots_in_sense crate_sense s at)
    ≡ time_slots_bytes_in_sense direction_bit (time_slots_in_sense direction_bit s at)
time_slots_same_bytes s at =
    let x = time_slots_in s at in
    ap (time_slots_bytes_in_sense crate_sense) (time_slots_exchanged_lem s at)
    ∙ time_slots_written (time_slots_exchanged x)
    ∙ ap time_slots_bytes (exchanged_twice x)
    ∙ sym (ap (time_slots_bytes_in_sense direction_bit) (time_slots_here s at) ∙ time_slots_bytes_here x)

-- and so is all that rewriting a beacon gives
module _ (out : List ℕ) (to : ℕ) where
  writing_exchanged : (r : BeaconRead) → writing_in_sense crate_sense (read_exchanged r) out to ≡ writing_in_sense direction_bit r out to
  writing_exchanged r =
      let x = r.beacon in
      rw (
        beacon_answered x out to,
        beacon_written (beacon_exchanged x),
        exchanged_twice x.guaranteed_time_slot_info,
        beacon_bytes_here x,
      )

  module _ (s : List ℕ) (at : ℕ) where
    pub beacon_same_bytes : rewriting_in_sense crate_sense s at out to ≡ rewriting_in_sense direction_bit s at out to
    beacon_same_bytes =
        ap (λ (r : BeaconRead). writing_in_sense crate_sense r out to) (read_exchanged_lem s at)
        ∙ writing_exchanged (read_beacon s at)
        ∙ sym (ap (λ (r : BeaconRead). writing_in_sense direction_bit r out to) (read_here s at))

    -- which is what the contracts of `Beacon::read` and `Beacon::write` say
    pub rewriting_here : rewriting_in_sense direction_bit s at out to
        ≡ record {
          read = (read_beacon s at).outcome;
          written = write_beacon (read_beacon s at).beacon out to;
          buffer = beacon_after (read_beacon s at).beacon out to;
        }
    rewriting_here = rw (read_here s at, beacon_bytes_here (read_beacon s at).beacon)
