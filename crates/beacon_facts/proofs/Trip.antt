-- Demand 3 for the beacon and each of its parts, from the bytes and from the record; for the beacon with every byte of a buffer, and its
-- length.
-- Assumes nothing.
use Prim.Native.Nat.{ℕ, ◌+◌, ◌≤◌}
use native.Mathlib.Omega.{arith}
use mathlib.Core.List.{List, ◌++◌}
use mathlib.Core.Path.{◌≡◌, sym, ap, ◌∙◌}
use lib.ListN.{length, take, drop}
use lib.Seq.{length-take-le}
use Rattle.std.specs.Prelude.{Ok}
use Rattle.octets.specs.Buffer.{laid}
use Rattle.octets.specs.Little.{Bytes}
use Rattle.octets.specs.Outcome.{number_of, length_of}
use Rattle.octets.proofs.Buffer.{laid_length, laid_again}
use Rattle.time_slots.specs.TimeSlots.{slots_length, slot_count_in}
use Rattle.beacon.specs.declared.Beacon.{Beacon}
use Rattle.beacon.specs.declared.BeaconRead.{BeaconRead}
use Rattle.beacon.specs.Beacon.{beacon_length_in, beacon_accepted, read_beacon, beacon_bytes, write_beacon}
use Rattle.beacon_facts.specs.Format.{FromBytes, FromRecord, FromBuffer}
use Rattle.beacon_facts.specs.RoundTrip.{RoundTrip, beacon_after}
use Rattle.beacon_facts.specs.Formats.{superframe, descriptor, time_slots, pending, beacon}
use Rattle.beacon_facts.proofs.Format.{rewritten, stored}
use Rattle.beacon_facts.proofs.Superframe.{superframe_laws}
use Rattle.beacon_facts.proofs.Descriptor.{descriptor_laws}
use Rattle.beacon_facts.proofs.TimeSlots.{time_slots_laws, few_length}
use Rattle.beacon_facts.proofs.Pending.{pending_laws}
use Rattle.beacon_facts.proofs.Beacon.{beacon_laws, beacon_read, all_found}

pub superframe_rewritten : FromBytes superframe
superframe_rewritten = rewritten superframe superframe_laws

pub superframe_returned : FromRecord superframe
superframe_returned = superframe_laws.returned

pub descriptor_rewritten : FromBytes descriptor
descriptor_rewritten = rewritten descriptor descriptor_laws

pub descriptor_returned : FromRecord descriptor
descriptor_returned = descriptor_laws.returned

pub time_slots_rewritten : FromBytes time_slots
time_slots_rewritten = rewritten time_slots time_slots_laws

pub time_slots_returned : FromRecord time_slots
time_slots_returned = time_slots_laws.returned

pub time_slots_stored : FromBuffer time_slots
time_slots_stored = stored time_slots time_slots_laws

pub pending_rewritten : FromBytes pending
pending_rewritten = rewritten pending pending_laws

pub pending_returned : FromRecord pending
pending_returned = pending_laws.returned

pub beacon_rewritten : FromBytes beacon
beacon_rewritten = rewritten beacon beacon_laws

pub beacon_returned : FromRecord beacon
beacon_returned = beacon_laws.returned

-- no beacon has more than 96 bytes
pub beacon_most : (s : List ℕ) (at : ℕ) → beacon_length_in s at ≤ 96
unfolding beacon_length_in
beacon_most s at =
    let slots : slots_length (slot_count_in s (at + 2)) ≤ 22 = few_length (slot_count_in s (at + 2)) (omega arith) in
    omega arith

-- an accepted beacon occupies 4 to 96 bytes and never more than the input
pub beacon_occupies : (s : List ℕ) (at : ℕ) (x : Beacon) (n : ℕ) → read_beacon s at ≡ beacon_accepted x n →
    (4 ≤ n) × (n ≤ 96) × (at + n ≤ length s)
unfolding beacon_length_in
beacon_occupies s at x n e =
    let read = beacon_read s at (ap (λ (r : BeaconRead). number_of r.outcome) e) in
    let count : beacon_length_in s at ≡ n = ap (λ (r : BeaconRead). length_of r.outcome) (sym read.0 ∙ e) in
    rw (sym count) (omega arith, beacon_most s at, omega (arith, all_found s at read.1))

-- an accepted writing stores the bytes
after_stored : (x : Beacon) (n : ℕ) (out : List ℕ) (to : ℕ) → write_beacon x out to ≡ Ok n →
    beacon_after x out to ≡ laid out to (beacon_bytes x)
after_stored x n out to e = rw e

pub round_trip : (s : List ℕ) (at : ℕ) (x : Beacon) (n : ℕ) (out : List ℕ) (to : ℕ) → Bytes s → read_beacon s at ≡ beacon_accepted x n →
    to + n ≤ length out → RoundTrip s at x n out to
round_trip s at x n out to b e room =
    let trip = beacon_rewritten s at x n b e in
    let accepted = trip.accepted out to (omega arith) in
    let left : beacon_after x out to ≡ laid out to (beacon_bytes x) = after_stored x n out to accepted in
    let parted = left ∙ trip.buffer out to room in
    let place : length (take to out) ≡ to = length-take-le to out (omega arith) in
    let same : length (beacon_after x out to) ≡ length out = rw left (laid_length out to (beacon_bytes x)) in
    let once_more : write_beacon x (beacon_after x out to) to ≡ Ok n = trip.accepted (beacon_after x out to) to (omega arith) in
    record {
      within = (beacon_occupies s at x n e).2;
      accepted = accepted;
      long = ap length (sym trip.written) ∙ trip.long;
      stored = parted ∙ ap (λ (l : List ℕ). take to out ++ (l ++ drop (to + n) out)) trip.written;
      again = rw parted (rw place at (trip.again (take to out) (drop (to + n) out)));
      once_more = once_more;
      settled =
          after_stored x n (beacon_after x out to) to once_more
          ∙ rw left (laid_again out to (beacon_bytes x));
      behind = trip.behind;
    }
