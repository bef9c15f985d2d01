-- A beacon's content, document 01, "Beacon layout" (IEEE 802.15.4-2011, 5.2.2.1): superframe specification, GTS
-- information and pending addresses, side by side.
use Rattle.std.specs.Prelude.{ℕ, ◌+◌, Bool, ◌||◌, List, [], ◌∷◌, ◌++◌, is_err, Ok, Err}
use Rattle.octets.specs.declared.Refusal.TheVariants.{Ended}
use Rattle.octets.specs.{Order.first, Value.write_value, Outcome.Outcome}
use Rattle.superframe.specs.declared.{SuperframeSpecification.SuperframeSpecification}
use Rattle.superframe.specs.Superframe.{empty_superframe, superframe_in, read_superframe, superframe_bytes}
use Rattle.superframe.specs.Superframe.{superframe_too_large}
use Rattle.time_slots.specs.declared.{GuaranteedTimeSlotInformation.GuaranteedTimeSlotInformation}
use Rattle.time_slots.specs.TimeSlots.{empty_time_slots, time_slots_in, time_slots_length_in, read_time_slots, time_slots_bytes}
use Rattle.time_slots.specs.TimeSlots.{time_slots_size, time_slots_too_large}
use Rattle.pending.specs.declared.{PendingAddress.PendingAddress}
use Rattle.pending.specs.Pending.{empty_pending, pending_in, pending_length_in, read_pending, pending_bytes, pending_size}
use Rattle.pending.specs.Pending.{pending_too_large}
use Rattle.beacon.specs.declared.{Beacon.Beacon, BeaconRead.BeaconRead}

abbrev pub beacon_of : SuperframeSpecification → GuaranteedTimeSlotInformation → PendingAddress → Beacon
beacon_of superframe slots pending =
    record { superframe_spec = superframe; guaranteed_time_slot_info = slots; pending_address = pending }

abbrev pub empty_beacon : Beacon
empty_beacon = beacon_of empty_superframe empty_time_slots empty_pending

-- where the pending addresses of the beacon at a place begin
abbrev pub pending_place : List ℕ → ℕ → ℕ
pending_place s at = at + 2 + time_slots_length_in s (at + 2)

-- the beacon at a place, and its length
unfoldable pub beacon_in : List ℕ → ℕ → Beacon
beacon_in s at = beacon_of (superframe_in s at) (time_slots_in s (at + 2)) (pending_in s (pending_place s at))

unfoldable pub beacon_length_in : List ℕ → ℕ → ℕ
beacon_length_in s at = 2 + time_slots_length_in s (at + 2) + pending_length_in s (pending_place s at)

-- and what reading it there answers: refused where a part of it is
abbrev pub refuses : Outcome → Bool
refuses o = is_err o

abbrev pub beacon_refused : BeaconRead
beacon_refused = record { outcome = Err Ended; beacon = empty_beacon }

abbrev pub beacon_accepted : Beacon → ℕ → BeaconRead
beacon_accepted x n = record { outcome = Ok n; beacon = x }

unfoldable pub read_beacon : List ℕ → ℕ → BeaconRead
read_beacon s at =
    first (
    (refuses (read_superframe s at).outcome, beacon_refused) ∷
    (refuses (read_time_slots s (at + 2)).outcome, beacon_refused) ∷
    (refuses (read_pending s (pending_place s at)).outcome, beacon_refused) ∷
    []
    )
    (beacon_accepted (beacon_in s at) (beacon_length_in s at))

-- the bytes, and how many they are
unfoldable pub beacon_bytes : Beacon → List ℕ
beacon_bytes x =
    superframe_bytes x.superframe_spec
    ++ (time_slots_bytes x.guaranteed_time_slot_info
    ++ pending_bytes x.pending_address)

abbrev pub beacon_size : Beacon → ℕ
beacon_size x = 2 + time_slots_size x.guaranteed_time_slot_info + pending_size x.pending_address

-- refusal 8: a part with a number too large
unfoldable pub beacon_too_large : Beacon → Bool
beacon_too_large x =
    superframe_too_large x.superframe_spec
    || time_slots_too_large x.guaranteed_time_slot_info
    || pending_too_large x.pending_address

unfoldable pub write_beacon : Beacon → List ℕ → ℕ → Outcome
write_beacon x out at = write_value (beacon_too_large x) out at (beacon_size x)
