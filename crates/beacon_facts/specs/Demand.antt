-- What is demanded behind a GTS header, and where it tells. Document 02, request 2: "For n > 0 let it demand 1+3n after its
-- header .. Whole beacons answer as before; the departure from the crate is listed". The crate's demand, document 01's
-- "2+3n", is stated here, to be held beside the reader's: no reader has it.
use Rattle.std.specs.Prelude.{ℕ, zero, suc, ◌+◌, ◌-◌, ◌*◌, Bool, ◌&&◌, List, [], ◌∷◌, length, ltb, eqb, Ok}
use Rattle.octets.specs.{Order.first, Part.ends}
use Rattle.superframe.specs.Superframe.{read_superframe}
use Rattle.time_slots.specs.declared.{TimeSlotsRead.TimeSlotsRead}
use Rattle.time_slots.specs.TimeSlots.{slot_count_in, time_slots_in, time_slots_length_in, time_slots_refused}
use Rattle.pending.specs.Pending.{read_pending}
use Rattle.beacon.specs.declared.{BeaconRead.BeaconRead}
use Rattle.beacon.specs.Beacon.{pending_place, beacon_in, beacon_length_in, refuses, beacon_refused, beacon_accepted}

-- the crate's demand behind the header of n slots
abbrev pub crate_demand : ℕ → ℕ
crate_demand zero = 0
crate_demand (suc k) = 2 + 3 * suc k

-- what reading GTS information at a place answers under a demand
abbrev pub demanding_time_slots : (ℕ → ℕ) → List ℕ → ℕ → TimeSlotsRead
demanding_time_slots demand s at =
    first (
    (ends s at 1, time_slots_refused) ∷
    (ends s at (1 + demand (slot_count_in s at)), time_slots_refused) ∷
    []
    )
    (record { outcome = Ok (time_slots_length_in s at); guaranteed_time_slot_info = time_slots_in s at })

-- what reading a beacon at a place answers, given what reading its GTS information does
abbrev pub beacon_given : TimeSlotsRead → List ℕ → ℕ → BeaconRead
beacon_given slots s at =
    first (
    (refuses (read_superframe s at).outcome, beacon_refused) ∷
    (refuses slots.outcome, beacon_refused) ∷
    (refuses (read_pending s (pending_place s at)).outcome, beacon_refused) ∷
    []
    )
    (beacon_accepted (beacon_in s at) (beacon_length_in s at))

-- n > 0 slots at a place, with 1+3n bytes behind their header and not 2+3n
abbrev pub nothing_behind : List ℕ → ℕ → Bool
nothing_behind s at = ltb 0 (slot_count_in s at) && eqb (length s - at) (1 + (1 + 3 * slot_count_in s at))
