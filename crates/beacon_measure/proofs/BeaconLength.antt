-- What reading a beacon answers, by its length alone, and the least that this length is.
-- Assumes nothing.
use Prim.Native.Nat.{ℕ, ◌+◌, ◌-◌, ◌≤◌}
use native.Mathlib.Omega.{arith}
use mathlib.Core.Bool.{cond}
use mathlib.Core.List.{List, [], ◌∷◌}
use mathlib.Core.Path.{◌≡◌, sym, ap, ◌∙◌}
use borrow.Author.Tests.{le-ltb}
use lib.ListN.{length}
use Rattle.std.specs.Prelude.{Ok, Err}
use Rattle.octets.specs.declared.Refusal.TheVariants.{Ended}
use Rattle.octets.specs.Outcome.{number_of, length_of}
use Rattle.octets.specs.Part.{ends}
use Rattle.octets.proofs.Cases.{cases, holds?}
use Rattle.octets.proofs.Order.{first_map}
use Rattle.time_slots.specs.TimeSlots.{time_slots_length_in}
use Rattle.beacon.specs.declared.BeaconRead.{BeaconRead}
use Rattle.beacon.specs.Beacon.{beacon_length_in, beacon_refused, read_beacon}
use Rattle.beacon_facts.proofs.Beacon.{beacon_reading}
use Rattle.beacon_facts.proofs.Trip.{beacon_most}

-- refused where its bytes are not all there, and else its length
pub told : (s : List ℕ) (at : ℕ) → (read_beacon s at).outcome ≡ cond (ends s at (beacon_length_in s at)) (Err Ended)
    (Ok (beacon_length_in s at))
told s at =
    ap (λ (r : BeaconRead). r.outcome) (beacon_reading s at)
    ∙ first_map (λ (r : BeaconRead). r.outcome) ((ends s at (beacon_length_in s at), beacon_refused) ∷ []) _

pub all_there : (s : List ℕ) (at n : ℕ) → n ≡ beacon_length_in s at → n ≤ length s - at → Ok n ≡ (read_beacon s at).outcome
all_there s at n e h = ap Ok e ∙ sym (told s at ∙ rw (le-ltb (length s - at) (beacon_length_in s at) (rw e at h)))

-- the length of the whole is at least that of what stands before the pending header, and one
pub beacon_least : (s : List ℕ) (at : ℕ) → (4 ≤ beacon_length_in s at) × (2 + time_slots_length_in s (at + 2) + 1 ≤ beacon_length_in s at)
unfolding beacon_length_in
beacon_least s at = (omega arith, omega arith)

-- an answer's number is at most 1, and its length at most 96
pub outcome_most : (s : List ℕ) (at : ℕ) → (number_of (read_beacon s at).outcome ≤ 1) × (length_of (read_beacon s at).outcome ≤ 96)
outcome_most s at =
    cases (holds? (ends s at (beacon_length_in s at)))
    (λ t. rw (told s at) (simp t (omega arith, omega arith)))
    (λ f. rw (told s at) (simp f (omega arith, beacon_most s at)))
