-- Laws of a beacon's content.
-- Assumes nothing.
use Prim.Native.Nat.{ℕ, ◌-◌, ◌≤◌}
use mathlib.Core.Bool.{Bool, false}
use mathlib.Core.List.{List}
use mathlib.Core.Path.{◌≡◌, ◌∙◌}
use borrow.Author.Tests.{le-ltb}
use lib.ListN.{length}
use Rattle.octets.specs.Buffer.{laid, after}
use Rattle.octets.specs.Value.{write_value}
use Rattle.superframe.specs.Superframe.{superframe_too_large}
use Rattle.time_slots.specs.TimeSlots.{time_slots_too_large}
use Rattle.pending.specs.Pending.{pending_too_large}
use Rattle.octets.proofs.Cases.{neither}
use Rattle.beacon.specs.declared.Beacon.{Beacon}
use Rattle.beacon.specs.Beacon.{beacon_too_large}
use Rattle.octets.specs.Outcome.{Outcome}

-- no part has a number too large
pub record Fitting (x : Beacon) : Type 0 where
  pub superframe : superframe_too_large x.superframe_spec ≡ false
  pub slots : time_slots_too_large x.guaranteed_time_slot_info ≡ false
  pub pending : pending_too_large x.pending_address ≡ false

pub fitting : (x : Beacon) → beacon_too_large x ≡ false → Fitting x
unfolding beacon_too_large
fitting x e =
    let one = neither _ _ e in
    let two = neither _ _ one.0 in
    record { superframe = two.0; slots = two.1; pending = one.1 }

-- a part of n bytes that fits and has room is stored whole
pub whole_stored : (out b : List ℕ) (at n : ℕ) {large : Bool} {o : List ℕ} {r : Outcome} → large ≡ false → n ≤ length out - at →
    r ≡ write_value large out at n → o ≡ after r out at b → o ≡ laid out at b
whole_stored out b at n fits room e f = f ∙ rw (e, fits, le-ltb (length out - at) n room)
