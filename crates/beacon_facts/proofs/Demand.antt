-- The reader's demand behind a GTS header beside the crate's: a GTS field alone is answered otherwise exactly where nothing stands behind it,
-- and a whole beacon never, since its pending header stands there.
-- Assumes nothing.
use Prim.Native.Nat.{ℕ, zero, suc, ◌+◌, ◌-◌, ◌*◌}
use native.Mathlib.Omega.{arith}
use mathlib.Core.Bool.{true, true≢false, cond, ◌&&◌}
use mathlib.Core.List.{List}
use mathlib.Core.Path.{◌≡◌, refl, sym, ap, ◌∙◌}
use borrow.Author.Tests.{lt-ltb, le-ltb, ltb-true, ltb-false, eqb-true, eqb-false}
use lib.Dec.{ltb, eqb}
use lib.ListN.{length}
use Rattle.octets.proofs.Cases.{cases, holds?}
use Rattle.superframe.specs.Superframe.{read_superframe}
use Rattle.time_slots.specs.declared.TimeSlotsRead.{TimeSlotsRead}
use Rattle.time_slots.specs.TimeSlots.{slots_length, slot_count_in, time_slots_in, time_slots_length_in, time_slots_refused, read_time_slots}
use Rattle.beacon.specs.Beacon.{beacon_length_in, refuses, beacon_refused, read_beacon}
use Rattle.beacon_facts.specs.Demand.{crate_demand, demanding_time_slots, beacon_given, nothing_behind}
use Rattle.beacon_facts.specs.Formats.{time_slots}
use Rattle.beacon_facts.proofs.TimeSlots.{time_slots_accepts}
use Rattle.beacon_facts.proofs.Beacon.{beacon_reading}

-- under the demand of what is taken both are the readers' own definitions
pub time_slots_as_read : (s : List ℕ) (at : ℕ) → demanding_time_slots slots_length s at ≡ read_time_slots s at
unfolding read_time_slots
time_slots_as_read s at = refl

pub beacon_as_read : (s : List ℕ) (at : ℕ) → beacon_given (read_time_slots s (at + 2)) s at ≡ read_beacon s at
unfolding read_beacon
beacon_as_read s at = refl

-- a number of bytes under the crate's demand: refused too where it is that of the slots
module _ {A : Type 0} (refused read : A) where
  demanded : (n l : ℕ) → cond (ltb l 1) refused (cond (ltb l (1 + crate_demand n)) refused read)
      ≡ cond (ltb 0 n && eqb l (1 + (1 + 3 * n))) refused (cond (ltb l 1) refused (cond (ltb l (1 + slots_length n)) refused read))
  demanded zero l = refl
  demanded (suc k) l =
      let some = lt-ltb 0 (suc k) (omega arith) in
      let taken = 1 + (1 + 3 * suc k) in
      cases (holds? (eqb l taken))
      (λ e. let h = eqb-true l taken e in simp (some, e, le-ltb l 1 (omega arith), lt-ltb l (1 + crate_demand (suc k)) (omega arith)))
      (λ e.
      let h = eqb-false l taken e in
      cases (holds? (ltb l taken))
      (λ t. simp (some, e, t, lt-ltb l (1 + crate_demand (suc k)) (omega (arith, ltb-true l taken t))))
      (λ t. simp (some, e, t, le-ltb l (1 + crate_demand (suc k)) (omega (arith, h, ltb-false l taken t)))))

-- a GTS field alone: under the crate's demand it is refused where nothing stands behind it, and else answered as here
pub alone : (s : List ℕ) (at : ℕ) → demanding_time_slots crate_demand s at ≡ cond (nothing_behind s at) time_slots_refused (read_time_slots s at)
unfolding read_time_slots
alone s at = demanded time_slots_refused _ (slot_count_in s at) (length s - at)

-- and there it is read here
there : (n l : ℕ) → (ltb 0 n && eqb l (1 + (1 + 3 * n))) ≡ true → 1 + slots_length n ≡ l
there zero l e = absurd (true≢false (sym e))
there (suc k) l e = sym (eqb-true l _ (rw (lt-ltb 0 (suc k) (omega arith)) at e))

pub read_alone : (s : List ℕ) (at : ℕ) → nothing_behind s at ≡ true →
    read_time_slots s at ≡ time_slots.accepts (time_slots_in s at) (time_slots_length_in s at)
read_alone s at e = time_slots_accepts s at (omega (arith, there (slot_count_in s at) (length s - at) e))

-- a beacon whose GTS information is refused is refused
none_given : (s : List ℕ) (at : ℕ) → beacon_given time_slots_refused s at ≡ beacon_refused
none_given s at = cases (holds? (refuses (read_superframe s at).outcome)) (λ e. rw e) (λ e. rw e)

-- and so is one that ends behind its slots
none_behind : (s : List ℕ) (at : ℕ) → nothing_behind s (at + 2) ≡ true → read_beacon s at ≡ beacon_refused
unfolding beacon_length_in
none_behind s at e =
    let last = there (slot_count_in s (at + 2)) (length s - (at + 2)) e in
    beacon_reading s at ∙ rw (lt-ltb (length s - at) (beacon_length_in s at) (omega (arith, last)))

-- so a whole beacon is answered alike under both demands
pub whole : (s : List ℕ) (at : ℕ) → beacon_given (demanding_time_slots crate_demand s (at + 2)) s at ≡ read_beacon s at
whole s at =
    let given = ap (λ (r : TimeSlotsRead). beacon_given r s at) (alone s (at + 2)) in
    cases (holds? (nothing_behind s (at + 2)))
    (λ e. given ∙ rw e (none_given s at) ∙ sym (none_behind s at e))
    (λ e. given ∙ rw e (beacon_as_read s at))
