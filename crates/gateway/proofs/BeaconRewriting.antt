-- Rewriting a beacon: what measuring tells is what rewriting answers, and its bytes copied and cleared are what rewriting leaves.
-- Assumes nothing.
use Prim.Native.Nat.{ℕ, zero, suc, ◌+◌, ◌-◌, ◌≤◌, ◌<◌}
use native.Mathlib.Omega.{arith}
use mathlib.Core.Bool.{true≢false}
use mathlib.Core.List.{List, ◌++◌}
use mathlib.Core.Path.{◌≡◌, refl, sym, ap, ◌∙◌}
use borrow.Author.Tests.{ltb-false, lt-ltb, le-ltb}
use lib.Dec.{ltb}
use lib.ListN.{length, take, drop}
use lib.Seq.{length-take-le}
use Rattle.octets.specs.{Bits.clear_at, Buffer.laid, Buffer.fitting}
use Rattle.octets.proofs.Bits.{clear_append, clear_length}
use Rattle.octets.proofs.{Buffer.laid_all, Copying.copied_front}
use Rattle.octets.proofs.Cases.{cases, holds?}
use Rattle.time_slots.specs.TimeSlots.{slot_count_in, time_slots_length_in}
use Rattle.beacon.specs.declared.BeaconRead.{BeaconRead}
use Rattle.beacon.specs.Beacon.{beacon_length_in, refuses, read_beacon}
use Rattle.beacon.proofs.Parts.{accepting}
use Rattle.beacon_facts.specs.Cleared.{clear_directions, beacon_cleared}
use Rattle.beacon_facts.proofs.Beacon.{all_found, beacon_read}
use Rattle.beacon_measure.proofs.BeaconLength.{beacon_least}
use Rattle.gateway.specs.Rewrite.{rewrite_beacon}
use Rattle.std.specs.Prelude.{Ok, Err}
use Rattle.octets.specs.Outcome.{number_of, length_of}
use Rattle.octets.specs.declared.Refusal.{Refusal}
use Rattle.octets.proofs.Accepted.{never, one_value}
use Rattle.octets.specs.declared.Refusal.TheVariants.{Ended}

-- the listed bits cleared in front of other bytes
directions_append : (n : ℕ) (l m : List ℕ) → 3 < length l → clear_directions n 3 (l ++ m) ≡ clear_directions n 3 l ++ m
directions_append zero l m h = refl
directions_append (suc n) l m h = clear_append l m 3 (suc n) (8 - suc n) h

directions_length : (n : ℕ) (l : List ℕ) → length (clear_directions n 3 l) ≡ length l
directions_length zero l = refl
directions_length (suc n) l = clear_length l 3 (suc n) (8 - suc n)

-- the listed bits of a beacon with n slots, and with its pending header at a place
abbrev pub slots_cleared : ℕ → List ℕ → List ℕ
slots_cleared n l = clear_directions n 3 (clear_at 2 3 4 (clear_at 1 5 1 l))

abbrev pub listed_cleared : ℕ → ℕ → List ℕ → List ℕ
listed_cleared n header l = clear_at header 3 1 (clear_at header 7 1 (slots_cleared n l))

slots_length : (n : ℕ) (l : List ℕ) → length (slots_cleared n l) ≡ length l
slots_length n l = directions_length n (clear_at 2 3 4 (clear_at 1 5 1 l)) ∙ clear_length (clear_at 1 5 1 l) 2 3 4 ∙ clear_length l 1 5 1

slots_append : (n : ℕ) (l m : List ℕ) → 3 < length l → slots_cleared n (l ++ m) ≡ slots_cleared n l ++ m
slots_append n l m h =
    let one = clear_length l 1 5 1 in
    let two = clear_length (clear_at 1 5 1 l) 2 3 4 in
    ap (λ (l : List ℕ). clear_directions n 3 (clear_at 2 3 4 l)) (clear_append l m 1 5 1 (omega arith))
    ∙ ap (clear_directions n 3) (clear_append (clear_at 1 5 1 l) m 2 3 4 (omega arith))
    ∙ directions_append n (clear_at 2 3 4 (clear_at 1 5 1 l)) m (omega arith)

listed_length : (n header : ℕ) (l : List ℕ) → length (listed_cleared n header l) ≡ length l
listed_length n header l =
    clear_length (clear_at header 7 1 (slots_cleared n l)) header 3 1 ∙ clear_length (slots_cleared n l) header 7 1 ∙ slots_length n l

listed_append : (n header : ℕ) (l m : List ℕ) → 3 < length l → header < length l →
    listed_cleared n header (l ++ m) ≡ listed_cleared n header l ++ m
listed_append n header l m h k =
    let slots = slots_length n l in
    let pending = clear_length (slots_cleared n l) header 7 1 in
    ap (λ (l : List ℕ). clear_at header 3 1 (clear_at header 7 1 l)) (slots_append n l m h)
    ∙ ap (clear_at header 3 1) (clear_append (slots_cleared n l) m header 7 1 (omega arith))
    ∙ clear_append (clear_at header 7 1 (slots_cleared n l)) m header 3 1 (omega arith)

-- what holds where rewriting into room bytes accepts n of them
pub record BeaconAccepted (s : List ℕ) (room n : ℕ) : Type 0 where
  pub end : n ≡ beacon_length_in s 0
  pub within : n ≤ length s
  pub fits : n ≤ room
  pub four : 4 ≤ n
  pub inside : 2 + time_slots_length_in s 2 < n

beacon_there : (s : List ℕ) (room : ℕ) → number_of (read_beacon s 0).outcome ≡ 0 → beacon_length_in s 0 ≤ room →
    BeaconAccepted s room (beacon_length_in s 0)
beacon_there s room read fits =
    let least = beacon_least s 0 in
    record {
      end = refl;
      within = omega (arith, all_found s 0 (beacon_read s 0 read).1);
      fits = fits;
      four = least.0;
      inside = omega (arith, least.1);
    }

pub beacon_accepted_lem : (s : List ℕ) (room n : ℕ) → rewrite_beacon s room ≡ Ok n → BeaconAccepted s room n
unfolding rewrite_beacon
beacon_accepted_lem s room n e =
    cases (holds? (refuses (read_beacon s 0).outcome))
    (λ t. absurd (true≢false (sym t ∙ ap refuses (simp t at e))))
    (λ f.
    cases (holds? (ltb room (beacon_length_in s 0)))
    (λ t. absurd (never (simp (f, t) at e)))
    (λ g.
    let size : beacon_length_in s 0 ≡ n = one_value (simp (f, g) at e) in
    rw size at (beacon_there s room (accepting _ f) (ltb-false room _ g))))

-- its bytes copied, and the listed bits cleared in the copy
pub beacon_copied : (s out : List ℕ) (n : ℕ) → BeaconAccepted s (length out) n →
    listed_cleared (slot_count_in s 2) (2 + time_slots_length_in s 2) (laid out 0 (fitting out 0 (take n s))) ≡ laid out 0 (beacon_cleared s 0)
unfolding beacon_cleared
beacon_copied s out n q =
    let count = slot_count_in s 2 in
    let header = 2 + time_slots_length_in s 2 in
    let long = length-take-le n s q.within in
    let cleared : listed_cleared count header (take n s) ≡ beacon_cleared s 0 =
    ap (λ (n : ℕ). listed_cleared count header (take n s)) q.end in
    ap (listed_cleared count header) (copied_front s out n q.within q.fits)
    ∙ listed_append count header (take n s) (drop n out) (omega (arith, long, q.four)) (omega (arith, long, q.inside))
    ∙ sym (laid_all out (listed_cleared count header (take n s)) n (listed_length count header (take n s) ∙ long) q.fits)
    ∙ ap (laid out 0) cleared

-- what rewriting answers of what measuring told
module _ (s : List ℕ) (room : ℕ) where
  pub beacon_refused_lem : (r : Refusal) → Err r ≡ (read_beacon s 0).outcome → Err r ≡ rewrite_beacon s room
  unfolding rewrite_beacon
  beacon_refused_lem r e = rw (← e) refl

  module _ {n : ℕ} (e : Ok n ≡ (read_beacon s 0).outcome) where
    long : n ≡ beacon_length_in s 0
    long = ap length_of e ∙ ap (λ (r : BeaconRead). length_of r.outcome) (beacon_read s 0 (ap number_of (sym e))).0

    pub beacon_full : room < n → Err Ended ≡ rewrite_beacon s room
    unfolding rewrite_beacon
    beacon_full h = rw (← e) (simp (lt-ltb room (beacon_length_in s 0) (omega (arith, long))))

    pub beacon_fits : n ≤ room → Ok n ≡ rewrite_beacon s room
    unfolding rewrite_beacon
    beacon_fits h = rw (← e) (simp (le-ltb room (beacon_length_in s 0) (omega (arith, long))) (ap Ok long))
