-- The bytes of a frame that are rewritten, with the listed bits cleared and no others: of its header, of a beacon, and of both.
-- Assumes nothing.
use Prim.Native.Nat.{ℕ, zero, suc, ◌+◌, ◌-◌, ◌≤◌, ◌<◌}
use native.Mathlib.Nat.{add-zero}
use native.Mathlib.Omega.{arith}
use mathlib.Core.Bool.{Bool, true, false, cond, ◌||◌, ◌&&◌}
use mathlib.Core.List.{List, [], ◌∷◌, ◌++◌, append-nil}
use mathlib.Core.Path.{◌≡◌, refl, ap}
use lib.Dec.{eqb}
use lib.ListN.{length, take, drop, length-drop}
use lib.Seq.{take-add, length-take-le}
use Rattle.octets.specs.{Bits.bit, Bits.clear_at, Little.number, Little.Bytes}
use Rattle.octets.proofs.Cases.{cases, holds?}
use Rattle.octets.proofs.Little.{bytes_take, bytes_drop}
use Rattle.header_bytes.specs.{Layout.source_end, Layout.header_end, Cleared.cleared_by, Cleared.header_cleared}
use Rattle.header_bytes.proofs.{Accepted.read_accepted, Cleared.header_cleared_lem}
use Rattle.time_slots.specs.TimeSlots.{slot_count_in, time_slots_length_in}
use Rattle.beacon.specs.Beacon.{beacon_length_in}
use Rattle.beacon_facts.specs.Cleared.{part, clear_directions, beacon_cleared}
use Rattle.beacon_facts.proofs.Beacon.{beacon_read, all_found}
use Rattle.beacon_measure.proofs.BeaconLength.{beacon_least}
use Rattle.alterations.specs.Listed.{header_bits, direction_bits, beacon_bits, holds_beacon, listed}
use Rattle.alterations.specs.Rewriting.{frame_cleared}
use Rattle.alterations.proofs.Answers.{Accepted}
use Rattle.alterations.proofs.Places.{Below, below_append, below_cond, header_below, beacon_below}
use Rattle.alterations_facts.proofs.Tables.{all, directions_clear}
use Rattle.alterations_facts.proofs.Clearing.{Clears, clears_none, clears_at, clears_on, clears_as, shifted, clears_beside}

-- a header
by_control : (w : ℕ) (l : List ℕ) → Bytes l → 1 < length l → (bit w 3 ≡ true → source_end w < length l) →
    Clears (header_bits w) l (cleared_by w l)
by_control w l y two secured =
    let first = clears_at 0 7 1 (7 ∷ []) l tt y (omega arith) in
    let low = clear_at 0 7 1 l in
    let second = clears_on first (clears_at 1 0 2 (0 ∷ 1 ∷ []) low tt first.bytes (omega (arith, first.long))) in
    cases (holds? (bit w 3))
    (λ t.
    let third = clears_at (source_end w) 5 3 (5 ∷ 6 ∷ 7 ∷ []) (clear_at 1 0 2 low) tt second.bytes (omega (arith, second.long, secured t)) in
    simp t (clears_on second third))
    (λ f. simp f second)

-- a beacon, its places counted from its own beginning
abbrev own_bits : List ℕ → ℕ → List (ℕ × List ℕ)
own_bits s at =
    (1, 5 ∷ []) ∷
    (2, 3 ∷ 4 ∷ 5 ∷ 6 ∷ []) ∷
    (direction_bits (slot_count_in s (at + 2)) 3 ++ ((2 + time_slots_length_in s (at + 2), 3 ∷ 7 ∷ []) ∷ []))

directions : (n : ℕ) (l : List ℕ) → n < 8 → Bytes l → 3 < length l → Clears (direction_bits n 3) l (clear_directions n 3 l)
directions zero l h y k = clears_none l y
directions (suc n) l h y k = clears_at 3 (suc n) (8 - suc n) (drop (suc n) all) l (directions_clear (suc n) h) y k

either : (e a c : Bool) → ((e && (c || false)) || ((e && (a || false)) || false)) ≡ ((e && (a || (c || false))) || false)
either true true true = refl
either true true false = refl
either true false true = refl
either true false false = refl
either false a c = refl

pending : (place : ℕ) (l : List ℕ) → Bytes l → place < length l →
    Clears ((place, 3 ∷ 7 ∷ []) ∷ []) l (clear_at place 3 1 (clear_at place 7 1 l))
pending place l y h =
    let first = clears_at place 7 1 (7 ∷ []) l tt y h in
    let second = clears_at place 3 1 (3 ∷ []) (clear_at place 7 1 l) tt first.bytes (omega (arith, first.long)) in
    clears_as (λ i b. either (eqb i place) (eqb b 3) (eqb b 7)) (clears_on first second)

own_cleared : (s : List ℕ) (at : ℕ) → Bytes s → beacon_length_in s at ≤ length s - at →
    Clears (own_bits s at) (part s at (beacon_length_in s at)) (beacon_cleared s at)
unfolding beacon_cleared
own_cleared s at y h =
    let k = beacon_length_in s at in
    let count = slot_count_in s (at + 2) in
    let place = 2 + time_slots_length_in s (at + 2) in
    let long : length (part s at k) ≡ k = length-take-le k (drop at s) (rw (length-drop at s) h) in
    let least = beacon_least s at in
    let superframe = clear_at 1 5 1 (part s at k) in
    let slots = clear_at 2 3 4 superframe in
    let first = clears_at 1 5 1 (5 ∷ []) (part s at k) tt (bytes_take k (drop at s) (bytes_drop at s y)) (omega (arith, long, least.0)) in
    let second = clears_at 2 3 4 (3 ∷ 4 ∷ 5 ∷ 6 ∷ []) superframe tt first.bytes (omega (arith, first.long, long, least.0)) in
    let third = directions count slots (omega arith) second.bytes (omega (arith, second.long, first.long, long, least.0)) in
    let fourth = pending place (clear_directions count 3 slots) third.bytes
    (omega (arith, third.long, second.long, first.long, long, least.1)) in
    clears_on first (clears_on second (clears_on third fourth))

-- the same places, counted from the frame's beginning
placed : (n count place : ℕ) (bits : List ℕ) →
    shifted n (direction_bits count 3 ++ ((2 + place, bits) ∷ [])) ≡ direction_bits count (n + 3) ++ ((n + 2 + place, bits) ∷ [])
placed n zero place bits = let e : n + (2 + place) ≡ n + 2 + place = omega arith in ap (λ (p : ℕ). (p, bits) ∷ []) e
placed n (suc k) place bits =
    let e : n + (2 + place) ≡ n + 2 + place = omega arith in
    ap (λ (p : ℕ). (n + 3, drop (suc k) all) ∷ (p, bits) ∷ []) e

own_placed : (s : List ℕ) (n : ℕ) → shifted n (own_bits s n) ≡ beacon_bits s n
own_placed s n =
    ap (λ (l : List (ℕ × List ℕ)). (n + 1, 5 ∷ []) ∷ (n + 2, 3 ∷ 4 ∷ 5 ∷ 6 ∷ []) ∷ l)
    (placed n (slot_count_in s (n + 2)) (time_slots_length_in s (n + 2)) (3 ∷ 7 ∷ []))

-- a frame, with or without a beacon behind its header
module _ (s : List ℕ) (y : Bytes s) where
  abbrev w : ℕ
  w = number s 0 2

  abbrev n : ℕ
  n = header_end s w

  module _ (header : Clears (header_bits w) (take n s) (header_cleared s)) (inside : n ≤ length s) (near : Below n (header_bits w)) where
    with_or_without : (on : Bool) → (on ≡ true → beacon_length_in s n ≤ length s - n) →
        Clears (header_bits w ++ cond on (beacon_bits s n) []) (take (n + cond on (beacon_length_in s n) 0) s)
        (header_cleared s ++ cond on (beacon_cleared s n) [])
    with_or_without false h =
        rw (append-nil (header_bits w), add-zero n, append-nil (header_cleared s)) header
    with_or_without true h =
        rw (take-add n (beacon_length_in s n) s, ← own_placed s n)
        (clears_beside n header (own_cleared s n y (h refl)) (length-take-le n s inside) near)

  pub frame_cleared_lem : (m : ℕ) → Accepted s m → Clears (listed s) (take m s) (frame_cleared s)
  frame_cleared_lem m a =
      let q = read_accepted s n a.read in
      let long = length-take-le n s q.within in
      let header = by_control w (take n s) (bytes_take n s y) (omega (arith, long, q.three)) (λ on. omega (arith, long, q.secured on)) in
      rw a.long
      (with_or_without (rw (header_cleared_lem s n a.read) header) q.within (header_below n w (omega (arith, q.three)) q.secured)
      (holds_beacon w) (λ on. all_found s n (beacon_read s n (a.beacon on)).1))

  -- the listed bits lie in the bytes that are rewritten, and these in the frame
  pub frame_within : (m : ℕ) → Accepted s m → m ≤ length s
  frame_within m a =
      let q = read_accepted s n a.read in
      cases (holds? (holds_beacon w))
      (λ t. let e = simp t at a.long in omega (arith, e, q.within, all_found s n (beacon_read s n (a.beacon t)).1))
      (λ f. let e = simp f at a.long in omega (arith, e, q.within))

pub listed_within : (s : List ℕ) (m : ℕ) → Accepted s m → Below m (listed s)
listed_within s m a =
    let w = number s 0 2 in
    let n = header_end s w in
    let q = read_accepted s n a.read in
    let least = beacon_least s n in
    let front : n ≤ m = omega (arith, a.long) in
    below_append m (header_bits w) (cond (holds_beacon w) (beacon_bits s n) [])
    (header_below m w (omega (arith, q.three, front)) (λ on. omega (arith, q.secured on, front)))
    (below_cond m (holds_beacon w) (beacon_bits s n) (λ on.
    let e = simp on at a.long in
    beacon_below m s n (omega (arith, e, least.0)) (omega (arith, e, least.1))))
