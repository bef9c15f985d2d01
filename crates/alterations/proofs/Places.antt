-- Where listed bytes lie, and those with altered bits among them.
-- Assumes nothing.
use Prim.Native.Nat.{ℕ, zero, suc, ◌+◌, ◌≤◌, ◌<◌}
use native.Mathlib.Omega.{arith}
use mathlib.Core.Bool.{Bool, true, false, cond}
use mathlib.Core.List.{List, [], ◌∷◌, ◌++◌}
use mathlib.Core.Path.{◌≡◌, ap}
use lib.Dec.{eqb}
use lib.ListN.{length, get_or, length-append}
use Rattle.octets.specs.{Bits.bit, Little.number}
use Rattle.octets.proofs.Cases.{cases, holds?}
use Rattle.header_bytes.specs.Layout.{source_end, header_end}
use Rattle.header_bytes.proofs.Sizes.{source_end_lem, header_end_lem}
use Rattle.time_slots.specs.TimeSlots.{slots_length, slot_count_in}
use Rattle.beacon.specs.Beacon.{pending_place}
use Rattle.alterations.specs.Listed.{header_bits, direction_bits, beacon_bits, holds_beacon, listed}
use Rattle.alterations.specs.Altered.{mask, altered_at, altered_in}
use Rattle.alterations.proofs.Lists.{beacon_unsecured, listed_alone, listed_beacon}

-- each place is below n
abbrev pub Below : {A : Type 0} → ℕ → List (ℕ × A) → Type 0
Below n [] = Unit
Below n (b ∷ l) = (b.0 < n) × Below n l

pub below_append : {A : Type 0} (n : ℕ) (a b : List (ℕ × A)) → Below n a → Below n b → Below n (a ++ b)
below_append n [] b h k = k
below_append n (x ∷ a) b h k = (h.0, below_append n a b h.1 k)

pub below_cond : {A : Type 0} (n : ℕ) (on : Bool) (l : List (ℕ × A)) → (on ≡ true → Below n l) → Below n (cond on l [])
below_cond n on l h = cases (holds? on) (λ t. simp t (h t)) (λ f. simp f tt)

-- bytes with altered bits are among the listed ones
below_at : (n place m : ℕ) → place < n → Below n (altered_at place m)
below_at n place m h = cases (holds? (eqb m 0)) (λ t. simp t tt) (λ f. simp f (h, tt))

pub below_altered : (n : ℕ) (s : List ℕ) (l : List (ℕ × List ℕ)) → Below n l → Below n (altered_in s l)
below_altered n s [] h = tt
below_altered n s (x ∷ l) h =
    below_append n (altered_at x.0 (mask x.1 (get_or s x.0 0))) (altered_in s l)
    (below_at n x.0 (mask x.1 (get_or s x.0 0)) h.0) (below_altered n s l h.1)

long_at : (place m : ℕ) → length (altered_at place m) ≤ 1
long_at place m = cases (holds? (eqb m 0)) (λ t. simp t (omega arith)) (λ f. simp f (omega arith))

pub altered_long : (s : List ℕ) (l : List (ℕ × List ℕ)) → length (altered_in s l) ≤ length l
altered_long s [] = omega arith
altered_long s (x ∷ l) =
    let m = mask x.1 (get_or s x.0 0) in
    omega (arith, length-append (altered_at x.0 m) (altered_in s l), long_at x.0 m, altered_long s l)

-- the listed bytes of a header and of a beacon
pub header_below : (n w : ℕ) → 1 < n → (bit w 3 ≡ true → source_end w < n) → Below n (header_bits w)
header_below n w h k = (omega arith, (h, below_cond n (bit w 3) ((source_end w, _) ∷ []) (λ on. (k on, tt))))

directions_below : (n slots place : ℕ) → place < n → Below n (direction_bits slots place)
directions_below n zero place h = tt
directions_below n (suc k) place h = (h, tt)

pub beacon_below : (n : ℕ) (s : List ℕ) (at : ℕ) → at + 3 < n → pending_place s at < n → Below n (beacon_bits s at)
beacon_below n s at h k =
    let count = slot_count_in s (at + 2) in (
      omega arith,
      (
        omega arith,
        below_append n (direction_bits count (at + 3)) ((pending_place s at, _) ∷ []) (directions_below n count (at + 3) h) (k, tt),
      ),
    )

-- at most two of an unsecured header, at most three of any; at most four of a beacon
unsecured_few : (w : ℕ) → bit w 3 ≡ false → length (header_bits w) ≤ 2
unsecured_few w f = simp f (omega arith)

header_few : (w : ℕ) → length (header_bits w) ≤ 3
header_few w = cases (holds? (bit w 3)) (λ t. simp t (omega arith)) (λ f. simp f (omega arith))

directions_few : (slots place : ℕ) → length (direction_bits slots place) ≤ 1
directions_few zero place = omega arith
directions_few (suc k) place = omega arith

beacon_few : (s : List ℕ) (at : ℕ) → length (beacon_bits s at) ≤ 4
beacon_few s at =
    let count = slot_count_in s (at + 2) in
    omega (
      arith,
      length-append (direction_bits count (at + 3)) ((pending_place s at, 3 ∷ 7 ∷ []) ∷ []),
      directions_few count (at + 3),
    )

pub listed_few : (s : List ℕ) → length (listed s) ≤ 6
listed_few s =
    let w = number s 0 2 in
    let at = source_end w in
    cases (holds? (holds_beacon w))
    (λ t.
    omega (
      arith,
      ap length (listed_beacon s t),
      length-append (header_bits w) (beacon_bits s at),
      unsecured_few w (beacon_unsecured w t),
      beacon_few s at,
    ))
    (λ f. omega (arith, ap length (listed_alone s f), header_few w))

-- all in the front of the frame
slots_most : (n : ℕ) → n < 8 → slots_length n ≤ 22
slots_most zero h = omega arith
slots_most (suc k) h = omega arith

pub listed_near : (s : List ℕ) → Below 100 (listed s)
listed_near s =
    let w = number s 0 2 in
    let n = header_end s w in
    let source = source_end_lem w in
    let header = header_end_lem w s in
    let slots = slots_most (slot_count_in s (n + 2)) (omega arith) in
    below_append 100 (header_bits w) (cond (holds_beacon w) (beacon_bits s n) [])
    (header_below 100 w (omega arith) (λ on. omega (arith, source.1)))
    (below_cond 100 (holds_beacon w) (beacon_bits s n) (λ on.
    beacon_below 100 s n (omega (arith, header.1)) (omega (arith, header.1, slots))))
