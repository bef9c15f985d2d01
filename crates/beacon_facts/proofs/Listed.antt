-- The bytes of a part listed one by one, with the bits cleared that are not read, are the bytes that were read with those bits cleared.
-- Assumes nothing.
use Prim.Native.Nat.{ℕ, zero, suc, ◌+◌, ◌-◌, ◌*◌, ◌≤◌, ◌<◌}
use native.Mathlib.Nat.{zero-add, suc-add}
use native.Mathlib.Numerals.{add-one, one-add}
use native.Mathlib.Omega.{arith}
use mathlib.Core.List.{List, [], ◌∷◌, ◌++◌, append_assoc}
use mathlib.Core.Path.{◌≡◌, refl, sym, ◌∙◌}
use lib.ListN.{length, get_or, set, drop, get_or-append, length-set, length-drop}
use lib.Seq.{drop-cons, take-add, drop-drop, length-take-le, set-append_left, get_or-append-add}
use Rattle.octets.specs.Bits.{clear, clear_at}
use Rattle.octets.specs.Little.{number}
use Rattle.octets.proofs.Little.{number_one}
use Rattle.time_slots.specs.TimeSlots.{slots_length, slot_count_in, time_slots_length_in}
use Rattle.pending.specs.Pending.{addresses_length, short_count_in, extended_count_in, pending_length_in}
use Rattle.beacon.specs.Beacon.{pending_place, beacon_length_in}
use Rattle.beacon_facts.specs.Cleared.{part, clear_directions, superframe_cleared, time_slots_cleared, pending_cleared, beacon_cleared}

-- the byte at a place
abbrev pub byte : List ℕ → ℕ → ℕ
byte s at = number s at 1

unfoldable pub superframe_listed : List ℕ → ℕ → List ℕ
superframe_listed s at = byte s at ∷ clear 5 1 (byte s (at + 1)) ∷ []

-- what follows a GTS header: for a count n above 0, the direction byte and the descriptors
unfoldable pub list_listed : ℕ → List ℕ → ℕ → List ℕ
list_listed zero s at = []
list_listed (suc k) s at = clear (suc k) (8 - suc k) (byte s at) ∷ part s (at + 1) (3 * suc k)

unfoldable pub time_slots_listed : List ℕ → ℕ → List ℕ
time_slots_listed s at = clear 3 4 (byte s at) ∷ list_listed (slot_count_in s at) s (at + 1)

unfoldable pub pending_listed : List ℕ → ℕ → List ℕ
pending_listed s at = clear 3 1 (clear 7 1 (byte s at)) ∷ part s (at + 1) (addresses_length (short_count_in s at) (extended_count_in s at))

-- the bytes from a place on, one by one
part_next : (s : List ℕ) (at n : ℕ) → 1 ≤ length s - at → part s at (suc n) ≡ byte s at ∷ part s (at + 1) n
part_next s at n h = rw (drop-cons s at 0 (omega arith), number_one s at, add-one at)

pub superframe_listed_lem : (s : List ℕ) (at : ℕ) → 2 ≤ length s - at → superframe_listed s at ≡ superframe_cleared s at
unfolding superframe_listed superframe_cleared
superframe_listed_lem s at h = rw (part_next s at 1 (omega arith), part_next s (at + 1) 0 (omega arith))

slots_listed : (s : List ℕ) (at n : ℕ) → 1 + slots_length n ≤ length s - at →
    clear 3 4 (byte s at) ∷ list_listed n s (at + 1) ≡ clear_directions n 1 (clear_at 0 3 4 (part s at (1 + slots_length n)))
unfolding list_listed
slots_listed s at zero h = rw (part_next s at 0 (omega arith))
slots_listed s at (suc k) h =
    let e : 1 + (1 + 3 * suc k) ≡ suc (suc (3 * suc k)) = omega arith in
    rw (e, part_next s at (suc (3 * suc k)) (omega arith), part_next s (at + 1) (3 * suc k) (omega arith))

pub time_slots_listed_lem : (s : List ℕ) (at : ℕ) → time_slots_length_in s at ≤ length s - at → time_slots_listed s at ≡ time_slots_cleared s at
unfolding time_slots_listed time_slots_cleared
time_slots_listed_lem s at h = slots_listed s at (slot_count_in s at) h

pub pending_listed_lem : (s : List ℕ) (at : ℕ) → pending_length_in s at ≤ length s - at → pending_listed s at ≡ pending_cleared s at
unfolding pending_listed pending_cleared
pending_listed_lem s at h =
    let n = addresses_length (short_count_in s at) (extended_count_in s at) in
    rw (one-add n, part_next s at n (omega arith))

-- clearing bits of a byte in the first or in the second of two lists
clear_left : (i b count : ℕ) (x y : List ℕ) → i < length x → clear_at i b count (x ++ y) ≡ clear_at i b count x ++ y
clear_left i b count x y h = rw (get_or-append x y 0 i h, set-append_left x y i (clear b count (get_or x i 0)) h)

set_right : (x y : List ℕ) (j v : ℕ) → set (x ++ y) (length x + j) v ≡ x ++ set y j v
set_right [] y j v = rw (zero-add j)
set_right (a ∷ x) y j v = rw (suc-add (length x) j, set_right x y j v)

clear_right : (i n j b count : ℕ) (x y : List ℕ) → length x ≡ n → i ≡ n + j → clear_at i b count (x ++ y) ≡ x ++ clear_at j b count y
clear_right i n j b count x y e f = rw (f, sym e, get_or-append-add x y j 0) (set_right x y j (clear b count (get_or y j 0)))

directions_inside : (k : ℕ) (x y z : List ℕ) → length x ≡ 2 → length y ≡ 1 + slots_length k →
    clear_directions k 3 (x ++ (y ++ z)) ≡ x ++ (clear_directions k 1 y ++ z)
directions_inside zero x y z e f = refl
directions_inside (suc k) x y z e f =
    rw (clear_right 3 2 1 (suc k) (8 - suc k) x (y ++ z) e refl, clear_left 1 (suc k) (8 - suc k) y z (rw f (omega arith)))

directions_length : (k i : ℕ) (l : List ℕ) → length (clear_directions k i l) ≡ length l
directions_length zero i l = refl
directions_length (suc k) i l = length-set l i _

-- in the bytes of three parts, the bits of each
parts_cleared : (k : ℕ) (x y z : List ℕ) → length x ≡ 2 → length y ≡ 1 + slots_length k →
    clear_at (2 + (1 + slots_length k)) 3 1
    (clear_at (2 + (1 + slots_length k)) 7 1 (clear_directions k 3 (clear_at 2 3 4 (clear_at 1 5 1 (x ++ (y ++ z))))))
    ≡ clear_at 1 5 1 x ++ (clear_directions k 1 (clear_at 0 3 4 y) ++ clear_at 0 3 1 (clear_at 0 7 1 z))
parts_cleared k x y z e f =
    let n = 1 + slots_length k in
    let x1 = clear_at 1 5 1 x in
    let y1 = clear_at 0 3 4 y in
    let y2 = clear_directions k 1 y1 in
    let z1 = clear_at 0 7 1 z in
    let ex : length x1 ≡ 2 = length-set x 1 _ ∙ e in
    let ey : length y1 ≡ n = length-set y 0 _ ∙ f in
    let ez : length y2 ≡ n = directions_length k 1 y1 ∙ ey in
    let last : n ≡ n + 0 = omega arith in
    rw (
      clear_left 1 5 1 x (y ++ z) (rw e (omega arith)),
      clear_right 2 2 0 3 4 x1 (y ++ z) ex refl,
      clear_left 0 3 4 y z (rw f (omega arith)),
      directions_inside k x1 y1 z ex ey,
      clear_right (2 + n) 2 n 7 1 x1 (y2 ++ z) ex refl,
      clear_right n n 0 7 1 y2 z ez last,
      clear_right (2 + n) 2 n 3 1 x1 (y2 ++ z1) ex refl,
      clear_right n n 0 3 1 y2 z1 ez last,
    )

-- the bytes of a beacon are those of its parts
parts : (s : List ℕ) (at m n : ℕ) → part s at (2 + m + n) ≡ part s at 2 ++ (part s (at + 2) m ++ part s (at + 2 + m) n)
parts s at m n =
    let e : at + (2 + m) ≡ at + 2 + m = omega arith in
    rw (
      take-add (2 + m) n (drop at s),
      take-add 2 m (drop at s),
      drop-drop 2 at s,
      drop-drop (2 + m) at s,
      e,
      append_assoc (part s at 2) (part s (at + 2) m) (part s (at + 2 + m) n),
    )

pub beacon_listed : (s : List ℕ) (at : ℕ) → beacon_length_in s at ≤ length s - at →
    superframe_cleared s at ++ (time_slots_cleared s (at + 2) ++ pending_cleared s (pending_place s at)) ≡ beacon_cleared s at
unfolding superframe_cleared time_slots_cleared pending_cleared beacon_cleared beacon_length_in
beacon_listed s at h =
    let m = time_slots_length_in s (at + 2) in
    let n = pending_length_in s (pending_place s at) in
    let two : length (part s at 2) ≡ 2 = length-take-le 2 (drop at s) (rw (length-drop at s) (omega arith)) in
    let long : length (part s (at + 2) m) ≡ m = length-take-le m (drop (at + 2) s) (rw (length-drop (at + 2) s) (omega arith)) in
    sym (rw (parts s at m n) (parts_cleared (slot_count_in s (at + 2)) (part s at 2) (part s (at + 2) m)
    (part s (pending_place s at) n) two long))
