-- Laws of GTS information.
-- Assumes nothing.
use Prim.Native.Nat.{ℕ, zero, suc, ◌+◌, ◌-◌, ◌*◌, ◌^◌, ◌≤◌, ◌<◌}
use native.Mathlib.Nat.{pow-suc}
use native.Mathlib.Omega.{arith}
use mathlib.Core.Bool.{false, cond}
use mathlib.Core.List.{List, [], ◌∷◌, ◌++◌, flat_map}
use mathlib.Core.Path.{◌≡◌, refl, ap}
use borrow.Author.Tests.{ltb-false}
use lib.ListN.{length, take, length-append}
use lib.Pow.{pow_mono}
use Rattle.std.specs.List.{push}
use Rattle.octets.specs.Little.{split}
use Rattle.octets.specs.Part.{ends}
use Rattle.octets.proofs.Cases.{cases, holds?, neither}
use Rattle.octets.proofs.Little.{split_length}
use Rattle.seven_places.specs.Seven.{some}
use Rattle.seven_places.proofs.Seven.{each_length}
use Rattle.time_slots.specs.declared.Direction.{Direction}
use Rattle.time_slots.specs.declared.Direction.TheVariants.{Receive, Transmit}
use Rattle.time_slots.specs.declared.GuaranteedTimeSlotDescriptor.{GuaranteedTimeSlotDescriptor}
use Rattle.time_slots.specs.Direction.{direction_bit}
use Rattle.time_slots.specs.Descriptor.{descriptor_bytes, descriptor_too_large}
use Rattle.time_slots.specs.Width.{descriptor_length}
use Rattle.time_slots.specs.declared.GuaranteedTimeSlotInformation.{GuaranteedTimeSlotInformation}
use Rattle.time_slots.specs.TimeSlots.{slots_length, time_slots_in, time_slots_length_in, read_time_slots}
use Rattle.time_slots.specs.TimeSlots.{directions_of, list_bytes, time_slots_header, time_slots_bytes, time_slots_size}
use Rattle.time_slots.specs.TimeSlots.{slot_count_too_large, time_slots_too_large}
use Rattle.std.specs.Prelude.{Ok}
use Rattle.octets.specs.Outcome.{number_of}

-- how many bytes slots take
pub length_some : (n : ℕ) → (n ≡ 0 → ⊥) → slots_length n ≡ 1 + 3 * n
length_some zero h = absurd (h refl)
length_some (suc n) h = refl

pub direction_small : (d : Direction) → direction_bit d < 2
direction_small Receive = omega arith
direction_small Transmit = omega arith

pub directions_small : (l : List GuaranteedTimeSlotDescriptor) → directions_of l < 2 ^ length l
unfolding directions_of
directions_small [] = omega arith
directions_small (x ∷ l) = omega (arith, direction_small x.direction, directions_small l, pow-suc 2 (length l))

-- where none is left, those passed are all
pub all_passed : (all left passed : List GuaranteedTimeSlotDescriptor) → length left ≡ 0 → all ≡ left ++ passed → all ≡ passed
all_passed all [] passed h e = e
all_passed all (x ∷ left) passed h e = absurd (omega (arith, h))

-- the directions of at most seven slots but one are below 64
pub directions_bound : (all left : List GuaranteedTimeSlotDescriptor) (x : GuaranteedTimeSlotDescriptor)
    (front passed : List GuaranteedTimeSlotDescriptor) → length all ≤ 7 → all ≡ left ++ passed → left ≡ push front x →
    directions_of passed < 64
directions_bound all left x front passed few e f =
    let short : length passed ≤ 6 =
    omega (arith, ap length e, length-append left passed, ap length f, length-append front (x ∷ [])) in
    omega (arith, directions_small passed, pow_mono short)

-- what follows the header, for no slot and for some
pub list_none : (l : List GuaranteedTimeSlotDescriptor) (n : ℕ) → n ≡ 0 → list_bytes (take n l) ≡ []
unfolding list_bytes
list_none l n e = rw e

pub list_some : (l : List GuaranteedTimeSlotDescriptor) (n : ℕ) → n ≤ length l → (n ≡ 0 → ⊥) →
    list_bytes (take n l) ≡ split 1 (directions_of (take n l)) ++ flat_map descriptor_bytes (take n l)
unfolding list_bytes
list_some [] zero h k = absurd (k refl)
list_some [] (suc n) h k = absurd (omega arith)
list_some (x ∷ l) zero h k = absurd (k refl)
list_some (x ∷ l) (suc n) h k = refl

pub list_length : (l : List GuaranteedTimeSlotDescriptor) (n : ℕ) → n ≤ length l → length (list_bytes (take n l)) ≡ slots_length n
list_length l zero h = rw (list_none l zero refl)
list_length l (suc n) h =
    rw (list_some l (suc n) h (λ e. absurd (omega arith)), length-append, split_length)
    (ap (λ (k : ℕ). 1 + k) (each_length descriptor_bytes 3 descriptor_length l (suc n) h))

-- a count of at most seven, and no slot in use with a number too large
pub fitting : (x : GuaranteedTimeSlotInformation) → time_slots_too_large x ≡ false →
    (x.slot_count ≤ 7) × (some descriptor_too_large (take x.slot_count x.slots) ≡ false)
unfolding time_slots_too_large
fitting x e = let both = neither _ _ e in (ltb-false 7 x.slot_count both.0, both.1)

-- and then its size is the whole length
pub plain_size : (x : GuaranteedTimeSlotInformation) → time_slots_too_large x ≡ false →
    cond (slot_count_too_large x) 0 (time_slots_size x) ≡ time_slots_size x
unfolding time_slots_too_large
plain_size x e = rw (neither (slot_count_too_large x) _ e).0

-- and its bytes are as many
pub time_slots_length : (x : GuaranteedTimeSlotInformation) → length x.slots ≡ 7 → time_slots_too_large x ≡ false →
    length (time_slots_bytes x) ≡ time_slots_size x
unfolding time_slots_bytes
time_slots_length x full f =
    rw (
      length-append (split 1 (time_slots_header x)) (list_bytes (take x.slot_count x.slots)),
      split_length 1 (time_slots_header x),
      list_length x.slots x.slot_count (rw full (fitting x f).0),
    )

-- what is read was there
pub time_slots_read : (s : List ℕ) (at : ℕ) → number_of (read_time_slots s at).outcome ≡ 0 →
    (read_time_slots s at ≡ record { outcome = Ok (time_slots_length_in s at); guaranteed_time_slot_info = time_slots_in s at })
    × (time_slots_length_in s at ≤ length s - at)
unfolding read_time_slots
time_slots_read s at e =
    cases (holds? (ends s at 1)) (λ t. absurd (omega (arith, simp t at e))) (λ t.
    cases (holds? (ends s at (time_slots_length_in s at))) (λ u. absurd (omega (arith, simp (t, u) at e))) (λ u.
    (simp (t, u), ltb-false _ _ u)))
