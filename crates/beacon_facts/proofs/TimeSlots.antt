-- Demand 3 of GTS information: header and direction byte put together again are the bytes that were read but for the bits cleared, and the
-- descriptors stand as they stood.
-- Assumes nothing.
use Prim.Native.Nat.{ℕ, zero, suc, ◌+◌, ◌-◌, ◌*◌, ◌/◌, ◌^◌, ◌≤◌, ◌<◌}
use native.Mathlib.Nat.{mod-eq_of_lt}
use native.Mathlib.Omega.{arith}
use mathlib.Core.Bool.{false}
use mathlib.Core.List.{List, [], ◌∷◌, ◌++◌, flat_map}
use mathlib.Core.Path.{◌≡◌, refl, sym, ap, ◌∙◌}
use borrow.Author.Tests.{le-ltb}
use lib.Dec.{eqb}
use lib.ListN.{length, get_or, take, drop, length-append}
use lib.Pow.{shr-shr, pow_mono}
use lib.Seq.{get_or-take, length-take-le}
use Rattle.octets.specs.Bits.{bits, bit, bit_of, clear}
use Rattle.octets.specs.Little.{number, split, Bytes}
use Rattle.octets.specs.Outcome.{number_of, length_of}
use Rattle.octets.proofs.Bits.{bit_back, bit_small}
use Rattle.octets.proofs.Each.{same}
use Rattle.octets.proofs.Little.{split_length, split_bytes, bytes_append, number_more}
use Rattle.seven_places.specs.Seven.{emptied, some}
use Rattle.seven_places.proofs.Seven.{seven_length, seven_same, seven_emptied, seven_all, span, in_use, emptied_in_use, span_fails, some_fails}
use Rattle.time_slots.specs.declared.Direction.{Direction}
use Rattle.time_slots.specs.declared.Direction.TheVariants.{Receive, Transmit}
use Rattle.time_slots.specs.declared.GuaranteedTimeSlotDescriptor.{GuaranteedTimeSlotDescriptor}
use Rattle.time_slots.specs.Direction.{direction_bit, direction_of}
use Rattle.time_slots.specs.Descriptor.{empty_descriptor, descriptor_in, descriptor_bytes, descriptor_too_large}
use Rattle.time_slots.specs.Width.{descriptor_length}
use Rattle.time_slots.specs.declared.GuaranteedTimeSlotInformation.{GuaranteedTimeSlotInformation}
use Rattle.time_slots.specs.declared.TimeSlotsRead.{TimeSlotsRead}
use Rattle.time_slots.specs.TimeSlots.{slots_length, slot_at, slots_in, slot_count_in, time_slots_in, time_slots_length_in}
use Rattle.time_slots.specs.TimeSlots.{read_time_slots, directions_of, list_bytes, time_slots_header, time_slots_bytes, time_slots_size}
use Rattle.time_slots.specs.TimeSlots.{time_slots_too_large, write_time_slots}
use Rattle.time_slots.proofs.TimeSlots.{length_some, direction_small, directions_small, list_some, fitting, time_slots_length}
use Rattle.time_slots.proofs.TimeSlots.{time_slots_read}
use Rattle.beacon_facts.specs.Formats.{time_slots, DescriptorTyped, TimeSlotsTyped, time_slots_read_back}
use Rattle.beacon_facts.proofs.Format.{Writes, Laws}
use Rattle.beacon_facts.proofs.Listed.{list_listed, time_slots_listed, time_slots_listed_lem}
use Rattle.beacon_facts.proofs.Places.{split_one, byte_small, past, past_length, number_first}
use Rattle.beacon_facts.proofs.SideBySide.{entries_again, entry_place, entry_at, each_bytes}
use Rattle.beacon_facts.proofs.Descriptor.{descriptor_fits, descriptor_again, descriptor_more, descriptor_typed, descriptor_back}
use Rattle.beacon_facts.proofs.Descriptor.{descriptor_bytes_lem}

-- seven slots take 22 bytes
pub few_length : (n : ℕ) → n ≤ 7 → slots_length n ≤ 22
few_length zero h = omega arith
few_length (suc n) h = omega arith

-- a direction to a bit and back
direction_back : (d : Direction) → direction_of (direction_bit d) ≡ d
direction_back Receive = refl
direction_back Transmit = refl

-- the bits of w from bit i on, each taken for a direction and put together again
abbrev marks : ℕ → ℕ → ℕ → ℕ
marks w i zero = 0
marks w i (suc m) = direction_bit (direction_of (bits w i 1)) + 2 * marks w (i + 1) m

-- are the low n bits
marks_cleared : (n : ℕ) → n ≤ 7 → (w : ℕ) → w < 256 → marks w 0 n ≡ clear n (8 - n) w
marks_cleared zero h = same (λ w. marks w 0 0) (clear 0 8) 256 tt
marks_cleared (suc zero) h = same (λ w. marks w 0 1) (clear 1 7) 256 tt
marks_cleared (suc (suc zero)) h = same (λ w. marks w 0 2) (clear 2 6) 256 tt
marks_cleared (suc (suc (suc zero))) h = same (λ w. marks w 0 3) (clear 3 5) 256 tt
marks_cleared (suc (suc (suc (suc zero)))) h = same (λ w. marks w 0 4) (clear 4 4) 256 tt
marks_cleared (suc (suc (suc (suc (suc zero))))) h = same (λ w. marks w 0 5) (clear 5 3) 256 tt
marks_cleared (suc (suc (suc (suc (suc (suc zero)))))) h = same (λ w. marks w 0 6) (clear 6 2) 256 tt
marks_cleared (suc (suc (suc (suc (suc (suc (suc zero))))))) h = same (λ w. marks w 0 7) (clear 7 1) 256 tt
marks_cleared (suc (suc (suc (suc (suc (suc (suc (suc n)))))))) h = absurd (omega arith)

header_again_lem : (b : ℕ) → b < 256 → bits b 0 3 + 2 ^ 7 * bit_of (bit b 7) ≡ clear 3 4 b
header_again_lem = same (λ b. bits b 0 3 + 2 ^ 7 * bit_of (bit b 7)) (clear 3 4) 256 tt

-- the list of n slots whose directions stand at a place
module _ (s : List ℕ) (at : ℕ) where
  slot_fits : (k : ℕ) → descriptor_too_large (slot_at s at k) ≡ false
  unfolding slot_at
  slot_fits k = descriptor_fits s (at + 1 + 3 * k) _

  span_directions : (i m : ℕ) → directions_of (span (slot_at s at) i m) ≡ marks (number s at 1) i m
  unfolding directions_of slot_at descriptor_in
  span_directions i zero = refl
  span_directions i (suc m) = rw (span_directions (i + 1) m)

  module _ (n : ℕ) (few : n ≤ 7) where
    slots_fit : some descriptor_too_large (take n (slots_in s at n)) ≡ false
    slots_fit = rw (in_use (slot_at s at) empty_descriptor n few) (span_fails descriptor_too_large (slot_at s at) slot_fits 0 n)

    directions_again : number s at 1 < 256 → directions_of (take n (slots_in s at n)) ≡ clear n (8 - n) (number s at 1)
    directions_again h =
        rw (in_use (slot_at s at) empty_descriptor n few) (span_directions 0 n ∙ marks_cleared n few (number s at 1) h)

    module _ (b : Bytes s) (there : at + 1 + 3 * n ≤ length s) where
      slot_stood : (k : ℕ) → k < n → descriptor_bytes (slot_at s at k) ≡ take 3 (drop (at + 1 + 3 * k) s)
      unfolding slot_at
      slot_stood k h = descriptor_again s (at + 1 + 3 * k) _ b (omega arith)

      slots_again_lem : flat_map descriptor_bytes (take n (slots_in s at n)) ≡ take (3 * n) (drop (at + 1) s)
      slots_again_lem = entries_again descriptor_bytes 3 s (at + 1) n (slot_at s at) slot_stood empty_descriptor few

      slot_typed : (k : ℕ) → k < n → DescriptorTyped (slot_at s at k)
      unfolding slot_at
      slot_typed k h = descriptor_typed s (at + 1 + 3 * k) _ b (omega arith)

  list_again : (n : ℕ) → n ≤ 7 → Bytes s → at + slots_length n ≤ length s → list_bytes (take n (slots_in s at n)) ≡ list_listed n s at
  unfolding list_listed list_bytes
  list_again zero few b there = refl
  list_again (suc k) few b there =
      let n = suc k in
      let h = byte_small s at b (omega arith) in
      rw (
        list_some (slots_in s at n) n (rw (seven_length (slot_at s at) empty_descriptor n) few) (λ e. absurd (omega arith)),
        directions_again n few h,
        slots_again_lem n few b (omega arith),
        split_one (clear n (8 - n) (number s at 1)) (omega arith),
      )

  slot_more : (n : ℕ) (t : List ℕ) → at + 1 + 3 * n ≤ length s → (k : ℕ) → k < n → slot_at (s ++ t) at k ≡ slot_at s at k
  unfolding slot_at
  slot_more n t there k h = rw (number_more s t at 1 (omega arith)) (descriptor_more s (at + 1 + 3 * k) _ t (omega arith))

-- the slots of a list that was written
direction_at : (l : List GuaranteedTimeSlotDescriptor) (k : ℕ) (d : GuaranteedTimeSlotDescriptor) → k < length l →
    bits (directions_of l) k 1 ≡ direction_bit (get_or l k d).direction
unfolding directions_of
direction_at [] k d h = absurd (omega arith)
direction_at (x ∷ l) zero d h = omega (arith, direction_small x.direction)
direction_at (x ∷ l) (suc k) d h =
    let w = direction_bit x.direction + 2 * directions_of l in
    let half : w / 2 ^ 1 ≡ directions_of l = omega (arith, direction_small x.direction) in
    let e : suc k ≡ 1 + k = omega arith in
    let shift : w / 2 ^ suc k ≡ directions_of l / 2 ^ k =
    ap (λ (j : ℕ). w / 2 ^ j) e ∙ sym (shr-shr w 1 k) ∙ ap (λ (q : ℕ). q / 2 ^ k) half in
    rw shift (direction_at l k d (omega arith))

module _ (l : List GuaranteedTimeSlotDescriptor) (n : ℕ) (full : length l ≡ 7) (few : n ≤ 7)
    (typed : (k : ℕ) → k < 7 → DescriptorTyped (get_or l k empty_descriptor)) (fits : some descriptor_too_large (take n l) ≡ false)
    (p t : List ℕ) (at : ℕ) (before : length p ≡ at) where
  abbrev stored : List ℕ
  stored = p ++ ((split 1 (directions_of (take n l)) ++ flat_map descriptor_bytes (take n l)) ++ t)

  directions_byte : directions_of (take n l) < 256
  directions_byte =
      let short : length (take n l) ≤ 7 = rw (length-take-le n l (rw full few)) few in
      omega (arith, directions_small (take n l), pow_mono short)

  directions_stored : number stored at 1 ≡ directions_of (take n l)
  directions_stored = number_first p (flat_map descriptor_bytes (take n l)) at 1 (directions_of (take n l)) t before directions_byte

  module _ (k : ℕ) (h : k < n) where
    direction_stored : direction_of (bits (number stored at 1) k 1) ≡ (get_or l k empty_descriptor).direction
    direction_stored =
        rw (
          directions_stored,
          direction_at (take n l) k empty_descriptor (rw (length-take-le n l (rw full few)) h),
          get_or-take n l k empty_descriptor h,
        )
        (direction_back (get_or l k empty_descriptor).direction)

    slot_stored : descriptor_in stored (at + 1 + 3 * k) (get_or l k empty_descriptor).direction ≡ get_or l k empty_descriptor
    slot_stored =
        let q = p ++ split 1 (directions_of (take n l)) in
        rw (
          past p (split 1 (directions_of (take n l))) (flat_map descriptor_bytes (take n l)) t,
          entry_place descriptor_bytes 3 descriptor_length l n (rw full few) k h empty_descriptor q t,
        )
        (descriptor_back (get_or l k empty_descriptor) (q ++ flat_map descriptor_bytes (take k l))
        (flat_map descriptor_bytes (drop (k + 1) (take n l)) ++ t) (at + 1 + 3 * k) (get_or l k empty_descriptor).direction
        (typed k (omega arith))
        (some_fails descriptor_too_large l n k empty_descriptor (rw full few) h fits)
        (entry_at descriptor_bytes 3 descriptor_length l n (rw full few) k h empty_descriptor q (at + 1)
        (past_length p _ at 1 before (split_length 1 _))))

    pub slot_back : slot_at (p ++ (list_bytes (take n l) ++ t)) at k ≡ get_or l k empty_descriptor
    unfolding slot_at
    slot_back = rw (list_some l n (rw full few) (λ e. absurd (omega arith)), direction_stored) slot_stored

-- the header of information that was written
module _ (x : GuaranteedTimeSlotInformation) (few : x.slot_count ≤ 7) where
  header_byte : time_slots_header x < 256
  header_byte = omega (arith, bit_small x.permit)

  header_count : bits (time_slots_header x) 0 3 ≡ x.slot_count
  header_count = omega (arith, bit_small x.permit)

  header_permit : bit (time_slots_header x) 7 ≡ x.permit
  header_permit =
      let top : time_slots_header x / 128 ≡ bit_of x.permit = omega (arith, bit_small x.permit) in
      rw top (ap (λ (b : ℕ). eqb b 1) (mod-eq_of_lt (bit_small x.permit)) ∙ bit_back x.permit)

module _ (x : GuaranteedTimeSlotInformation) (typed : TimeSlotsTyped x) (f : time_slots_too_large x ≡ false) (p t : List ℕ) (at : ℕ)
    (before : length p ≡ at) where
  abbrev written : List ℕ
  written = p ++ (time_slots_bytes x ++ t)

  header_stored : number written at 1 ≡ time_slots_header x
  unfolding time_slots_bytes
  header_stored = number_first p (list_bytes (take x.slot_count x.slots)) at 1 (time_slots_header x) t before
      (header_byte x (fitting x f).0)

  pub count_stored : slot_count_in written at ≡ x.slot_count
  count_stored = rw header_stored (header_count x (fitting x f).0)

  slots_stored : slots_in written (at + 1) x.slot_count ≡ emptied x.slots empty_descriptor x.slot_count
  unfolding time_slots_bytes
  slots_stored =
      let n = x.slot_count in
      let fits = fitting x f in
      seven_same (slot_at written (at + 1)) (λ (k : ℕ). get_or x.slots k empty_descriptor) empty_descriptor n
      (λ k h.
      rw (past p (split 1 (time_slots_header x)) (list_bytes (take n x.slots)) t)
      (slot_back x.slots n typed.0 fits.0 typed.1 fits.1 (p ++ split 1 (time_slots_header x)) t (at + 1)
      (past_length p _ at 1 before (split_length 1 _)) k h))

  pub time_slots_back : time_slots_in written at ≡ time_slots_read_back x
  unfolding time_slots_in
  time_slots_back = rw (count_stored, slots_stored, header_stored, header_permit x (fitting x f).0)

list_bytes_lem : (l : List GuaranteedTimeSlotDescriptor) → Bytes (list_bytes l)
unfolding list_bytes
list_bytes_lem [] = tt
list_bytes_lem (x ∷ l) = bytes_append (split 1 (directions_of (x ∷ l))) (flat_map descriptor_bytes (x ∷ l)) (split_bytes 1 (directions_of (x ∷ l)))
    (each_bytes descriptor_bytes descriptor_bytes_lem (x ∷ l))

pub time_slots_bytes_lem : (x : GuaranteedTimeSlotInformation) → Bytes (time_slots_bytes x)
unfolding time_slots_bytes
time_slots_bytes_lem x = bytes_append (split 1 (time_slots_header x)) (list_bytes (take x.slot_count x.slots))
    (split_bytes 1 (time_slots_header x)) (list_bytes_lem (take x.slot_count x.slots))

-- what stands at a place
module _ (s : List ℕ) (at : ℕ) where
  count_few : slot_count_in s at ≤ 7
  count_few = omega arith

  pub time_slots_fit : time_slots_too_large (time_slots_in s at) ≡ false
  unfolding time_slots_too_large time_slots_in
  time_slots_fit = rw (le-ltb 7 (slot_count_in s at) count_few, slots_fit s (at + 1) (slot_count_in s at) count_few)

  pub time_slots_same : time_slots_read_back (time_slots_in s at) ≡ time_slots_in s at
  unfolding time_slots_in
  time_slots_same = rw (seven_emptied (slot_at s (at + 1)) empty_descriptor (slot_count_in s at) count_few)

  module _ (there : time_slots_length_in s at ≤ length s - at) where
    list_there : at + 1 + slots_length (slot_count_in s at) ≤ length s
    list_there = omega arith

    pub time_slots_typed : Bytes s → TimeSlotsTyped (time_slots_in s at)
    unfolding time_slots_in
    time_slots_typed b = (
      seven_length (slot_at s (at + 1)) empty_descriptor (slot_count_in s at),
      seven_all DescriptorTyped (slot_at s (at + 1)) empty_descriptor (slot_count_in s at) (omega arith)
          (λ k h. slot_typed s (at + 1) (slot_count_in s at) count_few b
          (omega (arith, list_there, length_some (slot_count_in s at) (λ e. absurd (omega arith)))) k h),
    )

    pub time_slots_again : Bytes s → time_slots_bytes (time_slots_in s at) ≡ time_slots_listed s at
    unfolding time_slots_bytes time_slots_in time_slots_listed
    time_slots_again b =
        let h = byte_small s at b (omega arith) in
        rw (
          header_again_lem (number s at 1) h,
          split_one (clear 3 4 (number s at 1)) (omega arith),
          list_again s (at + 1) (slot_count_in s at) count_few b list_there,
        )

    module _ (t : List ℕ) where
      pub count_more : slot_count_in (s ++ t) at ≡ slot_count_in s at
      count_more = rw (number_more s t at 1 (omega arith))

      pub time_slots_more : time_slots_in (s ++ t) at ≡ time_slots_in s at
      unfolding time_slots_in
      time_slots_more =
          rw (
            number_more s t at 1 (omega arith),
            seven_same (slot_at (s ++ t) (at + 1)) (slot_at s (at + 1)) empty_descriptor (slot_count_in s at)
                (λ k h. slot_more s (at + 1) (slot_count_in s at) t
                (omega (arith, list_there, length_some (slot_count_in s at) (λ e. absurd (omega arith)))) k h),
          )

-- a slot past the count is not looked at
module _ (x : GuaranteedTimeSlotInformation) (typed : TimeSlotsTyped x) (f : time_slots_too_large x ≡ false) where
  slots_in_use : take x.slot_count (time_slots_read_back x).slots ≡ take x.slot_count x.slots
  slots_in_use = emptied_in_use x.slots empty_descriptor x.slot_count (fitting x f).0 (rw typed.0 (fitting x f).0)

  pub time_slots_back_fits : time_slots_too_large (time_slots_read_back x) ≡ false
  unfolding time_slots_too_large
  time_slots_back_fits = rw slots_in_use f

  pub time_slots_settled : time_slots_bytes (time_slots_read_back x) ≡ time_slots_bytes x
  unfolding time_slots_bytes
  time_slots_settled = rw slots_in_use

pub time_slots_accepts : (s : List ℕ) (at : ℕ) → time_slots_length_in s at ≤ length s - at →
    read_time_slots s at ≡ time_slots.accepts (time_slots_in s at) (time_slots_length_in s at)
unfolding read_time_slots
time_slots_accepts s at h = rw (le-ltb (length s - at) 1 (omega arith), le-ltb (length s - at) (time_slots_length_in s at) h)

size_in : (s : List ℕ) (at : ℕ) → time_slots_size (time_slots_in s at) ≡ time_slots_length_in s at
unfolding time_slots_in
size_in s at = refl

time_slots_writes : Writes time_slots
unfolding write_time_slots
time_slots_writes x out at = refl

pub time_slots_laws : Laws time_slots
time_slots_laws =
    record {
      writes = time_slots_writes;
      taken = λ s at x n b e.
          let found = time_slots_read s at (ap (λ (r : TimeSlotsRead). number_of r.outcome) e) in
          let told = sym found.0 ∙ e in
          let value : time_slots_in s at ≡ x = ap (λ (r : TimeSlotsRead). r.guaranteed_time_slot_info) told in
          let count : time_slots_length_in s at ≡ n = ap (λ (r : TimeSlotsRead). length_of r.outcome) told in
          let there = found.1 in
          rw (sym value, sym count)
          (record {
            typed = time_slots_typed s at there b;
            fits = time_slots_fit s at;
            same = time_slots_same s at;
            size = size_in s at;
            within = there;
            written = time_slots_again s at there b ∙ time_slots_listed_lem s at there;
            behind = λ t.
                time_slots_accepts (s ++ t) at (rw (length-append s t, count_more s at there t) (omega (arith, there)))
                ∙ rw (time_slots_more s at there t, count_more s at there t);
          });
      bytes = time_slots_bytes_lem;
      returned = λ x typed f. record {
        long = time_slots_length x typed.0 f;
        fits = time_slots_back_fits x typed f;
        settled = time_slots_settled x typed f;
        back = λ p t.
            let count = count_stored x typed f p t (length p) refl in
            let long = time_slots_length x typed.0 f in
            time_slots_accepts (p ++ (time_slots_bytes x ++ t)) (length p)
            (rw (count, length-append p (time_slots_bytes x ++ t), length-append (time_slots_bytes x) t, long)
            (omega arith))
            ∙ rw (time_slots_back x typed f p t (length p) refl, count);
      };
    }
