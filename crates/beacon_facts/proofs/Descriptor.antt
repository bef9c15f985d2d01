-- Demand 3 of a slot's descriptor: its last byte put together again is the byte that was read.
-- Assumes nothing.
use Prim.Native.Nat.{ℕ, ◌+◌, ◌-◌, ◌*◌, ◌/◌, ◌^◌, ◌≤◌, ◌<◌}
use native.Mathlib.Nat.{mod-eq_of_lt}
use native.Mathlib.Omega.{arith}
use mathlib.Core.Bool.{false}
use mathlib.Core.List.{List, ◌++◌}
use mathlib.Core.Path.{◌≡◌, refl, sym, ap, ◌∙◌}
use borrow.Author.Tests.{le-ltb}
use lib.ListN.{length, take, drop, length-append}
use lib.Seq.{take-add, drop-drop}
use Rattle.octets.specs.Bits.{bits}
use Rattle.octets.specs.Little.{number, split, Bytes}
use Rattle.octets.specs.Outcome.{number_of, length_of}
use Rattle.octets.proofs.Each.{same}
use Rattle.octets.proofs.Little.{split_length, split_bytes, bytes_append, number_again, number_small, number_more}
use Rattle.time_slots.specs.declared.Direction.{Direction}
use Rattle.time_slots.specs.declared.Direction.TheVariants.{Receive}
use Rattle.time_slots.specs.declared.GuaranteedTimeSlotDescriptor.{GuaranteedTimeSlotDescriptor}
use Rattle.time_slots.specs.declared.DescriptorRead.{DescriptorRead}
use Rattle.time_slots.specs.Descriptor.{descriptor_of, descriptor_in, read_descriptor, slot_byte, descriptor_bytes, descriptor_too_large}
use Rattle.time_slots.specs.Descriptor.{write_descriptor}
use Rattle.time_slots.specs.Width.{descriptor_length}
use Rattle.time_slots.proofs.Descriptor.{fitting, descriptor_read}
use Rattle.beacon_facts.specs.Cleared.{descriptor_cleared}
use Rattle.beacon_facts.specs.Formats.{descriptor, DescriptorTyped}
use Rattle.beacon_facts.proofs.Format.{Writes, Laws}
use Rattle.beacon_facts.proofs.Places.{byte_small, number_first, number_second}

slot_again : (b : ℕ) → b < 256 → bits b 0 4 + 2 ^ 4 * bits b 4 4 ≡ b
slot_again = same (λ b. bits b 0 4 + 2 ^ 4 * bits b 4 4) (λ b. b) 256 tt

module _ (s : List ℕ) (at : ℕ) (d : Direction) where
  pub descriptor_fits : descriptor_too_large (descriptor_in s at d) ≡ false
  unfolding descriptor_too_large descriptor_in
  descriptor_fits =
      let b = number s (at + 2) 1 in
      simp (le-ltb 15 (bits b 0 4) (omega arith), le-ltb 15 (bits b 4 4) (omega arith))

  pub descriptor_again : Bytes s → 3 ≤ length s - at → descriptor_bytes (descriptor_in s at d) ≡ take 3 (drop at s)
  unfolding descriptor_bytes descriptor_in
  descriptor_again b h =
      rw (
        slot_again (number s (at + 2) 1) (byte_small s (at + 2) b (omega arith)),
        number_again s at 2 b (omega arith),
        number_again s (at + 2) 1 b (omega arith),
        take-add 2 1 (drop at s),
        drop-drop 2 at s,
      )

  pub descriptor_more : (t : List ℕ) → 3 ≤ length s - at → descriptor_in (s ++ t) at d ≡ descriptor_in s at d
  unfolding descriptor_in
  descriptor_more t h = rw (number_more s t at 2 (omega arith), number_more s t (at + 2) 1 (omega arith))

  pub descriptor_typed : Bytes s → 3 ≤ length s - at → DescriptorTyped (descriptor_in s at d)
  unfolding descriptor_in
  descriptor_typed b h = number_small s at 2 b (omega arith)

-- the fields put together are read as those fields, beside a direction
pub descriptor_back : (x : GuaranteedTimeSlotDescriptor) (p t : List ℕ) (at : ℕ) (d : Direction) → DescriptorTyped x →
    descriptor_too_large x ≡ false → length p ≡ at →
    descriptor_in (p ++ (descriptor_bytes x ++ t)) at d ≡ descriptor_of x.short_address x.starting_slot x.length d
unfolding descriptor_bytes descriptor_in
descriptor_back x p t at d typed f e =
    let fits = fitting x f in
    let start : bits (slot_byte x) 0 4 ≡ x.starting_slot = omega arith in
    let half : slot_byte x / 16 ≡ x.length = omega arith in
    let length : bits (slot_byte x) 4 4 ≡ x.length = rw half (mod-eq_of_lt (omega arith)) in
    simp (
      number_first p (split 1 (slot_byte x)) at 2 x.short_address.0 t e typed,
      number_second p (split 2 x.short_address.0) at 2 1 (slot_byte x) t e (split_length 2 x.short_address.0) (omega arith),
      start,
      length,
    )

pub descriptor_bytes_lem : (x : GuaranteedTimeSlotDescriptor) → Bytes (descriptor_bytes x)
unfolding descriptor_bytes
descriptor_bytes_lem x = bytes_append (split 2 x.short_address.0) (split 1 (slot_byte x)) (split_bytes 2 x.short_address.0)
    (split_bytes 1 (slot_byte x))

accepts_there : (s : List ℕ) (at : ℕ) → 3 ≤ length s - at → read_descriptor s at ≡ descriptor.accepts (descriptor_in s at Receive) 3
unfolding read_descriptor
accepts_there s at h = rw (le-ltb (length s - at) 3 h)

-- read alone, its direction is the one that an unused place has
same_in : (s : List ℕ) (at : ℕ) → descriptor.read_back (descriptor_in s at Receive) ≡ descriptor_in s at Receive
unfolding descriptor_in
same_in s at = refl

-- the direction is not looked at
back_fits : (x : GuaranteedTimeSlotDescriptor) → descriptor_too_large x ≡ false → descriptor_too_large (descriptor.read_back x) ≡ false
unfolding descriptor_too_large
back_fits x f = f

settled : (x : GuaranteedTimeSlotDescriptor) → descriptor_bytes (descriptor.read_back x) ≡ descriptor_bytes x
unfolding descriptor_bytes
settled x = refl

descriptor_writes : Writes descriptor
unfolding write_descriptor
descriptor_writes x out at = refl

pub descriptor_laws : Laws descriptor
unfolding descriptor_cleared
descriptor_laws =
    record {
      writes = descriptor_writes;
      taken = λ s at x n b e.
          let there = descriptor_read s at (ap (λ (r : DescriptorRead). number_of r.outcome) e) in
          let told = sym there.0 ∙ e in
          let value : descriptor_in s at Receive ≡ x = ap (λ (r : DescriptorRead). r.slot) told in
          let count : 3 ≡ n = ap (λ (r : DescriptorRead). length_of r.outcome) told in
          rw (sym value, sym count)
          (record {
            typed = descriptor_typed s at Receive b there.1;
            fits = descriptor_fits s at Receive;
            same = same_in s at;
            size = refl;
            within = there.1;
            written = descriptor_again s at Receive b there.1;
            behind = λ t.
                accepts_there (s ++ t) at (rw (length-append s t) (omega (arith, there.1)))
                ∙ ap (λ (x : GuaranteedTimeSlotDescriptor). descriptor.accepts x 3) (descriptor_more s at Receive t there.1);
          });
      bytes = descriptor_bytes_lem;
      returned = λ x typed f. record {
        long = descriptor_length x;
        fits = back_fits x f;
        settled = settled x;
        back = λ p t.
            accepts_there (p ++ (descriptor_bytes x ++ t)) (length p)
            (rw (length-append p (descriptor_bytes x ++ t), length-append (descriptor_bytes x) t, descriptor_length x) (omega arith))
            ∙ ap (λ (x : GuaranteedTimeSlotDescriptor). descriptor.accepts x 3) (descriptor_back x p t (length p) Receive typed f refl);
      };
    }
