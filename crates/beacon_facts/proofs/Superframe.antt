-- Demand 3 of the superframe specification: each of its two bytes put together again is the byte that was read, bit 5 of the second clear.
-- Assumes nothing.
use Prim.Native.Nat.{ℕ, ◌+◌, ◌-◌, ◌*◌, ◌/◌, ◌^◌, ◌≤◌, ◌<◌}
use native.Mathlib.Nat.{mod-eq_of_lt}
use native.Mathlib.Omega.{arith}
use mathlib.Core.Bool.{false}
use mathlib.Core.List.{List, ◌++◌}
use mathlib.Core.Path.{◌≡◌, refl, sym, ap, ◌∙◌}
use borrow.Author.Tests.{le-ltb}
use lib.ListN.{length, length-append}
use Rattle.octets.specs.Bits.{bits, bit, bit_of, clear}
use Rattle.octets.specs.Little.{number, split, Bytes}
use Rattle.octets.specs.Outcome.{number_of, length_of}
use Rattle.octets.proofs.Bits.{bit_back, bit_small}
use Rattle.octets.proofs.Each.{same}
use Rattle.octets.proofs.Little.{split_length, split_bytes, bytes_append, number_more}
use Rattle.superframe.specs.declared.SuperframeSpecification.{SuperframeSpecification}
use Rattle.superframe.specs.declared.SuperframeRead.{SuperframeRead}
use Rattle.superframe.specs.Orders.{beacon_order_of, beacon_order_bits, superframe_order_of, superframe_order_bits}
use Rattle.superframe.specs.Superframe.{superframe_in, read_superframe, orders_byte, rest_byte, superframe_bytes, superframe_too_large}
use Rattle.superframe.specs.Superframe.{write_superframe}
use Rattle.superframe.proofs.Orders.{beacon_order_back, beacon_order_again, superframe_order_back, superframe_order_again}
use Rattle.superframe.proofs.Superframe.{superframe_length, fitting, superframe_read}
use Rattle.beacon_facts.specs.Formats.{superframe}
use Rattle.beacon_facts.proofs.Format.{Writes, Laws}
use Rattle.beacon_facts.proofs.Listed.{superframe_listed, superframe_listed_lem}
use Rattle.beacon_facts.proofs.Places.{split_one, byte_small, number_first, number_second}

-- each byte, taken apart and put together again
orders_again : (a : ℕ) → a < 256 → beacon_order_bits (beacon_order_of (bits a 0 4)) + 2 ^ 4 * superframe_order_bits (superframe_order_of (bits a 4 4)) ≡ a
orders_again = same (λ a. beacon_order_bits (beacon_order_of (bits a 0 4)) + 2 ^ 4 * superframe_order_bits (superframe_order_of (bits a 4 4)))
    (λ a. a) 256 tt

rest_again : (b : ℕ) → b < 256 → bits b 0 4 + 2 ^ 4 * bit_of (bit b 4) + 2 ^ 6 * bit_of (bit b 6) + 2 ^ 7 * bit_of (bit b 7) ≡ clear 5 1 b
rest_again = same (λ b. bits b 0 4 + 2 ^ 4 * bit_of (bit b 4) + 2 ^ 6 * bit_of (bit b 6) + 2 ^ 7 * bit_of (bit b 7)) (clear 5 1) 256 tt

module _ (s : List ℕ) (at : ℕ) where
  pub superframe_fits : superframe_too_large (superframe_in s at) ≡ false
  unfolding superframe_too_large superframe_in
  superframe_fits =
      let a = number s at 1 in
      let b = number s (at + 1) 1 in
      simp (
        (beacon_order_again (bits a 0 4) (omega arith)).1,
        (superframe_order_again (bits a 4 4) (omega arith)).1,
        le-ltb 15 (bits b 0 4) (omega arith),
      )

  pub superframe_again : Bytes s → 2 ≤ length s - at → superframe_bytes (superframe_in s at) ≡ superframe_listed s at
  unfolding superframe_bytes superframe_in superframe_listed
  superframe_again b h =
      let a = byte_small s at b (omega arith) in
      let c = byte_small s (at + 1) b (omega arith) in
      rw (
        orders_again (number s at 1) a,
        rest_again (number s (at + 1) 1) c,
        split_one (number s at 1) a,
        split_one (clear 5 1 (number s (at + 1) 1)) (omega arith),
      )

  pub superframe_more : (t : List ℕ) → 2 ≤ length s - at → superframe_in (s ++ t) at ≡ superframe_in s at
  unfolding superframe_in
  superframe_more t h = rw (number_more s t at 1 (omega arith), number_more s t (at + 1) 1 (omega arith))

-- the fields put together are read as those fields
pub superframe_back : (x : SuperframeSpecification) (p t : List ℕ) (at : ℕ) → superframe_too_large x ≡ false → length p ≡ at →
    superframe_in (p ++ (superframe_bytes x ++ t)) at ≡ x
unfolding superframe_bytes superframe_in
superframe_back x p t at f e =
    let fits = fitting x f in
    let battery = bit_small x.battery_life_extension in
    let coordinator = bit_small x.pan_coordinator in
    let permit = bit_small x.association_permit in
    let beacon : bits (orders_byte x) 0 4 ≡ beacon_order_bits x.beacon_order = omega arith in
    let half : orders_byte x / 16 ≡ superframe_order_bits x.superframe_order = omega arith in
    let superframe : bits (orders_byte x) 4 4 ≡ superframe_order_bits x.superframe_order = rw half (mod-eq_of_lt (omega arith)) in
    let slot : bits (rest_byte x) 0 4 ≡ x.final_cap_slot = omega arith in
    let flags : rest_byte x / 16 ≡ bit_of x.battery_life_extension + 4 * bit_of x.pan_coordinator + 8 * bit_of
    x.association_permit = omega arith in
    let four : bits (rest_byte x) 4 1 ≡ bit_of x.battery_life_extension = rw flags (omega arith) in
    let high : rest_byte x / 64 ≡ bit_of x.pan_coordinator + 2 * bit_of x.association_permit = omega arith in
    let six : bits (rest_byte x) 6 1 ≡ bit_of x.pan_coordinator = rw high (omega arith) in
    let top : rest_byte x / 128 ≡ bit_of x.association_permit = omega arith in
    let seven : bits (rest_byte x) 7 1 ≡ bit_of x.association_permit = rw top (omega arith) in
    simp (
      number_first p (split 1 (rest_byte x)) at 1 (orders_byte x) t e (omega arith),
      number_second p (split 1 (orders_byte x)) at 1 1 (rest_byte x) t e (split_length 1 (orders_byte x)) (omega arith),
      beacon,
      superframe,
      slot,
      four,
      six,
      seven,
      beacon_order_back x.beacon_order fits.beacon_order,
      superframe_order_back x.superframe_order fits.superframe_order,
      bit_back,
    )

superframe_bytes_lem : (x : SuperframeSpecification) → Bytes (superframe_bytes x)
unfolding superframe_bytes
superframe_bytes_lem x = bytes_append (split 1 (orders_byte x)) (split 1 (rest_byte x)) (split_bytes 1 (orders_byte x))
    (split_bytes 1 (rest_byte x))

pub superframe_accepts : (s : List ℕ) (at : ℕ) → 2 ≤ length s - at → read_superframe s at ≡ superframe.accepts (superframe_in s at) 2
unfolding read_superframe
superframe_accepts s at h = rw (le-ltb (length s - at) 2 h)

superframe_writes : Writes superframe
unfolding write_superframe
superframe_writes x out at = refl

pub superframe_laws : Laws superframe
superframe_laws =
    record {
      writes = superframe_writes;
      taken = λ s at x n b e.
          let there = superframe_read s at (ap (λ (r : SuperframeRead). number_of r.outcome) e) in
          let told = sym there.0 ∙ e in
          let value : superframe_in s at ≡ x = ap (λ (r : SuperframeRead). r.superframe_spec) told in
          let count : 2 ≡ n = ap (λ (r : SuperframeRead). length_of r.outcome) told in
          rw (sym value, sym count)
          (record {
            typed = tt;
            fits = superframe_fits s at;
            same = refl;
            size = refl;
            within = there.1;
            written = superframe_again s at b there.1 ∙ superframe_listed_lem s at there.1;
            behind = λ t. superframe_accepts (s ++ t) at (rw (length-append s t) (omega (arith, there.1)))
                ∙ ap (λ (x : SuperframeSpecification). superframe.accepts x 2) (superframe_more s at t there.1);
          });
      bytes = λ x. superframe_bytes_lem x;
      returned = λ x typed f. record {
        long = superframe_length x;
        fits = f;
        settled = refl;
        back = λ p t.
            superframe_accepts (p ++ (superframe_bytes x ++ t)) (length p)
            (rw (length-append p (superframe_bytes x ++ t), length-append (superframe_bytes x) t, superframe_length x) (omega arith))
            ∙ ap (λ (x : SuperframeSpecification). superframe.accepts x 2) (superframe_back x p t (length p) f refl);
      };
    }
