-- Laws of the superframe specification.
-- Assumes nothing.
use Prim.Native.Nat.{ℕ, ◌-◌, ◌≤◌}
use native.Mathlib.Omega.{arith}
use mathlib.Core.Bool.{false}
use mathlib.Core.List.{List}
use mathlib.Core.Path.{◌≡◌}
use borrow.Author.Tests.{ltb-false}
use lib.ListN.{length, length-append}
use Rattle.octets.specs.Part.{ends}
use Rattle.octets.proofs.Little.{split_length}
use Rattle.octets.proofs.Cases.{cases, holds?, neither}
use Rattle.superframe.specs.declared.SuperframeSpecification.{SuperframeSpecification}
use Rattle.superframe.specs.Orders.{beacon_order_bits, beacon_order_too_large, superframe_order_bits, superframe_order_too_large}
use Rattle.superframe.specs.Superframe.{superframe_in, read_superframe, orders_byte, superframe_bytes, superframe_too_large}
use Rattle.superframe.proofs.Orders.{beacon_order_small, superframe_order_small}
use Rattle.std.specs.Prelude.{Ok}
use Rattle.octets.specs.Outcome.{number_of}

pub superframe_length : (x : SuperframeSpecification) → length (superframe_bytes x) ≡ 2
unfolding superframe_bytes
superframe_length x = rw (length-append, split_length 1 (orders_byte x), split_length)

-- each number fits its bits
pub record Fitting (x : SuperframeSpecification) : Type 0 where
  pub beacon_order : beacon_order_too_large x.beacon_order ≡ false
  pub superframe_order : superframe_order_too_large x.superframe_order ≡ false
  pub beacon_order_bits_lem : beacon_order_bits x.beacon_order ≤ 15
  pub superframe_order_bits_lem : superframe_order_bits x.superframe_order ≤ 15
  pub slot : x.final_cap_slot ≤ 15

pub fitting : (x : SuperframeSpecification) → superframe_too_large x ≡ false → Fitting x
unfolding superframe_too_large
fitting x e =
    let one = neither _ _ e in
    let two = neither _ _ one.0 in
    record {
      beacon_order = two.0;
      superframe_order = two.1;
      beacon_order_bits_lem = beacon_order_small x.beacon_order two.0;
      superframe_order_bits_lem = superframe_order_small x.superframe_order two.1;
      slot = ltb-false 15 x.final_cap_slot one.1;
    }

-- what is read was there
pub superframe_read : (s : List ℕ) (at : ℕ) → number_of (read_superframe s at).outcome ≡ 0 →
    (read_superframe s at ≡ record { outcome = Ok 2; superframe_spec = superframe_in s at }) × (2 ≤ length s - at)
unfolding read_superframe
superframe_read s at e =
    cases (holds? (ends s at 2)) (λ t. absurd (omega (arith, simp t at e))) (λ t. (simp t, ltb-false _ _ t))
