-- Orders and their numbers undo each other.
-- Assumes nothing.
use Prim.Native.Nat.{ℕ, ◌≤◌}
use native.Mathlib.Omega.{arith}
use mathlib.Core.Bool.{false}
use mathlib.Core.Path.{◌≡◌, refl}
use borrow.Author.Tests.{lt-ltb, le-ltb, ltb-true, ltb-false}
use lib.Dec.{ltb}
use Rattle.octets.proofs.Cases.{cases, holds?}
use Rattle.superframe.specs.declared.BeaconOrder.{BeaconOrder}
use Rattle.superframe.specs.declared.BeaconOrder.TheVariants as Beacon
use Rattle.superframe.specs.declared.SuperframeOrder.{SuperframeOrder}
use Rattle.superframe.specs.declared.SuperframeOrder.TheVariants as Superframe
use Rattle.superframe.specs.Orders.{beacon_order_of, beacon_order_bits, beacon_order_too_large, superframe_order_of, superframe_order_bits}
use Rattle.superframe.specs.Orders.{superframe_order_too_large}

-- an order that is not too large has four bits
pub beacon_order_small : (o : BeaconOrder) → beacon_order_too_large o ≡ false → beacon_order_bits o ≤ 15
beacon_order_small (Beacon.BeaconOrder n) e = omega (arith, ltb-false 14 n e)
beacon_order_small Beacon.OnDemand e = omega arith

pub superframe_order_small : (o : SuperframeOrder) → superframe_order_too_large o ≡ false → superframe_order_bits o ≤ 15
superframe_order_small (Superframe.SuperframeOrder n) e = omega (arith, ltb-false 14 n e)
superframe_order_small Superframe.Inactive e = omega arith

-- and is the order of its number
pub beacon_order_back : (o : BeaconOrder) → beacon_order_too_large o ≡ false → beacon_order_of (beacon_order_bits o) ≡ o
beacon_order_back (Beacon.BeaconOrder n) e = simp (lt-ltb n 15 (omega (arith, ltb-false 14 n e)))
beacon_order_back Beacon.OnDemand e = refl

pub superframe_order_back : (o : SuperframeOrder) → superframe_order_too_large o ≡ false → superframe_order_of (superframe_order_bits o) ≡ o
superframe_order_back (Superframe.SuperframeOrder n) e = simp (lt-ltb n 15 (omega (arith, ltb-false 14 n e)))
superframe_order_back Superframe.Inactive e = refl

-- the order of four bits has those bits, and is not too large
pub beacon_order_again : (n : ℕ) → n ≤ 15 → (beacon_order_bits (beacon_order_of n) ≡ n) × (beacon_order_too_large (beacon_order_of n) ≡ false)
beacon_order_again n h =
    cases (holds? (ltb n 15))
    (λ e. simp e (refl, le-ltb 14 n (omega (arith, ltb-true n 15 e))))
    (λ e. simp e (omega (arith, ltb-false n 15 e), refl))

pub superframe_order_again : (n : ℕ) → n ≤ 15 → (superframe_order_bits (superframe_order_of n) ≡ n)
    × (superframe_order_too_large (superframe_order_of n) ≡ false)
superframe_order_again n h =
    cases (holds? (ltb n 15))
    (λ e. simp e (refl, le-ltb 14 n (omega (arith, ltb-true n 15 e))))
    (λ e. simp e (omega (arith, ltb-false n 15 e), refl))
