-- The superframe specification, document 01, "Beacon layout" (IEEE 802.15.4-2011, 5.2.2.1.2). Byte 0: beacon order (low
-- half), superframe order (high half). Byte 1: final slot bits 0-3, battery extension 4, bit 5 not read, coordinator 6,
-- association permit 7.
use Rattle.std.specs.Prelude.{ℕ, ◌+◌, ◌*◌, ◌^◌, Bool, false, ◌||◌, List, [], ◌∷◌, ◌++◌, ltb, Ok, Err}
use Rattle.octets.specs.Bits.{bits, bit, bit_of}
use Rattle.octets.specs.Little.{number, split}
use Rattle.octets.specs.declared.Refusal.TheVariants.{Ended}
use Rattle.octets.specs.{Order.first, Part.ends, Value.write_value, Outcome.Outcome}
use Rattle.superframe.specs.declared.{SuperframeSpecification.SuperframeSpecification}
use Rattle.superframe.specs.declared.{SuperframeRead.SuperframeRead}
use Rattle.superframe.specs.Orders.{beacon_order_of, beacon_order_bits, beacon_order_too_large, superframe_order_of}
use Rattle.superframe.specs.Orders.{superframe_order_bits, superframe_order_too_large}
use Rattle.superframe.specs.declared.BeaconOrder.TheVariants.{OnDemand}
use Rattle.superframe.specs.declared.SuperframeOrder.TheVariants.{Inactive}

-- the fields of the two bytes
abbrev pub superframe_of : ℕ → ℕ → SuperframeSpecification
superframe_of orders rest =
    record {
      beacon_order = beacon_order_of (bits orders 0 4);
      superframe_order = superframe_order_of (bits orders 4 4);
      final_cap_slot = bits rest 0 4;
      battery_life_extension = bit rest 4;
      pan_coordinator = bit rest 6;
      association_permit = bit rest 7;
    }

abbrev pub empty_superframe : SuperframeSpecification
empty_superframe =
    record {
      beacon_order = OnDemand;
      superframe_order = Inactive;
      final_cap_slot = 0;
      battery_life_extension = false;
      pan_coordinator = false;
      association_permit = false;
    }

-- the specification at a place
unfoldable pub superframe_in : List ℕ → ℕ → SuperframeSpecification
superframe_in s at = superframe_of (number s at 1) (number s (at + 1) 1)

-- and what reading it there answers
unfoldable pub read_superframe : List ℕ → ℕ → SuperframeRead
read_superframe s at =
    first ((ends s at 2, record { outcome = Err Ended; superframe_spec = empty_superframe }) ∷ [])
    (record { outcome = Ok 2; superframe_spec = superframe_in s at })

-- the two bytes, bit 5 of the second clear
abbrev pub orders_byte : SuperframeSpecification → ℕ
orders_byte x = beacon_order_bits x.beacon_order + 2 ^ 4 * superframe_order_bits x.superframe_order

abbrev pub rest_byte : SuperframeSpecification → ℕ
rest_byte x =
    x.final_cap_slot
    + 2 ^ 4 * bit_of x.battery_life_extension
    + 2 ^ 6 * bit_of x.pan_coordinator
    + 2 ^ 7 * bit_of x.association_permit

unfoldable pub superframe_bytes : SuperframeSpecification → List ℕ
superframe_bytes x = split 1 (orders_byte x) ++ split 1 (rest_byte x)

-- refusal 8: an order above 14 inside its numbered case; a slot above 15
unfoldable pub superframe_too_large : SuperframeSpecification → Bool
superframe_too_large x =
    beacon_order_too_large x.beacon_order
    || superframe_order_too_large x.superframe_order
    || ltb 15 x.final_cap_slot

unfoldable pub write_superframe : SuperframeSpecification → List ℕ → ℕ → Outcome
write_superframe x out at = write_value (superframe_too_large x) out at 2
