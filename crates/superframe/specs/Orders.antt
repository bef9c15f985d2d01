-- Beacon order and superframe order: document 01, "15 means OnDemand and Inactive" (IEEE 802.15.4-2011, 5.2.2.1.2).
use Rattle.std.specs.Prelude.{ℕ, Bool, false, cond, ltb}
use Rattle.superframe.specs.declared.{BeaconOrder.BeaconOrder, SuperframeOrder.SuperframeOrder}

-- the order of a number: 0 to 14 are themselves
abbrev pub beacon_order_of : ℕ → BeaconOrder
beacon_order_of n = cond (ltb n 15) (BeaconOrder.BeaconOrder n) BeaconOrder.OnDemand

abbrev pub beacon_order_bits : BeaconOrder → ℕ
beacon_order_bits (BeaconOrder.BeaconOrder n) = n
beacon_order_bits BeaconOrder.OnDemand = 15

-- an order above 14 inside its numbered case
abbrev pub beacon_order_too_large : BeaconOrder → Bool
beacon_order_too_large (BeaconOrder.BeaconOrder n) = ltb 14 n
beacon_order_too_large BeaconOrder.OnDemand = false

abbrev pub superframe_order_of : ℕ → SuperframeOrder
superframe_order_of n = cond (ltb n 15) (SuperframeOrder.SuperframeOrder n) SuperframeOrder.Inactive

abbrev pub superframe_order_bits : SuperframeOrder → ℕ
superframe_order_bits (SuperframeOrder.SuperframeOrder n) = n
superframe_order_bits SuperframeOrder.Inactive = 15

abbrev pub superframe_order_too_large : SuperframeOrder → Bool
superframe_order_too_large (SuperframeOrder.SuperframeOrder n) = ltb 14 n
superframe_order_too_large SuperframeOrder.Inactive = false
