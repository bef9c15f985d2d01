-- `superframe::SuperframeSpecification::rest` meets its contract: the slot has four bits, and each flag one.
-- Assumes nothing.
use native.Mathlib.Omega.{arith}
use Rattle.octets.proofs.Bits.{bit_small}
use Rattle.superframe.proofs.Superframe.{fitting}
use Rattle.superframe.proofs.SuperframeSpecification.rest.Goals as goal

pub overflow_add-result : goal.overflow_add-result
overflow_add-result c =
    let a = c.args.self in
    let fits = fitting _ c.requires in
    omega (arith, bit_small a.battery_life_extension)

pub overflow_add-result-2 : goal.overflow_add-result-2
overflow_add-result-2 c =
    let a = c.args.self in
    let fits = fitting _ c.requires in
    omega (arith, bit_small a.battery_life_extension, bit_small a.pan_coordinator)

pub overflow_add-result-3 : goal.overflow_add-result-3
overflow_add-result-3 c =
    let a = c.args.self in
    let fits = fitting _ c.requires in
    omega (arith, bit_small a.battery_life_extension, bit_small a.pan_coordinator, bit_small a.association_permit)
