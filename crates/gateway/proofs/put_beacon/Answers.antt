-- `gateway::put_beacon` meets its contract: the bytes read are copied, and the listed bits are cleared in the copy.
-- Assumes nothing.
use Prim.Native.Nat.{ℕ, ◌+◌, ◌%◌}
use mathlib.Core.Path.{sym, ap, ◌∙◌}
use native.Mathlib.Omega.{arith}
use lib.Seq.{length-take-le}
use Rattle.octets.specs.{Bits.clear_at, Little.number}
use Rattle.octets.proofs.{Bits.bits_low}
use Rattle.time_slots.specs.TimeSlots.{time_slots_length_in}
use Rattle.gateway.proofs.BeaconRewriting.{beacon_accepted_lem, beacon_copied, listed_cleared}
use Rattle.gateway.proofs.put_beacon.Goals as goal

pub slice_bounds-copy-end : goal.slice_bounds-copy-end
slice_bounds-copy-end c = sym (length-take-le _ _ (beacon_accepted_lem _ _ _ c.requires).within)

pub clear_slots-requires-clause-in_bounds : goal.clear_slots-requires-clause-in_bounds
clear_slots-requires-clause-in_bounds c = let q = beacon_accepted_lem _ _ _ c.requires in omega (arith, q.four, q.fits)

pub clear_pending-requires : goal.clear_pending-requires
clear_pending-requires c = let q = beacon_accepted_lem _ _ _ c.requires in omega (arith, q.inside, q.fits, c.time_slots_length.ensures.value)

pub returns : goal.returns
returns c =
    let s = c.args.content.now in
    let out = c.args.out.now in
    let place = ap (λ (n : ℕ). 2 + n) c.time_slots_length.ensures.value in
    let count = ap (λ (b : ℕ). b % 8) c.u8_at.ensures ∙ sym (bits_low (number s 2 1) 3) in
    c.clear_pending.ensures
    ∙ (λ i. clear_at (place i) 3 1 (clear_at (place i) 7 1 (c.clear_slots.ensures i)))
    ∙ (λ i. listed_cleared (count i) (2 + time_slots_length_in s 2) (c.copy.ensures.out_after i))
    ∙ beacon_copied s out _ (beacon_accepted_lem _ _ _ c.requires)
