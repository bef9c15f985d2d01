-- `time_slots::slots_at` meets its contract: each turn fills one place more.
-- Assumes nothing.
use native.Mathlib.Omega.{arith}
use mathlib.Core.Path.{sym}
use Rattle.seven_places.proofs.Seven.{seven_none, seven_more}
use Rattle.time_slots.proofs.TimeSlots.{length_some}
use Rattle.time_slots.proofs.slots_at.Goals as goal

pub loop-k-init : goal.loop-k-init
loop-k-init c = simp c.new-slots.ensures (sym (seven_none _ _))

pub slot_at-requires : goal.slot_at-requires
slot_at-requires c = record {
  k_bound = omega arith;
  k_in_bounds = omega (arith, length_some c.args.n (λ e. omega arith));
}

pub loop-k-preserved : goal.loop-k-preserved
loop-k-preserved c = rw (c.loop-k.invariant, c.slot_at.ensures) (seven_more _ _ c.loop-k.k (omega arith))
