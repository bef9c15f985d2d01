-- `payload::with_beacon` meets its contract: a beacon that was read lies whole in the frame.
-- Assumes nothing.
use mathlib.Core.Path.{sym, ap, ◌∙◌}
use native.Mathlib.Omega.{arith}
use Rattle.beacon.specs.declared.BeaconRead.{BeaconRead}
use Rattle.payload.proofs.Within.{beacon_within}
use Rattle.payload.proofs.with_beacon.Goals as goal

pub overflow_add-outcome : goal.overflow_add-outcome
overflow_add-outcome c =
    let a = c.args in
    omega (arith, beacon_within a.frame.now a.at _ (ap (λ (r : BeaconRead). r.outcome) (sym c.read-read.ensures) ∙ c.in-Ok.is))
