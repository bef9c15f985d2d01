-- `pending::addresses_at` meets its contract: each turn fills one place more.
-- Assumes nothing.
use native.Mathlib.Omega.{arith}
use mathlib.Core.Path.{sym}
use Rattle.seven_places.proofs.Seven.{seven_none, seven_more}
use Rattle.pending.specs.Addresses.{address_at}
use Rattle.pending.proofs.addresses_at.Goals as goal

pub loop-k-init : goal.loop-k-init
loop-k-init g c = rw c.broadcast-addresses.ensures (sym (seven_none _ _))

pub loop-k-preserved : goal.loop-k-preserved
loop-k-preserved g c =
    let T = g.T.Identifier in
    rw (c.loop-k.invariant, c.at.ensures, c.WIDTH.ensures) (seven_more (address_at T.WIDTH T.of _ _) _ c.loop-k.k (omega arith))
