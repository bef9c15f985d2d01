-- `gateway::rewriting_beacon` meets its contract: reading's refusal is measuring's, and writing's is that there is no room.
-- Assumes nothing.
use Rattle.std.proofs.lemmas.Result.{err_from_is_err_and}
use Rattle.gateway.proofs.BeaconRewriting.{beacon_refused_lem, beacon_full, beacon_fits}
use Rattle.gateway.proofs.rewriting_beacon.Goals as goal

pub returns-in_err-n : goal.returns-in_err-n
returns-in_err-n c =
    let p = err_from_is_err_and c.from_residual.result c.from_residual.ensures.1 in
    rw (p.1, p.2) (beacon_refused_lem _ _ _ c.in_err-n.ensures)

pub returns-then-room-n : goal.returns-then-room-n
returns-then-room-n c = beacon_full _ _ c.in_ok-n.ensures c.if-room-n.true

pub returns : goal.returns
returns c = beacon_fits _ _ c.in_ok-n.ensures c.if-room-n.false
