-- `gateway::rewriting` meets its contract: reading's refusals are measuring's, and writing's are found in their order.
-- Assumes nothing.
use native.Mathlib.Omega.{arith}
use mathlib.Core.Path.{sym, ◌∙◌}
use Rattle.std.proofs.lemmas.Result.{err_from_is_err_and}
use Rattle.gateway.proofs.HeaderRewriting.{header_refused_lem, header_there, header_full, header_sourceless, header_fuller, header_fits}
use Rattle.gateway.proofs.rewriting.Goals as goal

pub returns-in_err-length : goal.returns-in_err-length
returns-in_err-length c =
    let p = err_from_is_err_and c.from_residual.result c.from_residual.ensures.1 in
    rw (p.1, p.2) (header_refused_lem _ _ _ c.in_err-length.ensures)

pub returns-then-room-lt3 : goal.returns-then-room-lt3
returns-then-room-lt3 c = header_full _ _ c.in_ok-length.ensures c.if-room-lt3.true

pub control-requires : goal.control-requires
control-requires c = omega (arith, header_there c.args.frame.now c.args.room c.in_ok-length.ensures)

pub returns-then-sourceless : goal.returns-then-sourceless
returns-then-sourceless c =
    header_sourceless _ _ c.in_ok-length.ensures c.control.ensures c.if-room-lt3.false
    (sym c.sourceless.ensures ∙ c.if-sourceless.true)

pub returns-then-room-length : goal.returns-then-room-length
returns-then-room-length c =
    header_fuller _ _ c.in_ok-length.ensures c.control.ensures c.if-room-lt3.false
    (sym c.sourceless.ensures ∙ c.if-sourceless.false) c.if-room-length.true

pub returns : goal.returns
returns c =
    header_fits _ _ c.in_ok-length.ensures c.control.ensures c.if-room-lt3.false
    (sym c.sourceless.ensures ∙ c.if-sourceless.false) c.if-room-length.false
