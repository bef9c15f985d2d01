-- `alterations::rewriting` meets its contract: reading's refusals, then the one of writing that is left.
-- Assumes nothing.
use native.Mathlib.Omega.{arith}
use mathlib.Core.Path.{sym, ◌∙◌}
use Rattle.std.proofs.lemmas.Result.{err_from_is_err_and}
use Rattle.alterations.proofs.Answers.{header_refused, alone_sourceless, alone_accepted, beacon_refused_lem}
use Rattle.alterations.proofs.Answers.{both_sourceless, both_accepted, both_within}
use Rattle.alterations.proofs.rewriting.Goals as goal

pub returns-in_err-header : goal.returns-in_err-header
returns-in_err-header c =
    let p = err_from_is_err_and c.from_residual.result c.from_residual.ensures.1 in
    rw (p.1, p.2) (header_refused _ _ c.in_err-header.ensures)

pub returns-then-sourceless : goal.returns-then-sourceless
returns-then-sourceless c =
    alone_sourceless _ c.in_ok-header.ensures c.u16_at-w.ensures
    (sym c.holds_beacon.ensures ∙ c.if-not-holds_beacon.true) (sym c.sourceless.ensures ∙ c.if-sourceless.true)

pub returns-then-not-holds_beacon : goal.returns-then-not-holds_beacon
returns-then-not-holds_beacon c =
    alone_accepted _ c.in_ok-header.ensures c.u16_at-w.ensures
    (sym c.holds_beacon.ensures ∙ c.if-not-holds_beacon.true) (sym c.sourceless.ensures ∙ c.if-sourceless.false)

pub returns-in_err-beacon : goal.returns-in_err-beacon
returns-in_err-beacon c =
    let p = err_from_is_err_and c.from_residual-in_err-beacon.result c.from_residual-in_err-beacon.ensures.1 in
    rw (p.1, p.2) (beacon_refused_lem _ c.in_ok-header.ensures c.u16_at-w.ensures
    (sym c.holds_beacon.ensures ∙ c.if-not-holds_beacon.false) _ c.in_err-beacon.ensures)

pub returns-then-sourceless-2 : goal.returns-then-sourceless-2
returns-then-sourceless-2 c =
    both_sourceless _ c.in_ok-header.ensures c.u16_at-w.ensures
    (sym c.holds_beacon.ensures ∙ c.if-not-holds_beacon.false) c.in_ok-beacon.ensures
    (sym c.sourceless-2.ensures ∙ c.if-sourceless-2.true)

pub overflow_add-result : goal.overflow_add-result
overflow_add-result c =
    omega (
      arith,
      both_within c.args.frame.now c.in_ok-header.ensures c.u16_at-w.ensures
          (sym c.holds_beacon.ensures ∙ c.if-not-holds_beacon.false) c.in_ok-beacon.ensures,
    )

pub returns : goal.returns
returns c =
    both_accepted _ c.in_ok-header.ensures c.u16_at-w.ensures
    (sym c.holds_beacon.ensures ∙ c.if-not-holds_beacon.false) c.in_ok-beacon.ensures
    (sym c.sourceless-2.ensures ∙ c.if-sourceless-2.false)
