-- `trace_line::decimal_field` meets its contract: a decimal or its tab is missing, or both are there.
-- Assumes nothing.
use native.Mathlib.Omega.{arith}
use mathlib.Core.Path.{sym, ◌∙◌}
use Rattle.line_cutter.proofs.Line.{there}
use Rattle.trace_line.proofs.Parting.{field_none, field_open, field_good}
use Rattle.trace_line.proofs.decimal_field.Goals as goal

pub returns-in_err-value : goal.returns-in_err-value
returns-in_err-value c = c.from_residual.ensures ∙ field_none _ _ _ c.decimal_at-d.ensures c.in_err-value.was

pub returns-then-not-is_at : goal.returns-then-not-is_at
returns-then-not-is_at c = field_open _ _ _ c.decimal_at-d.ensures (sym c.is_at.ensures ∙ c.if-not-is_at.true)

pub overflow_add-result : goal.overflow_add-result
overflow_add-result c = omega (arith, (there c.args.s.now c.decimal_at-d.result.end 9 (sym c.is_at.ensures ∙ c.if-not-is_at.false)).0)

pub returns : goal.returns
returns c = field_good _ _ _ c.decimal_at-d.ensures _ c.in_ok-value.was (sym c.is_at.ensures ∙ c.if-not-is_at.false)
