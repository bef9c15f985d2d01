-- `quick::header_code` meets its contract: its tests of the entry and of the type find the first refusal, or where the header ends.
-- Assumes nothing.
use mathlib.Core.Path.{refl, sym, ◌∙◌}
use native.Mathlib.Omega.{arith}
use borrow.Author.Tests.{lt-ltb}
use Rattle.header_bytes.specs.Reading.{measured}
use Rattle.quick.proofs.Bytes.{security_bit}
use Rattle.quick.proofs.Ends.{ended, plain_end, secured_end, control_end_lem}
use Rattle.quick.proofs.Steps.{word, version_step, type_step, refusal_step, length_step, end_step}
use Rattle.quick.proofs.header_code.Goals as goal

pub returns-then-s-lt3 : goal.returns-then-s-lt3
unfolding measured
returns-then-s-lt3 c = rw (lt-ltb _ _ c.if-s-lt3.true) refl

pub returns-then-told-eq50 : goal.returns-then-told-eq50
returns-then-told-eq50 c = version_step _ c.if-s-lt3.false _ c.look-told.ensures c.if-told-eq50.true

pub returns-then-a-eq4 : goal.returns-then-a-eq4
returns-then-a-eq4 c = type_step _ c.if-s-lt3.false _ c.look-told.ensures c.if-told-eq50.false c.if-a-eq4.true

pub overflow_sub-result : goal.overflow_sub-result
overflow_sub-result c =
    (refusal_step _ c.if-s-lt3.false _ c.look-told.ensures c.if-told-eq50.false c.if-a-eq4.false c.if-told-lt97.true).0

pub returns-then-told-lt97 : goal.returns-then-told-lt97
returns-then-told-lt97 c =
    (refusal_step _ c.if-s-lt3.false _ c.look-told.ensures c.if-told-eq50.false c.if-a-eq4.false c.if-told-lt97.true).1

pub returns-then-a-eq0 : goal.returns-then-a-eq0
returns-then-a-eq0 c =
    let s = c.args.s.now in
    let size = length_step s c.if-s-lt3.false _ c.look-told.ensures c.if-a-eq4.false c.if-told-lt97.false in
    c.whole.ensures ∙ end_step s _ size _ (size.0 ∙ plain_end s _ (security_bit _ _ ∙ c.if-a-eq0.true))

pub returns-then-s-n : goal.returns-then-s-n
returns-then-s-n c =
    let s = c.args.s.now in
    let size = length_step s c.if-s-lt3.false _ c.look-told.ensures c.if-a-eq4.false c.if-told-lt97.false in
    ended s _ (omega (arith, c.if-s-n.true, size.0, control_end_lem s (word s))) ∙ size.1

pub returns : goal.returns
returns c =
    let s = c.args.s.now in
    let size = length_step s c.if-s-lt3.false _ c.look-told.ensures c.if-a-eq4.false c.if-told-lt97.false in
    c.whole-2.ensures
    ∙ end_step s _ size _
    (secured_end s _ _ _ size.0 (λ off. c.if-a-eq0.false (sym (security_bit _ _) ∙ off)) c.behind_control.ensures.result_value)
