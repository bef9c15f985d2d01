-- `line_teller::finish` meets its contract: without a byte there is no last line.
-- Assumes nothing.
use Rattle.std.proofs.Common.{◌<◌, length, take, ap, ◌∙◌, arith}
use lib.Seq.{length-take-le}
use Rattle.octets.proofs.Stored.{none, join, same}
use Rattle.line_teller.proofs.Ends.{run_none, told_none, run_some, told_some}
use Rattle.line_teller.proofs.finish.Goals as goal

pub returns-then-line-eq0-clause-state_after : goal.returns-then-line-eq0-clause-state_after
returns-then-line-eq0-clause-state_after g c =
    let line = c.args.line.now in
    let t = g.T.Teller in
    run_none t.step t.says (t.state c.args.teller.now) line.bytes line.n c.if-line-eq0.true

pub returns-then-line-eq0-clause-stored : goal.returns-then-line-eq0-clause-stored
returns-then-line-eq0-clause-stored g c =
    let line = c.args.line.now in
    let t = g.T.Teller in
    let s = t.state c.args.teller.now in
    join (same (told_none t.step t.says s line.bytes line.n c.if-line-eq0.true) (none c.args.out.now 0))
    (same (ap t.closes (run_none t.step t.says s line.bytes line.n c.if-line-eq0.true)) c.close.ensures.stored)

pub returns-clause-state_after : goal.returns-clause-state_after
returns-clause-state_after g c =
    let line = c.args.line.now in
    let t = g.T.Teller in
    let s = t.state c.args.teller.now in
    let l = take line.n line.bytes in
    let some : 0 < length l = omega (arith, length-take-le line.n line.bytes (omega (arith, line.few, line.long)), c.if-line-eq0.false) in
    c.tell-used.ensures.state_after ∙ ap (t.step s) c.bytes.ensures ∙ run_some t.step t.says s l some

pub returns-clause-stored : goal.returns-clause-stored
returns-clause-stored g c =
    let line = c.args.line.now in
    let t = g.T.Teller in
    let s = t.state c.args.teller.now in
    let l = take line.n line.bytes in
    let some : 0 < length l = omega (arith, length-take-le line.n line.bytes (omega (arith, line.few, line.long)), c.if-line-eq0.false) in
    join (same (ap (t.says s) c.bytes.ensures ∙ told_some t.step t.says s l some) c.tell-used.ensures.stored)
    (same (ap t.closes (c.tell-used.ensures.state_after ∙ ap (t.step s) c.bytes.ensures ∙ run_some t.step t.says s l some)) c.close-2.ensures.stored)
