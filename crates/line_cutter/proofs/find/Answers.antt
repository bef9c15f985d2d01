-- `line_cutter::find` meets its contract. The invariant: the wanted byte is as far from here as from the start.
-- Assumes nothing.
use Rattle.std.proofs.Common.{◌<◌, ◌≤◌, length, ap, arith, rules}
use Rattle.line_cutter.proofs.Line.{before_first, before_second, before_neither, before_end}
use Rattle.line_cutter.proofs.find.Goals.{then-c-a-via-then-c-a, then-c-a-via-else-c-a+then-c-b}
use Rattle.line_cutter.proofs.find.Goals as goal

pub returns-then-c-a : goal.returns-then-c-a
returns-then-c-a c =
    let a = c.args in
    let i = c.loop-i.i in
    let within : i < length a.s.now = search rules in
    elim c.then-c-a.branch [
      | then-c-a-via-then-c-a w ↦ omega (arith, c.loop-i.invariant.1, ap length (before_first a.a a.b a.s.now i within w.if-c-a.true))
      | then-c-a-via-else-c-a+then-c-b w ↦ omega (arith, c.loop-i.invariant.1, ap length (before_second a.a a.b a.s.now i within w.if-c-b.true))
    ]

pub loop-i-preserved : goal.loop-i-preserved
loop-i-preserved c =
    let a = c.args in
    let within : c.loop-i.i < length a.s.now = search rules in
    (omega (arith, within), omega (arith, c.loop-i.invariant.1, ap length (before_neither a.a a.b a.s.now c.loop-i.i within c.if-c-a.false c.if-c-b.false)))

pub returns : goal.returns
returns c =
    let a = c.args in
    let end : length a.s.now ≤ c.loop-i.i = omega (arith, c.loop-i-test.false) in
    omega (arith, c.max.ensures, c.loop-i.invariant.0, c.loop-i.invariant.1, ap length (before_end a.a a.b a.s.now c.loop-i.i end))
