-- `line_teller::feed` meets its contract: the loop has come to the end of the chunk.
-- Assumes nothing.
use Rattle.std.proofs.Common.{arith}
use Rattle.line_cutter.proofs.Telling.{worked_all}
use Rattle.line_teller.proofs.feed.Goals as goal

pub returns-clause-after : goal.returns-clause-after
returns-clause-after g c =
    let l = c.loop-told in
    let t = g.T.Teller in
    worked_all t.step t.says c.args.chunk.now l.line.bytes l.out (t.state l.teller) l.line.n l.told.used l.told.at _ l.line.few (omega (arith, l.line.few, l.line.long)) c.loop-told-test.false l.invariant.3
