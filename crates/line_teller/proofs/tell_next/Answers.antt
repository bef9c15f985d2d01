-- `line_teller::tell_next` meets its contract: a line that was told from where it lies leads on.
-- Assumes nothing.
use Rattle.std.proofs.Common.{◌≡◌, arith}
use Rattle.line_teller.proofs.Quickly.{quick_after, quick_room}
use Rattle.line_teller.proofs.tell_next.Goals as goal

pub returns-in-Some-clause-after : goal.returns-in-Some-clause-after
returns-in-Some-clause-after g c =
    let a = c.args in
    let none : a.line.now.n ≡ 0 = omega (arith, c.if-line-gt0.false) in
    rw none (quick_after g.T.Teller.step g.T.Teller.says g.T.Teller.more _ _ a.chunk.now a.at a.out.now a.used _ _ c.in-Some.ensures.told)

pub returns-in-Some-clause-room_after : goal.returns-in-Some-clause-room_after
returns-in-Some-clause-room_after g c =
    let a = c.args in
    omega (arith, quick_room g.T.Teller.step g.T.Teller.says g.T.Teller.more _ _ a.chunk.now a.at a.out.now a.used _ _ c.in-Some.ensures.told g.met.T.Teller.some)
