-- `alters::Alters` tells the answer to a line: all of it has room.
-- Assumes nothing.
use Rattle.std.proofs.Common.{arith}
use Rattle.labelled.proofs.Putting.{roomy}
use Rattle.alters.proofs.Lengths.{answer_most_lem}
use Rattle.alters.proofs.AltersTeller.tell.Goals as goal

pub returns-clause-stored : goal.returns-clause-stored
returns-clause-stored c = roomy (omega (arith, answer_most_lem c.args.line.now, c.requires)) c.put_answer.ensures

pub returns-clause-few : goal.returns-clause-few
returns-clause-few c =
    let stored = roomy (omega (arith, answer_most_lem c.args.line.now, c.requires)) c.put_answer.ensures in
    omega (arith, stored.next, answer_most_lem c.args.line.now)
