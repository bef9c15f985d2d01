-- `lines::Frames` stores nothing at the end of the input.
-- Assumes nothing.
use Rattle.octets.proofs.Stored.{none}
use Rattle.lines.proofs.FramesTeller.close.Goals as goal

pub returns-clause-stored : goal.returns-clause-stored
returns-clause-stored c = none c.args._out.now c.args.at
