-- `alters::Alters::new`: whatever drives it writes the program's output.
-- Assumes nothing.
use Rattle.alters.proofs.Whole.{alters_written}
use Rattle.alters.proofs.Alters.new.Goals as goal

pub returns : goal.returns
returns c = alters_written _
