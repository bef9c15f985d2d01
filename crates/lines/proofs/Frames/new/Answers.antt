-- `lines::Frames::new`: whatever drives it writes the program's output.
-- Assumes nothing.
use Rattle.lines.proofs.Whole.{frames_written}
use Rattle.lines.proofs.Frames.new.Goals as goal

pub returns : goal.returns
returns c = frames_written _
