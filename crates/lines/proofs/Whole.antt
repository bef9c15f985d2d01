-- However the line program's input is cut into chunks, its output is that of the whole.
-- Assumes nothing.
use Prim.Native.Nat.{ℕ}
use mathlib.Core.List.{List, []}
use mathlib.Core.Path.{◌≡◌}
use Rattle.line_cutter.specs.Answers.{stays, tells, output, printed}
use Rattle.line_cutter.specs.Lines.{joined}
use Rattle.line_cutter.proofs.Answers.{printed_whole}
use Rattle.line_teller.specs.Written.{written}
use Rattle.line_teller.proofs.Written.{answers_written}
use Rattle.labelled.proofs.Answer.{answer_front}
use Rattle.lines.specs.Answer.{said, answer}

pub frames_printed : (cs : List (List ℕ)) → printed answer [] cs ≡ output answer (joined cs)
frames_printed = printed_whole answer (answer_front said)

-- the same of what its `Teller` says is written
pub frames_written : (s : Unit {0}) (cs : List (List ℕ)) → written stays (tells answer) (λ _. []) s cs ≡ output answer (joined cs)
frames_written = answers_written answer (answer_front said)
