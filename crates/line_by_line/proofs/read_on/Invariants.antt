-- `line_by_line::read_on`: the buffer of the line keeps its length, and the line never has more bytes than it.
-- Assumes nothing.
use Rattle.std.specs.Prelude.{◌≤◌, ◌≡◌, length}
use Rattle.line_by_line.proofs.read_on.Given as goal

abbrev pub invariant-loop : goal.invariant-loop
invariant-loop g l = (length l.line ≡ length l.fn.line) × (l.n ≤ length l.line) × (l.turn.used ≡ 0)
