-- `line_driver::drive`: the buffers keep their lengths.
-- Assumes nothing.
use Rattle.std.specs.Prelude.{◌≡◌, length}
use Rattle.line_driver.proofs.drive.Given as goal

abbrev pub invariant-loop : goal.invariant-loop
invariant-loop g l = (length l.chunk ≡ g.row.CHUNK) × (length l.out ≡ g.row.ROOM)
