-- `senders::row_of` meets its contract. The invariant: the sender is in none of the rows that were looked at.
-- Assumes nothing.
use Rattle.std.proofs.Common.{◌≡◌}
use Rattle.senders.specs.Table.{row_of}
use Rattle.senders.proofs.row_of.Given as goal

abbrev pub invariant-loop-i : goal.invariant-loop-i
invariant-loop-i l = row_of l.table l.i l.who ≡ l.i
