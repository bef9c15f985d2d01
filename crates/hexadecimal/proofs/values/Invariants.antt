-- `hexadecimal::values` meets its contract. The invariant: the table has what the digits before the one at hand count for.
-- Assumes nothing.
use mathlib.Core.Path.{◌≡◌}
use lib.ListN.{length}
use Rattle.hexadecimal.proofs.Table.{filled}
use Rattle.hexadecimal.proofs.values.Given as goal

abbrev pub invariant-loop-b : goal.invariant-loop-b
invariant-loop-b l = (length l.table ≡ 256) × (l.table ≡ filled l.b-index)
