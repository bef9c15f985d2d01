-- `trace::telling::put_senders` meets its contract. The invariant: the lines of the rows before the one at hand are stored.
-- Assumes nothing.
use mathlib.Core.List.{flat_map}
use Rattle.senders.specs.Table.{counted_in}
use Rattle.labelled.specs.Put.{Put}
use Rattle.trace.specs.Output.{sender_line}
use Rattle.trace.proofs.telling.put_senders.Given as goal

abbrev pub invariant-loop-i : goal.invariant-loop-i
invariant-loop-i l = Put l.initial.out l.at (flat_map sender_line (counted_in l.table l.i)) l.out l.next
