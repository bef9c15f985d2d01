-- `trace::telling::put_hex` meets its contract. The invariant: the digits above the one at hand are stored.
-- Assumes nothing.
use Prim.Native.Nat.{◌-◌, ◌*◌, ◌/◌, ◌^◌}
use Rattle.labelled.specs.Hexed.{hex_by}
use Rattle.labelled.specs.Put.{Put}
use Rattle.trace.proofs.telling.put_hex.Given as goal

abbrev pub invariant-loop-i : goal.invariant-loop-i
invariant-loop-i l = Put l.initial.out l.at (hex_by (l.digits - l.i) (l.v / 2 ^ (4 * l.i))) l.out l.next
