-- `labelled::put_bytes` meets its contract. The invariant: the digits of the bytes before the one at hand are stored.
-- Assumes nothing.
use mathlib.Core.List.{flat_map}
use lib.ListN.{take}
use Rattle.labelled.specs.Hexed.{hex_by}
use Rattle.labelled.specs.Put.{Put}
use Rattle.labelled.proofs.put_bytes.Given as goal

abbrev pub invariant-loop-byte : goal.invariant-loop-byte
invariant-loop-byte l = Put l.initial.out l.at (flat_map (hex_by 2) (take l.byte-index l.bytes)) l.out l.next
