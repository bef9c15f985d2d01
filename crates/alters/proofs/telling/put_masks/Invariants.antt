-- `alters::telling::put_masks` meets its contract. The invariant: the bits of the bytes before the one at hand are told.
-- Assumes nothing.
use mathlib.Core.List.{map}
use mathlib.Core.Path.{◌≡◌}
use lib.ListN.{take}
use Rattle.labelled.specs.Put.{Put}
use Rattle.line_cutter.specs.Line.{tab_byte}
use Rattle.alterations.specs.Bytes.{pair}
use Rattle.alters.specs.Bits.{bits_of}
use Rattle.alters.specs.Steps.{marked, next_mark}
use Rattle.alters.proofs.telling.put_masks.Given as goal

abbrev pub invariant-loop-byte : goal.invariant-loop-byte
invariant-loop-byte l =
    record {
      put : Put l.initial.out l.at (marked tab_byte (bits_of (map pair (take l.byte-index l.bytes)))) l.out l.told.next;
      mark : l.told.mark ≡ next_mark tab_byte (bits_of (map pair (take l.byte-index l.bytes)));
    }
