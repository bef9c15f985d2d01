-- `alters::telling::Told::put_mask` meets its contract. The invariant: the bits below the one at hand are told.
-- Assumes nothing.
use mathlib.Core.Path.{◌≡◌}
use Rattle.labelled.specs.Put.{Put}
use Rattle.alters.specs.Bits.{bits_below}
use Rattle.alters.specs.Steps.{marked, next_mark}
use Rattle.alters.proofs.telling.Told.put_mask.Given as goal

abbrev pub invariant-loop-bit : goal.invariant-loop-bit
invariant-loop-bit l =
    record {
      put : Put l.initial.out l.fn.self.next (marked l.fn.self.mark (bits_below l.byte.place l.byte.mask l.bit)) l.out l.told.next;
      mark : l.told.mark ≡ next_mark l.fn.self.mark (bits_below l.byte.place l.byte.mask l.bit);
    }
