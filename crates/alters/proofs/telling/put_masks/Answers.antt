-- `alters::telling::put_masks` meets its contract. The invariant: the bits of the bytes before the one at hand are told.
-- Assumes nothing.
use mathlib.Core.List.{flat_map}
use mathlib.Core.Path.{refl, ap, ◌∙◌}
use Rattle.labelled.proofs.Putting.{none, same}
use Rattle.line_cutter.specs.Line.{tab_byte}
use Rattle.alters.specs.Steps.{marked, next_mark}
use Rattle.alters.proofs.Marks.{told_on, mark_behind, one_more}
use Rattle.alters.proofs.telling.put_masks.Goals as goal

pub loop-byte-init : goal.loop-byte-init
unfolding flat_map marked
loop-byte-init c = record { put = none _ _; mark = refl }

pub loop-byte-preserved : goal.loop-byte-preserved
loop-byte-preserved c =
    let q = c.loop-byte.invariant in
    let e = one_more c.args.bytes.now c.loop-byte.byte-index c.loop-byte-test.true in
    record {
      put = same (ap (marked tab_byte) e) (told_on tab_byte _ _ _ q.mark q.put c.put_mask-told.ensures.put);
      mark = c.put_mask-told.ensures.mark_value ∙ mark_behind tab_byte _ _ _ q.mark ∙ ap (next_mark tab_byte) e;
    }
