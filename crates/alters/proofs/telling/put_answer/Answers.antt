-- `alters::telling::put_answer` meets its contract: what the line was taken apart into tells its answer.
-- Assumes nothing.
use Prim.Native.Nat.{ℕ, ◌≤◌}
use native.Mathlib.Omega.{arith}
use mathlib.Core.Path.{sym}
use Rattle.std.specs.Prelude.{Ok, Err}
use lib.ListN.{length, length-replicate}
use lib.Seq.{length-take-le}
use Rattle.octets.proofs.Little.{bytes_known}
use Rattle.labelled.proofs.Form.{Whole, Other, apart}
use Rattle.labelled.proofs.Putting.{copied, join, same}
use Rattle.alters.specs.Answer.{said}
use Rattle.alters.proofs.telling.put_answer.Goals as goal

pub returns-in_default : goal.returns-in_default
returns-in_default c =
    let other : Other c.args.line.now c.in_default.field-0 =
    apart _ c.args.line.now _ _ (Err c.in_default.field-0) c.requires (bytes_known c.args.line.now c.type_inv.line)
    (length-replicate {A = ℕ} 512 0) (c.in_default.ensures.value, c.in_default.ensures.frame_after) in
    same (other.other said) c.put_bad.ensures

pub returns : goal.returns
returns c =
    let whole : Whole c.args.line.now c.in-Ok.parted c.part.new.frame =
    apart _ c.args.line.now _ _ (Ok c.in-Ok.parted) c.requires (bytes_known c.args.line.now c.type_inv.line)
    (length-replicate {A = ℕ} 512 0) (c.in-Ok.ensures.value, c.in-Ok.ensures.frame_after) in
    same (whole.good said) (join (copied _ _ _ (c.copy-next.ensures.value, c.copy-next.ensures.out_after)) c.put_said.ensures)

pub slice_bounds-copy-end : goal.slice_bounds-copy-end
slice_bounds-copy-end c =
    let whole : Whole c.args.line.now c.in-Ok.parted c.part.new.frame =
    apart _ c.args.line.now _ _ (Ok c.in-Ok.parted) c.requires (bytes_known c.args.line.now c.type_inv.line)
    (length-replicate {A = ℕ} 512 0) (c.in-Ok.ensures.value, c.in-Ok.ensures.frame_after) in
    -- the label is a front of the line, and the frame one of its buffer
    let front : c.in-Ok.parted.tab ≤ length c.args.line.now = omega (arith, whole.whole) in
    sym (length-take-le _ _ front)

pub slice_bounds-frame-end : goal.slice_bounds-frame-end
slice_bounds-frame-end c =
    let whole : Whole c.args.line.now c.in-Ok.parted c.part.new.frame =
    apart _ c.args.line.now _ _ (Ok c.in-Ok.parted) c.requires (bytes_known c.args.line.now c.type_inv.line)
    (length-replicate {A = ℕ} 512 0) (c.in-Ok.ensures.value, c.in-Ok.ensures.frame_after) in
    let few : c.in-Ok.parted.count ≤ length c.part.new.frame = omega (arith, whole.few, c.part.auto.frame) in
    few

pub slice_bounds-put_said-end : goal.slice_bounds-put_said-end
slice_bounds-put_said-end c =
    let whole : Whole c.args.line.now c.in-Ok.parted c.part.new.frame =
    apart _ c.args.line.now _ _ (Ok c.in-Ok.parted) c.requires (bytes_known c.args.line.now c.type_inv.line)
    (length-replicate {A = ℕ} 512 0) (c.in-Ok.ensures.value, c.in-Ok.ensures.frame_after) in
    let few : c.in-Ok.parted.count ≤ length c.part.new.frame = omega (arith, whole.few, c.part.auto.frame) in
    sym (length-take-le _ _ few)
