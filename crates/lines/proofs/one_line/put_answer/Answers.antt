-- `lines::one_line::put_answer` meets its contract: what the line was taken apart into tells its answer.
-- Assumes nothing.
use Prim.Native.Nat.{ℕ, ◌≤◌}
use native.Mathlib.Omega.{arith}
use mathlib.Core.Path.{◌≡◌, sym}
use Rattle.std.specs.Prelude.{Ok, Err}
use lib.ListN.{length, take, length-replicate}
use lib.Seq.{length-take-le}
use Rattle.octets.proofs.Little.{bytes_known}
use Rattle.octets.proofs.Stored.{same}
use Rattle.labelled.proofs.Answer.{bad_length}
use Rattle.labelled.proofs.Form.{Whole, Other, apart}
use Rattle.labelled.proofs.Putting.{roomy}
use Rattle.lines.specs.Answer.{said}
use Rattle.lines.proofs.one_line.put_answer.Goals as goal

pub returns-in_default : goal.returns-in_default
returns-in_default c =
    let other : Other c.args.line.now c.in_default.field-0 =
    apart _ c.args.line.now _ _ (Err c.in_default.field-0) c.requires.values_value (bytes_known c.args.line.now c.type_inv.line)
    (length-replicate {A = ℕ} 512 0) (c.in_default.ensures.value, c.in_default.ensures.frame_after) in
    record {
      stored = same (other.other said) (roomy (omega (arith, bad_length, c.requires.line_in_bounds)) c.put_bad.ensures);
      upper_bound = omega (arith, bad_length, c.put_bad.ensures.next);
    }

pub put_good-requires : goal.put_good-requires
put_good-requires c =
    let whole : Whole c.args.line.now c.in-Ok.parted c.part.new.frame =
    apart _ c.args.line.now _ _ (Ok c.in-Ok.parted) c.requires.values_value (bytes_known c.args.line.now c.type_inv.line)
    (length-replicate {A = ℕ} 512 0) (c.in-Ok.ensures.value, c.in-Ok.ensures.frame_after) in
    -- the label is the front of the line
    let front : length (take c.in-Ok.parted.tab c.args.line.now) ≡ c.in-Ok.parted.tab =
    length-take-le _ _ (omega (arith, whole.whole)) in
    omega (arith, whole.whole, front, c.requires.line_in_bounds)

pub returns : goal.returns
returns c =
    let whole : Whole c.args.line.now c.in-Ok.parted c.part.new.frame =
    apart _ c.args.line.now _ _ (Ok c.in-Ok.parted) c.requires.values_value (bytes_known c.args.line.now c.type_inv.line)
    (length-replicate {A = ℕ} 512 0) (c.in-Ok.ensures.value, c.in-Ok.ensures.frame_after) in
    -- the label is the front of the line
    let front : length (take c.in-Ok.parted.tab c.args.line.now) ≡ c.in-Ok.parted.tab =
    length-take-le _ _ (omega (arith, whole.whole)) in
    record {
      stored = same (whole.good said) c.put_good.ensures.stored;
      upper_bound = omega (arith, c.put_good.ensures.upper_bound, whole.whole, front);
    }

pub slice_bounds-put_good-end : goal.slice_bounds-put_good-end
slice_bounds-put_good-end c =
    let whole : Whole c.args.line.now c.in-Ok.parted c.part.new.frame =
    apart _ c.args.line.now _ _ (Ok c.in-Ok.parted) c.requires.values_value (bytes_known c.args.line.now c.type_inv.line)
    (length-replicate {A = ℕ} 512 0) (c.in-Ok.ensures.value, c.in-Ok.ensures.frame_after) in
    -- the label is the front of the line
    let front : length (take c.in-Ok.parted.tab c.args.line.now) ≡ c.in-Ok.parted.tab =
    length-take-le _ _ (omega (arith, whole.whole)) in
    sym front

pub slice_bounds-frame-end : goal.slice_bounds-frame-end
slice_bounds-frame-end c =
    let whole : Whole c.args.line.now c.in-Ok.parted c.part.new.frame =
    apart _ c.args.line.now _ _ (Ok c.in-Ok.parted) c.requires.values_value (bytes_known c.args.line.now c.type_inv.line)
    (length-replicate {A = ℕ} 512 0) (c.in-Ok.ensures.value, c.in-Ok.ensures.frame_after) in
    -- the frame is the front of its buffer
    let few : c.in-Ok.parted.count ≤ length c.part.new.frame = omega (arith, whole.few, c.part.auto.frame) in
    few

pub slice_bounds-put_good-end-2 : goal.slice_bounds-put_good-end-2
slice_bounds-put_good-end-2 c =
    let whole : Whole c.args.line.now c.in-Ok.parted c.part.new.frame =
    apart _ c.args.line.now _ _ (Ok c.in-Ok.parted) c.requires.values_value (bytes_known c.args.line.now c.type_inv.line)
    (length-replicate {A = ℕ} 512 0) (c.in-Ok.ensures.value, c.in-Ok.ensures.frame_after) in
    -- the frame is the front of its buffer
    let few : c.in-Ok.parted.count ≤ length c.part.new.frame = omega (arith, whole.few, c.part.auto.frame) in
    sym (length-take-le _ _ few)
