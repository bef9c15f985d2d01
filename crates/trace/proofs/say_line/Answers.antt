-- `trace::say_line` meets its contract: a line that is too long, not of its form, or longer than its fields says nothing; any other says what
-- its frame does.
-- Assumes nothing.
use Prim.Native.Nat.{◌≤◌}
use native.Mathlib.Omega.{arith}
use mathlib.Core.Path.{◌≡◌, sym, ap, ◌∙◌}
use Rattle.std.specs.Prelude.{Some, None}
use lib.ListN.{length}
use lib.Seq.{length-take-le}
use Rattle.octets.proofs.Little.{bytes_known}
use Rattle.trace_line.specs.declared.Parts.{Parts}
use Rattle.trace_line.proofs.Fields.{Found, count_few}
use Rattle.trace_line.proofs.Telling.{whole_said, whole_other, long_other}
use Rattle.trace.proofs.say_line.Goals as goal

pub returns-in_default : goal.returns-in_default
returns-in_default c =
    let found : Found c.args.values.now c.args.line.now 0 9 c.args.frame.now None c.part_at.new.frame = record { values = c.requires.values_value; bytes = bytes_known c.args.line.now c.type_inv.line; room = c.requires.frame_len; parts = (c.in_default.ensures.value, c.in_default.ensures.frame_after) } in
    record {
      value = whole_other _ _ _ _ c.if-line-gt-LINE_MOST.false None found (λ r g e. cc);
      spoken = tt;
    }

pub returns-then-parts-line : goal.returns-then-parts-line
returns-then-parts-line c =
    let found : Found c.args.values.now c.args.line.now 0 9 c.args.frame.now (Some c.in-Some.parts) c.part_at.new.frame = record { values = c.requires.values_value; bytes = bytes_known c.args.line.now c.type_inv.line; room = c.requires.frame_len; parts = (c.in-Some.ensures.value, c.in-Some.ensures.frame_after) } in
    record {
      value = whole_other _ _ _ _ c.if-line-gt-LINE_MOST.false (Some c.in-Some.parts) found
          (λ r g e. let k : c.in-Some.parts ≡ r = cc in c.if-parts-line.true (ap (λ (p : Parts). p.end) k ∙ e));
      spoken = tt;
    }

pub returns : goal.returns
returns c =
    let found : Found c.args.values.now c.args.line.now 0 9 c.args.frame.now (Some c.in-Some.parts) c.part_at.new.frame = record { values = c.requires.values_value; bytes = bytes_known c.args.line.now c.type_inv.line; room = c.requires.frame_len; parts = (c.in-Some.ensures.value, c.in-Some.ensures.frame_after) } in
    record {
      value = c.say.ensures.value ∙ whole_said _ _ _ _ c.if-line-gt-LINE_MOST.false c.in-Some.parts found c.if-parts-line.false;
      spoken = c.say.ensures.spoken;
    }

pub returns-then-line-gt-LINE_MOST : goal.returns-then-line-gt-LINE_MOST
returns-then-line-gt-LINE_MOST c =
    record {
      value = long_other _ c.if-line-gt-LINE_MOST.true;
      spoken = tt;
    }

pub slice_bounds-say-end : goal.slice_bounds-say-end
slice_bounds-say-end c =
    let few : c.in-Some.parts.count ≤ length c.part_at.new.frame =
    let a = c.args in
    omega (arith, count_few a.values.now a.line.now 0 9 (length a.frame.now) c.in-Some.parts c.in-Some.ensures.value, c.part_at.auto.frame) in
    few

pub slice_bounds-say-end-2 : goal.slice_bounds-say-end-2
slice_bounds-say-end-2 c =
    let few : c.in-Some.parts.count ≤ length c.part_at.new.frame =
    let a = c.args in
    omega (arith, count_few a.values.now a.line.now 0 9 (length a.frame.now) c.in-Some.parts c.in-Some.ensures.value, c.part_at.auto.frame) in
    sym (length-take-le _ _ few)
