-- `labelled::part` meets its contract: its tests are the definition's.
-- Assumes nothing.
use Prim.Native.Nat.{◌+◌, ◌*◌, ◌≤◌}
use native.Mathlib.Omega.{arith}
use mathlib.Core.Path.{◌≡◌, ap, ◌∙◌}
use lib.ListN.{length}
use Rattle.octets.specs.Buffer.{laid}
use Rattle.line_cutter.specs.Line.{line_most}
use Rattle.line_cutter.proofs.Line.{before_length}
use Rattle.labelled.specs.Answer.{label}
use Rattle.labelled.proofs.Form.{frame_within, part_long, part_whole, part_other, frame_short}
use Rattle.labelled.proofs.part.Goals as goal

pub returns-then-line-gt-LINE_MOST : goal.returns-then-line-gt-LINE_MOST
returns-then-line-gt-LINE_MOST c =
    let a = c.args in
    let both = part_long a.values.now a.line.now (length a.frame.now) a.frame.now (omega (arith, c.if-line-gt-LINE_MOST.true)) in record {
      value = both.0;
      frame_after = both.1;
    }

pub returns-then-whole : goal.returns-then-whole
returns-then-whole c =
    -- the label ends within the line, or with it
    let tab_at : c.find-tab.result ≡ length (label c.args.line.now) = omega (arith, c.find-tab.ensures) in
    let a = c.args in
    let n = length a.frame.now in
    let h : length a.line.now ≤ line_most = omega (arith, c.if-line-gt-LINE_MOST.false) in record {
      value = part_whole a.values.now a.line.now n c.find-tab.result tab_at h c.decode_by-count.result c.decode_by-count.ensures.value c.if-whole.true;
      frame_after = c.decode_by-count.ensures.out_after ∙ ap (laid a.frame.now 0) (frame_short a.values.now a.line.now n c.find-tab.result tab_at h);
    }

pub returns-else-whole : goal.returns-else-whole
returns-else-whole c =
    let tab_at : c.find-tab.result ≡ length (label c.args.line.now) = omega (arith, c.find-tab.ensures) in
    let a = c.args in
    let n = length a.frame.now in
    let h : length a.line.now ≤ line_most = omega (arith, c.if-line-gt-LINE_MOST.false) in record {
      value = part_other a.values.now a.line.now n c.find-tab.result tab_at h c.decode_by-count.result c.decode_by-count.ensures.value c.if-whole.false;
      frame_after = c.decode_by-count.ensures.out_after ∙ ap (laid a.frame.now 0) (frame_short a.values.now a.line.now n c.find-tab.result tab_at h);
    }

pub overflow_add-tab : goal.overflow_add-tab
overflow_add-tab c =
    let tab_at : c.find-tab.result ≡ length (label c.args.line.now) = omega (arith, c.find-tab.ensures) in
    let tab_within : c.find-tab.result ≤ length c.args.line.now = omega (arith, tab_at, before_length 9 9 c.args.line.now) in
    omega (arith, tab_within)

pub overflow_add-whole : goal.overflow_add-whole
overflow_add-whole c =
    let tab_at : c.find-tab.result ≡ length (label c.args.line.now) = omega (arith, c.find-tab.ensures) in
    let tab_within : c.find-tab.result ≤ length c.args.line.now = omega (arith, tab_at, before_length 9 9 c.args.line.now) in
    omega (arith, tab_within)

pub overflow_mul-whole : goal.overflow_mul-whole
overflow_mul-whole c =
    -- the bytes are no more than the line
    let few : 2 * c.decode_by-count.result ≤ length c.args.line.now =
    let a = c.args in
    omega (arith, c.decode_by-count.ensures.value, frame_within a.values.now a.line.now (c.find-tab.result + 1) (length a.frame.now)) in
    omega (arith, few)

pub overflow_add-whole-2 : goal.overflow_add-whole-2
overflow_add-whole-2 c =
    let tab_at : c.find-tab.result ≡ length (label c.args.line.now) = omega (arith, c.find-tab.ensures) in
    let tab_within : c.find-tab.result ≤ length c.args.line.now = omega (arith, tab_at, before_length 9 9 c.args.line.now) in
    let few : 2 * c.decode_by-count.result ≤ length c.args.line.now =
    let a = c.args in
    omega (arith, c.decode_by-count.ensures.value, frame_within a.values.now a.line.now (c.find-tab.result + 1) (length a.frame.now)) in
    omega (arith, tab_within, few)
