-- `trace_line::part_at` meets its contract: one field after the other is missing, or all are there.
-- Assumes nothing.
use Prim.Native.Nat.{◌+◌, ◌*◌, ◌≤◌, ◌<◌}
use native.Mathlib.Omega.{arith}
use mathlib.Core.Path.{◌≡◌, sym, ◌∙◌}
use mathlib.Core.Bool.{true}
use lib.ListN.{length}
use Rattle.line_cutter.specs.Line.{is_at}
use Rattle.line_cutter.proofs.Line.{there}
use Rattle.labelled.proofs.Form.{frame_within}
use Rattle.trace_line.proofs.Parting.{field_there, field_end, field_within, lacks_tick, lacks_tab, lacks_size, has_all, size_value, size_end, parts_none, parts_all}
use Rattle.trace_line.proofs.part_at.Goals as goal

pub returns-in_err-tick : goal.returns-in_err-tick
returns-in_err-tick c =
    let a = c.args in
    let e = parts_none a.values.now a.s.now a.at a.stop a.frame.now (lacks_tick a.s.now a.at a.stop c.in_err-tick.ensures) in record {
      value = c.from_residual.ensures ∙ e.0;
      frame_after = e.1;
    }

pub returns-then-not-is_at : goal.returns-then-not-is_at
returns-then-not-is_at c =
    let a = c.args in
    let e = parts_none a.values.now a.s.now a.at a.stop a.frame.now
    (lacks_tab a.s.now a.at a.stop _ c.in_ok-tick.ensures c.find-tab.result c.find-tab.ensures (sym c.is_at.ensures ∙ c.if-not-is_at.true)) in record {
      value = e.0;
      frame_after = e.1;
    }

pub returns-in_err-size : goal.returns-in_err-size
returns-in_err-size c =
    let a = c.args in
    let e = parts_none a.values.now a.s.now a.at a.stop a.frame.now
    (lacks_size a.s.now a.at a.stop _ c.in_ok-tick.ensures c.find-tab.result c.find-tab.ensures c.in_err-size.ensures) in record {
      value = c.from_residual-in_err-size.ensures ∙ e.0;
      frame_after = e.1;
    }

pub returns : goal.returns
returns c =
    let a = c.args in
    let s = a.s.now in
    let tab_there : is_at s c.find-tab.result 9 ≡ true = sym c.is_at.ensures ∙ c.if-not-is_at.false in
    let have = has_all s a.at a.stop _ c.in_ok-tick.ensures c.find-tab.result c.find-tab.ensures _ c.in_ok-size.ensures tab_there in
    let value = size_value s a.at a.stop _ c.in_ok-tick.ensures c.find-tab.result c.find-tab.ensures _ c.in_ok-size.ensures in
    let end = size_end s a.at a.stop _ c.in_ok-tick.ensures c.find-tab.result c.find-tab.ensures _ c.in_ok-size.ensures in
    let both = parts_all a.values.now s a.at a.stop a.frame.now c.in_ok-size.size c.decode_by-count.result _ have value end
    c.decode_by-count.ensures.value c.decode_by-count.ensures.out_after in record {
      value = both.0;
      frame_after = both.1;
    }

pub overflow_add-tab : goal.overflow_add-tab
overflow_add-tab c =
    let tab_there : is_at c.args.s.now c.find-tab.result 9 ≡ true = sym c.is_at.ensures ∙ c.if-not-is_at.false in
    let tab_within : c.find-tab.result < length c.args.s.now = (there c.args.s.now c.find-tab.result 9 tab_there).0 in
    omega (arith, tab_within)

pub overflow_mul-result : goal.overflow_mul-result
overflow_mul-result c =
    let bytes_few : 2 * c.decode_by-count.result ≤ length c.args.s.now =
    let a = c.args in
    omega (arith, c.decode_by-count.ensures.value, frame_within a.values.now a.s.now c.in_ok-size.size.end (length a.frame.now)) in
    omega (arith, bytes_few)

pub overflow_add-result : goal.overflow_add-result
overflow_add-result c =
    let a = c.args in
    let s = a.s.now in
    let at = c.find-tab.result + 1 in
    -- the size ends within the slice
    let size_within : c.in_ok-size.size.end ≤ length s =
    omega (arith, field_end s at c.in_ok-size.size c.in_ok-size.ensures, field_within s at (field_there s at c.in_ok-size.size c.in_ok-size.ensures)) in
    let bytes_few : 2 * c.decode_by-count.result ≤ length s =
    omega (arith, c.decode_by-count.ensures.value, frame_within a.values.now s c.in_ok-size.size.end (length a.frame.now)) in
    omega (arith, bytes_few, size_within)
