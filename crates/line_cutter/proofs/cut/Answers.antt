-- `line_cutter::cut` meets its contract: the part up to what `find` finds is the definition's line, and what `copy` stores of it fits.
-- Assumes nothing.
use Prim.Native.Nat.{◌≤◌, ◌<◌}
use native.Mathlib.Omega.{arith}
use lib.ListN.{length, drop, length-drop}
use Rattle.line_cutter.specs.Line.{line_of}
use Rattle.line_cutter.proofs.Line.{before_part, before_length, taken_none, taken_ended, taken_open}
use Rattle.line_cutter.proofs.cut.Goals as goal

pub returns-then-at-chunk : goal.returns-then-at-chunk
returns-then-at-chunk c =
    let a = c.args in
    let both = taken_none a.chunk.now a.at a.n a.line.now c.if-at-chunk.true in record {
      value = both.0;
      line_after = both.1;
    }

pub slice_bounds-copy-end : goal.slice_bounds-copy-end
slice_bounds-copy-end c =
    let a = c.args in
    omega (arith, c.find-end.ensures, before_length 10 10 (drop a.at a.chunk.now), length-drop a.at a.chunk.now)

pub returns-then-end-chunk : goal.returns-then-end-chunk
returns-then-end-chunk c =
    let a = c.args in
    let s = drop a.at a.chunk.now in
    let l = before_part 10 10 a.at c.find-end.result s c.find-end.ensures in
    let h : length (line_of s) < length s = omega (arith, c.find-end.ensures, length-drop a.at a.chunk.now) in record {
      value = taken_ended s a.at a.line.now a.n c.find-end.result c.copy-kept.result c.find-end.ensures (rw l at c.copy-kept.ensures.value) h;
      line_after = rw l at c.copy-kept.ensures.out_after;
    }

pub returns-else-end-chunk : goal.returns-else-end-chunk
returns-else-end-chunk c =
    let a = c.args in
    let s = drop a.at a.chunk.now in
    let l = before_part 10 10 a.at c.find-end.result s c.find-end.ensures in
    let h : length s ≤ length (line_of s) = omega (arith, c.find-end.ensures, length-drop a.at a.chunk.now) in record {
      value = taken_open s a.at a.line.now a.n c.find-end.result c.copy-kept.result c.find-end.ensures (rw l at c.copy-kept.ensures.value) h;
      line_after = rw l at c.copy-kept.ensures.out_after;
    }
