-- `lines::finish` meets its contract: what is kept is there and has room, or nothing is stored.
-- Assumes nothing.
use Prim.Native.Nat.{◌+◌, ◌≤◌, ◌<◌}
use native.Mathlib.Omega.{arith}
use mathlib.Core.Path.{◌≡◌, sym}
use lib.ListN.{length, take}
use lib.Seq.{length-take-le}
use Rattle.octets.proofs.Stored.{none, same}
use Rattle.lines.proofs.Chunks.{ending_none, ending_short, ending_full, ending_some}
use Rattle.lines.proofs.finish.Goals as goal

pub returns-then-n-eq0 : goal.returns-then-n-eq0
returns-then-n-eq0 c =
    record {
      stored = same (ending_none _ _ _ c.if-n-eq0.true) (none _ _);
      upper_bound = omega arith;
    }

pub returns-then-n-line : goal.returns-then-n-line
returns-then-n-line c =
    record {
      stored = same (ending_short _ _ _ c.if-n-line.true) (none _ _);
      upper_bound = omega arith;
    }

pub returns-then-n-left : goal.returns-then-n-left
returns-then-n-left c =
    record {
      stored = same (ending_full _ _ _ (omega (arith, c.if-n-left.true, c.left.ensures))) (none _ _);
      upper_bound = omega arith;
    }

pub put_answer-requires : goal.put_answer-requires
put_answer-requires c =
    -- the line is as long as it is said to be, and there is room for its answer
    let long : (let a = c.args in length (take a.n a.line.now) ≡ a.n) = length-take-le _ _ c.if-n-line.false in
    let there : (let a = c.args in (0 < a.n) × (a.n + 5 ≤ length a.out.now)) = (omega (arith, c.if-n-eq0.false), omega (arith, c.if-n-eq0.false, c.if-n-left.false, c.left.ensures)) in
    record {
      line_in_bounds = omega (arith, long, there.1);
      values_value = c.values-values.ensures;
    }

pub returns : goal.returns
returns c =
    let long : (let a = c.args in length (take a.n a.line.now) ≡ a.n) = length-take-le _ _ c.if-n-line.false in
    let there : (let a = c.args in (0 < a.n) × (a.n + 5 ≤ length a.out.now)) = (omega (arith, c.if-n-eq0.false), omega (arith, c.if-n-eq0.false, c.if-n-left.false, c.left.ensures)) in
    record {
      stored = same (ending_some _ _ _ c.if-n-line.false there.1 there.0) c.put_answer.ensures.stored;
      upper_bound = omega (arith, c.put_answer.ensures.upper_bound, long, there.1);
    }

pub slice_bounds-put_answer-end : goal.slice_bounds-put_answer-end
slice_bounds-put_answer-end c =
    let long : (let a = c.args in length (take a.n a.line.now) ≡ a.n) = length-take-le _ _ c.if-n-line.false in
    sym long
