-- `lines::one_line::put_length` meets its contract: one digit or two, as the definition's test says, and a line feed.
-- Assumes nothing.
use Prim.Native.Nat.{ℕ}
use native.Mathlib.Omega.{arith}
use mathlib.Core.List.{List, [], ◌∷◌, ◌++◌}
use mathlib.Core.Path.{ap}
use lib.ListN.{length-set}
use Rattle.octets.proofs.Stored.{two, three, same}
use Rattle.line_cutter.specs.Line.{line_feed}
use Rattle.labelled.proofs.Decimal.{decimal_one, decimal_two}
use Rattle.lines.proofs.one_line.put_length.Goals as goal

-- digits, and a line feed behind them
abbrev ended : List ℕ → List ℕ
ended digits = digits ++ (line_feed ∷ [])

pub returns-then-k-lt10 : goal.returns-then-k-lt10
returns-then-k-lt10 c =
    record {
      stored = same (ap ended (decimal_one _ c.if-k-lt10.true)) (two _ _ _ _);
      upper_bound = omega arith;
    }

pub returns : goal.returns
returns c =
    record {
      stored = same (ap ended (decimal_two _ c.if-k-lt10.false (omega arith))) (three _ _ _ _ _);
      upper_bound = omega arith;
    }

pub bounds-out-at-then-k-lt10 : goal.bounds-out-at-then-k-lt10
bounds-out-at-then-k-lt10 c = simp length-set (omega arith)

pub bounds-out-at-3 : goal.bounds-out-at-3
bounds-out-at-3 c = simp length-set (omega arith)

pub bounds-out-at-4 : goal.bounds-out-at-4
bounds-out-at-4 c = simp length-set (omega arith)
