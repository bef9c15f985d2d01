-- `line_cutter::find` meets its contract. The invariant: the wanted byte is as far from here as from the start.
-- Assumes nothing.
use Rattle.std.specs.Prelude.{◌+◌, ◌≤◌, ◌≡◌, max, length, drop}
use Rattle.line_cutter.specs.Line.{before}
use Rattle.line_cutter.proofs.find.Given as goal

abbrev pub invariant-loop-i : goal.invariant-loop-i
invariant-loop-i l =
    (l.i ≤ max (length l.s) l.at) × (l.i + length (before l.a l.b (drop l.i l.s)) ≡ l.at + length (before l.a l.b (drop l.at l.s)))
