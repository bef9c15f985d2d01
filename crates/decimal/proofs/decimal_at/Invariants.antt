-- `decimal::decimal_at` meets its contract. The invariant: the digits still to come, behind what those so far make, make what all
-- make, or all make 2^64 or more.
-- Assumes nothing.
use Prim.Native.Nat.{◌+◌}
use mathlib.Core.Path.{◌≡◌}
use lib.ListN.{length, drop}
use Rattle.decimal.specs.Decimal.{value_of, numerals}
use Rattle.decimal.proofs.Numerals.{Counted}
use Rattle.decimal.proofs.decimal_at.Given as goal

abbrev pub invariant-loop-b : goal.invariant-loop-b
invariant-loop-b l =
    (l.end ≡ l.at + l.b-index)
    × (l.b-index + length (numerals (drop l.b-index l.b-items)) ≡ length (numerals l.b-items))
    × Counted l.value (numerals (drop l.b-index l.b-items)) (value_of (numerals l.b-items))
