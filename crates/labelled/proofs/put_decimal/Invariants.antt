-- `labelled::put_decimal` meets its contract. The invariant: the digits of what is left, before those that are stored, are all digits.
-- Assumes nothing.
use Prim.Native.Nat.{◌^◌, ◌≤◌, ◌<◌}
use mathlib.Core.List.{◌++◌}
use mathlib.Core.Path.{◌≡◌}
use lib.ListN.{length, drop}
use Rattle.labelled.specs.Decimal.{decimal_by, decimal}
use Rattle.labelled.proofs.put_decimal.Given as goal

abbrev pub invariant-loop-rest : goal.invariant-loop-rest
invariant-loop-rest l =
    (0 < l.from) × (l.from ≤ 20) × (l.rest < 10 ^ l.from) × (length l.digits ≡ 20) × (decimal_by l.from l.rest ++ drop l.from l.digits ≡ decimal l.n)

abbrev pub decreases-loop-rest : goal.decreases-loop-rest
decreases-loop-rest l = l.from
