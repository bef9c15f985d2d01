-- `octets::put` meets its contract. The invariant: what is still to be stored, from where the loop stands, gives what is wanted. Behind
-- the last turn nothing is left, or no room is.
-- Assumes nothing.
use Prim.Native.Nat.{◌+◌, ◌-◌}
use mathlib.Core.Path.{◌≡◌}
use Rattle.octets.specs.Little.{split}
use Rattle.octets.specs.Buffer.{laid}
use Rattle.octets.proofs.put.Given as goal

abbrev pub invariant-loop-i : goal.invariant-loop-i
invariant-loop-i l = laid l.out (l.at + l.i) (split (l.n - l.i) l.rest) ≡ laid l.initial.out l.at (split l.n l.v)
