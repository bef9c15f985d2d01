-- `octets::number_at` meets its contract. The invariant: what has been read is the number in the bytes from the i-th of the n on.
-- Assumes nothing.
use Prim.Native.Nat.{◌+◌, ◌-◌}
use mathlib.Core.Path.{◌≡◌}
use Rattle.octets.specs.Little.{number}
use Rattle.octets.proofs.number_at.Given as goal

abbrev pub invariant-loop-i : goal.invariant-loop-i
invariant-loop-i l = l.v ≡ number l.s (l.at + l.i) (l.n - l.i)
