-- `hexadecimal::decode_by` meets its contract. The invariant: what is left to decode, stored from where the loop stands, gives what is wanted.
-- Assumes nothing.
use Prim.Native.Nat.{◌+◌, ◌-◌, ◌*◌, ◌≤◌}
use mathlib.Core.Path.{◌≡◌}
use lib.ListN.{length}
use Rattle.octets.specs.Buffer.{laid}
use Rattle.hexadecimal.specs.Hex.{decoded_by}
use Rattle.hexadecimal.proofs.Hex.{rest}
use Rattle.hexadecimal.proofs.decode_by.Given as goal

abbrev pub invariant-loop-n : goal.invariant-loop-n
invariant-loop-n l =
    (l.end ≤ length l.initial.out)
    × (2 * l.end ≤ length l.s - l.at)
    × (length l.out ≡ length l.initial.out)
    × (laid l.out l.n (rest l.values l.s l.at (length l.initial.out) l.n) ≡ laid l.initial.out 0 (decoded_by l.values l.s l.at (length l.initial.out)))
    × (l.n + length (rest l.values l.s l.at (length l.initial.out) l.n) ≡ length (decoded_by l.values l.s l.at (length l.initial.out)))
