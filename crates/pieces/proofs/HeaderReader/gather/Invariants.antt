-- `pieces::HeaderReader::gather` meets its contract. The invariant: what the rest of the piece leads to, from where the loop stands, is
-- what the whole piece leads to.
-- Assumes nothing.
use Prim.Native.Nat.{◌≤◌}
use mathlib.Core.Path.{◌≡◌}
use lib.ListN.{length, drop}
use Rattle.pieces.specs.Steps.{gathered}
use Rattle.pieces.proofs.Growing.{onward}
use Rattle.pieces.proofs.HeaderReader.gather.Given as goal

abbrev pub invariant-loop-byte : goal.invariant-loop-byte
invariant-loop-byte l =
    (length l.self.bytes ≡ 37)
    × (l.self.count ≤ 37)
    × (l.self.awaited ≤ 37)
    × (onward l.self (drop l.byte-index l.piece) ≡ gathered l.initial.self l.piece)
