-- `pending::addresses_at` meets its contract. The invariant: the places passed hold their addresses, and the others are broadcast.
-- Assumes nothing.
use mathlib.Core.Path.{◌≡◌}
use Rattle.pending.specs.Addresses.{addresses_in}
use Rattle.pending.proofs.addresses_at.Given as goal

abbrev pub invariant-loop-k : goal.invariant-loop-k
invariant-loop-k g l = let T = g.T.Identifier in l.addresses ≡ addresses_in T.WIDTH T.of l.s l.at l.k
