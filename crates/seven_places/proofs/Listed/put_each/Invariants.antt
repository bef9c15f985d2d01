-- `seven_places::Listed::put_each` meets its contract. The invariant: what is left, stored from where the loop stands, gives what is wanted.
-- Assumes nothing.
use lib.ListN.{drop}
use Rattle.seven_places.proofs.Seven.{SameStore}
use Rattle.seven_places.proofs.Listed.put_each.Given as goal

abbrev pub invariant-loop-entry : goal.invariant-loop-entry
invariant-loop-entry g l =
    SameStore g.T.Entry.bytes g.T.Entry.WIDTH (drop l.entry-index l.entries) l.out l.next l.entries l.initial.out l.fn.at
