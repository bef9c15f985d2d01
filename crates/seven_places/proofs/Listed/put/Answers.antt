-- `seven_places::Listed::put` meets its contract: the count cut to seven takes the places in use.
-- Assumes nothing.
use native.Mathlib.Omega.{arith}
use Rattle.seven_places.proofs.Seven.{at_most_seven}
use Rattle.seven_places.proofs.Listed.put.Goals as goal

pub returns : goal.returns
returns g c = rw (at_most_seven c.args.self.places _ (omega (arith, c.well_formed)) c.min.ensures) at c.put_each.ensures
