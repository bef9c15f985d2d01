-- `payload::read` meets its contract: by what reading the header answers, and by whether the beacon is to be read.
-- Assumes nothing.
use mathlib.Core.Path.{sym, ◌∙◌}
use Rattle.header.proofs.Bounds.{length_bounds}
use Rattle.payload.specs.Frame.{read_frame}
use Rattle.payload.proofs.read.Goals as goal

pub with_beacon-requires : goal.with_beacon-requires
with_beacon-requires c = (length_bounds _ _ _ (sym c.read-header.ensures ∙ c.in-Ok.is)).2

pub returns-then-unsecured_beacon : goal.returns-then-unsecured_beacon
unfolding read_frame
returns-then-unsecured_beacon c =
    c.with_beacon.ensures
    ∙ rw (← c.read-header.ensures, c.in-Ok.is) (simp (sym c.unsecured_beacon.ensures ∙ c.if-unsecured_beacon.true))

pub returns-else-unsecured_beacon : goal.returns-else-unsecured_beacon
unfolding read_frame
returns-else-unsecured_beacon c =
    c.without_beacon.ensures
    ∙ rw (← c.read-header.ensures, c.in-Ok.is) (simp (sym c.unsecured_beacon.ensures ∙ c.if-unsecured_beacon.false))

pub returns-in-Err : goal.returns-in-Err
unfolding read_frame
returns-in-Err c = c.without_beacon-in-Err.ensures ∙ rw (← c.read-header.ensures, c.in-Err.is)
