-- `alterations::pending_mask` meets its contract: each of the two bits where it stands.
-- Assumes nothing.
use native.Mathlib.Omega.{arith}
use Rattle.alterations.proofs.Masks.{pending_held}
use Rattle.alterations.proofs.pending_mask.Goals as goal

pub returns : goal.returns
returns c = pending_held c.args.header (omega arith)
