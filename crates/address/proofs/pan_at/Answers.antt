-- `address::pan_at` meets its contract: by whether the PAN id is in the frame.
-- Assumes nothing.
use Rattle.address.proofs.pan_at.Goals as goal

pub returns-then-own : goal.returns-then-own
returns-then-own c = rw (c.if-own.true, c.u16_at.ensures)
