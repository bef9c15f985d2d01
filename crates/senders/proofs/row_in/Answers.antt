-- `senders::row_in` meets its contract.
-- Assumes nothing.
use Rattle.std.proofs.Common.{refl}
use Rattle.senders.specs.Table.{counted_at}
use Rattle.senders.proofs.row_in.Goals as goal

pub returns : goal.returns
unfolding counted_at
returns c = refl
