-- `pending::PendingAddress::too_large` meets its contract.
-- Assumes nothing.
use borrow.Author.Tests.{lt-ltb, le-ltb}
use Rattle.pending.specs.Pending.{pending_too_large}
use Rattle.pending.proofs.PendingAddress.too_large.Goals as goal

pub returns-then-self-gt7 : goal.returns-then-self-gt7
unfolding pending_too_large
returns-then-self-gt7 c = simp (lt-ltb 7 _ c.if-self-gt7.true)

pub returns-else-self-gt7 : goal.returns-else-self-gt7
unfolding pending_too_large
returns-else-self-gt7 c = simp (le-ltb 7 _ c.if-self-gt7.false)
