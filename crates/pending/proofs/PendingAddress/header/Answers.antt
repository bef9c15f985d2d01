-- `pending::PendingAddress::header` meets its contract: each count is at most seven.
-- Assumes nothing.
use native.Mathlib.Omega.{arith}
use Rattle.pending.proofs.Pending.{fitting}
use Rattle.pending.proofs.PendingAddress.header.Goals as goal

pub overflow_cast-result : goal.overflow_cast-result
overflow_cast-result c = omega (arith, fitting _ c.requires)

pub overflow_cast-result-2 : goal.overflow_cast-result-2
overflow_cast-result-2 c = omega (arith, fitting _ c.requires)

pub overflow_mul-result : goal.overflow_mul-result
overflow_mul-result c = omega (arith, fitting _ c.requires)

pub overflow_add-result : goal.overflow_add-result
overflow_add-result c = omega (arith, fitting _ c.requires)
