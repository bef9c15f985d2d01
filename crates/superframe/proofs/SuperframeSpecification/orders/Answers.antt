-- `superframe::SuperframeSpecification::orders` meets its contract: each order has four bits.
-- Assumes nothing.
use native.Mathlib.Omega.{arith}
use Rattle.superframe.proofs.Superframe.{fitting}
use Rattle.superframe.proofs.SuperframeSpecification.orders.Goals as goal

pub overflow_mul-result : goal.overflow_mul-result
overflow_mul-result c = let fits = fitting _ c.requires in omega arith

pub overflow_add-result : goal.overflow_add-result
overflow_add-result c = let fits = fitting _ c.requires in omega arith
