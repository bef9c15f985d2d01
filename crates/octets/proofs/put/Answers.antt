-- `octets::put` meets its contract: each turn stores the lowest byte of what is left.
-- Assumes nothing.
use Prim.Native.Nat.{◌+◌}
use native.Mathlib.Omega.{arith}
use mathlib.Core.Path.{sym, ◌∙◌}
use Rattle.octets.proofs.Buffer.{store_next, store_end}
use Rattle.octets.proofs.put.Goals as goal

pub loop-i-preserved : goal.loop-i-preserved
loop-i-preserved c = store_next c.loop-i.out (c.args.at + c.loop-i.i) _ _ _ c.loop-i.rest (omega arith) (omega arith) ∙ c.loop-i.invariant

pub returns-clause-out_after : goal.returns-clause-out_after
returns-clause-out_after c = sym (store_end c.loop-i.out (c.args.at + c.loop-i.i) _ c.loop-i.rest (omega (arith, c.left.ensures, c.loop-i.auto.out))) ∙ c.loop-i.invariant
