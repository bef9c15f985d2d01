-- `octets::copy` meets its contract: each turn stores one byte more.
-- Assumes nothing.
use Prim.Native.Nat.{ℕ, ◌+◌}
use native.Mathlib.Omega.{arith}
use mathlib.Core.List.{List}
use mathlib.Core.Path.{sym, ap, ◌∙◌}
use lib.ListN.{get_or, set}
use Rattle.octets.proofs.Buffer.{laid_none}
use Rattle.octets.proofs.Copying.{copy_next}
use Rattle.octets.proofs.copy.Goals as goal

pub loop-i-init : goal.loop-i-init
loop-i-init c = sym (laid_none c.args.out.now c.args.at)

pub loop-i-preserved : goal.loop-i-preserved
loop-i-preserved c =
    let a = c.args in
    let i = c.loop-i.i in
    ap (λ (o : List ℕ). set o (a.at + i) (get_or a.s.now i 0)) c.loop-i.invariant ∙ copy_next a.out.now a.at a.s.now i (omega arith)
