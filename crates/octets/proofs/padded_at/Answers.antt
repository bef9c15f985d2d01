-- `octets::padded_at` meets its contract: each turn puts the byte before what has been read below it.
-- Assumes nothing.
use Prim.Native.Nat.{ℕ, ◌-◌}
use native.Mathlib.Omega.{arith}
use mathlib.Core.Path.{sym, ap, ◌∙◌}
use Rattle.octets.specs.Little.{number}
use Rattle.octets.proofs.Little.{bytes_known, number_none, number_behind, number_turn, number_room}
use Rattle.octets.proofs.padded_at.Goals as goal

pub loop-i-init : goal.loop-i-init
loop-i-init c = sym (number_none _ _)

pub overflow_mul-v : goal.overflow_mul-v
overflow_mul-v c =
    let a = c.args in
    record { fits = omega (arith, number_room a.s.now a.at 8 c.loop-i.i (bytes_known _ c.type_inv.s) (omega arith) (omega arith)) }

pub overflow_add-v : goal.overflow_add-v
overflow_add-v c =
    let a = c.args in
    record { fits = omega (arith, number_room a.s.now a.at 8 c.loop-i.i (bytes_known _ c.type_inv.s) (omega arith) (omega arith)) }

pub loop-i-preserved : goal.loop-i-preserved
loop-i-preserved c =
    let a = c.args in
    let b =
    c.u8_at.ensures ∙ ap (λ (p : ℕ). number a.s.now p 1) c.behind.ensures
    ∙ number_behind a.s.now a.at (c.loop-i.i - 1) 1 in
    number_turn a.s.now a.at 8 c.loop-i.i c.loop-i.v (omega arith) (omega arith) c.loop-i.invariant b
