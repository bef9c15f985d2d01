-- `octets::number_at` meets its contract: each turn puts the byte before what has been read below it.
-- Assumes nothing.
use Prim.Native.Nat.{◌+◌, ◌-◌}
use native.Mathlib.Nat.{sub_self}
use native.Mathlib.Omega.{arith}
use mathlib.Core.Path.{sym}
use Rattle.octets.proofs.Little.{bytes_known, number_none, number_one, number_turn, number_within, number_room}
use Rattle.octets.proofs.number_at.Goals as goal

pub loop-i-init : goal.loop-i-init
loop-i-init c = let a = c.args in rw (sub_self a.n) (sym (number_none a.s.now (a.at + a.n)))

pub overflow_mul-v : goal.overflow_mul-v
overflow_mul-v c =
    let a = c.args in
    record { fits = omega (arith, number_room a.s.now a.at a.n c.loop-i.i (bytes_known _ c.type_inv.s) (omega arith) (omega arith)) }

pub overflow_add-v-in-loop-i : goal.overflow_add-v-in-loop-i
overflow_add-v-in-loop-i c =
    let a = c.args in
    record { fits = omega (arith, number_room a.s.now a.at a.n c.loop-i.i (bytes_known _ c.type_inv.s) (omega arith) (omega arith)) }

pub loop-i-preserved : goal.loop-i-preserved
loop-i-preserved c =
    let a = c.args in
    number_turn a.s.now a.at a.n c.loop-i.i c.loop-i.v (omega arith) (omega arith) c.loop-i.invariant (sym (number_one a.s.now _))

pub returns-clause-upper_bound : goal.returns-clause-upper_bound
returns-clause-upper_bound c =
    let a = c.args in
    omega (arith, number_within a.s.now (a.at + c.loop-i.i) (a.n - c.loop-i.i) a.n (bytes_known _ c.type_inv.s) (omega arith))
