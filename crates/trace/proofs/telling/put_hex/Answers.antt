-- `trace::telling::put_hex` meets its contract. The invariant: the digits above the one at hand are stored.
-- Assumes nothing.
use Prim.Native.Nat.{ℕ, ◌-◌, ◌*◌, ◌/◌, ◌^◌}
use native.Mathlib.Omega.{arith}
use mathlib.Core.List.{[], ◌∷◌, ◌++◌}
use mathlib.Core.Path.{ap, ◌∙◌}
use Rattle.labelled.specs.Hexed.{hex_by}
use Rattle.labelled.proofs.Putting.{none, join, same}
use Rattle.trace.proofs.Hexes.{hex_none, hex_more}
use Rattle.trace.proofs.telling.put_hex.Goals as goal

pub loop-i-init : goal.loop-i-init
loop-i-init c = same (hex_none c.args.v c.args.digits) (none _ _)

pub loop-i-preserved : goal.loop-i-preserved
loop-i-preserved c =
    let a = c.args in
    same
    (ap (λ (d : ℕ). hex_by (a.digits - c.loop-i.i) (a.v / 2 ^ (4 * c.loop-i.i)) ++ (d ∷ [])) c.last_hex_digit-digit.ensures
    ∙ hex_more a.v a.digits c.loop-i.i (omega arith) (omega arith))
    (join c.loop-i.invariant c.put_byte-next.ensures)
