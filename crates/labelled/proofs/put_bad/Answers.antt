-- `labelled::put_bad` meets its contract: four bytes by hand, or a copy of what has room.
-- Assumes nothing.
use Prim.Native.Nat.{◌+◌, ◌≤◌}
use native.Mathlib.Omega.{arith}
use lib.ListN.{length}
use Rattle.octets.proofs.Stored.{four}
use Rattle.labelled.specs.Answer.{bad}
use Rattle.labelled.proofs.Putting.{copied, full}
use Rattle.labelled.proofs.put_bad.Goals as goal

pub returns-then-left-lt4 : goal.returns-then-left-lt4
unfolding bad
returns-then-left-lt4 c = copied _ _ bad (c.copy.ensures.value, c.copy.ensures.out_after)

pub returns : goal.returns
unfolding bad
returns c =
    let room : c.args.at + 4 ≤ length c.args.out.now = omega (arith, c.left.ensures, c.if-left-lt4.false) in
    full room (four _ _ _ _ _ _)
