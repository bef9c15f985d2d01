-- `lines::takes` meets its contract.
-- Assumes nothing.
use native.Mathlib.Omega.{arith}
use mathlib.Core.Path.{sym}
use Rattle.lines.proofs.Chunks.{other_line, too_many, no_room, by_room}
use Rattle.lines.proofs.takes.Goals as goal

pub returns-then-line-ne-KEPT_MOST : goal.returns-then-line-ne-KEPT_MOST
returns-then-line-ne-KEPT_MOST c = sym (other_line _ _ _ _ c.if-line-ne-KEPT_MOST.true)

pub returns-then-n-gt-KEPT_MOST : goal.returns-then-n-gt-KEPT_MOST
returns-then-n-gt-KEPT_MOST c = sym (too_many _ _ _ _ c.if-n-gt-KEPT_MOST.true)

pub returns-then-room-lt-KEPT_MOST : goal.returns-then-room-lt-KEPT_MOST
returns-then-room-lt-KEPT_MOST c = sym (no_room _ _ _ _ (omega arith))

pub returns : goal.returns
returns c = by_room _ _ _ _ c.if-line-ne-KEPT_MOST.false c.if-n-gt-KEPT_MOST.false c.if-room-lt-KEPT_MOST.false
