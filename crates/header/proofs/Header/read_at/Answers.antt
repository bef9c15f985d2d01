-- `header::Header::read_at` meets its contract: behind the end there is nothing to read.
-- Assumes nothing.
use Prim.Native.Nat.{◌-◌, ◌≤◌}
use native.Mathlib.Omega.{arith}
use mathlib.Core.Path.{ap, ◌∙◌}
use lib.ListN.{length, drop, length-drop, drop_of_length-le}
use lib.Seq.{take_all}
use Rattle.header.specs.Read.{read_by, read_header}
use Rattle.header.proofs.Header.read_at.Goals as goal

pub returns-then-at-s : goal.returns-then-at-s
returns-then-at-s c =
    let a = c.args in
    let s = a.s.now in
    c.read.ensures ∙ ap read_header (take_all (length s - a.at) (drop a.at s) (simp length-drop (omega arith)))

pub returns-else-at-s : goal.returns-else-at-s
unfolding read_by
returns-else-at-s c =
    let a = c.args in
    let h : length a.s.now ≤ a.at = omega (arith, c.if-at-s.false) in
    rw (drop_of_length-le a.s.now h)
