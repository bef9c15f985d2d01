-- `labelled::put_bytes` meets its contract. The invariant: the digits of the bytes before the one at hand are stored.
-- Assumes nothing.
use native.Mathlib.Omega.{arith}
use mathlib.Core.List.{flat_map}
use mathlib.Core.Path.{◌≡◌, sym, ◌∙◌}
use borrow.Author.Tests.{eqb-true, eqb-false}
use lib.ListN.{length}
use Rattle.labelled.proofs.Hexed.{pair_more, hexed_none, hexed_all}
use Rattle.labelled.proofs.Putting.{none, join, same}
use Rattle.labelled.proofs.put_bytes.Goals as goal

pub returns-then-is_empty : goal.returns-then-is_empty
returns-then-is_empty c =
    let none_there : length c.args.bytes.now ≡ 0 = eqb-true _ _ (sym c.is_empty.ensures ∙ c.if-is_empty.true) in
    same (hexed_none c.args.bytes.now none_there) c.put_byte.ensures

pub loop-byte-init : goal.loop-byte-init
unfolding flat_map
loop-byte-init c = none _ _

pub loop-byte-preserved : goal.loop-byte-preserved
loop-byte-preserved c =
    same (pair_more c.args.bytes.now c.loop-byte.byte-index (omega arith)) (join c.loop-byte.invariant c.put_pair-next.ensures)

pub returns : goal.returns
returns c =
    let some_there = eqb-false _ _ (sym c.is_empty.ensures ∙ c.if-is_empty.false) in
    same (hexed_all c.args.bytes.now c.loop-byte.byte-index (omega (arith, some_there)) (omega arith)) c.loop-byte.invariant
