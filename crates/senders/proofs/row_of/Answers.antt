-- `senders::row_of` meets its contract. The invariant: the sender is in none of the rows that were looked at.
-- Assumes nothing.
use Rattle.std.proofs.Common.{◌≡◌, sym, refl, ◌∙◌, arith}
use Rattle.senders.specs.Table.{counted_in}
use Rattle.senders.specs.Hearing.{place_of}
use Rattle.senders.proofs.Rows.{row_not, row_found}
use Rattle.senders.proofs.row_of.Goals as goal

pub loop-i-init : goal.loop-i-init
unfolding counted_in place_of
loop-i-init c = refl

pub returns-then-is_row_of : goal.returns-then-is_row_of
returns-then-is_row_of c =
    row_found c.args.who c.args.table.now c.loop-i.i c.args.n (omega arith) c.loop-i.invariant
    (sym c.is_row_of.ensures ∙ c.if-is_row_of.true)

pub loop-i-preserved : goal.loop-i-preserved
loop-i-preserved c =
    row_not c.args.who c.args.table.now c.loop-i.i c.loop-i.invariant (sym c.is_row_of.ensures ∙ c.if-is_row_of.false)

pub returns : goal.returns
returns c =
    let e : c.loop-i.i ≡ c.args.n = omega arith in
    rw e at (sym c.loop-i.invariant)
