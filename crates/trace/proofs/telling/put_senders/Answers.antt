-- `trace::telling::put_senders` meets its contract. The invariant: the lines of the rows before the one at hand are stored.
-- Assumes nothing.
use Prim.Native.Nat.{ℕ}
use native.Mathlib.Omega.{arith}
use mathlib.Core.List.{◌++◌, flat_map}
use mathlib.Core.Path.{◌≡◌, ap, ◌∙◌}
use Rattle.senders.specs.declared.Counted.{Counted}
use Rattle.senders.specs.Table.{counted_at, counted_in}
use Rattle.senders.proofs.Rows.{row_there}
use Rattle.labelled.proofs.Putting.{none, join, same}
use Rattle.trace.specs.Output.{sender_line}
use Rattle.trace.proofs.Stores.{rows_more, small_at}
use Rattle.trace.proofs.telling.put_senders.Goals as goal

pub loop-i-init : goal.loop-i-init
unfolding counted_in flat_map
loop-i-init c = none _ _

pub put_sender-next-requires : goal.put_sender-next-requires
put_sender-next-requires c =
    -- the row is in the table
    let row : (let a = c.args in c.row_at.result ≡ counted_at a.table.now c.loop-i.i) = c.row_at.ensures ∙ row_there c.args.table.now c.loop-i.i c.requires.table_len (omega (arith, c.requires.rows_le_senders_most)) in
    let a = c.args in
    let k = small_at a.counts.lines a.table.now a.counts.rows c.loop-i.i (omega arith) c.requires.all_small in
    rw row k.octets

pub loop-i-preserved : goal.loop-i-preserved
loop-i-preserved c =
    let row : (let a = c.args in c.row_at.result ≡ counted_at a.table.now c.loop-i.i) = c.row_at.ensures ∙ row_there c.args.table.now c.loop-i.i c.requires.table_len (omega (arith, c.requires.rows_le_senders_most)) in
    let a = c.args in
    same
    (ap (λ (d : Counted). flat_map sender_line (counted_in a.table.now c.loop-i.i) ++ sender_line d) row ∙ rows_more a.table.now c.loop-i.i)
    (join c.loop-i.invariant c.put_sender-next.ensures)

pub returns : goal.returns
returns c =
    let a = c.args in
    let e : c.loop-i.i ≡ a.counts.rows = omega arith in
    same (ap (λ (n : ℕ). flat_map sender_line (counted_in a.table.now n)) e) c.loop-i.invariant
