-- `senders::put_row` meets its contract: the table keeps its length with each number that is written.
-- Assumes nothing.
use Rattle.std.proofs.Common.{refl, arith, length-set}
use Rattle.senders.specs.Table.{row_set}
use Rattle.senders.proofs.put_row.Goals as goal

pub returns : goal.returns
unfolding row_set
returns c = refl

pub bounds-table-at-2 : goal.bounds-table-at-2
bounds-table-at-2 c = simp length-set (omega arith)

pub bounds-table-at-3 : goal.bounds-table-at-3
bounds-table-at-3 c = simp length-set (omega arith)

pub bounds-table-at-4 : goal.bounds-table-at-4
bounds-table-at-4 c = simp length-set (omega arith)

pub bounds-table-at-5 : goal.bounds-table-at-5
bounds-table-at-5 c = simp length-set (omega arith)

pub bounds-table-at-6 : goal.bounds-table-at-6
bounds-table-at-6 c = simp length-set (omega arith)

pub bounds-table-at-7 : goal.bounds-table-at-7
bounds-table-at-7 c = simp length-set (omega arith)
