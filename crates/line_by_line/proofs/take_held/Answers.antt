-- `line_by_line::take_held` meets its contract: what it cuts is what is still to be used of the chunk.
-- Assumes nothing.
use Rattle.std.proofs.Common.{sym}
use Rattle.line_by_line.proofs.Held.{held_cut, held_small}
use Rattle.line_by_line.proofs.take_held.Goals as goal

pub returns-clause-value : goal.returns-clause-value
returns-clause-value c =
    let a = c.args in
    let e = c.cut.ensures in
    (held_cut a.turn a.n a.chunk.now a.line.now _ c.cut.result c.cut.new.line c.min-end.ensures (e.value, e.line_after)).0

pub returns-clause-line_after : goal.returns-clause-line_after
returns-clause-line_after c =
    let a = c.args in
    let e = c.cut.ensures in
    (held_cut a.turn a.n a.chunk.now a.line.now _ c.cut.result c.cut.new.line c.min-end.ensures (e.value, e.line_after)).1

pub returns-clause-n_in_bounds : goal.returns-clause-n_in_bounds
returns-clause-n_in_bounds c =
    let a = c.args in
    rw (sym (returns-clause-value c)) at (held_small a.turn a.n a.chunk.now a.line.now c.requires)
