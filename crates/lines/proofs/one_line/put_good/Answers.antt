-- `lines::one_line::put_good` meets its contract: the label has room, and the header's numbers are small enough to be told.
-- Assumes nothing.
use native.Mathlib.Omega.{arith}
use Rattle.header.proofs.Bounds.{read_number_lem, read_length}
use Rattle.octets.proofs.Stored.{join, same}
use Rattle.labelled.proofs.Putting.{copied, roomy}
use Rattle.lines.proofs.one_line.put_good.Goals as goal

pub put_columns-requires : goal.put_columns-requires
put_columns-requires c =
    let a = c.args in
    -- all of the label is stored
    let label = roomy (omega (arith, c.requires)) (copied a.out.now a.at a.label.now (c.copy-next.ensures.value, c.copy-next.ensures.out_after)) in
    record {
      number_bound = rw c.header_outcome.ensures (read_number_lem a.frame.now);
      length_bound = rw c.header_outcome.ensures (read_length a.frame.now);
      at_in_bounds = omega (arith, label.next, c.copy-next.auto.out, c.requires);
    }

pub returns : goal.returns
returns c =
    let a = c.args in
    let label = roomy (omega (arith, c.requires)) (copied a.out.now a.at a.label.now (c.copy-next.ensures.value, c.copy-next.ensures.out_after)) in
    record {
      stored = same (rw c.header_outcome.ensures) (join label c.put_columns.ensures.stored);
      upper_bound = omega (arith, label.next, c.put_columns.ensures.upper_bound);
    }
