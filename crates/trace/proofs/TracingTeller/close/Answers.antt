-- `trace::Tracing` stores all counts at the end: there is room for them.
-- Assumes nothing.
use Rattle.std.proofs.Common.{◌+◌, ◌≤◌, length, arith}
use Rattle.labelled.proofs.Putting.{roomy}
use Rattle.senders.proofs.Rows.{rows_length}
use Rattle.trace.specs.Output.{summary}
use Rattle.trace.specs.State.{trace_of}
use Rattle.trace.proofs.Lengths.{summary_most}
use Rattle.trace.proofs.TracingTeller.close.Goals as goal

pub put_summary-requires : goal.put_summary-requires
put_summary-requires c =
    let self = c.args.self.now in
    record {
      rows_le_senders_most = omega (arith, self.within.room, rows_length self.table self.counts.rows);
      table_len = self.rows;
      all_small = self.within.senders;
    }

pub returns : goal.returns
returns c =
    let self = c.args.self.now in
    let t = trace_of self.counts self.table in
    let most = summary_most t self.within in
    let room : c.args.at + length (summary t) ≤ length c.args.out.now = omega (arith, most, c.requires) in
    let put = roomy room c.put_summary.ensures in record {
      stored = put;
      few = omega (arith, put.next, most);
    }
