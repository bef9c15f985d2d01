-- `trace::Tracing::tell_said` meets its contract: what is stored is what is written for a line that says so.
-- Assumes nothing.
use Rattle.std.proofs.Common.{◌+◌, ◌≤◌, ◌≡◌, length, ap, arith}
use Rattle.labelled.proofs.Putting.{same, roomy}
use Rattle.trace.specs.Plain.{Trace}
use Rattle.trace.specs.Output.{message}
use Rattle.trace.specs.State.{trace_of}
use Rattle.trace.specs.Complaint.{answer_number}
use Rattle.trace.specs.Next.{says_said}
use Rattle.trace.proofs.OneLine.{message_said, said_most}
use Rattle.trace.proofs.Tracing.tell_said.Goals as goal

pub returns : goal.returns
returns c =
    let self = c.args.self.now in
    let t = trace_of self.counts self.table in
    let most = said_most t c.args.said in
    let room : c.args.at + length (says_said t c.args.said) ≤ length c.args.out.now = omega (arith, most, c.requires.room) in
    let named : message c.count-answered.result.counts.lines (answer_number c.count-answered.result.answer) ≡ says_said t c.args.said =
    rw (c.count-answered.ensures.answer_value, ap (λ (u : Trace). u.lines) c.count-answered.ensures.table_after) (message_said t c.args.said) in
    let written = roomy room (same named c.put_message.ensures) in record {
      state_after = c.count-answered.ensures.table_after;
      stored = written;
      few = omega (arith, written.next, most);
    }
