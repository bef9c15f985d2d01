-- `trace::Tracing` tells a line by what it says.
-- Assumes nothing.
use Rattle.std.proofs.Common.{sym, ap, ◌∙◌}
use Rattle.octets.proofs.Stored.{same}
use Rattle.trace.specs.State.{trace_of, step_said}
use Rattle.trace.specs.Next.{says_said}
use Rattle.trace.proofs.OneLine.{step_said_lem, says_said_lem}
use Rattle.trace.proofs.TracingTeller.tell.Goals as goal

pub returns-clause-state_after : goal.returns-clause-state_after
returns-clause-state_after c =
    let self = c.args.self.now in
    let t = trace_of self.counts self.table in
    c.tell_said.ensures.state_after ∙ ap (step_said t) c.say_line-said.ensures.value ∙ sym (step_said_lem t c.args.line.now)

pub returns-clause-stored : goal.returns-clause-stored
returns-clause-stored c =
    let self = c.args.self.now in
    let t = trace_of self.counts self.table in
    same (ap (says_said t) c.say_line-said.ensures.value ∙ sym (says_said_lem t c.args.line.now)) c.tell_said.ensures.stored
