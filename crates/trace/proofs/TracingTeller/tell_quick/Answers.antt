-- `trace::Tracing` tells a line from where it lies: what its tests show is what makes a line that is whole.
-- Assumes nothing.
use Rattle.std.proofs.Common.{◌≡◌, true, length, sym, ◌∙◌, arith}
use Rattle.std.specs.Prelude.{Some}
use Rattle.octets.proofs.Little.{bytes_known}
use Rattle.line_cutter.specs.Line.{is_at}
use Rattle.line_cutter.proofs.Line.{there}
use Rattle.trace_line.proofs.Fields.{Found, count_few, parts_within}
use Rattle.trace_line.proofs.Telling.{quick_said}
use Rattle.trace.specs.State.{trace_of}
use Rattle.trace.proofs.Finding.{lies}
use Rattle.trace.proofs.TracingTeller.tell_quick.Goals as goal

pub overflow_sub-parts : goal.overflow_sub-parts
overflow_sub-parts c =
    let a = c.args in
    let self = a.self.now in
    omega (arith, (parts_within self.values a.chunk.now a.at 10 (length self.frame) c.in_ok-parts.parts c.in_ok-parts.ensures.value).0)

pub shared_ref_as_front-say : goal.shared_ref_as_front-say
shared_ref_as_front-say c =
    let a = c.args in
    let self = a.self.now in
    omega (arith, count_few self.values a.chunk.now a.at 10 (length self.frame) c.in_ok-parts.parts c.in_ok-parts.ensures.value, self.whole)

pub returns-clause-told : goal.returns-clause-told
returns-clause-told c =
    let a = c.args in
    let self = a.self.now in
    let r = c.in_ok-parts.parts in
    let found : Found self.values a.chunk.now a.at 10 self.frame (Some r) c.part_at.new.frame = record {
      values = self.by_worth;
      bytes = bytes_known a.chunk.now c.type_inv.chunk;
      room = self.whole;
      parts = (c.in_ok-parts.ensures.value, c.in_ok-parts.ensures.frame_after);
    } in
    -- the line feed behind the digits
    let feed_there : is_at a.chunk.now r.end 10 ≡ true = sym c.is_at.ensures ∙ c.if-not-is_at.false in
    let k = quick_said _ _ _ _ _ _ found feed_there c.if-parts-at-gt-LINE_MOST.false in
    lies a.chunk.now a.at r _ c.say-said.result k c.say-said.ensures.value
    (trace_of self.counts self.table) _ a.out.now _ a.used c.tell_said-next.result
    c.tell_said-next.ensures.state_after c.tell_said-next.ensures.stored c.tell_said-next.ensures.few
    (there a.chunk.now r.end 10 feed_there).0
