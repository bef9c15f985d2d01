-- `line_by_line::next_line` meets its contract: where a line is ready and there is room, the line is found, so nothing more is read.
-- Assumes nothing.
use mathlib.Core.Bool.{true, true≢false}
use Rattle.std.proofs.Common.{refl, sym, ap, ◌∙◌}
use Rattle.std.specs.Prelude.{◌≡◌}
use Rattle.line_cutter.specs.declared.Taken.{Taken}
use Rattle.line_by_line.specs.declared.Turn.{Turn}
use Rattle.line_by_line.specs.Held.{unused}
use Rattle.line_cutter.specs.Line.{taken}
use Rattle.line_by_line.proofs.Held.{held_found, held_handed}
use Rattle.line_by_line.proofs.next_line.Goals as goal

pub returns-then-taken-clause-hands_over : goal.returns-then-taken-clause-hands_over
returns-then-taken-clause-hands_over g c = λ h.
    let a = c.args in
    let e = c.take_held-taken.ensures in
    let d =
    held_handed a.turn c.make_room-ready.result a.chunk.now a.line.now c.take_held-taken.result c.take_held-taken.new.line
    (c.make_room-ready.ensures.value h.1) (e.value, e.line_after) c.if-taken.true in
    record { answer = c.with_line.ensures ∙ d.0; chunk_same = refl; line_after = d.1 }

pub returns-clause-hands_over : goal.returns-clause-hands_over
returns-clause-hands_over g c = λ h.
    let a = c.args in
    let f : c.take_held-taken.result.ended ≡ true =
    ap (λ (k : Taken). k.ended)
    (c.take_held-taken.ensures.value
    ∙ ap (λ (t : Turn). taken (unused t a.chunk.now) t.at a.line.now 0) (c.make_room-ready.ensures.value h.1))
    ∙ held_found a.turn a.chunk.now a.line.now h.0 in
    absurd (true≢false (sym f ∙ c.if-taken.false))
