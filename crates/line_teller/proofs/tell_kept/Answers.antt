-- `line_teller::tell_kept` meets its contract: what was cut leads on, and what is written for a line that has ended has room.
-- Assumes nothing.
use Rattle.std.proofs.Common.{ℕ, [], ◌≡◌, length, take, drop, refl, ap, ◌∙◌, arith}
use borrow.Author.Tests.{not-true, not-false}
use lib.Seq.{length-take-le}
use Rattle.octets.proofs.Stored.{none, same}
use Rattle.line_cutter.specs.Telling.{worked_to}
use Rattle.line_cutter.proofs.Cutting.{Cut, cutting, cut_told, cut_goes}
use Rattle.line_teller.proofs.Room.{room_on}
use Rattle.line_teller.proofs.tell_kept.Goals as goal

-- no line has ended
pub returns-then-not-taken-clause-after : goal.returns-then-not-taken-clause-after
returns-then-not-taken-clause-after g c =
    let a = c.args in
    let line = a.line.now in
    rw c.cut-taken.ensures.n_after
    (cut_goes a.chunk.now a.at line.bytes line.n c.cut-taken.result c.cut-taken.new.self.bytes (c.cut-taken.ensures.value, c.cut-taken.ensures.bytes_after) line.few line.long c.requires.at_in_bounds
    g.T.Teller.step g.T.Teller.says (not-true _ c.if-not-taken.true) (g.T.Teller.state a.teller.now) a.out.now a.used).0

pub returns-then-not-taken-clause-onward : goal.returns-then-not-taken-clause-onward
returns-then-not-taken-clause-onward g c =
    let a = c.args in
    let line = a.line.now in
    rw c.cut-taken.ensures.n_after
    (cut_goes a.chunk.now a.at line.bytes line.n c.cut-taken.result c.cut-taken.new.self.bytes (c.cut-taken.ensures.value, c.cut-taken.ensures.bytes_after) line.few line.long c.requires.at_in_bounds
    g.T.Teller.step g.T.Teller.says (not-true _ c.if-not-taken.true) (g.T.Teller.state a.teller.now) a.out.now a.used).1

pub returns-then-not-taken-clause-room_after : goal.returns-then-not-taken-clause-room_after
returns-then-not-taken-clause-room_after g c =
    let a = c.args in
    let line = a.line.now in
    let cut : Cut a.chunk.now a.at line.bytes line.n c.cut-taken.result c.cut-taken.new.self.bytes =
    cutting _ _ _ _ _ _ (c.cut-taken.ensures.value, c.cut-taken.ensures.bytes_after) line.few line.long c.requires.at_in_bounds in
    let on = (cut.goes (not-true _ c.if-not-taken.true) (λ l. l) a.out.now a.used).1 in
    let room = room_on g.T.Teller.more a.at c.cut-taken.result.at (length a.chunk.now) g.met.T.Teller.some on.later on.within in
    omega (arith, room, cut.held (not-true _ c.if-not-taken.true), c.cut-taken.ensures.n_after, g.met.T.Teller.some, on.later)

-- one has, and is told
pub tell-next-requires : goal.tell-next-requires
tell-next-requires g c =
    let a = c.args in
    let line = a.line.now in
    let kept = c.cut-taken.new.self in
    let cut : Cut a.chunk.now a.at line.bytes line.n c.cut-taken.result kept.bytes =
    cutting _ _ _ _ _ _ (c.cut-taken.ensures.value, c.cut-taken.ensures.bytes_after) line.few line.long c.requires.at_in_bounds in
    let t = not-false _ c.if-not-taken.false in
    let u = cut.used t in
    let on = (cut.answered t (λ l. []) (λ l. refl) [] [] 0 0 (none [] 0)).1 in
    let long : length (take kept.n kept.bytes) ≡ kept.n = length-take-le kept.n kept.bytes (omega (arith, kept.few, kept.long)) in
    let room = room_on g.T.Teller.more a.at c.cut-taken.result.at (length a.chunk.now) g.met.T.Teller.some on.later on.within in
    omega (arith, ap length c.bytes.ensures, long, u.0, room, c.cut-taken.ensures.n_after, c.requires.room)

pub returns-clause-after : goal.returns-clause-after
returns-clause-after g c =
    let a = c.args in
    let line = a.line.now in
    let kept = c.cut-taken.new.self in
    let r = c.cut-taken.result in
    let t = g.T.Teller in
    let s = t.state a.teller.now in
    let e : c.bytes.result.now ≡ take r.n kept.bytes = c.bytes.ensures ∙ ap (λ (k : ℕ). take k kept.bytes) c.cut-taken.ensures.n_after in
    ap (λ (z : t.State). worked_to t.step t.says z [] (drop r.at a.chunk.now) c.tell-next.new.out c.tell-next.result)
    (c.tell-next.ensures.state_after ∙ ap (t.step s) e)
    ∙ (cut_told a.chunk.now a.at line.bytes line.n r kept.bytes (c.cut-taken.ensures.value, c.cut-taken.ensures.bytes_after) line.few line.long c.requires.at_in_bounds
    t.step t.says (not-false _ c.if-not-taken.false) g.met.T.Teller.sees g.met.T.Teller.hears s a.out.now _ a.used c.tell-next.result
    (same (ap (t.says s) e) c.tell-next.ensures.stored)).0

pub returns-clause-onward : goal.returns-clause-onward
returns-clause-onward g c =
    let a = c.args in
    let line = a.line.now in
    let cut : Cut a.chunk.now a.at line.bytes line.n c.cut-taken.result c.cut-taken.new.self.bytes =
    cutting _ _ _ _ _ _ (c.cut-taken.ensures.value, c.cut-taken.ensures.bytes_after) line.few line.long c.requires.at_in_bounds in
    (cut.answered (not-false _ c.if-not-taken.false) (λ l. []) (λ l. refl) [] [] 0 0 (none [] 0)).1

pub returns-clause-room_after : goal.returns-clause-room_after
returns-clause-room_after g c =
    let a = c.args in
    let line = a.line.now in
    let kept = c.cut-taken.new.self in
    let cut : Cut a.chunk.now a.at line.bytes line.n c.cut-taken.result kept.bytes =
    cutting _ _ _ _ _ _ (c.cut-taken.ensures.value, c.cut-taken.ensures.bytes_after) line.few line.long c.requires.at_in_bounds in
    let t = not-false _ c.if-not-taken.false in
    let u = cut.used t in
    let on = (cut.answered t (λ l. []) (λ l. refl) [] [] 0 0 (none [] 0)).1 in
    let long : length (take kept.n kept.bytes) ≡ kept.n = length-take-le kept.n kept.bytes (omega (arith, kept.few, kept.long)) in
    let room = room_on g.T.Teller.more a.at c.cut-taken.result.at (length a.chunk.now) g.met.T.Teller.some on.later on.within in
    omega (arith, c.tell-next.ensures.few, ap length c.bytes.ensures, long, u.0, room, c.cut-taken.ensures.n_after)
