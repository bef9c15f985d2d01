-- `line_teller::feed` meets its contract. The invariant: what is left of the chunk leads from here to where the whole chunk leads.
-- Assumes nothing.
use Rattle.std.specs.Prelude.{◌+◌, ◌-◌, ◌*◌, ◌≤◌, ◌≡◌, length, take, drop}
use Rattle.line_cutter.specs.Line.{kept_most}
use Rattle.line_cutter.specs.Telling.{worked_to}
use Rattle.line_teller.proofs.feed.Given as goal

abbrev pub invariant-loop-told : goal.invariant-loop-told
invariant-loop-told g l =
    let t = g.T.Teller in
    (l.told.at ≤ length l.chunk)
    × (length l.out ≡ length l.initial.out)
    × (l.told.used + l.line.n + t.more * (length l.chunk - l.told.at) ≤ kept_most + t.more * length l.chunk)
    × (worked_to t.step t.says (t.state l.teller) (take l.line.n l.line.bytes) (drop l.told.at l.chunk) l.out l.told.used
    ≡ worked_to t.step t.says (t.state l.initial.teller) (take l.initial.line.n l.initial.line.bytes) l.chunk l.initial.out 0)

abbrev pub decreases-loop-told : goal.decreases-loop-told
decreases-loop-told g l = length l.chunk - l.told.at
