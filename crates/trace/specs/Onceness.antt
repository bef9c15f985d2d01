-- How far counts go is a fact that has one proof.
-- Assumes nothing.
use Rattle.std.specs.Prelude.{ℕ, List, [], ◌∷◌}
use Rattle.std.specs.Coded.{×_prop, Unit-prop, le_prop}
use Rattle.senders.specs.declared.Counted.{Counted}
use Rattle.trace.specs.Plain.{Trace}
use Rattle.trace.specs.Within.{Small, AllSmall, Within}

small_once : (lines : ℕ) (c : Counted) → IsProp (Small lines c)
small_once lines c s t = λ i. record {
  octets = le_prop s.octets t.octets i;
  last = le_prop s.last t.last i;
  frames = le_prop s.frames t.frames i;
  repeats = le_prop s.repeats t.repeats i;
  missing = le_prop s.missing t.missing i;
}

all_once : (lines : ℕ) (cs : List Counted) → IsProp (AllSmall lines cs)
all_once lines [] = Unit-prop
all_once lines (c ∷ cs) = ×_prop (small_once lines c) (all_once lines cs)

pub within_once : (t : Trace) → IsProp (Within t)
within_once t a b = λ i. record {
  lines = le_prop a.lines b.lines i;
  room = le_prop a.room b.room i;
  senders = all_once t.lines t.senders a.senders b.senders i;
  refused = le_prop a.refused b.refused i;
  sourceless = le_prop a.sourceless b.sourceless i;
  unread = le_prop a.unread b.unread i;
  crowded = le_prop a.crowded b.crowded i;
}
