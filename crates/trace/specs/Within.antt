-- How far counts can go: none passes what 64 bits hold.
use Rattle.std.specs.Prelude.{ℕ, ◌*◌, ◌≤◌, ◌<◌, List, [], ◌∷◌, length}
use Rattle.senders.specs.{declared.Counted.Counted, Hearing.senders_most}
use Rattle.trace.specs.Plain.{Trace, lines_most, unread_most}

-- the counts of a sender behind so many lines
pub record Small (lines : ℕ) (c : Counted) : Type 0 where
  pub octets : c.who.octets ≤ 8
  pub last : c.last < 256
  pub frames : c.frames ≤ lines
  pub repeats : c.repeats ≤ lines
  pub missing : c.missing ≤ 254 * lines

abbrev pub AllSmall : ℕ → List Counted → Type 0
AllSmall lines [] = Unit
AllSmall lines (c ∷ cs) = Small lines c × AllSmall lines cs

-- what is told of a trace
pub record Within (t : Trace) : Type 0 where
  pub lines : t.lines ≤ lines_most
  pub room : length t.senders ≤ senders_most
  pub senders : AllSmall t.lines t.senders
  pub refused : t.refused ≤ t.lines
  pub sourceless : t.sourceless ≤ t.lines
  pub unread : t.unread ≤ unread_most
  pub crowded : t.crowded ≤ t.lines
