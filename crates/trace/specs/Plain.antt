-- What a trace tells, plainly, over the list of its lines: document 02, request 3, "senders in order of first sight, each
-- with frames, repeats, missing". Nothing here goes from line to line with a table.
use Rattle.std.specs.Prelude.{ℕ, suc, ◌+◌, ◌-◌, Bool, true, false, cond, List, [], ◌∷◌, ◌++◌, map, length, take, min}
use Rattle.senders.specs.{declared.Sender.Sender, declared.Counted.Counted, Sender.same, Sender.among, Counts.counts_of}
use Rattle.senders.specs.{Hearing.senders_most}
use Rattle.trace_line.specs.{declared.Saying.Saying, Saying.saying}
use Rattle.trace_line.specs.declared.Saying.TheVariants.{Unread, Refused, Sourceless, Heard}

-- "any line after the first 1,000,000"
abbrev pub lines_most : ℕ
lines_most = 1000000

-- where the count of lines answered 10 stops: an input may have more lines than 64 bits count
abbrev pub unread_most : ℕ
unread_most = 18446744073709551615

-- what the first 1,000,000 lines say
abbrev pub sayings : List (List ℕ) → List Saying
sayings ls = map saying (take lines_most ls)

-- the frames that name a source, each with its sequence number
unfoldable pub heard_in : List Saying → List (Sender × ℕ)
heard_in [] = []
heard_in (Unread ∷ ss) = heard_in ss
heard_in (Refused ∷ ss) = heard_in ss
heard_in (Sourceless ∷ ss) = heard_in ss
heard_in (Heard who number ∷ ss) = (who, number) ∷ heard_in ss

-- the senders of frames in order of first sight, behind those that were met before
unfoldable pub met : List Sender → List (Sender × ℕ) → List Sender
met ms [] = ms
met ms (h ∷ hs) = met (cond (among h.0 ms) ms (ms ++ (h.0 ∷ []))) hs

-- the first sixty-four of them: a frame of any other is answered 11
unfoldable pub known : List (Sender × ℕ) → List Sender
known hs = take senders_most (met [] hs)

-- the sequence numbers of a sender's frames
unfoldable pub numbers_of : Sender → List (Sender × ℕ) → List ℕ
numbers_of who [] = []
numbers_of who (h ∷ hs) = cond (same who h.0) (h.1 ∷ numbers_of who hs) (numbers_of who hs)

-- each known sender with its counts
abbrev pub senders_in : List (Sender × ℕ) → List Counted
senders_in hs = map (λ (who : Sender). counts_of who (numbers_of who hs)) (known hs)

-- how many frames are not of some senders
unfoldable pub strangers : List Sender → List (Sender × ℕ) → ℕ
strangers ks [] = 0
strangers ks (h ∷ hs) = cond (among h.0 ks) (strangers ks hs) (suc (strangers ks hs))

-- how many sayings are such
unfoldable pub how_many : (Saying → Bool) → List Saying → ℕ
how_many such [] = 0
how_many such (s ∷ ss) = cond (such s) (suc (how_many such ss)) (how_many such ss)

abbrev pub is_unread : Saying → Bool
is_unread Unread = true
is_unread Refused = false
is_unread Sourceless = false
is_unread (Heard who number) = false

abbrev pub is_refused : Saying → Bool
is_refused Unread = false
is_refused Refused = true
is_refused Sourceless = false
is_refused (Heard who number) = false

abbrev pub is_sourceless : Saying → Bool
is_sourceless Unread = false
is_sourceless Refused = false
is_sourceless Sourceless = true
is_sourceless (Heard who number) = false

-- what is told of a trace: how many of the first 1,000,000 lines there are, the senders with their counts, refused
-- frames, frames that name no source, lines answered 10, and lines answered 11
pub record Trace : Type 0 where
  pub lines : ℕ
  pub senders : List Counted
  pub refused : ℕ
  pub sourceless : ℕ
  pub unread : ℕ
  pub crowded : ℕ

unfoldable pub traced : List (List ℕ) → Trace
traced ls =
    let ss = sayings ls in
    let hs = heard_in ss in
    record {
      lines = length ss;
      senders = senders_in hs;
      refused = how_many is_refused ss;
      sourceless = how_many is_sourceless ss;
      unread = min (how_many is_unread ss + (length ls - lines_most)) unread_most;
      crowded = strangers (known hs) hs;
    }
