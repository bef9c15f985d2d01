-- How far counts go: a line adds at most one to each, and at most 254 missing frames.
-- Assumes nothing.
use Prim.Native.Nat.{ℕ, suc, ◌+◌, ◌≤◌, ◌<◌}
use native.Mathlib.Omega.{arith}
use mathlib.Core.Bool.{Bool, true, false, cond}
use mathlib.Core.List.{List, [], ◌∷◌, ◌++◌}
use mathlib.Core.Path.{◌≡◌, refl, ap}
use borrow.Author.Tests.{ltb-true}
use lib.Dec.{ltb, eqb}
use lib.ListN.{length, length-append}
use Rattle.octets.specs.Bits.{bit_of}
use Rattle.octets.proofs.Cases.{cases, holds?}
use Rattle.senders.specs.declared.Sender.{Sender}
use Rattle.senders.specs.declared.Counted.{Counted}
use Rattle.senders.specs.Sender.{same}
use Rattle.senders.specs.Counts.{step_to, repeats_by, missing_by}
use Rattle.senders.specs.Hearing.{senders_most, first_heard, heard_again, hearing, is_known, heard_of, AllCountable}
use Rattle.trace_line.specs.declared.Saying.{Saying}
use Rattle.trace_line.specs.Saying.{Spoken}
use Rattle.trace_line.specs.declared.Saying.TheVariants.{Unread, Refused, Sourceless, Heard}
use Rattle.trace.specs.Plain.{Trace, lines_most, unread_most, is_unread, is_refused, is_sourceless}
use Rattle.trace.specs.Steps.{untold, senders_behind, crowds, counted_on, passed, one_more}
use Rattle.trace.specs.Within.{Small, AllSmall, Within}

-- what one frame adds
repeats_one : (d : ℕ) → repeats_by d ≤ 1
repeats_one d = cases (holds? (eqb d 0)) (λ t. simp t (omega arith)) (λ t. simp t (omega arith))

missing_few : (d : ℕ) → d < 256 → missing_by d ≤ 254
missing_few d h = cases (holds? (ltb d 2)) (λ t. simp t (omega arith)) (λ t. simp t (omega arith))

step_few : (a b : ℕ) → step_to a b < 256
step_few a b = omega arith

bit_one : (b : Bool) → bit_of b ≤ 1
bit_one true = omega arith
bit_one false = omega arith

-- one line more
module _ (lines : ℕ) where
  small_more : (c : Counted) → Small lines c → Small (lines + 1) c
  small_more c s = omega arith

  all_more : (cs : List Counted) → AllSmall lines cs → AllSmall (lines + 1) cs
  all_more [] s = tt
  all_more (c ∷ cs) s = (small_more c s.0, all_more cs s.1)

  module _ (who : Sender) (number : ℕ) (short : who.octets ≤ 8) (byte : number < 256) where
    small_again : (c : Counted) → Small lines c → Small (lines + 1) (heard_again c number)
    unfolding heard_again
    small_again c s =
        let d = step_to c.last number in
        let repeats = repeats_one d in
        let missing = missing_few d (step_few c.last number) in
        record {
          octets = s.octets;
          last = byte;
          frames = omega arith;
          repeats = omega arith;
          missing = omega arith;
        }

    small_first : Small (lines + 1) (first_heard who number)
    small_first = record { octets = short; last = byte; frames = omega arith; repeats = omega arith; missing = omega arith }

    all_hearing : (cs : List Counted) → AllSmall lines cs → AllSmall (lines + 1) (hearing who number cs)
    unfolding hearing
    all_hearing [] s = tt
    all_hearing (c ∷ cs) s =
        cases (holds? (same who c.who)) (λ t. simp t (small_again c s.0, all_more cs s.1))
        (λ t. simp t (small_more c s.0, all_hearing cs s.1))

    all_first : (cs : List Counted) → AllSmall lines cs → AllSmall (lines + 1) (cs ++ (first_heard who number ∷ []))
    all_first [] s = (small_first, tt)
    all_first (c ∷ cs) s = (small_more c s.0, all_first cs s.1)

    all_heard : (cs : List Counted) → AllSmall lines cs → AllSmall (lines + 1) (heard_of who number cs)
    unfolding heard_of
    all_heard cs s =
        cases (holds? (is_known who cs)) (λ t. simp t (all_hearing cs s))
        (λ t.
        cases (holds? (ltb (length cs) senders_most)) (λ u. simp (t, u) (all_first cs s)) (λ u. simp (t, u) (all_more cs s)))

  all_behind : (cs : List Counted) (s : Saying) → Spoken s → AllSmall lines cs → AllSmall (lines + 1) (senders_behind cs s)
  all_behind cs Unread p a = all_more cs a
  all_behind cs Refused p a = all_more cs a
  all_behind cs Sourceless p a = all_more cs a
  all_behind cs (Heard who number) p a = all_heard who number p.0 p.1 cs a

-- there are never more senders than there are places
hearing_many : (who : Sender) (number : ℕ) (cs : List Counted) → length (hearing who number cs) ≡ length cs
unfolding hearing
hearing_many who number [] = refl
hearing_many who number (c ∷ cs) =
    cases (holds? (same who c.who)) (λ t. simp t) (λ t. simp t (ap suc (hearing_many who number cs)))

heard_room : (who : Sender) (number : ℕ) (cs : List Counted) → length cs ≤ senders_most → length (heard_of who number cs) ≤ senders_most
unfolding heard_of
heard_room who number cs h =
    cases (holds? (is_known who cs)) (λ t. simp (t, hearing_many who number cs) h)
    (λ t.
    cases (holds? (ltb (length cs) senders_most))
    (λ u. simp (t, u, length-append) (omega (arith, ltb-true (length cs) senders_most u)))
    (λ u. simp (t, u) h))

behind_room : (cs : List Counted) (s : Saying) → length cs ≤ senders_most → length (senders_behind cs s) ≤ senders_most
behind_room cs Unread h = h
behind_room cs Refused h = h
behind_room cs Sourceless h = h
behind_room cs (Heard who number) h = heard_room who number cs h

-- the count of lines answered 10 stops
unread_most_lem : (b : Bool) (n : ℕ) → n ≤ unread_most → cond b (one_more n) n ≤ unread_most
unread_most_lem true n h = omega arith
unread_most_lem false n h = h

-- from line to line
pub within_untold : Within untold
within_untold = record {
  lines = omega arith;
  room = omega arith;
  senders = tt;
  refused = omega arith;
  sourceless = omega arith;
  unread = omega arith;
  crowded = omega arith;
}

pub within_on : (t : Trace) (s : Saying) → Within t → Spoken s → t.lines < lines_most → Within (counted_on t s)
unfolding counted_on
within_on t s w p h = record {
  lines = omega arith;
  room = behind_room t.senders s w.room;
  senders = all_behind t.lines t.senders s p w.senders;
  refused = omega (arith, w.refused, bit_one (is_refused s));
  sourceless = omega (arith, w.sourceless, bit_one (is_sourceless s));
  unread = unread_most_lem (is_unread s) t.unread w.unread;
  crowded = omega (arith, w.crowded, bit_one (crowds t.senders s));
}

pub within_passed : (t : Trace) → Within t → Within (passed t)
unfolding passed
within_passed t w = record {
  lines = w.lines;
  room = w.room;
  senders = w.senders;
  refused = w.refused;
  sourceless = w.sourceless;
  unread = omega arith;
  crowded = w.crowded;
}

-- one more frame of each sender can be counted
pub countable : (lines : ℕ) (cs : List Counted) → lines < lines_most → AllSmall lines cs → AllCountable cs
countable lines [] h s = tt
countable lines (c ∷ cs) h s =
    let small = s.0 in
    (record { last = small.last; frames = omega arith; repeats = omega arith; missing = omega arith }, countable lines cs h s.1)
