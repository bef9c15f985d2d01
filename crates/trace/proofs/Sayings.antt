-- What sayings tell where one more comes, and how it is answered.
-- Assumes nothing.
use Prim.Native.Nat.{ℕ, ◌+◌, min}
use native.Mathlib.Omega.{arith}
use mathlib.Core.Bool.{Bool, cond}
use mathlib.Core.List.{List, [], ◌∷◌, ◌++◌, append-nil}
use mathlib.Core.Path.{◌≡◌, refl, ap}
use lib.ListN.{length, length-append}
use Rattle.octets.specs.Bits.{bit_of}
use Rattle.octets.proofs.Cases.{cases, holds?}
use Rattle.senders.specs.declared.Sender.{Sender}
use Rattle.senders.specs.Sender.{among}
use Rattle.trace_line.specs.declared.Saying.{Saying}
use Rattle.trace_line.specs.declared.Saying.TheVariants.{Unread, Refused, Sourceless, Heard}
use Rattle.trace.specs.Plain.{Trace, unread_most, heard_in, known, senders_in, strangers, how_many}
use Rattle.trace.specs.Plain.{is_unread, is_refused, is_sourceless}
use Rattle.trace.specs.Steps.{crowds, senders_behind, answer_to, one_more, counted_on, passed}
use Rattle.trace.specs.Output.{answer_of}
use Rattle.trace.proofs.Rows.{heard_on, crowd_on, crowd_ahead}

-- what some sayings tell, where some lines more are past the limit
unfoldable pub told_by : List Saying → ℕ → Trace
told_by ss over = record {
  lines = length ss;
  senders = senders_in (heard_in ss);
  refused = how_many is_refused ss;
  sourceless = how_many is_sourceless ss;
  unread = min (how_many is_unread ss + over) unread_most;
  crowded = strangers (known (heard_in ss)) (heard_in ss);
}

-- one saying more
heard_join : (ss ts : List Saying) → heard_in (ss ++ ts) ≡ heard_in ss ++ heard_in ts
unfolding heard_in
heard_join [] ts = refl
heard_join (Unread ∷ ss) ts = heard_join ss ts
heard_join (Refused ∷ ss) ts = heard_join ss ts
heard_join (Sourceless ∷ ss) ts = heard_join ss ts
heard_join (Heard who n ∷ ss) ts = ap (λ (l : List (Sender × ℕ)). (who, n) ∷ l) (heard_join ss ts)

many_on : (such : Saying → Bool) (ss : List Saying) (s : Saying) →
    how_many such ss + bit_of (such s) ≡ how_many such (ss ++ (s ∷ []))
unfolding how_many
many_on such [] s = cases (holds? (such s)) (λ t. simp t) (λ t. simp t)
many_on such (r ∷ ss) s =
    cases (holds? (such r)) (λ t. simp t (omega (arith, many_on such ss s))) (λ t. simp t (many_on such ss s))

senders_on : (ss : List Saying) (s : Saying) → senders_behind (senders_in (heard_in ss)) s ≡ senders_in (heard_in (ss ++ (s ∷ [])))
unfolding heard_in
senders_on ss Unread = rw (heard_join ss (Unread ∷ []), append-nil)
senders_on ss Refused = rw (heard_join ss (Refused ∷ []), append-nil)
senders_on ss Sourceless = rw (heard_join ss (Sourceless ∷ []), append-nil)
senders_on ss (Heard who n) = rw (heard_join ss (Heard who n ∷ [])) (heard_on (heard_in ss) who n)

crowded_on : (ss : List Saying) (s : Saying) →
    strangers (known (heard_in ss)) (heard_in ss) + bit_of (crowds (senders_in (heard_in ss)) s)
    ≡ strangers (known (heard_in (ss ++ (s ∷ [])))) (heard_in (ss ++ (s ∷ [])))
unfolding heard_in
crowded_on ss Unread = rw (heard_join ss (Unread ∷ []), append-nil) (omega arith)
crowded_on ss Refused = rw (heard_join ss (Refused ∷ []), append-nil) (omega arith)
crowded_on ss Sourceless = rw (heard_join ss (Sourceless ∷ []), append-nil) (omega arith)
crowded_on ss (Heard who n) = rw (heard_join ss (Heard who n ∷ [])) (crowd_on (heard_in ss) who n)

unread_on : (ss : List Saying) (s : Saying) →
    cond (is_unread s) (one_more (min (how_many is_unread ss + 0) unread_most)) (min (how_many is_unread ss + 0) unread_most)
    ≡ min (how_many is_unread (ss ++ (s ∷ [])) + 0) unread_most
unread_on ss s =
    rw (← (many_on is_unread ss s))
    (cases (holds? (is_unread s)) (λ t. simp t (omega arith)) (λ t. simp t (omega arith)))

-- one of the first lines more, and one past the limit
pub counted_by : (ss : List Saying) (s : Saying) → counted_on (told_by ss 0) s ≡ told_by (ss ++ (s ∷ [])) 0
unfolding counted_on told_by
counted_by ss s =
    let lines : length ss + 1 ≡ length (ss ++ (s ∷ [])) = simp length-append (omega arith) in
    let senders = senders_on ss s in
    let refused = many_on is_refused ss s in
    let sourceless = many_on is_sourceless ss s in
    let unread = unread_on ss s in
    let crowded = crowded_on ss s in
    λ i. record {
      lines = lines i;
      senders = senders i;
      refused = refused i;
      sourceless = sourceless i;
      unread = unread i;
      crowded = crowded i;
    }

pub passed_by : (ss : List Saying) (over : ℕ) → passed (told_by ss over) ≡ told_by ss (over + 1)
unfolding passed told_by
passed_by ss over =
    let unread : one_more (min (how_many is_unread ss + over) unread_most) ≡ min (how_many is_unread ss + (over + 1)) unread_most = omega arith in
    λ i. record {
      lines = length ss;
      senders = senders_in (heard_in ss);
      refused = how_many is_refused ss;
      sourceless = how_many is_sourceless ss;
      unread = unread i;
      crowded = strangers (known (heard_in ss)) (heard_in ss);
    }

-- a line is answered as the senders of the whole trace have it
pub answer_ahead : (ss : List Saying) (s : Saying) (ts : List Saying) (t : Trace) → t.senders ≡ senders_in (heard_in ss) →
    answer_to t s ≡ answer_of (known (heard_in (ss ++ (s ∷ ts)))) s
unfolding heard_in
answer_ahead ss Unread ts t e = refl
answer_ahead ss Refused ts t e = refl
answer_ahead ss Sourceless ts t e = refl
answer_ahead ss (Heard who n) ts t e =
    rw (e, crowd_ahead (heard_in ss) who n (heard_in ts), heard_join ss (Heard who n ∷ ts))
    (cases (holds? (among who (known (heard_in ss ++ ((who, n) ∷ heard_in ts))))) (λ t. simp t) (λ t. simp t))
