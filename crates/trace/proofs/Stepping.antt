-- One more line, as the code counts it: for each kind of line, the numbers and the table that it leaves are what the
-- definition has behind that line.
-- Assumes nothing.
use Prim.Native.Nat.{ℕ, ◌+◌, ◌≤◌, ◌<◌}
use native.Mathlib.Omega.{arith}
use mathlib.Core.Bool.{Bool, true, false, not}
use mathlib.Core.List.{List}
use mathlib.Core.Path.{◌≡◌, sym, subst}
use borrow.Author.Tests.{lt-ltb, le-ltb}
use lib.Dec.{ltb}
use lib.ListN.{length}
use Rattle.octets.proofs.Cases.{cases, holds?, neither}
use Rattle.std.specs.Prelude.{Some, None}
use Rattle.senders.specs.declared.Sender.{Sender}
use Rattle.senders.specs.declared.Counted.{Counted}
use Rattle.senders.specs.Hearing.{senders_most, is_crowded, heard_of, AllCountable}
use Rattle.senders.specs.Table.{table_length, counted_in, fits, goes_on, is_new, table_after, rows_after, counts, rows_heard}
use Rattle.senders.proofs.Rows.{rows_length, fits_so}
use Rattle.senders.proofs.After.{after_counted, counts_known}
use Rattle.trace_line.specs.declared.Saying.{Saying}
use Rattle.trace_line.specs.Saying.{Spoken}
use Rattle.trace_line.specs.declared.Saying.TheVariants.{Unread, Refused, Sourceless, Heard}
use Rattle.trace.specs.declared.counting.Counts.{Counts}
use Rattle.trace.specs.Plain.{lines_most}
use Rattle.trace.specs.Steps.{counted_on, passed, one_more, answer_to}
use Rattle.trace.specs.State.{trace_of, step_said, answer_said}
use Rattle.trace.specs.Within.{Within}
use Rattle.trace.proofs.Bounds.{within_on, within_passed, countable}

-- a count to which nothing is added
add_none : (n : ℕ) → n + 0 ≡ n
add_none n = omega arith

-- a test that is the opposite of another
opposite : (a b : Bool) → a ≡ not b → b ≡ not a
opposite a true e = rw e
opposite a false e = rw e

-- where a frame is not counted, the rows stay
rows_stay : (t : List ℕ) (n : ℕ) (who : Sender) → counts t n who ≡ false → rows_after t n who ≡ n
unfolding counts rows_after
rows_stay t n who e = simp (neither (goes_on t n who) (is_new t n who) e).1

module _ (c : Counts) (t : List ℕ) (w : Within (trace_of c t)) where
  -- what the code promises of the numbers, the table and the answer behind a line
  abbrev Stepped : Saying → Counts → List ℕ → ℕ → Type 0
  Stepped s d u answer =
      (trace_of d u ≡ step_said (trace_of c t) s) × ((answer ≡ answer_said (trace_of c t) s) × Within (trace_of d u))

  -- a line behind the first 1,000,000
  pub later : (s : Saying) (n : ℕ) → lines_most ≤ c.lines → n ≡ one_more c.unread →
      Stepped s
      record {
        lines = c.lines;
        rows = c.rows;
        refused = c.refused;
        sourceless = c.sourceless;
        unread = n;
        crowded = c.crowded;
      } t 0
  unfolding passed
  later s n h e =
      let k : ltb c.lines lines_most ≡ false = le-ltb c.lines lines_most h in
      rw e (simp k, (simp k, within_passed (trace_of c t) w))

  -- the rows in use are in the table
  rows_fit : c.rows ≤ senders_most
  rows_fit = omega (arith, rows_length t c.rows, w.room)

  module _ (h : c.lines < lines_most) where
    -- one more frame of each sender can be counted
    rows_countable : AllCountable (counted_in t c.rows)
    rows_countable = countable c.lines (counted_in t c.rows) h w.senders

    -- the numbers behind one of the first lines
    abbrev behind : ℕ → ℕ → ℕ → ℕ → ℕ → Counts
    behind rows refused sourceless unread crowded = record {
      lines = c.lines + 1;
      rows = rows;
      refused = refused;
      sourceless = sourceless;
      unread = unread;
      crowded = crowded;
    }

    module _ (s : Saying) (p : Spoken s) where
      -- counted on as the definition has it, it keeps the promise
      on : (d : Counts) (u : List ℕ) (answer : ℕ) → trace_of d u ≡ counted_on (trace_of c t) s → answer ≡ answer_to (trace_of c t) s →
          Stepped s d u answer
      on d u answer e f =
          let k : ltb c.lines lines_most ≡ true = lt-ltb c.lines lines_most h in
          (simp k e, (simp k f, subst Within (sym e) (within_on (trace_of c t) s w p h)))

      pub on_unread : (n : ℕ) → s ≡ Unread → n ≡ one_more c.unread →
          Stepped s (behind c.rows c.refused c.sourceless n c.crowded) t 10
      unfolding counted_on
      on_unread n e f = on _ t 10 (rw (e, f) (simp add_none)) (rw e)

      pub on_refused : s ≡ Refused → Stepped s (behind c.rows (c.refused + 1) c.sourceless c.unread c.crowded) t 0
      unfolding counted_on
      on_refused e = on _ t 0 (rw e (simp add_none)) (rw e)

      pub on_sourceless : s ≡ Sourceless →
          Stepped s (behind c.rows c.refused (c.sourceless + 1) c.unread c.crowded) t 0
      unfolding counted_on
      on_sourceless e = on _ t 0 (rw e (simp add_none)) (rw e)

      -- a frame of a sender, as the table was left by it
      module _ (who : Sender) (number : ℕ) (e : s ≡ Heard who number) (long : length t ≡ table_length) (u : List ℕ)
          (after : u ≡ table_after t c.rows who number) where
        abbrev cs : List Counted
        cs = counted_in t c.rows

        fit : fits t c.rows ≡ true
        fit = fits_so t c.rows long rows_fit

        crowded_not : is_crowded who cs ≡ not (counts t c.rows who)
        crowded_not = opposite (counts t c.rows who) (is_crowded who cs) (counts_known t c.rows who number fit rows_countable)

        heard_in_lem : (n : ℕ) → n ≡ rows_after t c.rows who → counted_in u n ≡ heard_of who number cs
        heard_in_lem n rows = rw (after, rows) (after_counted t c.rows who number fit rows_countable)

        pub on_counted : (n : ℕ) → Some n ≡ rows_heard t c.rows who → Stepped s (behind n c.refused c.sourceless c.unread c.crowded) u 0
        unfolding counted_on rows_heard
        on_counted n heard =
            cases (holds? (counts t c.rows who))
            (λ f.
            let rows : n ≡ rows_after t c.rows who = let g = simp f at heard in cc in
            let k : is_crowded who cs ≡ false = rw f at crowded_not in
            on _ u 0 (rw (e, heard_in_lem n rows, k) (simp add_none)) (rw (e, k)))
            (λ f. absurd (let g = simp f at heard in cc))

        pub on_crowded : None ≡ rows_heard t c.rows who → Stepped s (behind c.rows c.refused c.sourceless c.unread (c.crowded + 1)) u 11
        unfolding counted_on rows_heard
        on_crowded heard =
            cases (holds? (counts t c.rows who)) (λ f. absurd (let g = simp f at heard in cc))
            (λ f.
            let k : is_crowded who cs ≡ true = rw f at crowded_not in
            let l = heard_in_lem c.rows (sym (rows_stay t c.rows who f)) in
            on _ u 11 (rw (e, l, k) (simp add_none)) (rw (e, k)))
