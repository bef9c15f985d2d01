-- Laws of what a program writes that answers each line by itself: a line that ends is answered, and then the rest; what a line without end
-- leaves; the end of the input; and all chunks of an input, however it is cut.
-- Assumes nothing.
use Prim.Native.Nat.{ℕ, ◌≤◌, ◌<◌}
use native.Mathlib.Omega.{arith}
use mathlib.Core.Bool.{true, false}
use mathlib.Core.List.{List, [], ◌∷◌, ◌++◌, append-nil}
use mathlib.Core.Path.{◌≡◌, refl, sym, ap, ◌∙◌}
use lib.ListN.{length, take, drop}
use Rattle.octets.specs.Stored.{Stored}
use Rattle.line_cutter.specs.Answers.{Left, stays, tells, answers, output, fed_to, printed}
use Rattle.line_cutter.specs.Line.{kept_most, line_feed, line_of, line_ends, behind}
use Rattle.line_cutter.specs.Lines.{ended, begun, last, lines, run, joined}
use Rattle.line_cutter.specs.Telling.{Standing, told, worked_to, told_in_chunks}
use Rattle.line_cutter.proofs.Line.{Free}
use Rattle.line_cutter.proofs.Telling.{worked_line, worked_ended, worked_open, worked_all, told_whole}

-- such a program is one with a state that has nothing in it: its laws are those of a program with a state
abbrev pub left : Standing (Unit {0}) → Left
left w = record { out = w.out; used = w.used; kept = w.kept }

module _ (answer : List ℕ → List ℕ) where
  answers_told : (s : Unit {0}) (ls : List (List ℕ)) → answers answer ls ≡ told stays (tells answer) s ls
  unfolding answers told
  answers_told s [] = refl
  answers_told s (l ∷ ls) = ap (λ (x : List ℕ). answer l ++ x) (answers_told s ls)

  -- what a chunk leads to is the same, but for the state
  pub fed_worked : (l t out : List ℕ) (u : ℕ) → fed_to answer l t out u ≡ left (worked_to stays (tells answer) tt l t out u)
  unfolding fed_to worked_to
  fed_worked l t out u = rw (answers_told tt (ended l t))

  -- a line ends: its answer, and what follows
  pub fed_line : (x l t out o : List ℕ) (u r : ℕ) → Free line_feed x → Stored out u (answer (l ++ x)) o r →
      fed_to answer [] t o r ≡ fed_to answer l (x ++ (line_feed ∷ t)) out u
  fed_line x l t out o u r f s = simp fed_worked (ap left (worked_line stays (tells answer) x l t out o tt u r f s))

  pub fed_ended : (l s out o : List ℕ) (u r : ℕ) → line_ends s ≡ true → Stored out u (answer (l ++ line_of s)) o r →
      fed_to answer [] (behind s) o r ≡ fed_to answer l s out u
  fed_ended l s out o u r h t = simp fed_worked (ap left (worked_ended stays (tells answer) l s out o tt u r h t))

  -- no line ends: nothing is written, and as much is kept as tells the line
  pub fed_open : (l s out : List ℕ) (u : ℕ) → line_ends s ≡ false →
      fed_to answer (take kept_most (l ++ line_of s)) [] out u ≡ fed_to answer l s out u
  fed_open l s out u h = simp fed_worked (ap left (worked_open stays (tells answer) l s out tt u h))

  -- with nothing kept of a line, whatever the buffer holds
  pub fed_empty : (line chunk out o : List ℕ) (m n at to used next : ℕ) → m ≡ 0 → n ≡ 0 →
      fed_to answer [] (drop to chunk) o next ≡ fed_to answer [] (drop at chunk) out used →
      fed_to answer (take m line) (drop to chunk) o next ≡ fed_to answer (take n line) (drop at chunk) out used
  fed_empty line chunk out o m n at to used next e f g = rw (e, f) g

  pub fed_still : (line chunk out o : List ℕ) (n at to used next : ℕ) → n ≡ 0 → at ≡ to →
      fed_to answer [] (drop to chunk) o next ≡ fed_to answer [] (drop at chunk) out used →
      fed_to answer (take n line) (drop at chunk) o next ≡ fed_to answer (take n line) (drop at chunk) out used
  fed_still line chunk out o n at to used next e f g =
      fed_empty line chunk out o n n at at used next e e (ap (λ (k : ℕ). fed_to answer [] (drop k chunk) o next) f ∙ g)

  -- a loop that has come to the end of a chunk has done what the whole chunk leads to
  pub fed_all : (chunk line out : List ℕ) (held used at : ℕ) (whole : Left) → held ≤ kept_most → held ≤ length line → length chunk ≤ at →
      fed_to answer (take held line) (drop at chunk) out used ≡ whole →
      record { out = out; used = used; kept = take held line } ≡ whole
  fed_all chunk line out held used at whole h k g e =
      ap left (worked_all stays (tells answer) chunk line out tt held used at _ h k g refl) ∙ sym (fed_worked _ _ out used) ∙ e

  -- the end of the input
  pub last_none : (l : List ℕ) (n : ℕ) → n ≡ 0 → [] ≡ answers answer (last (take n l))
  unfolding answers last
  last_none l n e = rw e

  pub last_some : (l : List ℕ) → 0 < length l → answer l ≡ answers answer (last l)
  unfolding answers last
  last_some [] h = absurd (omega arith)
  last_some (b ∷ l) h = sym (append-nil (answer (b ∷ l)))

  -- what the chunks write is the same too
  pub printed_told : (s : Unit {0}) (l : List ℕ) (cs : List (List ℕ)) → printed answer l cs ≡ told_in_chunks stays (tells answer) s l cs
  unfolding printed told_in_chunks
  printed_told s l [] = answers_told s (last l)
  printed_told s l (c ∷ cs) = rw (answers_told s (ended l c), printed_told (run stays s (ended l c)) (take kept_most (begun l c)) cs)

  -- however the input is cut into chunks, what is written is the output of the whole, where an answer looks at no more than is kept
  pub printed_whole : ((l : List ℕ) → answer (take kept_most l) ≡ answer l) → (cs : List (List ℕ)) →
      printed answer [] cs ≡ output answer (joined cs)
  unfolding output
  printed_whole sees cs =
      printed_told tt [] cs ∙ told_whole stays (tells answer) (λ s l. refl) (λ s l. sees l) tt cs ∙ sym (answers_told tt (lines (joined cs)))
