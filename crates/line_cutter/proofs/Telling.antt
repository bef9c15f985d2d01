-- Laws of what a program writes that goes from line to line with a state: a line that ends is a step, and then the rest; what a line
-- without end leaves; the end of a chunk; and all chunks of an input, however it is cut.
-- Assumes nothing.
use Prim.Native.Nat.{ℕ, ◌+◌, ◌≤◌}
use native.Mathlib.Nat.{add-zero}
use native.Mathlib.Omega.{arith}
use mathlib.Core.Bool.{true, false}
use mathlib.Core.List.{List, [], ◌∷◌, ◌++◌, append-nil, append_assoc}
use mathlib.Core.Path.{◌≡◌, refl, sym, ap, ◌∙◌}
use lib.ListN.{length, take, drop, length-append, drop_of_length-le}
use lib.Seq.{take_all, take-take, length-take-le}
use Rattle.octets.specs.Buffer.{laid}
use Rattle.octets.specs.Stored.{Stored}
use Rattle.octets.proofs.Buffer.{laid_none, laid_join}
use Rattle.line_cutter.specs.Line.{kept_most, line_feed, line_of, line_ends, behind}
use Rattle.line_cutter.specs.Lines.{ended, begun, last, lines, run, joined, in_chunks, Sees}
use Rattle.line_cutter.specs.Telling.{Standing, told, worked_to, told_in_chunks}
use Rattle.line_cutter.proofs.Line.{Free, free_first, line_ended, line_open}
use Rattle.line_cutter.proofs.Lines.{ended_free, begun_free, ended_line, begun_line, however_cut}

module _ {S : Type 0} (step : S → List ℕ → S) (says : S → List ℕ → List ℕ) where
  -- a line ends: what is written for it, and what follows from the next state on
  pub worked_line : (x l t out o : List ℕ) (s : S) (u r : ℕ) → Free line_feed x → Stored out u (says s (l ++ x)) o r →
      worked_to step says (step s (l ++ x)) [] t o r ≡ worked_to step says s l (x ++ (line_feed ∷ t)) out u
  unfolding worked_to told run
  worked_line x l t out o s u r f p =
      let a = says s (l ++ x) in
      let b = told step says (step s (l ++ x)) (ended [] t) in
      let bytes : laid o r b ≡ laid out u (a ++ b) = ap (λ (y : List ℕ). laid y r b) p.bytes
      ∙ laid_join out u r (length a) a b refl p.next in
      let used : r + length b ≡ u + length (a ++ b) = rw (length-append a b) (omega (arith, p.next)) in
      rw (ended_line x l t f, begun_line x l t f, bytes, used)

  pub worked_ended : (l t out o : List ℕ) (s : S) (u r : ℕ) → line_ends t ≡ true → Stored out u (says s (l ++ line_of t)) o r →
      worked_to step says (step s (l ++ line_of t)) [] (behind t) o r ≡ worked_to step says s l t out u
  worked_ended l t out o s u r h p =
      worked_line (line_of t) l (behind t) out o s u r (free_first line_feed line_feed t) p
      ∙ ap (λ (y : List ℕ). worked_to step says s l y out u) (sym (line_ended t h))

  -- no line ends: nothing is done, and as much is kept as tells the line
  pub worked_open : (l t out : List ℕ) (s : S) (u : ℕ) → line_ends t ≡ false →
      worked_to step says s (take kept_most (l ++ line_of t)) [] out u ≡ worked_to step says s l t out u
  unfolding worked_to ended begun
  worked_open l t out s u h =
      let e = line_open t h in
      let f : Free line_feed t = rw e at (free_first line_feed line_feed t) in
      rw (e, ended_free t l f, begun_free t l f, take-take kept_most kept_most (l ++ t) (omega arith))

  -- with nothing kept of a line, whatever the buffer holds
  pub worked_empty : (line chunk out o : List ℕ) (s z : S) (m n at to used next : ℕ) → m ≡ 0 → n ≡ 0 →
      worked_to step says z [] (drop to chunk) o next ≡ worked_to step says s [] (drop at chunk) out used →
      worked_to step says z (take m line) (drop to chunk) o next ≡ worked_to step says s (take n line) (drop at chunk) out used
  worked_empty line chunk out o s z m n at to used next e f g = rw (e, f) g

  pub worked_still : (line chunk out o : List ℕ) (s z : S) (n at to used next : ℕ) → n ≡ 0 → at ≡ to →
      worked_to step says z [] (drop to chunk) o next ≡ worked_to step says s [] (drop at chunk) out used →
      worked_to step says z (take n line) (drop at chunk) o next ≡ worked_to step says s (take n line) (drop at chunk) out used
  worked_still line chunk out o s z n at to used next e f g =
      worked_empty line chunk out o s z n n at at used next e e (ap (λ (k : ℕ). worked_to step says z [] (drop k chunk) o next) f ∙ g)

  -- nothing is left of a chunk
  worked_done : (l out : List ℕ) (s : S) (u : ℕ) → length l ≤ kept_most →
      record { state = s; out = out; used = u; kept = l } ≡ worked_to step says s l [] out u
  unfolding worked_to ended begun told run
  worked_done l out s u h = rw (laid_none out u, add-zero, take_all kept_most l h)

  -- a loop that has come to the end of a chunk has done what the whole chunk leads to
  pub worked_all : (chunk line out : List ℕ) (s : S) (held used at : ℕ) (whole : Standing S) →
      held ≤ kept_most → held ≤ length line → length chunk ≤ at →
      worked_to step says s (take held line) (drop at chunk) out used ≡ whole →
      record { state = s; out = out; used = used; kept = take held line } ≡ whole
  worked_all chunk line out s held used at whole h k g e =
      let l = take held line in
      worked_done l out s used (omega (arith, length-take-le held line k))
      ∙ ap (λ (t : List ℕ). worked_to step says s l t out used) (sym (drop_of_length-le chunk g))
      ∙ e

  -- what is written for some lines and then for others is written for all
  pub told_join : (s : S) (ls ms : List (List ℕ)) → told step says s (ls ++ ms) ≡ told step says s ls ++ told step says (run step s ls) ms
  unfolding told run
  told_join s [] ms = refl
  told_join s (l ∷ ls) ms =
      ap (λ (x : List ℕ). says s l ++ x) (told_join (step s l) ls ms) ∙ sym (append_assoc (says s l) (told step says (step s l) ls) _)

  -- a step, and writing for it behind what was written
  write : S × List ℕ → List ℕ → S × List ℕ
  write p l = (step p.0 l, p.1 ++ says p.0 l)

  written : (s : S) (o : List ℕ) (ls : List (List ℕ)) → run write (s, o) ls ≡ (run step s ls, o ++ told step says s ls)
  unfolding run write told
  written s o [] = rw append-nil
  written s o (l ∷ ls) = rw (← append_assoc o (says s l)) (written (step s l) (o ++ says s l) ls)

  in_chunks_lem : (s : S) (o l : List ℕ) (cs : List (List ℕ)) → (in_chunks write kept_most (s, o) l cs).1 ≡ o ++ told_in_chunks step says s l cs
  unfolding in_chunks told_in_chunks
  in_chunks_lem s o l [] = ap (λ (p : S × List ℕ). p.1) (written s o (last l))
  in_chunks_lem s o l (c ∷ cs) =
      let k = take kept_most (begun l c) in
      let a = told step says s (ended l c) in
      ap (λ (p : S × List ℕ). (in_chunks write kept_most p k cs).1) (written s o (ended l c))
      ∙ in_chunks_lem (run step s (ended l c)) (o ++ a) k cs
      ∙ append_assoc o a _

  -- however the input is cut into chunks, what is written is what the lines of the whole have written, where no more is looked at than is kept
  pub told_whole : Sees kept_most step → Sees kept_most says → (s : S) (cs : List (List ℕ)) →
      told_in_chunks step says s [] cs ≡ told step says s (lines (joined cs))
  unfolding write
  told_whole sees hears s cs =
      let both : Sees kept_most write = λ p l. rw (sees p.0 l, hears p.0 l) in
      sym (in_chunks_lem s [] [] cs)
      ∙ ap (λ (p : S × List ℕ). p.1) (however_cut write kept_most (omega arith) both (s, []) cs ∙ written s [] (lines (joined cs)))
