-- What is told from line to line is what is told plainly of all lines, and so is what is written.
-- Assumes nothing.
use Prim.Native.Nat.{ℕ, suc, ◌+◌, ◌-◌, ◌≤◌, ◌<◌, min}
use native.Mathlib.Omega.{arith}
use mathlib.Core.Bool.{cond}
use mathlib.Core.List.{List, [], ◌∷◌, ◌++◌, map, map-append, append-nil}
use mathlib.Core.Path.{◌≡◌, refl, ap, ◌∙◌}
use borrow.Author.Tests.{ltb-true, ltb-false, lt-ltb, le-ltb}
use lib.Dec.{ltb}
use lib.ListN.{length, take, length-append, length-map, length-take}
use lib.Seq.{take_all, take-append-le, take-append-add, take-nil, append_snoc}
use Rattle.octets.proofs.Cases.{cases, holds?}
use Rattle.line_cutter.specs.Lines.{run}
use Rattle.line_cutter.specs.Telling.{told}
use Rattle.trace_line.specs.Saying.{saying}
use Rattle.trace.specs.Plain.{Trace, lines_most, sayings, heard_in, met, known, strangers, how_many, traced}
use Rattle.trace.specs.Steps.{untold, counted_on, passed, step_on, says}
use Rattle.trace.specs.Output.{message, answer_of, messages, summary, output}
use Rattle.trace.proofs.Sayings.{told_by, counted_by, passed_by, answer_ahead}

-- what lines tell under a limit
abbrev told_under : ℕ → List (List ℕ) → Trace
told_under n ls = told_by (map saying (take n ls)) (length ls - n)

-- one line more, within the limit and past it
module _ (n : ℕ) (ls : List (List ℕ)) (l : List ℕ) where
  step_by :
      cond (ltb (length (map saying (take n ls))) n) (counted_on (told_under n ls) (saying l)) (passed (told_under n ls))
      ≡ told_under n (ls ++ (l ∷ []))
  step_by =
      cases (holds? (ltb (length ls) n))
      (λ t.
      let h = ltb-true (length ls) n t in
      let all = take_all n ls (omega arith) in
      let more = take_all n (ls ++ (l ∷ [])) (simp length-append (omega arith)) in
      let none : length ls - n ≡ 0 = omega arith in
      let none' : length (ls ++ (l ∷ [])) - n ≡ 0 = simp length-append (omega arith) in
      rw (all, more, length-map, t, none, none', map-append) (counted_by (map saying ls) (saying l)))
      (λ t.
      let h = ltb-false (length ls) n t in
      let full = take-append-le n ls (l ∷ []) h in
      let many : length (map saying (take n ls)) ≡ n = rw length-map (omega (arith, length-take n ls)) in
      let over : length (ls ++ (l ∷ [])) - n ≡ length ls - n + 1 = simp length-append (omega arith) in
      rw (full, many, le-ltb n n (omega arith), over) (passed_by (map saying (take n ls)) (length ls - n)))

pub traced_on : (ls : List (List ℕ)) (l : List ℕ) → step_on (traced ls) l ≡ traced (ls ++ (l ∷ []))
unfolding step_on traced told_by
traced_on ls l = step_by lines_most ls l

-- the lines one after the other
run_from : (ks ls : List (List ℕ)) → run step_on (traced ks) ls ≡ traced (ks ++ ls)
unfolding run
run_from ks [] = rw append-nil
run_from ks (l ∷ ls) = rw (traced_on ks l) (run_from (ks ++ (l ∷ [])) ls ∙ rw append_snoc)

traced_none : traced [] ≡ untold
unfolding traced heard_in known met strangers how_many
traced_none = refl

pub run_traced : (ls : List (List ℕ)) → run step_on untold ls ≡ traced ls
run_traced ls = rw (← traced_none) (run_from [] ls)

-- how lines stand in a trace, past the limit and within it
module _ (n : ℕ) (ks : List (List ℕ)) where
  front_many : length (map saying (take n ks)) ≡ min n (length ks)
  front_many = rw length-map (length-take n ks)

  left_none : n ≤ length ks → n - length ks ≡ 0
  left_none h = omega arith

  module _ (l : List ℕ) where
    left_less : length ks < n → n - length ks ≡ suc (n - length (ks ++ (l ∷ [])))
    left_less h = simp length-append (omega arith)

    front_less : length ks < n → length (map saying (take n (ks ++ (l ∷ [])))) ≡ length (map saying (take n ks)) + 1
    front_less h =
        let all = take_all n ks (omega arith) in
        let more = take_all n (ks ++ (l ∷ [])) (simp length-append (omega arith)) in
        rw (all, more) (simp (length-map, length-append))

    front_ahead : (ls : List (List ℕ)) → length ks < n →
        map saying (take n (ks ++ (l ∷ ls))) ≡ map saying (take n ks) ++ (saying l ∷ map saying (take (n - length (ks ++ (l ∷ []))) ls))
    front_ahead ls h =
        let all = take_all n ks (omega arith) in
        let e : length ks + suc (n - length (ks ++ (l ∷ []))) ≡ n = simp length-append (omega arith) in
        let cut = rw e at (take-append-add ks (l ∷ ls) (suc (n - length (ks ++ (l ∷ []))))) in
        rw (cut, all) (map-append saying ks (l ∷ take (n - length (ks ++ (l ∷ []))) ls))

-- what is written for a line
module _ (ks : List (List ℕ)) (l : List ℕ) where
  says_less : (ls : List (List ℕ)) → length ks < lines_most →
      says (traced ks) l ≡ message (length (sayings ks) + 1) (answer_of (known (heard_in (sayings (ks ++ (l ∷ ls))))) (saying l))
  unfolding says traced
  says_less ls h =
      let some : length (sayings ks) < lines_most = omega (arith, front_many lines_most ks) in
      let ts = map saying (take (lines_most - length (ks ++ (l ∷ []))) ls) in
      rw (lt-ltb (length (sayings ks)) lines_most some, front_ahead lines_most ks l ls h)
      (ap (message (length (sayings ks) + 1)) (answer_ahead (sayings ks) (saying l) ts (traced ks) refl))

  says_none : lines_most ≤ length ks → says (traced ks) l ≡ []
  unfolding says traced
  says_none h =
      let all : lines_most ≤ length (sayings ks) = omega (arith, front_many lines_most ks) in
      rw (le-ltb (length (sayings ks)) lines_most all)

-- and for all, one after the other
told_from : (ks ls : List (List ℕ)) →
    told step_on says (traced ks) ls
    ≡ messages (length (sayings ks)) (known (heard_in (sayings (ks ++ ls)))) (map saying (take (lines_most - length ks) ls))
unfolding told messages
told_from ks [] = rw take-nil
told_from ks (l ∷ ls) =
    rw (traced_on ks l, told_from (ks ++ (l ∷ [])) ls, append_snoc)
    (cases (holds? (ltb (length ks) lines_most))
    (λ t.
    let h = ltb-true (length ks) lines_most t in
    rw (says_less ks l ls h, left_less lines_most ks l h, front_less lines_most ks l h))
    (λ t.
    let h = ltb-false (length ks) lines_most t in
    let later : lines_most ≤ length (ks ++ (l ∷ [])) = simp length-append (omega arith) in
    rw (says_none ks l h, left_none lines_most ks h, left_none lines_most (ks ++ (l ∷ [])) later)))

pub told_traced : (ls : List (List ℕ)) → told step_on says untold ls ≡ messages 0 (known (heard_in (sayings ls))) (sayings ls)
told_traced ls = rw (← traced_none) (told_from [] ls)

-- what is written in all
pub output_told : (ls : List (List ℕ)) → told step_on says untold ls ++ summary (run step_on untold ls) ≡ output ls
unfolding output
output_told ls = rw (told_traced ls, run_traced ls)
