-- One line by what it says: the step that it is, and what is written for it.
-- Assumes nothing.
use Prim.Native.Nat.{ℕ, ◌+◌, ◌≤◌}
use native.Mathlib.Omega.{arith}
use mathlib.Core.List.{List}
use mathlib.Core.Path.{◌≡◌, refl}
use borrow.Author.Tests.{ltb-true}
use lib.Dec.{ltb}
use lib.ListN.{length}
use Rattle.octets.proofs.Cases.{cases, holds?}
use Rattle.trace_line.specs.declared.Saying.{Saying}
use Rattle.trace_line.specs.Saying.{saying}
use Rattle.trace.specs.Plain.{Trace, lines_most, is_unread}
use Rattle.trace.specs.Output.{message}
use Rattle.trace.specs.Steps.{crowds, counted_on, passed, step_on, answer_to, says}
use Rattle.trace.specs.State.{step_said, answer_said}
use Rattle.trace.specs.Next.{says_said}
use Rattle.trace.proofs.Lengths.{message_most}

silent : (n : ℕ) → length (message n 0) ≤ 16
unfolding message
silent n = omega arith

module _ (t : Trace) where
  pub step_said_lem : (l : List ℕ) → step_on t l ≡ step_said t (saying l)
  unfolding step_on
  step_said_lem l = refl

  pub says_said_lem : (l : List ℕ) → says t l ≡ says_said t (saying l)
  unfolding says message
  says_said_lem l = cases (holds? (ltb t.lines lines_most)) (λ e. simp e) (λ e. simp e)

  module _ (s : Saying) where
    -- the number of the line is counted before it is written
    pub message_said : message (step_said t s).lines (answer_said t s) ≡ says_said t s
    unfolding message counted_on passed
    message_said = cases (holds? (ltb t.lines lines_most)) (λ e. simp e) (λ e. simp e)

    answer_small : answer_to t s ≤ 11
    answer_small =
        cases (holds? (is_unread s)) (λ e. simp e (omega arith))
        (λ e. cases (holds? (crowds t.senders s)) (λ f. simp (e, f) (omega arith)) (λ f. simp (e, f) (omega arith)))

    pub said_most : length (says_said t s) ≤ 16
    said_most =
        cases (holds? (ltb t.lines lines_most))
        (λ e.
        let h = ltb-true t.lines lines_most e in
        simp e (message_most (t.lines + 1) (answer_to t s) (omega (arith, h)) (omega (arith, answer_small))))
        (λ e. simp e (silent (t.lines + 1)))
