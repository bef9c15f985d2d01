-- What a program writes that answers each line by itself, and nothing at the end: however its input is cut into chunks, the answers to the
-- lines of the whole.
-- Assumes nothing.
use Prim.Native.Nat.{ℕ}
use mathlib.Core.List.{List, [], append-nil}
use mathlib.Core.Path.{◌≡◌, sym, ◌∙◌}
use lib.ListN.{take}
use Rattle.line_cutter.specs.Answers.{stays, tells, output}
use Rattle.line_cutter.specs.Line.{kept_most}
use Rattle.line_cutter.specs.Lines.{joined}
use Rattle.line_cutter.specs.Telling.{told_in_chunks}
use Rattle.line_cutter.proofs.Answers.{printed_told, printed_whole}
use Rattle.line_teller.specs.Written.{written}

pub answers_written : (answer : List ℕ → List ℕ) → ((l : List ℕ) → answer (take kept_most l) ≡ answer l) → (s : Unit {0}) (cs : List (List ℕ)) →
    written stays (tells answer) (λ _. []) s cs ≡ output answer (joined cs)
unfolding written
answers_written answer sees s cs =
    append-nil (told_in_chunks stays (tells answer) s [] cs) ∙ sym (printed_told answer s [] cs) ∙ printed_whole answer sees cs
