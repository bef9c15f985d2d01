-- A line that was told from where it lies leads on as the whole chunk does.
-- Assumes nothing.
use Rattle.std.proofs.Common.{ℕ, ◌+◌, ◌-◌, ◌*◌, ◌≤◌, ◌<◌, List, [], ◌≡◌, length, drop, sym, ap, ◌∙◌, arith}
use borrow.Author.Tests.{ltb-true}
use lib.ListN.{length-drop}
use lib.Seq.{drop-drop}
use Rattle.line_cutter.specs.Answers.{Onward}
use Rattle.line_cutter.specs.Line.{line_of, behind}
use Rattle.line_cutter.specs.Telling.{worked_to}
use Rattle.line_cutter.proofs.Telling.{worked_ended}
use Rattle.line_teller.specs.declared.Told.{Told}
use Rattle.line_teller.specs.Quick.{Quick}
use Rattle.line_teller.proofs.Room.{room_on}

module _ {S : Type 0} (step : S → List ℕ → S) (says : S → List ℕ → List ℕ) (more : ℕ)
    (s r : S) (chunk : List ℕ) (at : ℕ) (out : List ℕ) (used : ℕ) (o : List ℕ) (t : Told)
    (q : Quick step says more s r chunk at out used o t) where
  pub quick_after : worked_to step says r [] (drop t.at chunk) o t.used ≡ worked_to step says s [] (drop at chunk) out used
  quick_after =
      let d = drop at chunk in
      let e : t.at ≡ at + (length (line_of d) + 1) = omega (arith, q.place) in
      let f : drop t.at chunk ≡ behind d = ap (λ (k : ℕ). drop k chunk) e ∙ sym (drop-drop (length (line_of d) + 1) at chunk) in
      rw (q.state, f) (worked_ended step says [] d out o s used t.used q.ends q.stored)

  quick_within : t.at ≤ length chunk
  quick_within =
      let d = drop at chunk in
      let h : length (line_of d) < length d = ltb-true _ _ q.ends in
      omega (arith, q.place, h, length-drop at chunk)

  pub quick_onward : Onward (length chunk) at 0 t.at
  quick_onward = record { small = omega arith; later = omega (arith, q.place); within = quick_within }

  pub quick_room : 0 < more → t.used + more * (length chunk - t.at) ≤ used + more * (length chunk - at)
  quick_room h = omega (arith, room_on more at t.at (length chunk) h (omega (arith, q.place)) quick_within, q.few, q.place)
