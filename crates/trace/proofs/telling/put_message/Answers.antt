-- `trace::telling::put_message` meets its contract: three stores, or none where a line is not answered.
-- Assumes nothing.
use Prim.Native.Nat.{ℕ}
use mathlib.Core.List.{[], ◌∷◌, ◌++◌}
use mathlib.Core.Path.{◌≡◌, refl, sym, ap, ◌∙◌}
use Rattle.std.specs.Prelude.{Option}
use Rattle.labelled.specs.Decimal.{column}
use Rattle.labelled.proofs.Putting.{none, join, same}
use Rattle.trace.specs.declared.counting.Complaint.{Complaint}
use Rattle.trace.specs.declared.counting.Complaint.TheVariants.{Unread, Crowded}
use Rattle.trace.specs.Complaint.{complaint_number, answer_number}
use Rattle.trace.specs.Output.{message}
use Rattle.trace.proofs.telling.put_message.Goals as goal

told : (line : ℕ) (k : Complaint) →
    108 ∷ 105 ∷ 110 ∷ 101 ∷ (column line ++ (column (complaint_number k) ++ (10 ∷ []))) ≡ message line (complaint_number k)
unfolding message
told line Unread = refl
told line Crowded = refl

pub returns-in_default : goal.returns-in_default
unfolding message
returns-in_default c = rw c.in_default.is (none _ _)

pub returns : goal.returns
returns c =
    let line = c.args.line in
    same
    (ap (λ (n : ℕ). 108 ∷ 105 ∷ 110 ∷ 101 ∷ (column line ++ (column n ++ (10 ∷ [])))) c.number.ensures
    ∙ told line c.in-Some.complaint
    ∙ ap (λ (o : Option Complaint). message line (answer_number o)) (sym c.in-Some.is))
    (join c.put_count-next.ensures (join c.put_column-next.ensures c.put_byte.ensures))
