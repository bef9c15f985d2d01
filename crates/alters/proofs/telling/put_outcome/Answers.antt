-- `alters::telling::put_outcome` meets its contract: four stores, one after the other.
-- Assumes nothing.
use mathlib.Core.List.{◌∷◌, ◌++◌}
use mathlib.Core.Path.{◌≡◌, refl, ◌∙◌}
use Rattle.std.specs.Prelude.{Ok, Err}
use Rattle.std.specs.Result.{result_unwrap_or}
use Rattle.octets.specs.Outcome.{Outcome, length_of}
use Rattle.labelled.specs.Decimal.{decimal}
use Rattle.labelled.proofs.Putting.{join, same}
use Rattle.alters.specs.Answer.{outcome_told}
use Rattle.alters.proofs.telling.put_outcome.Goals as goal

unwrapped : (o : Outcome) → result_unwrap_or o 0 ≡ length_of o
unwrapped (Ok n) = refl
unwrapped (Err r) = refl

pub returns : goal.returns
unfolding outcome_told
returns c =
    let length = c.unwrap_or.ensures ∙ unwrapped c.args.o in
    same (λ i. 9 ∷ (decimal (c.number_of.ensures i) ++ (9 ∷ decimal (length i))))
    (join c.put_byte-next.ensures (join c.put_decimal-next.ensures (join c.put_byte-next-2.ensures c.put_decimal.ensures)))
