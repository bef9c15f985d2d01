-- `lines::one_line::put_columns` meets its contract: three bytes by hand, and then the length.
-- Assumes nothing.
use Prim.Native.Nat.{◌+◌}
use native.Mathlib.Omega.{arith}
use mathlib.Core.List.{[], ◌∷◌, ◌++◌}
use mathlib.Core.Path.{◌≡◌, refl, ◌∙◌}
use Rattle.std.specs.Prelude.{Ok, Err}
use Rattle.std.specs.Result.{result_unwrap_or}
use lib.ListN.{length-set}
use Rattle.octets.specs.Outcome.{Outcome, length_of}
use Rattle.labelled.specs.Decimal.{decimal}
use Rattle.lines.specs.Answer.{columns}
use Rattle.octets.proofs.Stored.{three, join, same}
use Rattle.lines.proofs.one_line.put_columns.Goals as goal

length_told : (o : Outcome) → result_unwrap_or o 0 ≡ length_of o
length_told (Ok n) = refl
length_told (Err r) = refl

pub put_length-requires : goal.put_length-requires
put_length-requires c =
    record {
      k_bound = omega (arith, c.unwrap_or.ensures, length_told c.args.o, c.requires.length_bound);
      at_in_bounds = simp length-set (omega arith);
    }

pub shape_of-out : goal.shape_of-out
shape_of-out c = c.put_length.auto.out ∙ simp length-set

pub returns : goal.returns
unfolding columns
returns c =
    let length = c.unwrap_or.ensures ∙ length_told c.args.o in
    record {
      stored = same (λ i. 9 ∷ (48 + c.number_of.ensures i) ∷ 9 ∷ (decimal (length i) ++ (10 ∷ [])))
          (join (three _ _ _ _ _) c.put_length.ensures.stored);
      upper_bound = omega arith;
    }

pub bounds-out-at-2 : goal.bounds-out-at-2
bounds-out-at-2 c = simp length-set (omega arith)

pub bounds-out-at-3 : goal.bounds-out-at-3
bounds-out-at-3 c = simp length-set (omega arith)
