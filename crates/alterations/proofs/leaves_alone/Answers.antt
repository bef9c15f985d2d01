-- `alterations::leaves_alone` meets its contract: by the answer and the count.
-- Assumes nothing.
use Prim.Native.Nat.{ℕ}
use mathlib.Core.Bool.{true, false}
use mathlib.Core.Path.{sym, ap, ◌∙◌}
use lib.Dec.{eqb}
use lib.ListN.{length}
use Rattle.std.proofs.lemmas.List.{length-map}
use Rattle.beacon.specs.Beacon.{refuses}
use Rattle.alterations.specs.Bytes.{pair}
use Rattle.alterations.specs.declared.Alterations.{Alterations}
use Rattle.alterations.specs.Altered.{alterations}
use Rattle.alterations.proofs.Told.{refusing}
use Rattle.alterations.proofs.leaves_alone.Goals as goal

pub returns-then-is_ok : goal.returns-then-is_ok
unfolding alterations
returns-then-is_ok c =
    let told = ap (λ (a : Alterations). refuses a.outcome) (sym c.altered_bits-list.ensures) in
    let few = sym (length-map c.as_slice.result.now pair) ∙ ap length c.as_slice.ensures.value ∙ ap (λ (a : Alterations). length a.bytes) c.altered_bits-list.ensures in
    simp (told ∙ refusing _ true (sym c.is_ok.ensures.value ∙ c.if-is_ok.true)) (c.is_empty.ensures ∙ ap (λ (n : ℕ). eqb n 0) few)

pub returns-else-is_ok : goal.returns-else-is_ok
unfolding alterations
returns-else-is_ok c =
    let told = ap (λ (a : Alterations). refuses a.outcome) (sym c.altered_bits-list.ensures) in
    c.if-is_ok.false ∙ simp (told ∙ refusing _ false (sym c.is_ok.ensures.value ∙ c.if-is_ok.false))
