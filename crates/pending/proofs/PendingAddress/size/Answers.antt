-- `pending::PendingAddress::size` meets its contract: each count is at most seven, or the answer 0.
-- Assumes nothing.
use Prim.Native.Nat.{◌≤◌}
use mathlib.Core.Path.{sym, ◌∙◌}
use native.Mathlib.Omega.{arith}
use Rattle.pending.proofs.Pending.{fitting}
use Rattle.pending.proofs.PendingAddress.size.Goals as goal

pub returns-then-too_large : goal.returns-then-too_large
returns-then-too_large c =
    record {
      value = simp (sym c.too_large.ensures ∙ c.if-too_large.true);
      upper_bound = omega arith;
    }

pub returns : goal.returns
returns c =
    -- the counts behind the test
    let few : (c.args.self.short_address_count ≤ 7) × (c.args.self.extended_address_count ≤ 7) = fitting _ (sym c.too_large.ensures ∙ c.if-too_large.false) in
    record {
      value = simp (sym c.too_large.ensures ∙ c.if-too_large.false);
      upper_bound = omega (arith, few);
    }

pub overflow_mul-result : goal.overflow_mul-result
overflow_mul-result c =
    let few : (c.args.self.short_address_count ≤ 7) × (c.args.self.extended_address_count ≤ 7) = fitting _ (sym c.too_large.ensures ∙ c.if-too_large.false) in
    omega (arith, few)

pub overflow_mul-result-2 : goal.overflow_mul-result-2
overflow_mul-result-2 c =
    let few : (c.args.self.short_address_count ≤ 7) × (c.args.self.extended_address_count ≤ 7) = fitting _ (sym c.too_large.ensures ∙ c.if-too_large.false) in
    omega (arith, few)

pub overflow_add-result : goal.overflow_add-result
overflow_add-result c =
    let few : (c.args.self.short_address_count ≤ 7) × (c.args.self.extended_address_count ≤ 7) = fitting _ (sym c.too_large.ensures ∙ c.if-too_large.false) in
    omega (arith, few)

pub overflow_add-result-2 : goal.overflow_add-result-2
overflow_add-result-2 c =
    let few : (c.args.self.short_address_count ≤ 7) × (c.args.self.extended_address_count ≤ 7) = fitting _ (sym c.too_large.ensures ∙ c.if-too_large.false) in
    omega (arith, few)
