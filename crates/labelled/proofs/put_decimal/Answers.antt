-- `labelled::put_decimal` meets its contract. The invariant: the digits of what is left, before those that are stored, are all digits.
-- Assumes nothing.
use Prim.Native.Nat.{◌-◌, ◌+◌, ◌≤◌, ◌<◌}
use native.Mathlib.Omega.{arith}
use mathlib.Core.List.{append-nil}
use mathlib.Core.Path.{◌≡◌, refl, ◌∙◌}
use lib.ListN.{length, set, drop, length-set, length-drop}
use lib.Seq.{take_all}
use Rattle.labelled.specs.Decimal.{decimal}
use Rattle.labelled.proofs.Decimal.{digits_left, digit_more, digit_last, fewer_digits}
use Rattle.labelled.proofs.Putting.{copied, same}
use Rattle.labelled.proofs.put_decimal.Goals as goal

pub loop-rest-init : goal.loop-rest-init
loop-rest-init c = (omega arith, omega arith, omega arith, refl, append-nil (decimal c.args.n))

pub loop-rest-preserved : goal.loop-rest-preserved
loop-rest-preserved c =
    let t : 9 < c.loop-rest.rest = omega (arith, c.loop-rest-test.true) in
    let k = digits_left c.loop-rest.from c.loop-rest.rest t c.loop-rest.invariant.2 in (
      omega (arith, k),
      omega (arith, c.loop-rest.invariant.1),
      fewer_digits c.loop-rest.from c.loop-rest.rest c.loop-rest.invariant.0 c.loop-rest.invariant.2,
      simp length-set c.loop-rest.invariant.3,
      digit_more c.loop-rest.digits c.loop-rest.from (c.loop-rest.from - 1) c.loop-rest.rest (omega (arith, c.loop-rest.invariant.0)) t
          (omega (arith, c.loop-rest.invariant.0, c.loop-rest.invariant.1, c.loop-rest.invariant.3))
          ∙ c.loop-rest.invariant.4,
    )

pub returns : goal.returns
returns c =
    let all : drop (c.loop-rest.from - 1) (set c.loop-rest.digits (c.loop-rest.from - 1) (48 + c.loop-rest.rest)) ≡ decimal c.args.n =
    digit_last c.loop-rest.digits c.loop-rest.from (c.loop-rest.from - 1) c.loop-rest.rest (omega (arith, c.loop-rest.invariant.0)) (omega (arith, c.loop-rest-test.false))
    (omega (arith, c.loop-rest.invariant.0, c.loop-rest.invariant.1, c.loop-rest.invariant.3))
    ∙ c.loop-rest.invariant.4 in
    let a = c.args in
    let d = set c.loop-rest.digits (c.loop-rest.from - 1) (48 + c.loop-rest.rest) in
    let h : length (drop (c.loop-rest.from - 1) d) ≤ 20 - (c.loop-rest.from - 1) =
    omega (arith, length-drop (c.loop-rest.from - 1) d, length-set c.loop-rest.digits (c.loop-rest.from - 1) (48 + c.loop-rest.rest), c.loop-rest.invariant.3) in
    same (take_all (20 - (c.loop-rest.from - 1)) (drop (c.loop-rest.from - 1) d) h ∙ all) (copied a.out.now a.at _ (c.copy.ensures.value, c.copy.ensures.out_after))

pub slice_bounds-copy-end : goal.slice_bounds-copy-end
slice_bounds-copy-end c =
    -- the last digit is stored, and all of them stand from there on
    let long : 20 ≤ length (set c.loop-rest.digits (c.loop-rest.from - 1) (48 + c.loop-rest.rest)) = omega (arith, length-set c.loop-rest.digits (c.loop-rest.from - 1) (48 + c.loop-rest.rest), c.loop-rest.invariant.3) in
    long
