-- `decimal::decimal_at` meets its contract. The digits still to come, behind what those so far make, make what all make, or all make 2^64
-- or more; and where the loop ends none are left.
-- Assumes nothing.
use Rattle.std.proofs.Common.{◌≡◌, ℕ, ◌+◌, ◌≤◌, true, Option, Some, None, List, [], length, get_or, drop, refl, sym, ap, ◌∙◌, arith, length-drop, Bor}
use Rattle.std.specs.Slice.{IsGetRangeResult}
use Rattle.std.specs.Option.{unwrap_or}
use lib.ListN.{drop_of_length-le}
use lib.Seq.{take_all}
use Rattle.octets.proofs.Cases.{cases}
use Rattle.decimal.specs.Decimal.{is_numeral, numerals}
use Rattle.decimal.proofs.Numerals.{numeral_tells, numerals_digit, numerals_other, numerals_end}
use Rattle.decimal.proofs.Numerals.{counted_none, counted_more, in_digits, in_none}
use Rattle.decimal.proofs.decimal_at.Goals as goal
use Rattle.decimal.proofs.decimal_at.Goals.{else-loop-b-test, then-loop-b-test+then-not-is_ascii_digit}

-- what stands from a place on, nothing past the end
behind : (s : List ℕ) (at : ℕ) (o : Option (Bor (List ℕ))) (d r : Bor (List ℕ)) → IsGetRangeResult s at (length s) o → r ≡ unwrap_or o d →
    d.now ≡ [] → r.now ≡ drop at s
behind s at (Some x) d r h e n = rw e (h.0.2 ∙ take_all _ (drop at s) (omega (arith, length-drop at s)))
behind s at None d r h e n =
    let past : length s ≤ at = cases h.0 (λ p. omega (arith, p)) (λ p. omega (arith, p)) in
    rw (e, n, drop_of_length-le s past)

-- where none are left the place at hand is behind the last
come : (s items : List ℕ) (at end i : ℕ) → items ≡ drop at s → end ≡ at + i → i + length (numerals (drop i items)) ≡ length (numerals items) →
    numerals (drop i items) ≡ [] → end ≡ at + length (numerals (drop at s))
come s items at end i e f g n = omega (arith, ap length n, f, g, ap (λ (l : List ℕ). length (numerals l)) e)

pub loop-b-init : goal.loop-b-init
loop-b-init c = (omega arith, omega arith, counted_none _)

pub loop-b-preserved : goal.loop-b-preserved
loop-b-preserved c =
    let s = c.unwrap_or-b-items.result.now in
    let b = get_or s c.loop-b.b-index 0 in
    -- the byte at hand is a digit
    let digit : is_numeral b ≡ true = sym (numeral_tells b _ c.is_ascii_digit.ensures.value) ∙ c.if-not-is_ascii_digit.false in
    let more = numerals_digit s c.loop-b.b-index (omega arith) digit in (
      omega arith,
      omega (arith, ap length more, c.loop-b.invariant.1),
      rw c.appended-value.ensures (counted_more _ _ _ _ (rw more at c.loop-b.invariant.2)),
    )

pub returns-then-end-at : goal.returns-then-end-at
returns-then-end-at c =
    let s = c.unwrap_or-b-items.result.now in
    let i = c.loop-b.b-index in
    let none_left : numerals (drop i s) ≡ [] =
    elim c.loop-b-test.branch [
      | then-loop-b-test+then-not-is_ascii_digit w ↦ numerals_other s i w.loop-b-test.true (sym (numeral_tells (get_or s i 0) _ w.is_ascii_digit.ensures.value) ∙ w.if-not-is_ascii_digit.true)
      | else-loop-b-test w ↦ numerals_end s i w.loop-b-test.false
    ] in
    in_none _ _ _ (come _ _ _ _ i (behind _ _ _ _ _ c.get.ensures.lookup c.unwrap_or-b-items.ensures refl) c.loop-b.invariant.0 c.loop-b.invariant.1 none_left)
    (omega arith)

pub returns : goal.returns
returns c =
    let s = c.unwrap_or-b-items.result.now in
    let i = c.loop-b.b-index in
    let none_left : numerals (drop i s) ≡ [] =
    elim c.loop-b-test.branch [
      | then-loop-b-test+then-not-is_ascii_digit w ↦ numerals_other s i w.loop-b-test.true (sym (numeral_tells (get_or s i 0) _ w.is_ascii_digit.ensures.value) ∙ w.if-not-is_ascii_digit.true)
      | else-loop-b-test w ↦ numerals_end s i w.loop-b-test.false
    ] in
    let items : s ≡ drop c.args.at c.args.s.now = behind _ _ _ _ _ c.get.ensures.lookup c.unwrap_or-b-items.ensures refl in
    let all = rw none_left at c.loop-b.invariant.2 in
    in_digits _ _ _ (come _ _ _ _ i items c.loop-b.invariant.0 c.loop-b.invariant.1 none_left) _ (rw items at all) (omega arith)
