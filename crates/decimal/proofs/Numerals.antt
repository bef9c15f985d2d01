-- Laws of decimals: the digits at the front of a text, one at a time, what they make, and when they are a decimal.
-- Assumes nothing.
use Prim.Native.Nat.{ℕ, ◌+◌, ◌-◌, ◌*◌, ◌^◌, ◌≤◌, ◌<◌}
use native.Mathlib.Numerals.{add-one}
use native.Mathlib.Omega.{arith}
use mathlib.Core.Bool.{Bool, true, false, ◌&&◌, and-false, false≢true}
use mathlib.Core.List.{List, [], ◌∷◌, ◌++◌}
use mathlib.Core.Path.{◌≡◌, refl, sym, ap, ◌∙◌}
use Rattle.std.specs.Prelude.{Option, Some, None}
use Rattle.std.specs.Char.{is_ascii_digit}
use borrow.Author.Tests.{leb-true, leb-false, ltb-true, ltb-false, lt-ltb, le-ltb, ne_eqb}
use lib.Dec.{ltb, leb, eqb}
use lib.ListN.{length, get_or, take, drop, drop_of_length-le}
use lib.Seq.{drop-cons}
use Rattle.octets.proofs.Cases.{cases, holds?, both}
use Rattle.decimal.specs.Decimal.{is_numeral, numeric, value_from, value_of, is_decimal, appended, numerals, decimal_in}

-- std's test for a digit is the definition's
pub numeral_tells : (b : ℕ) (r : Bool) → r ≡ is_ascii_digit b → r ≡ is_numeral b
numeral_tells b r e =
    e
    ∙ cases (holds? (leb b 57))
    (λ t. let l : ltb b 58 ≡ true = lt-ltb b 58 (omega (arith, leb-true b 57 t)) in simp (t, l))
    (λ t. let l : ltb b 58 ≡ false = le-ltb b 58 (omega (arith, leb-false b 57 t)) in simp (t, l, and-false))

-- a byte that is no digit differs from each that is one
pub numeral_differs : (a b : ℕ) → is_numeral a ≡ false → is_numeral b ≡ true → eqb b a ≡ false
numeral_differs a b e h = ne_eqb b a (λ same. false≢true (sym e ∙ ap is_numeral (sym same) ∙ h))

-- digits are a digit and digits
pub numeric_parts : (b : ℕ) (s : List ℕ) → numeric (b ∷ s) ≡ true → (is_numeral b ≡ true) × (numeric s ≡ true)
unfolding numeric
numeric_parts b s h = both (is_numeral b) (numeric s) h

-- the digits at the front of a text are a part of it, and nothing else
pub numerals_front : (s : List ℕ) → take (length (numerals s)) s ≡ numerals s
unfolding numerals
numerals_front [] = refl
numerals_front (b ∷ s) = cases (holds? (is_numeral b)) (λ e. simp (e, numerals_front s)) (λ e. simp e)

pub numerals_length : (s : List ℕ) → length (numerals s) ≤ length s
unfolding numerals
numerals_length [] = omega arith
numerals_length (b ∷ s) =
    cases (holds? (is_numeral b)) (λ e. simp e (omega (arith, numerals_length s))) (λ e. simp e (omega arith))

pub numerals_numeric : (s : List ℕ) → numeric (numerals s) ≡ true
unfolding numerals numeric
numerals_numeric [] = refl
numerals_numeric (b ∷ s) = cases (holds? (is_numeral b)) (λ e. simp (e, numerals_numeric s)) (λ e. simp e)

-- they are all the digits that stand before another byte
pub numerals_all : (s t : List ℕ) (b : ℕ) → numeric s ≡ true → is_numeral b ≡ false → numerals (s ++ (b ∷ t)) ≡ s
unfolding numerals
numerals_all [] t b h e = simp e
numerals_all (c ∷ s) t b h e = let p = numeric_parts c s h in simp (p.0, numerals_all s t b p.1 e)

-- a decimal is nothing but digits
pub decimal_numeric : (s : List ℕ) → is_decimal s ≡ true → numeric s ≡ true
unfolding is_decimal
decimal_numeric s h =
    (both (ltb 0 (length s)) (numeric s) (both (ltb 0 (length s) && numeric s) (ltb (value_of s) (2 ^ 64)) h).0).1

-- the digits from a place on, one at a time
pub numerals_digit : (s : List ℕ) (i : ℕ) → i < length s → is_numeral (get_or s i 0) ≡ true →
    numerals (drop i s) ≡ get_or s i 0 ∷ numerals (drop (i + 1) s)
unfolding numerals
numerals_digit s i h e = rw (add-one i, drop-cons s i 0 h) (simp e)

pub numerals_other : (s : List ℕ) (i : ℕ) → i < length s → is_numeral (get_or s i 0) ≡ false → numerals (drop i s) ≡ []
unfolding numerals
numerals_other s i h e = rw (drop-cons s i 0 h) (simp e)

pub numerals_end : (s : List ℕ) (i : ℕ) → length s ≤ i → numerals (drop i s) ≡ []
unfolding numerals
numerals_end s i h = rw (drop_of_length-le s h)

-- more digits make no smaller number
grows : (s : List ℕ) (n : ℕ) → n ≤ value_from n s
unfolding value_from
grows [] n = omega arith
grows (b ∷ s) n = omega (arith, grows s (10 * n + (b - 48)))

-- with digits s still to come, all digits make n: what those so far make is below 2^64 and known, or n is not below it
unfoldable pub Counted : Option ℕ → List ℕ → ℕ → Type 0
Counted (Some value) s n = (value < 2 ^ 64) × (value_from value s ≡ n)
Counted None s n = 2 ^ 64 ≤ n

pub counted_none : (s : List ℕ) → Counted (Some 0) s (value_of s)
unfolding Counted
counted_none s = (omega arith, refl)

pub counted_more : (v : Option ℕ) (b n : ℕ) (s : List ℕ) → Counted v (b ∷ s) n → Counted (appended v (b - 48)) s n
unfolding Counted value_from
counted_more None b n s h = h
counted_more (Some value) b n s h =
    cases (holds? (ltb (10 * value + (b - 48)) (2 ^ 64)))
    (λ e. simp e (ltb-true (10 * value + (b - 48)) (2 ^ 64) e, h.1))
    (λ e. simp e (omega (arith, grows s (10 * value + (b - 48)), h.1, ltb-false (10 * value + (b - 48)) (2 ^ 64) e)))

-- what is read of s where its digits have all come: what they make, or nothing, where there are none
module _ (s : List ℕ) (at i : ℕ) (e : i ≡ at + length (numerals s)) where
  pub in_digits : (v : Option ℕ) → Counted v [] (value_of (numerals s)) → at < i →
      record { value = v; end = i } ≡ decimal_in s at
  unfolding decimal_in is_decimal Counted value_from
  in_digits None h k = rw e (simp (le-ltb (value_of (numerals s)) (2 ^ 64) h, and-false))
  in_digits (Some value) h k =
      let l : 0 < length (numerals s) = omega arith in
      let m : value_of (numerals s) < 2 ^ 64 = omega (arith, h.0, h.1) in
      rw (e, h.1) (simp (lt-ltb _ _ l, numerals_numeric s, lt-ltb _ _ m))

  pub in_none : i ≤ at → record { value = None; end = i } ≡ decimal_in s at
  unfolding decimal_in is_decimal
  in_none h = let l : length (numerals s) ≡ 0 = omega arith in rw e (simp l)
