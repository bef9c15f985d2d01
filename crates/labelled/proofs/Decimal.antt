-- Laws of numbers in decimal: digit by digit from the last on, and how many digits there are.
-- Assumes nothing.
use Prim.Native.Nat.{ℕ, zero, suc, ◌+◌, ◌-◌, ◌/◌, ◌%◌, ◌^◌, ◌≤◌, ◌<◌}
use native.Mathlib.Omega.{arith}
use mathlib.Core.List.{List, [], ◌∷◌, ◌++◌, append_assoc}
use mathlib.Core.Path.{◌≡◌, sym, ap, ◌∙◌}
use borrow.Author.Tests.{ltb-false, lt-ltb, le-ltb}
use lib.Dec.{ltb}
use lib.ListN.{length, set, take, drop, length-append}
use lib.Seq.{set_split, drop_at, length-take-le}
use Rattle.octets.proofs.Cases.{cases, holds?}
use Rattle.labelled.specs.Decimal.{digit_of, decimal_by, decimal}

-- more than one digit
pub digits_left : (k n : ℕ) → 9 < n → n < 10 ^ k → 1 < k
digits_left zero n h l = absurd (omega arith)
digits_left (suc zero) n h l = absurd (omega arith)
digits_left (suc (suc k)) n h l = omega arith

pub fewer_digits : (k n : ℕ) → 0 < k → n < 10 ^ k → n / 10 < 10 ^ (k - 1)
fewer_digits zero n h l = absurd (omega arith)
fewer_digits (suc k) n h l = let e : suc k - 1 ≡ k = omega arith in rw e (omega arith)

-- from one digit to the next
drop_stored : (d : List ℕ) (i x : ℕ) → i < length d → drop i (set d i x) ≡ x ∷ drop (suc i) d
drop_stored d i x h = ap (drop i) (set_split d i x h) ∙ drop_at (take i d) (x ∷ drop (suc i) d) i (length-take-le i d (omega arith))

pub digit_more : (d : List ℕ) (k j n : ℕ) → k ≡ suc j → 9 < n → j < length d →
    decimal_by j (n / 10) ++ drop j (set d j (48 + n % 10)) ≡ decimal_by k n ++ drop k d
unfolding decimal_by
digit_more d k j n e h l =
    rw (e, drop_stored d j (48 + n % 10) l)
    (simp (le-ltb n 10 h) (sym (append_assoc (decimal_by j (n / 10)) ((48 + n % 10) ∷ []) (drop (suc j) d))))

pub digit_last : (d : List ℕ) (k j n : ℕ) → k ≡ suc j → n ≤ 9 → j < length d → drop j (set d j (48 + n)) ≡ decimal_by k n ++ drop k d
unfolding decimal_by
digit_last d k j n e h l = rw (e, drop_stored d j (48 + n) l) (simp (lt-ltb n 10 (omega arith)))

-- a number below 10 ^ k has at most k digits
one_more : (n x k : ℕ) → ((j : ℕ) → n / 10 < 10 ^ suc j → x ≤ suc j) → 10 ≤ n → n < 10 ^ suc k → x + 1 ≤ suc k
one_more n x zero f l h = absurd (omega arith)
one_more n x (suc k) f l h = let g : n / 10 < 10 ^ suc k = omega arith in omega (arith, f k g)

digits_few : (m k n : ℕ) → n < 10 ^ suc k → length (decimal_by m n) ≤ suc k
unfolding decimal_by
digits_few zero k n h = omega arith
digits_few (suc m) k n h =
    cases (holds? (ltb n 10)) (λ t. simp t (omega arith))
    (λ t.
    simp t
    (rw (length-append (decimal_by m (n / 10)))
    (one_more n (length (decimal_by m (n / 10))) k (λ j g. digits_few m j (n / 10) g) (ltb-false n 10 t) h)))

pub decimal_few : (k n : ℕ) → n < 10 ^ suc k → length (decimal n) ≤ suc k
decimal_few k n h = digits_few 20 k n h

-- one digit, and two
pub decimal_one : (n : ℕ) → n < 10 → digit_of n ∷ [] ≡ decimal n
unfolding decimal_by
decimal_one n h = simp (lt-ltb n 10 h)

pub decimal_two : (n : ℕ) → 10 ≤ n → n < 100 → digit_of (n / 10) ∷ digit_of (n % 10) ∷ [] ≡ decimal n
unfolding decimal_by
decimal_two n h l = let g : n / 10 < 10 = omega arith in simp (le-ltb n 10 h, lt-ltb (n / 10) 10 g)
