-- Laws of arrays of seven.
-- Assumes nothing.
use Prim.Native.Nat.{ℕ, zero, suc, ◌+◌, ◌-◌, ◌*◌, ◌≤◌, ◌<◌, min}
use native.Mathlib.Nat.{mul-zero, mul-suc}
use native.Mathlib.Numerals.{add-one}
use native.Mathlib.Omega.{arith}
use mathlib.Core.Bool.{Bool, false, cond, ◌||◌}
use mathlib.Core.List.{List, [], ◌∷◌, ◌++◌, map, flat_map}
use mathlib.Core.Path.{◌≡◌, refl, sym, ap, ◌∙◌}
use borrow.Author.Tests.{lt-ltb, ltb-true}
use lib.Dec.{ltb}
use lib.ListN.{length, get_or, set, replicate, take, drop, drop_of_length-le, length-append, length-take}
use lib.Seq.{length-take-le, drop-cons, get_or-take}
use Rattle.std.proofs.lemmas.List.{take_min}
use Rattle.std.specs.List.{list_any}
use Rattle.octets.specs.Buffer.{laid}
use Rattle.octets.proofs.Buffer.{laid_none, stored_on}
use Rattle.octets.proofs.Cases.{cases, holds?, neither}
use Rattle.seven_places.specs.Seven.{seven, emptied, some}

module _ {A : Type 0} where
  pub seven_none : (entry : ℕ → A) (empty : A) → seven entry empty 0 ≡ replicate 7 empty
  unfolding seven
  seven_none entry empty = refl

  -- one more entry
  pub seven_more : (entry : ℕ → A) (empty : A) (k : ℕ) → k < 7 → set (seven entry empty k) k (entry k) ≡ seven entry empty (k + 1)
  unfolding seven
  seven_more entry empty zero h = refl
  seven_more entry empty (suc zero) h = refl
  seven_more entry empty (suc (suc zero)) h = refl
  seven_more entry empty (suc (suc (suc zero))) h = refl
  seven_more entry empty (suc (suc (suc (suc zero)))) h = refl
  seven_more entry empty (suc (suc (suc (suc (suc zero))))) h = refl
  seven_more entry empty (suc (suc (suc (suc (suc (suc zero)))))) h = refl
  seven_more entry empty (suc (suc (suc (suc (suc (suc (suc k))))))) h = absurd (omega arith)

  pub seven_length : (entry : ℕ → A) (empty : A) (n : ℕ) → length (seven entry empty n) ≡ 7
  unfolding seven
  seven_length entry empty n = refl

  -- equal where the entries in use are
  picked : (f g : ℕ → A) (empty : A) (n : ℕ) → ((k : ℕ) → k < n → f k ≡ g k) → (k : ℕ) →
      cond (ltb k n) (f k) empty ≡ cond (ltb k n) (g k) empty
  picked f g empty n h k = cases (holds? (ltb k n)) (λ e. simp (e, h k (ltb-true k n e))) (λ e. simp e)

  pub seven_same : (f g : ℕ → A) (empty : A) (n : ℕ) → ((k : ℕ) → k < n → f k ≡ g k) → seven f empty n ≡ seven g empty n
  unfolding seven
  seven_same f g empty n h =
      let p = picked f g empty n h in
      λ i. p 0 i ∷ p 1 i ∷ p 2 i ∷ p 3 i ∷ p 4 i ∷ p 5 i ∷ p 6 i ∷ []

  -- an entry of an array of seven
  pub seven_entry : (entry : ℕ → A) (empty : A) (n k : ℕ) → k < 7 → get_or (seven entry empty n) k empty ≡ cond (ltb k n) (entry k) empty
  unfolding seven
  seven_entry entry empty n zero h = refl
  seven_entry entry empty n (suc zero) h = refl
  seven_entry entry empty n (suc (suc zero)) h = refl
  seven_entry entry empty n (suc (suc (suc zero))) h = refl
  seven_entry entry empty n (suc (suc (suc (suc zero)))) h = refl
  seven_entry entry empty n (suc (suc (suc (suc (suc zero))))) h = refl
  seven_entry entry empty n (suc (suc (suc (suc (suc (suc zero)))))) h = refl
  seven_entry entry empty n (suc (suc (suc (suc (suc (suc (suc k))))))) h = absurd (omega arith)

  -- unused places are empty already
  pub seven_emptied : (entry : ℕ → A) (empty : A) (n : ℕ) → n ≤ 7 → emptied (seven entry empty n) empty n ≡ seven entry empty n
  seven_emptied entry empty n h =
      seven_same (λ (k : ℕ). get_or (seven entry empty n) k empty) entry empty n
      (λ k l. seven_entry entry empty n k (omega arith) ∙ rw (lt-ltb k n l))

  -- what holds of the empty entry and of those in use holds of all seven
  pub seven_all : (P : A → Type 0) (entry : ℕ → A) (empty : A) (n : ℕ) → P empty → ((k : ℕ) → k < n → P (entry k)) → (k : ℕ) → k < 7 →
      P (get_or (seven entry empty n) k empty)
  seven_all P entry empty n none some k h =
      rw (seven_entry entry empty n k h)
      (cases (holds? (ltb k n)) (λ e. rw e (some k (ltb-true k n e))) (λ e. rw e none))

  -- m entries from entry i on
  abbrev pub span : (ℕ → A) → ℕ → ℕ → List A
  span entry i zero = []
  span entry i (suc m) = entry i ∷ span entry (i + 1) m

  -- the entries in use of an array of seven
  pub in_use : (entry : ℕ → A) (empty : A) (n : ℕ) → n ≤ 7 → take n (seven entry empty n) ≡ span entry 0 n
  unfolding seven
  in_use entry empty zero h = refl
  in_use entry empty (suc zero) h = refl
  in_use entry empty (suc (suc zero)) h = refl
  in_use entry empty (suc (suc (suc zero))) h = refl
  in_use entry empty (suc (suc (suc (suc zero)))) h = refl
  in_use entry empty (suc (suc (suc (suc (suc zero))))) h = refl
  in_use entry empty (suc (suc (suc (suc (suc (suc zero)))))) h = refl
  in_use entry empty (suc (suc (suc (suc (suc (suc (suc zero))))))) h = refl
  in_use entry empty (suc (suc (suc (suc (suc (suc (suc (suc n)))))))) h = absurd (omega arith)

  -- these alone changed
  pub in_use_changed : (change : A → A) (entry : ℕ → A) (empty : A) (n : ℕ) → n ≤ 7 →
      map change (take n (seven entry empty n)) ++ drop n (seven entry empty n) ≡ seven (λ (k : ℕ). change (entry k)) empty n
  unfolding seven
  in_use_changed change entry empty zero h = refl
  in_use_changed change entry empty (suc zero) h = refl
  in_use_changed change entry empty (suc (suc zero)) h = refl
  in_use_changed change entry empty (suc (suc (suc zero))) h = refl
  in_use_changed change entry empty (suc (suc (suc (suc zero)))) h = refl
  in_use_changed change entry empty (suc (suc (suc (suc (suc zero))))) h = refl
  in_use_changed change entry empty (suc (suc (suc (suc (suc (suc zero)))))) h = refl
  in_use_changed change entry empty (suc (suc (suc (suc (suc (suc (suc zero))))))) h = refl
  in_use_changed change entry empty (suc (suc (suc (suc (suc (suc (suc (suc n)))))))) h = absurd (omega arith)

  -- and of an array whose unused places were made empty
  span_list : (l : List A) (empty : A) (i m : ℕ) → i + m ≤ length l → span (λ (k : ℕ). get_or l k empty) i m ≡ take m (drop i l)
  span_list l empty i zero h = refl
  span_list l empty i (suc m) h = rw (span_list l empty (i + 1) m (omega arith), add-one i, drop-cons l i empty (omega arith))

  pub emptied_in_use : (l : List A) (empty : A) (n : ℕ) → n ≤ 7 → n ≤ length l → take n (emptied l empty n) ≡ take n l
  emptied_in_use l empty n few h = in_use (λ (k : ℕ). get_or l k empty) empty n few ∙ span_list l empty 0 n (omega arith)

  -- what is left of the first n entries from entry i on: entry i and what is left behind it, or nothing
  pub rest_next : (l : List A) (n i : ℕ) (d : A) → n ≤ length l → i < n → drop i (take n l) ≡ get_or l i d ∷ drop (i + 1) (take n l)
  rest_next l n i d k h =
      let long : i < length (take n l) = rw (length-take-le n l k) h in
      rw (drop-cons (take n l) i d long, get_or-take n l i d h, add-one i)

  pub rest_none : (l : List A) (n i : ℕ) → n ≤ i → drop i (take n l) ≡ []
  rest_none l n i h = drop_of_length-le (take n l) {i = i} (rw length-take (omega arith))

  -- a test of some entry, in the library's word
  pub some_any : (test : A → Bool) (l : List A) → some test l ≡ list_any test l
  unfolding some
  some_any test [] = refl
  some_any test (x ∷ l) = ap (λ (b : Bool). test x || b) (some_any test l)

  -- where it holds of none, it holds of no entry
  fails_each : (test : A → Bool) (l : List A) (i : ℕ) (d : A) → some test l ≡ false → i < length l → test (get_or l i d) ≡ false
  unfolding some
  fails_each test [] i d e h = absurd (omega arith)
  fails_each test (x ∷ l) zero d e h = (neither (test x) (some test l) e).0
  fails_each test (x ∷ l) (suc i) d e h = fails_each test l i d (neither (test x) (some test l) e).1 (omega arith)

  pub some_fails : (test : A → Bool) (l : List A) (n i : ℕ) (d : A) → n ≤ length l → i < n → some test (take n l) ≡ false →
      test (get_or l i d) ≡ false
  some_fails test l n i d k h e = rw (get_or-take n l i d h) at (fails_each test (take n l) i d e (rw (length-take-le n l k) h))

  -- a test that fails of each entry fails of all
  pub span_fails : (test : A → Bool) (entry : ℕ → A) → ((k : ℕ) → test (entry k) ≡ false) → (i m : ℕ) → some test (span entry i m) ≡ false
  unfolding some
  span_fails test entry f i zero = refl
  span_fails test entry f i (suc m) = rw (f i, span_fails test entry f (i + 1) m)

  -- entries side by side, each of w bytes
  module _ (bytes : A → List ℕ) (w : ℕ) where
    -- the place behind them, or behind what has room of them
    abbrev pub behind : List A → List ℕ → ℕ → ℕ
    behind l out at = at + min (w * length l) (length out - at)

    -- stored from one place on as from another: the same buffer, and the same place behind
    abbrev pub SameStore : List A → List ℕ → ℕ → List A → List ℕ → ℕ → Type 0
    SameStore l out at k from place = (behind l out at ≡ behind k from place) × (laid out at (flat_map bytes l) ≡ laid from place (flat_map bytes k))

    -- the first stored, what is left is stored behind it
    put_next : (x : A) (l : List A) (out : List ℕ) (at : ℕ) {next : ℕ} {stored : List ℕ} → length (bytes x) ≡ w →
        next ≡ at + min w (length out - at) → stored ≡ laid out at (bytes x) →
        SameStore l stored next (x ∷ l) out at
    unfolding flat_map
    put_next x l out at long e f =
        let two = stored_on out at (bytes x) w (flat_map bytes l) (w * length l) long (e, f) (refl, refl) in
        (two.0 ∙ rw mul-suc (omega arith), two.1)

    pub put_more : (x : A) (l : List A) (out : List ℕ) (at : ℕ) {left : List A} {next : ℕ} {stored : List ℕ} (all : List A) (from : List ℕ)
        (place : ℕ) → left ≡ x ∷ l → length (bytes x) ≡ w → next ≡ at + min w (length out - at) → stored ≡ laid out at (bytes x) →
        SameStore left out at all from place → SameStore l stored next all from place
    put_more x l out at all from place first long e f same =
        let here = put_next x l out at long e f in
        let rest = rw first at same in
        (here.0 ∙ rest.0, here.1 ∙ rest.1)

    -- nothing left, all is stored
    pub put_done : (out : List ℕ) (at : ℕ) {left : List A} (all : List A) (from : List ℕ) (place : ℕ) → left ≡ [] →
        SameStore left out at all from place → (at ≡ behind all from place) × (out ≡ laid from place (flat_map bytes all))
    unfolding flat_map
    put_done out at all from place none same =
        let rest = rw none at same in
        (omega (arith, rest.0, mul-zero w), sym (laid_none out at) ∙ rest.1)

  -- the first n of a list with one entry before the others, and of one with none left
  pub taken_next : {l : List A} {n : ℕ} (x : A) (m : List A) (k : ℕ) → l ≡ x ∷ m → k + 1 ≡ n → take n l ≡ x ∷ take k m
  taken_next x m k e f = rw (e, sym f, add-one k)

  pub taken_none : (l : List A) (n : ℕ) → (0 < n → length l ≡ 0) → take n l ≡ []
  taken_none l zero h = refl
  taken_none [] (suc n) h = refl
  taken_none (x ∷ l) (suc n) h = absurd (omega (arith, h (omega arith)))

  -- the first n of seven are the first m, where n is cut to seven
  pub at_most_seven : (l : List A) (n : ℕ) {m : ℕ} → length l ≡ 7 → m ≡ min n 7 → take m l ≡ take n l
  at_most_seven l n full cut = rw (cut, sym full) (take_min n l)

  -- what is left of a list from entry i on: entry i and what is left behind it
  pub left_next : (l : List A) (i : ℕ) (x : A) → i < length l → x ≡ get_or l i x → drop i l ≡ x ∷ drop (i + 1) l
  left_next l i x h e = rw (drop-cons l i x h, sym e, add-one i)

  -- how many bytes entries of w bytes take
  pub all_length : (bytes : A → List ℕ) (w : ℕ) → ((x : A) → length (bytes x) ≡ w) → (l : List A) → length (flat_map bytes l) ≡ w * length l
  unfolding flat_map
  all_length bytes w long [] = sym (mul-zero w)
  all_length bytes w long (x ∷ l) = rw (length-append, long x, all_length bytes w long l, mul-suc) (omega arith)

  pub each_length : (bytes : A → List ℕ) (w : ℕ) → ((x : A) → length (bytes x) ≡ w) → (l : List A) (n : ℕ) → n ≤ length l →
      length (flat_map bytes (take n l)) ≡ w * n
  each_length bytes w long l n h = all_length bytes w long (take n l) ∙ ap (λ (m : ℕ). w * m) (length-take-le n l h)
