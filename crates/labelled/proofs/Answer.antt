-- Laws of the answer to a labelled line, whatever is said of its frame: which lines are bad, and what a line that is parted at its tab is
-- answered. The bytes past the 1,025th tell nothing more.
-- Assumes nothing.
use Prim.Native.Nat.{ℕ, suc, ◌+◌, ◌*◌, ◌≤◌, ◌<◌}
use native.Mathlib.Omega.{arith}
use mathlib.Core.Bool.{Bool, true, false, cond, not, true≢false}
use mathlib.Core.List.{List, [], ◌∷◌, ◌++◌}
use mathlib.Core.Path.{◌≡◌, refl, sym, ap, ◌∙◌, subst}
use borrow.Author.Tests.{ltb-true, ltb-false, lt-ltb, le-ltb, ne_eqb}
use lib.Dec.{ltb, eqb}
use lib.ListN.{length, take, drop, length-append, length-drop}
use lib.Seq.{length-take-le, take_all, drop-append-add}
use Rattle.octets.specs.Order.{first}
use Rattle.octets.proofs.Cases.{cases, holds?}
use Rattle.line_cutter.specs.Line.{line_most, kept_most, before}
use Rattle.line_cutter.proofs.Line.{Free, before_free, before_take, before_length, before_stop, before_part_at, free_first}
use Rattle.hexadecimal.specs.Hex.{is_digit, odd, foreign, unhex, decoded, digit}
use Rattle.hexadecimal.proofs.Hex.{foreign_no, unhex_length, unhex_whole, whole_good}
use Rattle.labelled.specs.Answer.{tabs, label, digits, bad, labelled}

pub tab_foreign : is_digit 9 ≡ false
unfolding digit
tab_foreign = refl

pub feed_foreign : is_digit 10 ≡ false
unfolding digit
feed_foreign = refl

-- digits hold no byte that is no digit
pub foreign_free : (a : ℕ) (s : List ℕ) → is_digit a ≡ false → foreign s ≡ false → Free a s
foreign_free a [] h f = tt
foreign_free a (b ∷ s) h f =
    let g = foreign_no b s f in
    (ne_eqb b a (λ e. true≢false (sym g.0 ∙ ap is_digit e ∙ h)), foreign_free a s h g.1)

pub tabs_free : (s : List ℕ) → Free 9 s → tabs s ≡ 0
unfolding tabs
tabs_free [] f = refl
tabs_free (b ∷ s) f = simp f.0 (tabs_free s f.1)

pub tabs_at : (s t : List ℕ) → Free 9 s → tabs (s ++ (9 ∷ t)) ≡ suc (tabs t)
unfolding tabs
tabs_at [] t f = refl
tabs_at (b ∷ s) t f = simp f.0 (tabs_at s t f.1)

pub bad_length : length bad ≡ 4
unfolding bad
bad_length = refl

-- a test may hold or not where what comes after it says the same
later : (test : Bool) {x y : List ℕ} → y ≡ x → cond test x y ≡ x
later true e = refl
later false e = e

module _ (said : List ℕ → List ℕ) where
  -- an answer is no longer than its line and what can be said of a frame
  pub labelled_most : (n : ℕ) → 4 ≤ n → ((s : List ℕ) → length (said s) ≤ n) → (l : List ℕ) → length (labelled said l) ≤ length l + n
  unfolding labelled
  labelled_most n h k l =
      let b : length bad ≤ length l + n = omega (arith, bad_length) in
      let t = digits l in
      let good : length (label l ++ said (unhex t)) ≤ length l + n =
      rw (length-append (label l)) (omega (arith, before_length 9 9 l, k (unhex t))) in
      cases (holds? (ltb line_most (length l))) (λ e. simp e b)
      (λ e.
      cases (holds? (eqb (tabs l) 1))
      (λ f.
      cases (holds? (odd t)) (λ o. simp (e, f, o) b)
      (λ o. cases (holds? (foreign t)) (λ g. simp (e, f, o, g) b) (λ g. simp (e, f, o, g) good)))
      (λ f. simp (e, f) b))

  -- a line parted at its first tab
  module _ (s t : List ℕ) (f : Free 9 s) where
    parted : labelled said (s ++ (9 ∷ t)) ≡
        first ((ltb line_most (length (s ++ (9 ∷ t))), bad) ∷ (not (eqb (suc (tabs t)) 1), bad) ∷ (odd t, bad) ∷ (foreign t, bad) ∷ [])
        (s ++ said (unhex t))
    unfolding labelled
    parted = rw (before_free 9 s t f, tabs_at s t f, drop-append-add s (9 ∷ t) 1)

    -- whole digits and no more than 1,024 bytes: the label, and what is said of the frame
    pub answer_good : length (s ++ (9 ∷ t)) ≤ line_most → 2 * length (unhex t) ≡ length t →
        labelled said (s ++ (9 ∷ t)) ≡ s ++ said (unhex t)
    answer_good h w =
        let g = whole_good t w in
        parted ∙ simp (le-ltb _ _ h, tabs_free t (foreign_free 9 t tab_foreign g.1), g.0, g.1)

    -- a digit left over, a foreign digit, or a second tab, which is one
    pub answer_part : (2 * length (unhex t) ≡ length t → ⊥) → labelled said (s ++ (9 ∷ t)) ≡ bad
    answer_part w =
        parted
        ∙ later (ltb line_most (length (s ++ (9 ∷ t)))) (later (not (eqb (suc (tabs t)) 1))
        (cases (holds? (odd t)) (λ o. simp o) (λ o. cases (holds? (foreign t)) (λ g. simp (o, g)) (λ g. absurd (w (unhex_whole t o g))))))

  pub answer_long : (l : List ℕ) → line_most < length l → labelled said l ≡ bad
  unfolding labelled
  answer_long l h = simp (lt-ltb _ _ h)

  pub answer_tabless : (l : List ℕ) → length l ≤ length (before 9 9 l) → labelled said l ≡ bad
  unfolding labelled
  answer_tabless l h =
      let whole : before 9 9 l ≡ l = sym (before_take 9 9 l) ∙ take_all (length (before 9 9 l)) l h in
      let none : tabs l ≡ 0 = tabs_free l (subst (Free 9) whole (free_first 9 9 l)) in
      later (ltb line_most (length l)) (simp none)

  pub answer_front : (l : List ℕ) → labelled said (take kept_most l) ≡ labelled said l
  answer_front l =
      cases (holds? (ltb (length l) kept_most))
      (λ t. let h : length l ≤ kept_most = omega (arith, ltb-true (length l) kept_most t) in ap (labelled said) (take_all kept_most l h))
      (λ t.
      let h : kept_most ≤ length l = ltb-false _ _ t in
      let k : length (take kept_most l) ≡ kept_most = length-take-le kept_most l h in
      answer_long (take kept_most l) (omega arith) ∙ sym (answer_long l (omega arith)))

  -- a line as it is parted by its first tab, with the bytes decoded behind that
  module _ (l : List ℕ) (tab n : ℕ) (e : tab ≡ length (before 9 9 l)) (short : length l ≤ line_most) (there : tab < length l)
      (f : n ≡ length (decoded l (tab + 1) 512)) where
    here : length (before 9 9 l) < length l
    here = omega arith

    line_tab : l ≡ take tab l ++ (9 ∷ drop (tab + 1) l)
    line_tab =
        before_part_at 9 9 l here
        ∙ ap (λ (b : ℕ). before 9 9 l ++ (b ∷ drop (length (before 9 9 l) + 1) l)) (before_stop 9 l here)
        ∙ rw (e, before_take 9 9 l)

    label_free : Free 9 (take tab l)
    label_free = rw (e, before_take 9 9 l) (free_first 9 9 l)

    all_decoded : decoded l (tab + 1) 512 ≡ unhex (drop (tab + 1) l)
    all_decoded = take_all 512 (unhex (drop (tab + 1) l)) (omega (arith, unhex_length (drop (tab + 1) l), length-drop (tab + 1) l))

    pub line_good : tab + 1 + 2 * n ≡ length l → take tab l ++ said (decoded l (tab + 1) 512) ≡ labelled said l
    line_good h =
        let w : 2 * length (unhex (drop (tab + 1) l)) ≡ length (drop (tab + 1) l) =
        omega (arith, ap length all_decoded, length-drop (tab + 1) l) in
        let k : length (take tab l ++ (9 ∷ drop (tab + 1) l)) ≤ line_most = rw (sym line_tab) short in
        ap (λ (u : List ℕ). take tab l ++ said u) all_decoded
        ∙ sym (answer_good (take tab l) (drop (tab + 1) l) label_free k w)
        ∙ ap (labelled said) (sym line_tab)

    pub line_part : (tab + 1 + 2 * n ≡ length l → ⊥) → bad ≡ labelled said l
    line_part h =
        sym (answer_part (take tab l) (drop (tab + 1) l) label_free
        (λ w. h (omega (arith, ap length all_decoded, length-drop (tab + 1) l))))
        ∙ ap (labelled said) (sym line_tab)
