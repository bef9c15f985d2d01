-- What a table holds after one more frame: the senders that it held, with that frame heard.
-- Assumes nothing.
use Rattle.std.proofs.Common.{◌≡◌, ℕ, zero, suc, ◌+◌, ◌*◌, ◌<◌, ◌≤◌, true, not, ◌&&◌, ltb, ◌⊎◌, List, [], ◌∷◌, ◌++◌, length, get_or, set, sym, refl, ap, ◌∙◌, inl, inr, add-one, arith, length-set, get_or-set_other, get_or-set_same, ltb-false, ltb-true, le-ltb, lt-ltb}
use lib.ListN.{get_or-append}
use lib.Seq.{get_or_at, set-append_left, set-append_seam}
use Rattle.octets.proofs.Cases.{cases, holds?}
use Rattle.senders.specs.declared.Sender.{Sender}
use Rattle.senders.specs.declared.Counted.{Counted}
use Rattle.senders.specs.Sender.{same, among}
use Rattle.senders.specs.Hearing.{senders_most, first_heard, heard_again, place_of, hearing, is_known, is_crowded, heard_of, AllCountable}
use Rattle.senders.specs.Table.{counted_at, counted_in, row_set, row_of, fits, goes_on, is_new, table_after, rows_after, counts}
use Rattle.senders.proofs.Rows.{rows_length, fits_parts, can_go, countable_at}

-- an element that is not the one which is set
skip : (l : List ℕ) (q r v : ℕ) → (q ≡ r → ⊥) → get_or (set l r v) q 0 ≡ get_or l q 0
skip l q r v n = get_or-set_other l r q v 0 n

-- a row that is written holds what was written, and the others what they held
module _ (t : List ℕ) (i : ℕ) (c : Counted) where
  abbrev p : ℕ
  p = 7 * i

  abbrev one : List ℕ
  one = set t p c.who.octets

  abbrev two : List ℕ
  two = set one (p + 1) c.who.pan_id

  abbrev three : List ℕ
  three = set two (p + 2) c.who.address

  abbrev four : List ℕ
  four = set three (p + 3) c.last

  abbrev five : List ℕ
  five = set four (p + 4) c.frames

  abbrev six : List ℕ
  six = set five (p + 5) c.repeats

  abbrev seven : List ℕ
  seven = set six (p + 6) c.missing

  pub row_length : length (row_set t i c) ≡ length t
  unfolding row_set
  row_length = simp length-set

  module _ (q : ℕ) where
    past_four : (q ≡ p + 4 → ⊥) → (q ≡ p + 5 → ⊥) → (q ≡ p + 6 → ⊥) → get_or seven q 0 ≡ get_or four q 0
    past_four x y z = skip six q (p + 6) _ z ∙ skip five q (p + 5) _ y ∙ skip four q (p + 4) _ x

    past_one : (q ≡ p + 1 → ⊥) → (q ≡ p + 2 → ⊥) → (q ≡ p + 3 → ⊥) → get_or four q 0 ≡ get_or one q 0
    past_one x y z = skip three q (p + 3) _ z ∙ skip two q (p + 2) _ y ∙ skip one q (p + 1) _ x

    apart : (q < p) ⊎ (p + 6 < q) → get_or seven q 0 ≡ get_or t q 0
    apart h =
        let none : (k : ℕ) → k < 7 → q ≡ p + k → ⊥ = λ k l x. cases h (λ y. omega (arith, x, y, l)) (λ y. omega (arith, x, y, l)) in
        past_four (none 4 (omega arith)) (none 5 (omega arith)) (none 6 (omega arith))
        ∙ past_one (none 1 (omega arith)) (none 2 (omega arith)) (none 3 (omega arith))
        ∙ skip t q p _ (λ x. none 0 (omega arith) (omega (arith, x)))

  module _ (h : p + 6 < length t) where
    octets_there : get_or seven p 0 ≡ c.who.octets
    octets_there =
        past_four p (λ x. omega arith) (λ x. omega arith) (λ x. omega arith)
        ∙ past_one p (λ x. omega arith) (λ x. omega arith) (λ x. omega arith)
        ∙ get_or-set_same t p _ 0 (omega arith)

    pan_there : get_or seven (p + 1) 0 ≡ c.who.pan_id
    pan_there =
        past_four (p + 1) (λ x. omega arith) (λ x. omega arith) (λ x. omega arith)
        ∙ skip three (p + 1) (p + 3) _ (λ x. omega arith)
        ∙ skip two (p + 1) (p + 2) _ (λ x. omega arith)
        ∙ get_or-set_same one (p + 1) _ 0 (simp length-set (omega arith))

    address_there : get_or seven (p + 2) 0 ≡ c.who.address
    address_there =
        past_four (p + 2) (λ x. omega arith) (λ x. omega arith) (λ x. omega arith)
        ∙ skip three (p + 2) (p + 3) _ (λ x. omega arith)
        ∙ get_or-set_same two (p + 2) _ 0 (simp length-set (omega arith))

    last_there : get_or seven (p + 3) 0 ≡ c.last
    last_there =
        past_four (p + 3) (λ x. omega arith) (λ x. omega arith) (λ x. omega arith)
        ∙ get_or-set_same three (p + 3) _ 0 (simp length-set (omega arith))

    frames_there : get_or seven (p + 4) 0 ≡ c.frames
    frames_there =
        skip six (p + 4) (p + 6) _ (λ x. omega arith)
        ∙ skip five (p + 4) (p + 5) _ (λ x. omega arith)
        ∙ get_or-set_same four (p + 4) _ 0 (simp length-set (omega arith))

    repeats_there : get_or seven (p + 5) 0 ≡ c.repeats
    repeats_there = skip six (p + 5) (p + 6) _ (λ x. omega arith) ∙ get_or-set_same five (p + 5) _ 0 (simp length-set (omega arith))

    missing_there : get_or seven (p + 6) 0 ≡ c.missing
    missing_there = get_or-set_same six (p + 6) _ 0 (simp length-set (omega arith))

    row_same : counted_at (row_set t i c) i ≡ c
    unfolding counted_at row_set
    row_same = rw (octets_there, pan_there, address_there, last_there, frames_there, repeats_there, missing_there)

  row_other : (j : ℕ) → (j < i) ⊎ (i < j) → counted_at (row_set t i c) j ≡ counted_at t j
  unfolding counted_at row_set
  row_other j h =
      let there : (k : ℕ) → k < 7 → get_or seven (7 * j + k) 0 ≡ get_or t (7 * j + k) 0 =
      λ k l. apart (7 * j + k) (cases h (λ y. inl (omega (arith, y, l))) (λ y. inr (omega (arith, y, l)))) in
      let front : get_or seven (7 * j) 0 ≡ get_or t (7 * j) 0 =
      apart (7 * j) (cases h (λ y. inl (omega (arith, y))) (λ y. inr (omega (arith, y)))) in
      rw (
        front,
        there 1 (omega arith),
        there 2 (omega arith),
        there 3 (omega arith),
        there 4 (omega arith),
        there 5 (omega arith),
        there 6 (omega arith),
      )

  -- so do the rows in front of it, all that are looked at with it, and those up to it
  rows_front : (n : ℕ) → n ≤ i → counted_in (row_set t i c) n ≡ counted_in t n
  unfolding counted_in
  rows_front zero h = refl
  rows_front (suc n) h = rw (rows_front n (omega arith), row_other n (inl (omega arith)))

  rows_added : 7 * i + 6 < length t → counted_in (row_set t i c) (suc i) ≡ counted_in t i ++ (c ∷ [])
  unfolding counted_in
  rows_added h = rw (rows_front i (omega arith), row_same h)

  rows_changed : 7 * i + 6 < length t → (n : ℕ) → i < n → counted_in (row_set t i c) n ≡ set (counted_in t n) i c
  unfolding counted_in
  rows_changed h zero k = absurd (omega arith)
  rows_changed h (suc n) k =
      cases (holds? (ltb i n))
      (λ e.
      let l : i < n = ltb-true i n e in
      rw (rows_changed h n l, row_other n (inr l))
      (sym (set-append_left (counted_in t n) (counted_at t n ∷ []) i c (omega (arith, l, rows_length t n)))))
      (λ e.
      let f : n ≡ i = omega (arith, ltb-false i n e) in
      rw (f, rows_front i (omega arith), row_same h)
      (sym (ap (λ (k : ℕ). set (counted_in t i ++ (counted_at t i ∷ [])) k c) (sym (rows_length t i))
      ∙ set-append_seam (counted_in t i) (counted_at t i) [] c)))

ltb_suc : (a b : ℕ) → ltb a b ≡ ltb (suc a) (suc b)
ltb_suc a b =
    cases (holds? (ltb a b)) (λ e. e ∙ sym (lt-ltb (suc a) (suc b) (omega (arith, ltb-true a b e))))
    (λ e. e ∙ sym (le-ltb (suc a) (suc b) (omega (arith, ltb-false a b e))))

-- where a sender is found, it is known, and what is heard of it changes that place
module _ (who : Sender) (number : ℕ) where
  pub place_known : (cs : List Counted) → is_known who cs ≡ ltb (place_of who cs) (length cs)
  unfolding place_of among
  place_known [] = refl
  place_known (c ∷ cs) =
      let some : ltb 0 (suc (length cs)) ≡ true = lt-ltb 0 (suc (length cs)) (omega arith) in
      cases (holds? (same who c.who)) (λ e. simp e (sym some)) (λ e. simp e (place_known cs ∙ ltb_suc (place_of who cs) (length cs)))

  place_heard : (cs : List Counted) → place_of who cs < length cs →
      hearing who number cs ≡ set cs (place_of who cs) (heard_again (get_or cs (place_of who cs) (first_heard who 0)) number)
  unfolding place_of hearing
  place_heard [] h = absurd (omega arith)
  place_heard (c ∷ cs) h =
      cases (holds? (same who c.who)) (λ e. simp e)
      (λ e. simp e (ap (λ (ds : List Counted). c ∷ ds) (place_heard cs (let k : suc (place_of who cs) < suc (length cs) = simp e at h in omega (arith, k)))))

-- what the first rows hold, one by one
rows_at : (t : List ℕ) (n i : ℕ) (other : Counted) → i < n → get_or (counted_in t n) i other ≡ counted_at t i
unfolding counted_in
rows_at t zero i other h = absurd (omega arith)
rows_at t (suc n) i other h =
    let l = rows_length t n in
    cases (holds? (ltb i n))
    (λ e.
    let k : i < n = ltb-true i n e in
    get_or-append (counted_in t n) (counted_at t n ∷ []) other i (omega (arith, k, l)) ∙ rows_at t n i other k)
    (λ e.
    let f : n ≡ i = omega (arith, ltb-false i n e) in
    get_or_at (counted_in t n) (counted_at t n) [] other i (l ∙ f) ∙ ap (counted_at t) f)

-- the table after one more frame holds the senders behind that frame, where their counts can go on
module _ (t : List ℕ) (n : ℕ) (who : Sender) (number : ℕ) (fit : fits t n ≡ true) (countable : AllCountable (counted_in t n)) where
  abbrev cs : List Counted
  cs = counted_in t n

  abbrev i : ℕ
  i = row_of t n who

  known_row : is_known who cs ≡ ltb i n
  known_row = place_known who number cs ∙ ap (λ (k : ℕ). ltb i k) (rows_length t n)

  goes : goes_on t n who ≡ ltb i n
  unfolding goes_on
  goes =
      cases (holds? (ltb i n))
      (λ e. rw (fit, can_go (counted_at t i) (countable_at t n i (ltb-true i n e) countable)) (simp e))
      (λ e. rw fit (simp e))

  new : is_new t n who ≡ (not (ltb i n) && ltb n senders_most)
  unfolding is_new
  new = rw fit

  pub after_counted : counted_in (table_after t n who number) (rows_after t n who) ≡ heard_of who number cs
  unfolding table_after rows_after heard_of
  after_counted =
      let long = (fits_parts t n fit).0 in
      cases (holds? (ltb i n))
      (λ e.
      let h : i < n = ltb-true i n e in
      let room = (fits_parts t n fit).1 in
      let k : place_of who cs < length cs = omega (arith, h, rows_length t n) in
      rw (goes, new, known_row)
      (simp e
      (rows_changed t i (heard_again (counted_at t i) number) (omega (arith, h, long, room)) n h
      ∙ sym (place_heard who number cs k ∙ ap (λ (c : Counted). set cs i (heard_again c number)) (rows_at t n i (first_heard who 0) h)))))
      (λ e.
      cases (holds? (ltb n senders_most))
      (λ f.
      let h : n < senders_most = ltb-true n senders_most f in
      rw (goes, new, known_row, rows_length t n) (simp (e, f, add-one n) (rows_added t n (first_heard who number) (omega (arith, h, long)))))
      (λ f. rw (goes, new, known_row, rows_length t n) (simp (e, f))))

  -- a frame is not counted where there is no place for its sender
  pub counts_known : counts t n who ≡ not (is_crowded who cs)
  unfolding counts
  counts_known =
      rw (goes, new, known_row, rows_length t n)
      (cases (holds? (ltb i n)) (λ e. simp e)
      (λ e. cases (holds? (ltb n senders_most)) (λ f. simp (e, f)) (λ f. simp (e, f))))
