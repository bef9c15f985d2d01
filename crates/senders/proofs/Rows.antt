-- Laws of the table's rows: which row is a sender's, that counts which can go on do so in each row, and the ways in which a frame is
-- heard.
-- Assumes nothing.
use Rattle.std.proofs.Common.{◌≡◌, ℕ, zero, suc, ◌+◌, ◌-◌, ◌<◌, ◌≤◌, true, false, Option, Some, None, eqb, ltb, leb, List, [], ◌∷◌, ◌++◌, length, sym, refl, ap, ◌∙◌, subst, add-one, arith, length-append, ltb-false, ltb-true, le-ltb, lt-ltb, eq-eqb, eqb-true, le-leb, leb-true}
use mathlib.Core.Bool.{and-false}
use Rattle.octets.proofs.Cases.{cases, holds?, both}
use Rattle.senders.specs.declared.Sender.{Sender}
use Rattle.senders.specs.declared.Counted.{Counted}
use Rattle.senders.specs.Sender.{same}
use Rattle.senders.specs.Hearing.{senders_most, first_heard, heard_again, place_of, Countable, can_go_on, AllCountable}
use Rattle.senders.specs.Table.{table_length, counted_at, counted_in, row_set, row_of, fits, row_in, goes_on, is_new}
use Rattle.senders.specs.Table.{table_after, rows_after, counts, rows_heard}

-- as many as there are rows
pub rows_length : (t : List ℕ) (n : ℕ) → length (counted_in t n) ≡ n
unfolding counted_in
rows_length t zero = refl
rows_length t (suc n) = length-append (counted_in t n) (counted_at t n ∷ []) ∙ omega (arith, rows_length t n)

-- a sender that is found in front stays where it is, and one that is not is looked for behind
module _ (who : Sender) where
  place_front : (cs ds : List Counted) → place_of who cs < length cs → place_of who (cs ++ ds) ≡ place_of who cs
  unfolding place_of
  place_front [] ds h = absurd (omega arith)
  place_front (c ∷ cs) ds h =
      cases (holds? (same who c.who)) (λ e. simp e)
      (λ e. simp e (ap suc (place_front cs ds (let k : suc (place_of who cs) < suc (length cs) = simp e at h in omega (arith, k)))))

  place_behind : (cs ds : List Counted) → place_of who cs ≡ length cs → place_of who (cs ++ ds) ≡ length cs + place_of who ds
  unfolding place_of
  place_behind [] ds h = omega arith
  place_behind (c ∷ cs) ds h =
      cases (holds? (same who c.who)) (λ e. absurd (let k : 0 ≡ suc (length cs) = simp e at h in omega (arith, k)))
      (λ e. simp e
      (let k : suc (place_of who cs) ≡ suc (length cs) = simp e at h in omega (arith, place_behind cs ds (omega (arith, k)))))

  module _ (t : List ℕ) where
    -- the row at hand is the sender's, or not
    row_here : (i : ℕ) → row_of t i who ≡ i → same who (counted_at t i).who ≡ true → row_of t (suc i) who ≡ i
    unfolding counted_in place_of
    row_here i e f =
        let l = rows_length t i in
        place_behind (counted_in t i) (counted_at t i ∷ []) (e ∙ sym l) ∙ simp f (omega (arith, l))

    pub row_not : (i : ℕ) → row_of t i who ≡ i → same who (counted_at t i).who ≡ false → row_of t (i + 1) who ≡ i + 1
    unfolding counted_in place_of
    row_not i e f =
        let l = rows_length t i in
        rw (add-one i) (place_behind (counted_in t i) (counted_at t i ∷ []) (e ∙ sym l) ∙ simp f (omega (arith, l)))

    -- and stays it, however many rows are looked at
    row_stays : (i k : ℕ) → row_of t (suc i) who ≡ i → row_of t (k + suc i) who ≡ i
    unfolding counted_in
    row_stays i zero e = let k : 0 + suc i ≡ suc i = omega arith in rw k e
    row_stays i (suc k) e =
        let f = row_stays i k e in
        let g : suc k + suc i ≡ suc (k + suc i) = omega arith in
        rw g
        (place_front (counted_in t (k + suc i)) (counted_at t (k + suc i) ∷ []) (omega (arith, f, rows_length t (k + suc i))) ∙ f)

    pub row_found : (i n : ℕ) → i < n → row_of t i who ≡ i → same who (counted_at t i).who ≡ true → i ≡ row_of t n who
    row_found i n h e f =
        let k = n - suc i in
        let l : k + suc i ≡ n = omega arith in
        sym (ap (λ (m : ℕ). row_of t m who) (sym l) ∙ row_stays i k (row_here i e f))

-- counts that one more frame can be added to, in each row
countable_front : (cs ds : List Counted) → AllCountable (cs ++ ds) → AllCountable cs
countable_front [] ds h = tt
countable_front (c ∷ cs) ds h = (h.0, countable_front cs ds h.1)

countable_last : (cs : List Counted) (c : Counted) → AllCountable (cs ++ (c ∷ [])) → Countable c
countable_last [] c h = h.0
countable_last (d ∷ cs) c h = countable_last cs c h.1

pub countable_at : (t : List ℕ) (n i : ℕ) → i < n → AllCountable (counted_in t n) → Countable (counted_at t i)
unfolding counted_in
countable_at t zero i h k = absurd (omega arith)
countable_at t (suc n) i h k =
    cases (holds? (ltb i n))
    (λ e. countable_at t n i (ltb-true i n e) (countable_front (counted_in t n) (counted_at t n ∷ []) k))
    (λ e.
    let f : n ≡ i = omega (arith, ltb-false i n e) in
    subst (λ (j : ℕ). Countable (counted_at t j)) f (countable_last (counted_in t n) (counted_at t n) k))

-- a table with so many rows in use
pub fits_parts : (t : List ℕ) (n : ℕ) → fits t n ≡ true → (length t ≡ table_length) × (n ≤ senders_most)
fits_parts t n h =
    let x = both (eqb (length t) table_length) (leb n senders_most) h in
    (eqb-true (length t) table_length x.0, leb-true n senders_most x.1)

pub fits_so : (t : List ℕ) (n : ℕ) → length t ≡ table_length → n ≤ senders_most → fits t n ≡ true
fits_so t n h k = simp (eq-eqb (length t) table_length h, le-leb n senders_most k)

pub row_there : (t : List ℕ) (i : ℕ) → length t ≡ table_length → i < senders_most → row_in t i ≡ counted_at t i
unfolding row_in
row_there t i h k = simp (fits_so t (i + 1) h (omega arith))

-- one more frame can be counted where the test says so, and else it cannot
pub goes_on_lem : (c : Counted) → can_go_on c ≡ true → Countable c
goes_on_lem c h =
    let x = both _ _ h in
    let y = both _ _ x.0 in
    let z = both _ _ y.0 in
    record {
      last = ltb-true c.last 256 z.0;
      frames = ltb-true c.frames 1000000 z.1;
      repeats = ltb-true c.repeats 1000000 y.1;
      missing = ltb-true c.missing 256000000 x.1;
    }

pub can_go : (c : Counted) → Countable c → can_go_on c ≡ true
can_go c h =
    simp (
      lt-ltb c.last 256 h.last,
      lt-ltb c.frames 1000000 h.frames,
      lt-ltb c.repeats 1000000 h.repeats,
      lt-ltb c.missing 256000000 h.missing,
    )

-- the ways in which a frame is heard, as the code finds them
module _ (t : List ℕ) (n : ℕ) (who : Sender) (number : ℕ) where
  abbrev HeardSo : List ℕ → Option ℕ → Type 0
  HeardSo u r = (u ≡ table_after t n who number) × (r ≡ rows_heard t n who)

  not_heard : goes_on t n who ≡ false → is_new t n who ≡ false → HeardSo t None
  unfolding table_after rows_heard counts
  not_heard e f = (simp (e, f), simp (e, f))

  pub heard_unfit : fits t n ≡ false → HeardSo t None
  unfolding goes_on is_new
  heard_unfit e = not_heard (simp e) (simp e)

  module _ (i : ℕ) (e : i ≡ row_of t n who) where
    found : i < n → ltb (row_of t n who) n ≡ true
    found h = lt-ltb (row_of t n who) n (omega (arith, e))

    none : n ≤ i → ltb (row_of t n who) n ≡ false
    none h = le-ltb (row_of t n who) n (omega (arith, e))

    going : fits t n ≡ true → i < n → can_go_on (counted_at t (row_of t n who)) ≡ true → goes_on t n who ≡ true
    unfolding goes_on
    going f h o = rw (f, found h, o)

    old : i < n → is_new t n who ≡ false
    unfolding is_new
    old h = rw (found h) (simp and-false)

    pub heard_known : (c d : Counted) (u : List ℕ) → fits t n ≡ true → i < n → c ≡ counted_at t i → can_go_on c ≡ true →
        d ≡ heard_again c number → u ≡ row_set t i d → HeardSo u (Some n)
    unfolding table_after rows_after rows_heard counts
    heard_known c d u f h k o x g =
        let w : can_go_on (counted_at t (row_of t n who)) ≡ true = sym (ap can_go_on (k ∙ ap (counted_at t) e)) ∙ o in
        let y = going f h w in
        let z = old h in
        (rw (g, x, k, e) (simp y), simp (y, z))

    pub heard_stuck : (c : Counted) → i < n → c ≡ counted_at t i → can_go_on c ≡ false → HeardSo t None
    unfolding goes_on
    heard_stuck c h k o =
        let w : can_go_on (counted_at t (row_of t n who)) ≡ false = sym (ap can_go_on (k ∙ ap (counted_at t) e)) ∙ o in
        not_heard (rw w (simp and-false)) (old h)

    pub heard_new : (u : List ℕ) → fits t n ≡ true → n ≤ i → n < senders_most → u ≡ row_set t n (first_heard who number) → HeardSo u (Some (n + 1))
    unfolding table_after rows_after rows_heard counts goes_on is_new
    heard_new u f h l g =
        let m : ltb n 64 ≡ true = lt-ltb n 64 l in
        (rw (f, none h) (simp m g), rw (f, none h) (simp m))

    pub heard_full : n ≤ i → senders_most ≤ n → HeardSo t None
    unfolding goes_on is_new
    heard_full h l = not_heard (rw (none h) (simp and-false)) (rw (le-ltb n 64 l) (simp and-false))
