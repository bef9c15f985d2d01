-- Laws of bytes in hex: a pair of digits at a time, and digits that are whole, neither odd nor foreign, are all decoded.
-- Assumes nothing.
use Prim.Native.Nat.{ℕ, zero, suc, ◌+◌, ◌-◌, ◌*◌, ◌/◌, ◌%◌, ◌≤◌, ◌<◌, min}
use native.Mathlib.Numerals.{add-one}
use native.Mathlib.Omega.{arith}
use mathlib.Core.Bool.{true, false, ◌&&◌, true≢false, false≢true}
use mathlib.Core.List.{List, [], ◌∷◌}
use mathlib.Core.Path.{◌≡◌, refl, sym, ap, ◌∙◌}
use borrow.Author.Tests.{ltb-true, ltb-false, lt-ltb, le-ltb}
use lib.Dec.{ltb}
use lib.ListN.{length, get_or, take, drop, length-append, length-take, drop_of_length-le, get_or-append}
use lib.Seq.{drop-cons, take-nil, get_or_at}
use Rattle.octets.specs.Buffer.{laid}
use Rattle.octets.specs.Little.{Bytes}
use Rattle.octets.proofs.Cases.{cases, holds?}
use Rattle.octets.proofs.Little.{bytes_drop}
use Rattle.octets.proofs.Stored.{front}
use Rattle.hexadecimal.specs.Hex.{digit, is_digit, worth, worths, odd, foreign, unhex, pair_by, unhex_by, decoded, decoded_by}

-- two elements and what follows them
two : (s : List ℕ) (i : ℕ) → i + 1 < length s → drop i s ≡ get_or s i 0 ∷ get_or s (i + 1) 0 ∷ drop (i + 2) s
two s i h =
    let f : i < length s = omega arith in
    let g : suc i < length s = omega arith in
    let e : i + 2 ≡ suc (suc i) = omega arith in
    rw (e, add-one i, drop-cons s i 0 f, drop-cons s (suc i) 0 g)

-- decoding by a table goes a pair at a time, up to a pair that makes more than a byte, or where fewer than two bytes are left
module _ (table s : List ℕ) where
  pub by_pair : (i pair : ℕ) → i + 1 < length s → pair ≡ pair_by table (get_or s i 0) (get_or s (i + 1) 0) → pair ≤ 255 →
      unhex_by table (drop i s) ≡ pair ∷ unhex_by table (drop (i + 2) s)
  unfolding unhex_by
  by_pair i pair h e g = let l : pair < 256 = omega arith in rw (two s i h, sym e) (simp (lt-ltb pair 256 l))

  pub by_other : (i pair : ℕ) → i + 1 < length s → pair ≡ pair_by table (get_or s i 0) (get_or s (i + 1) 0) → 255 < pair →
      unhex_by table (drop i s) ≡ []
  unfolding unhex_by
  by_other i pair h e g = let l : 256 ≤ pair = omega arith in rw (two s i h, sym e) (simp (le-ltb pair 256 l))

  pub by_end : (i : ℕ) → length s ≤ i + 1 → unhex_by table (drop i s) ≡ []
  unfolding unhex_by
  by_end i h = cases (holds? (ltb i (length s)))
      (λ e.
      let f : i < length s = ltb-true i (length s) e in
      let g : length s ≤ suc i = omega arith in
      rw (drop-cons s i 0 f, drop_of_length-le s g))
      (λ e. rw (drop_of_length-le s (ltb-false i (length s) e)))

-- the table of values has what each byte counts for
worths_length : (n : ℕ) → length (worths n) ≡ n
unfolding worths
worths_length zero = refl
worths_length (suc n) = rw (length-append, worths_length n) (omega arith)

worths_at : (n b : ℕ) → b < n → get_or (worths n) b 0 ≡ worth b
unfolding worths
worths_at zero b h = absurd (omega arith)
worths_at (suc n) b h =
    cases (holds? (ltb b n))
    (λ t.
    let k : b < n = ltb-true b n t in
    get_or-append (worths n) (worth n ∷ []) 0 b (rw (worths_length n) k) ∙ worths_at n b k)
    (λ t.
    let e : n ≡ b = omega (arith, ltb-false b n t) in
    get_or_at (worths n) (worth n) [] 0 b (worths_length n ∙ e) ∙ ap worth e)

-- so a pair that by it makes no more than a byte is two digits, and what they stand for
by_values : (s : List ℕ) → Bytes s → unhex_by (worths 256) s ≡ unhex s
unfolding unhex_by unhex
by_values [] h = refl
by_values (a ∷ []) h = refl
by_values (a ∷ b ∷ s) h =
    rw (worths_at 256 a h.0, worths_at 256 b h.1.0)
    (cases (holds? (is_digit a))
    (λ t.
    cases (holds? (is_digit b))
    (λ u.
    let l : 16 * digit a + digit b < 256 = omega (arith, ltb-true (digit a) 16 t, ltb-true (digit b) 16 u) in
    simp (t, u, lt-ltb _ _ l, by_values s h.1.1))
    (λ u. let l : 256 ≤ 16 * digit a + 256 = omega arith in simp (t, u, le-ltb _ _ l)))
    (λ t. let l : 256 ≤ 16 * 256 + worth b = omega arith in simp (t, le-ltb _ _ l)))

pub by_digits : (table s : List ℕ) (at room : ℕ) → table ≡ worths 256 → Bytes s → decoded_by table s at room ≡ decoded s at room
by_digits table s at room e h = rw (e, by_values (drop at s) (bytes_drop at s h))

-- what decoding answers and stores, with room for so many bytes: the bytes that the digits stand for, at the buffer's front
pub record Decoding (s : List ℕ) (at room n : ℕ) (stored : List ℕ) : Type 0 where
  pub count : n ≡ length (decoded s at room)
  pub few : n ≤ room
  pub bytes : take n stored ≡ decoded s at room

pub decoding : (table s out stored : List ℕ) (at n room : ℕ) → table ≡ worths 256 → Bytes s → length out ≡ room →
    (n ≡ length (decoded_by table s at (length out))) × (stored ≡ laid out 0 (decoded_by table s at (length out))) →
    Decoding s at room n stored
decoding table s out stored at n room e h long d =
    let same : decoded_by table s at (length out) ≡ decoded s at room = rw long (by_digits table s at room e h) in
    let count : n ≡ length (decoded s at room) = d.0 ∙ ap length same in
    let few : n ≤ room = omega (arith, count, length-take room (unhex (drop at s))) in
    record {
      count = count;
      few = few;
      bytes = ap (take n) (d.1 ∙ ap (laid out 0) same) ∙ front out (decoded s at room) n (sym count) (omega (arith, few, long));
    }

-- they are at most half as many as the digits
pub unhex_length : (s : List ℕ) → 2 * length (unhex s) ≤ length s
unfolding unhex
unhex_length [] = omega arith
unhex_length (a ∷ []) = omega arith
unhex_length (a ∷ b ∷ s) = cases (holds? (is_digit a && is_digit b)) (λ e. simp e (omega (arith, unhex_length s))) (λ e. simp e (omega arith))

-- the front of the digits gives the front of the bytes
Front : ℕ → Type 0
Front n = (s : List ℕ) → unhex (take (2 * n) s) ≡ take n (unhex s)

front_more : (n : ℕ) → Front n → (s : List ℕ) → unhex (take (suc (suc (2 * n))) s) ≡ take (suc n) (unhex s)
unfolding unhex Front
front_more n f [] = refl
front_more n f (a ∷ []) = refl
front_more n f (a ∷ b ∷ s) =
    cases (holds? (is_digit a && is_digit b)) (λ e. simp e (ap (λ (l : List ℕ). (16 * digit a + digit b) ∷ l) (f s)))
    (λ e. simp e)

pub unhex_take : (n : ℕ) (s : List ℕ) → unhex (take (2 * n) s) ≡ take n (unhex s)
unfolding unhex Front
unhex_take zero s = refl
unhex_take (suc n) s =
    let e : 2 * suc n ≡ suc (suc (2 * n)) = omega arith in
    rw e (front_more n (unhex_take n) s)

-- two digits more change nothing of what is odd, and are digits where nothing is foreign
odd_two : (a b : ℕ) (s : List ℕ) → odd (a ∷ b ∷ s) ≡ odd s
odd_two a b s = let e : suc (suc (length s)) % 2 ≡ length s % 2 = omega arith in rw e

pub foreign_no : (b : ℕ) (s : List ℕ) → foreign (b ∷ s) ≡ false → (is_digit b ≡ true) × (foreign s ≡ false)
unfolding foreign
foreign_no b s h = cases (holds? (is_digit b)) (λ e. (e, simp e at h)) (λ e. absurd (true≢false (simp e at h)))

foreign_two : (a b : ℕ) (s : List ℕ) → (is_digit a && is_digit b) ≡ true → foreign (a ∷ b ∷ s) ≡ foreign s
unfolding foreign
foreign_two a b s h =
    cases (holds? (is_digit a)) (λ e. cases (holds? (is_digit b)) (λ f. simp (e, f)) (λ f. absurd (false≢true (simp (e, f) at h))))
    (λ e. absurd (false≢true (simp e at h)))

-- digits that are neither odd nor foreign are all decoded, and no others are
pub unhex_whole : (s : List ℕ) → odd s ≡ false → foreign s ≡ false → 2 * length (unhex s) ≡ length s
unfolding unhex
unhex_whole [] h k = refl
unhex_whole (a ∷ []) h k = absurd (true≢false h)
unhex_whole (a ∷ b ∷ s) h k =
    let f = foreign_no a (b ∷ s) k in
    let g = foreign_no b s f.1 in
    let e = unhex_whole s (sym (odd_two a b s) ∙ h) g.1 in
    simp (f.0, g.0) (omega (arith, e))

pub whole_good : (s : List ℕ) → 2 * length (unhex s) ≡ length s → (odd s ≡ false) × (foreign s ≡ false)
unfolding unhex foreign
whole_good [] h = (refl, refl)
whole_good (a ∷ []) h = absurd (omega (arith, h))
whole_good (a ∷ b ∷ s) h =
    cases (holds? (is_digit a && is_digit b))
    (λ e.
    let k : 2 * suc (length (unhex s)) ≡ suc (suc (length s)) = simp e at h in
    let r = whole_good s (omega arith) in
    (odd_two a b s ∙ r.0, foreign_two a b s e ∙ r.1))
    (λ e. let k : 0 ≡ suc (suc (length s)) = simp e at h in absurd (omega arith))

-- what is left to decode by a table from the pair n on, with room for so many bytes in all
module _ (table s : List ℕ) (at room : ℕ) where
  abbrev pub rest : ℕ → List ℕ
  rest n = take (room - n) (unhex_by table (drop (at + 2 * n) s))

  pub rest_all : rest 0 ≡ decoded_by table s at room
  rest_all =
      let e : room - 0 ≡ room = omega arith in
      let f : at + 2 * 0 ≡ at = omega arith in
      rw (e, f)

  pub rest_pair : (n pair : ℕ) → n < room → at + 2 * n + 1 < length s →
      pair ≡ pair_by table (get_or s (at + 2 * n) 0) (get_or s (at + 2 * n + 1) 0) → pair ≤ 255 →
      rest n ≡ pair ∷ rest (n + 1)
  rest_pair n pair h k e g =
      let a : room - n ≡ suc (room - (n + 1)) = omega arith in
      let b : at + 2 * n + 2 ≡ at + 2 * (n + 1) = omega arith in
      rw (by_pair table s (at + 2 * n) pair k e g, a, b)

  pub rest_none : (n : ℕ) → unhex_by table (drop (at + 2 * n) s) ≡ [] → rest n ≡ []
  rest_none n e = rw (e, take-nil)

  pub rest_end : (n : ℕ) → n ≡ min ((length s - at) / 2) room → rest n ≡ []
  rest_end n e =
      cases (holds? (ltb n room))
      (λ t. let h : n < room = ltb-true n room t in rest_none n (by_end table s (at + 2 * n) (omega arith)))
      (λ t. let h : room ≤ n = ltb-false n room t in let z : room - n ≡ 0 = omega arith in rw z)
