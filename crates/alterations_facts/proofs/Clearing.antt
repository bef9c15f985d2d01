-- What clearing leaves of the bits: of a list m that is l with some listed bits cleared, each bit.
-- Assumes nothing.
use Prim.Native.Nat.{ℕ, zero, suc, ◌+◌, ◌-◌, ◌≤◌, ◌<◌}
use native.Mathlib.Omega.{arith}
use mathlib.Core.Bool.{Bool, false, not, ◌||◌, ◌&&◌}
use mathlib.Core.List.{List, [], ◌∷◌, ◌++◌}
use mathlib.Core.Path.{◌≡◌, refl, sym, ap, ◌∙◌}
use borrow.Author.Tests.{eqb-true, eqb-false, ltb-true, ltb-false, eq-eqb, ne_eqb}
use lib.Dec.{T, eqb, ltb}
use lib.ListN.{length, get_or, set, length-append, get_or-append}
use lib.Seq.{get_or-set_same, get_or-set_other, get_or-append-add}
use Rattle.octets.specs.Bits.{bit, clear, clear_at}
use Rattle.octets.specs.Little.{Bytes}
use Rattle.octets.proofs.Bits.{clear_length}
use Rattle.octets.proofs.Cases.{cases, holds?}
use Rattle.octets.proofs.Little.{bytes_at, bytes_append}
use Rattle.alterations.proofs.Places.{Below}
use Rattle.alterations_facts.specs.Named.{bit_at, among, is_listed}
use Rattle.alterations_facts.proofs.Truth.{and_true, or_false, or_assoc, and_neither}
use Rattle.alterations_facts.proofs.Tables.{clears, cleared_bit}

pub record Clears (k : List (ℕ × List ℕ)) (l m : List ℕ) : Type 0 where
  pub long : length m ≡ length l
  pub bytes : Bytes m
  pub each : (i b : ℕ) → b < 8 → bit_at m i b ≡ (bit_at l i b && not (is_listed k i b))

-- nothing
pub clears_none : (l : List ℕ) → Bytes l → Clears [] l l
clears_none l y = record { long = refl; bytes = y; each = λ i b h. sym (and_true (bit_at l i b)) }

-- bits side by side in one byte
bytes_set : (l : List ℕ) (i x : ℕ) → Bytes l → x < 256 → Bytes (set l i x)
bytes_set [] i x y h = tt
bytes_set (z ∷ l) zero x y h = (h, y.1)
bytes_set (z ∷ l) (suc i) x y h = (y.0, bytes_set l i x y.1 h)

pub clears_at : (place at count : ℕ) (bits : List ℕ) (l : List ℕ) → T (clears at count bits) → Bytes l → place < length l →
    Clears ((place, bits) ∷ []) l (clear_at place at count l)
clears_at place at count bits l t y h =
    let byte = get_or l place 0 in
    let low = bytes_at l place y in
    record {
      long = clear_length l place at count;
      bytes = bytes_set l place (clear at count byte) y (omega arith);
      each = λ i b k.
          cases (holds? (eqb i place))
          (λ e.
          let same : i ≡ place = eqb-true i place e in
          simp (e, or_false (among bits b))
          (ap (λ (j : ℕ). bit (get_or (clear_at place at count l) j 0) b) same
          ∙ ap (λ (x : ℕ). bit x b) (get_or-set_same l place (clear at count byte) 0 h)
          ∙ cleared_bit at count bits t byte b low k
          ∙ ap (λ (j : ℕ). bit_at l j b && not (among bits b)) (sym same)))
          (λ f.
          simp f
          (ap (λ (x : ℕ). bit x b) (get_or-set_other l place i (clear at count byte) 0 (eqb-false i place f))
          ∙ sym (and_true (bit_at l i b))));
    }

-- one clearing and then another
pub listed_append : (k l : List (ℕ × List ℕ)) (i b : ℕ) → is_listed (k ++ l) i b ≡ (is_listed k i b || is_listed l i b)
listed_append [] l i b = refl
listed_append (x ∷ k) l i b =
    ap (λ (rest : Bool). (eqb i x.0 && among x.1 b) || rest) (listed_append k l i b)
    ∙ or_assoc (eqb i x.0 && among x.1 b) (is_listed k i b) (is_listed l i b)

pub clears_on : {k j : List (ℕ × List ℕ)} {l m o : List ℕ} → Clears k l m → Clears j m o → Clears (k ++ j) l o
clears_on {k} {j} {l} {m} {o} c d =
    record {
      long = d.long ∙ c.long;
      bytes = d.bytes;
      each = λ i b h.
          d.each i b h
          ∙ ap (λ (x : Bool). x && not (is_listed j i b)) (c.each i b h)
          ∙ and_neither (bit_at l i b) (is_listed k i b) (is_listed j i b)
          ∙ ap (λ (x : Bool). bit_at l i b && not x) (sym (listed_append k j i b));
    }

-- the same bits, listed in another way
pub clears_as : {k j : List (ℕ × List ℕ)} {l m : List ℕ} → ((i b : ℕ) → is_listed k i b ≡ is_listed j i b) → Clears k l m → Clears j l m
clears_as {k} {j} {l} {m} e c =
    record {
      long = c.long;
      bytes = c.bytes;
      each = λ i b h. c.each i b h ∙ ap (λ (x : Bool). bit_at l i b && not x) (e i b);
    }

-- two lists side by side: the places of the second follow the first
abbrev pub shifted : ℕ → List (ℕ × List ℕ) → List (ℕ × List ℕ)
shifted n [] = []
shifted n (x ∷ l) = (n + x.0, x.1) ∷ shifted n l

pub listed_before : (n : ℕ) (l : List (ℕ × List ℕ)) (i b : ℕ) → Below n l → n ≤ i → is_listed l i b ≡ false
listed_before n [] i b h k = refl
listed_before n (x ∷ l) i b h k =
    simp (ne_eqb i x.0 (λ e. absurd (omega (arith, h.0)))) (listed_before n l i b h.1 k)

shifted_before : (n : ℕ) (l : List (ℕ × List ℕ)) (i b : ℕ) → i < n → is_listed (shifted n l) i b ≡ false
shifted_before n [] i b h = refl
shifted_before n (x ∷ l) i b h =
    simp (ne_eqb i (n + x.0) (λ e. absurd (omega arith))) (shifted_before n l i b h)

eqb_add : (n i j : ℕ) → eqb (n + i) (n + j) ≡ eqb i j
eqb_add n i j =
    cases (holds? (eqb i j))
    (λ t. let e : i ≡ j = eqb-true i j t in eq-eqb (n + i) (n + j) (ap (λ (k : ℕ). n + k) e) ∙ sym t)
    (λ f. let e = eqb-false i j f in ne_eqb (n + i) (n + j) (λ g. e (omega (arith, g))) ∙ sym f)

shifted_behind : (n : ℕ) (l : List (ℕ × List ℕ)) (i b : ℕ) → is_listed (shifted n l) (n + i) b ≡ is_listed l i b
shifted_behind n [] i b = refl
shifted_behind n (x ∷ l) i b = λ j. (eqb_add n i x.0 j && among x.1 b) || shifted_behind n l i b j

module _ {k j : List (ℕ × List ℕ)} {l m p q : List ℕ} (n : ℕ) (c : Clears k l m) (d : Clears j p q) (e : length l ≡ n)
    (h : Below n k) where
  before : (i b : ℕ) → b < 8 → i < n → bit_at (m ++ q) i b ≡ (bit_at (l ++ p) i b && not (is_listed (k ++ shifted n j) i b))
  before i b small near =
      let told : is_listed (k ++ shifted n j) i b ≡ is_listed k i b =
      listed_append k (shifted n j) i b
      ∙ ap (λ (x : Bool). is_listed k i b || x) (shifted_before n j i b near)
      ∙ or_false (is_listed k i b) in
      let long = c.long in
      ap (λ (x : ℕ). bit x b) (get_or-append m q 0 i (omega (arith, long, e)))
      ∙ c.each i b small
      ∙ ap (λ (x : ℕ). bit x b && not (is_listed k i b)) (sym (get_or-append l p 0 i (omega (arith, e))))
      ∙ ap (λ (x : Bool). bit_at (l ++ p) i b && not x) (sym told)

  behind : (i b : ℕ) → b < 8 → bit_at (m ++ q) (n + i) b ≡ (bit_at (l ++ p) (n + i) b && not (is_listed (k ++ shifted n j) (n + i) b))
  behind i b small =
      let told : is_listed (k ++ shifted n j) (n + i) b ≡ is_listed j i b =
      listed_append k (shifted n j) (n + i) b
      ∙ (λ t. listed_before n k (n + i) b h (omega arith) t || shifted_behind n j i b t) in
      let first : get_or (m ++ q) (n + i) 0 ≡ get_or q i 0 =
      ap (λ (n : ℕ). get_or (m ++ q) (n + i) 0) (sym (c.long ∙ e)) ∙ get_or-append-add m q i 0 in
      let second : get_or (l ++ p) (n + i) 0 ≡ get_or p i 0 =
      ap (λ (n : ℕ). get_or (l ++ p) (n + i) 0) (sym e) ∙ get_or-append-add l p i 0 in
      ap (λ (x : ℕ). bit x b) first
      ∙ d.each i b small
      ∙ ap (λ (x : ℕ). bit x b && not (is_listed j i b)) (sym second)
      ∙ ap (λ (x : Bool). bit_at (l ++ p) (n + i) b && not x) (sym told)

  pub clears_beside : Clears (k ++ shifted n j) (l ++ p) (m ++ q)
  clears_beside =
      let one = c.long in
      let two = d.long in
      record {
        long = omega (arith, length-append m q, length-append l p);
        bytes = bytes_append m q c.bytes d.bytes;
        each = λ i b small.
            cases (holds? (ltb i n)) (λ t. before i b small (ltb-true i n t))
            (λ f.
            let far : n ≤ i = ltb-false i n f in
            let place : n + (i - n) ≡ i = omega arith in
            rw place at (behind (i - n) b small));
      }
