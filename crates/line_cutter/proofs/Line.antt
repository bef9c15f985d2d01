-- Laws of one line at a time: where the bytes before a wanted one end, and what a line is made of.
-- Assumes nothing.
use Prim.Native.Nat.{ℕ, suc, ◌+◌, ◌-◌, ◌≤◌, ◌<◌}
use native.Mathlib.Nat.{add-zero}
use native.Mathlib.Numerals.{add-one}
use native.Mathlib.Omega.{arith}
use mathlib.Core.Bool.{true, false, ◌||◌, or-true, false≢true}
use mathlib.Core.List.{List, [], ◌∷◌, ◌++◌, append_assoc}
use mathlib.Core.Path.{◌≡◌, refl, sym, ap, ◌∙◌}
use borrow.Author.Tests.{ltb-true, ltb-false, lt-ltb, le-ltb, eqb-true, eq-eqb, ne_eqb}
use lib.Dec.{ltb, eqb}
use lib.ListN.{length, get_or, take, drop, length-append, length-take, length-drop, drop_of_length-le}
use lib.Seq.{get_or-drop, drop-cons, take_all, take-nil, take_at, take-append-add, length-take-le, drop-drop, split_at}
use Rattle.octets.specs.Buffer.{laid, fitting}
use Rattle.octets.proofs.Buffer.{laid_none, laid_parts}
use Rattle.octets.proofs.Cases.{cases, holds?, neither}
use Rattle.line_cutter.specs.declared.Taken.{Taken}
use Rattle.line_cutter.specs.Line.{before, is_at, line_of, line_ends, behind, taken}

-- one byte at a time
pub before_first : (a b : ℕ) (s : List ℕ) (i : ℕ) → i < length s → get_or s i 0 ≡ a → before a b (drop i s) ≡ []
unfolding before
before_first a b s i h e = rw (drop-cons s i 0 h) (simp (eq-eqb _ _ e))

pub before_second : (a b : ℕ) (s : List ℕ) (i : ℕ) → i < length s → get_or s i 0 ≡ b → before a b (drop i s) ≡ []
unfolding before
before_second a b s i h e = rw (drop-cons s i 0 h) (simp (eq-eqb _ _ e, or-true))

pub before_neither : (a b : ℕ) (s : List ℕ) (i : ℕ) → i < length s → (get_or s i 0 ≡ a → ⊥) → (get_or s i 0 ≡ b → ⊥) →
    before a b (drop i s) ≡ get_or s i 0 ∷ before a b (drop (i + 1) s)
unfolding before
before_neither a b s i h e f = rw (add-one i, drop-cons s i 0 h) (simp (ne_eqb _ _ e, ne_eqb _ _ f))

pub before_end : (a b : ℕ) (s : List ℕ) (i : ℕ) → length s ≤ i → before a b (drop i s) ≡ []
unfolding before
before_end a b s i h = rw (drop_of_length-le s h)

-- they are the front of the list
pub before_take : (a b : ℕ) (s : List ℕ) → take (length (before a b s)) s ≡ before a b s
unfolding before
before_take a b [] = refl
before_take a b (c ∷ s) = cases (holds? (eqb c a || eqb c b)) (λ e. simp e) (λ e. simp (e, before_take a b s))

pub before_part : (a b at end : ℕ) (s : List ℕ) → end ≡ at + length (before a b s) → take (end - at) s ≡ before a b s
before_part a b at end s e = let f : end - at ≡ length (before a b s) = omega arith in rw f (before_take a b s)

pub before_length : (a b : ℕ) (s : List ℕ) → length (before a b s) ≤ length s
unfolding before
before_length a b [] = omega arith
before_length a b (c ∷ s) =
    cases (holds? (eqb c a || eqb c b)) (λ e. simp e (omega arith))
    (λ e. simp e (omega (arith, before_length a b s)))

-- no element of a list is a
abbrev pub Free : ℕ → List ℕ → Type 0
Free a [] = Unit
Free a (c ∷ s) = (eqb c a ≡ false) × Free a s

pub free_append : (a : ℕ) (s t : List ℕ) → Free a s → Free a t → Free a (s ++ t)
free_append a [] t f g = g
free_append a (c ∷ s) t f g = (f.0, free_append a s t f.1 g)

-- neither of two wanted bytes stands before the first of them
pub free_first : (a b : ℕ) (s : List ℕ) → Free a (before a b s)
unfolding before
free_first a b [] = tt
free_first a b (c ∷ s) =
    cases (holds? (eqb c a || eqb c b)) (λ e. simp e tt) (λ e. simp e ((neither (eqb c a) (eqb c b) e).0, free_first a b s))

pub free_second : (a b : ℕ) (s : List ℕ) → Free b (before a b s)
unfolding before
free_second a b [] = tt
free_second a b (c ∷ s) =
    cases (holds? (eqb c a || eqb c b)) (λ e. simp e tt) (λ e. simp e ((neither (eqb c a) (eqb c b) e).1, free_second a b s))

-- the first of its kind
pub before_free : (a : ℕ) (s t : List ℕ) → Free a s → before a a (s ++ (a ∷ t)) ≡ s
unfolding before
before_free a [] t f = simp (eq-eqb a a refl)
before_free a (c ∷ s) t f = simp (f.0, before_free a s t f.1)

pub before_stop : (a : ℕ) (s : List ℕ) → length (before a a s) < length s → get_or s (length (before a a s)) 0 ≡ a
unfolding before
before_stop a [] h = absurd (omega arith)
before_stop a (c ∷ s) h =
    cases (holds? (eqb c a))
    (λ e. simp e (eqb-true c a e))
    (λ e. let k : suc (length (before a a s)) < suc (length s) = simp e at h in simp e (before_stop a s (omega arith)))

-- a list parted at the first wanted byte
pub before_part_at : (a b : ℕ) (s : List ℕ) → length (before a b s) < length s →
    s ≡ before a b s ++ (get_or s (length (before a b s)) 0 ∷ drop (length (before a b s) + 1) s)
before_part_at a b s h =
    split_at s (length (before a b s)) 0 h
    ∙ rw (before_take a b s, add-one)

-- a line feed, or the end, stands behind a line
pub line_ended : (s : List ℕ) → line_ends s ≡ true → s ≡ line_of s ++ (10 ∷ behind s)
line_ended s h =
    let k : length (line_of s) < length s = ltb-true _ _ h in
    before_part_at 10 10 s k ∙ ap (λ (b : ℕ). line_of s ++ (b ∷ behind s)) (before_stop 10 s k)

pub line_open : (s : List ℕ) → line_ends s ≡ false → line_of s ≡ s
line_open s h = sym (before_take 10 10 s) ∙ take_all (length (line_of s)) s (ltb-false _ _ h)

-- what is taken: nothing where the chunk is used up, else a line with its line feed, or all that is left
pub taken_none : (chunk : List ℕ) (at n : ℕ) (line : List ℕ) → length chunk ≤ at →
    (record { n = n; at = at; ended = false } ≡ taken (drop at chunk) at line n) × (line ≡ laid line n (fitting line n (line_of (drop at chunk))))
unfolding taken before
taken_none chunk at n line h =
    rw (drop_of_length-le chunk h) (simp (take-nil, add-zero), rw take-nil (sym (laid_none line n)))

module _ (s : List ℕ) (at : ℕ) (line : List ℕ) (n end kept : ℕ) (e : end ≡ at + length (line_of s)) (f : kept ≡ n + length (fitting line n (line_of s))) where
  pub taken_ended : length (line_of s) < length s → record { n = kept; at = end + 1; ended = true } ≡ taken s at line n
  unfolding taken
  taken_ended h = rw (e, f) (simp (lt-ltb _ _ h))

  pub taken_open : length s ≤ length (line_of s) → record { n = kept; at = end; ended = false } ≡ taken s at line n
  unfolding taken
  taken_open h = rw (e, f) (simp (le-ltb _ _ h))

-- what is then kept of the line: as much as has room
pub kept : (line : List ℕ) (n : ℕ) (x : List ℕ) → n ≤ length line →
    take (n + length (fitting line n x)) (laid line n (fitting line n x)) ≡ take (length line) (take n line ++ x)
kept line n x h =
    let room = length line - n in
    let f = fitting line n x in
    let front : length (take n line) ≡ n = length-take-le n line h in
    let fits : n + length f ≤ length line = omega (arith, length-take room x) in
    let both : length (take n line ++ f) ≡ n + length f = rw (length-append, front) in
    let whole : length line ≡ length (take n line) + room = omega arith in
    ap (take (n + length f)) (laid_parts line n f fits ∙ sym (append_assoc (take n line) f (drop (n + length f) line)))
    ∙ take_at (take n line ++ f) (drop (n + length f) line) (n + length f) both
    ∙ sym (ap (λ (k : ℕ). take k (take n line ++ x)) whole ∙ take-append-add (take n line) x room)

-- what was taken, and what is left of the chunk
module _ (chunk : List ℕ) (at : ℕ) (line : List ℕ) (n : ℕ) (r : Taken) (e : r ≡ taken (drop at chunk) at line n) where
  pub taken_kept : (line' : List ℕ) → line' ≡ laid line n (fitting line n (line_of (drop at chunk))) → n ≤ length line →
      take r.n line' ≡ take (length line) (take n line ++ line_of (drop at chunk))
  unfolding taken
  taken_kept line' f h = rw (e, f) (kept line n (line_of (drop at chunk)) h)

  pub taken_end : r.ended ≡ line_ends (drop at chunk)
  unfolding taken
  taken_end = ap (λ (t : Taken). t.ended) e

  pub taken_n : r.n ≡ n + length (fitting line n (line_of (drop at chunk)))
  unfolding taken
  taken_n = ap (λ (t : Taken). t.n) e

  pub taken_small : n ≤ length line → (r.n ≤ length line) × (r.n ≤ n + length (line_of (drop at chunk)))
  taken_small h =
      let x = line_of (drop at chunk) in
      (omega (arith, taken_n, length-take (length line - n) x), omega (arith, taken_n, length-take (length line - n) x))

  pub taken_feed : line_ends (drop at chunk) ≡ true → r.at ≡ at + length (line_of (drop at chunk)) + 1
  unfolding taken
  taken_feed h = ap (λ (t : Taken). t.at) e ∙ simp h

  pub taken_all : line_ends (drop at chunk) ≡ false → r.at ≡ at + length (line_of (drop at chunk))
  unfolding taken
  taken_all h = ap (λ (t : Taken). t.at) e ∙ simp h

  pub taken_behind : line_ends (drop at chunk) ≡ true → drop r.at chunk ≡ behind (drop at chunk)
  taken_behind h =
      let x = length (line_of (drop at chunk)) in
      let f : r.at ≡ at + (x + 1) = omega (arith, taken_feed h) in
      rw f (sym (drop-drop (x + 1) at chunk))

  pub taken_rest : at ≤ length chunk → line_ends (drop at chunk) ≡ false → drop r.at chunk ≡ []
  taken_rest k h =
      let f : length chunk ≤ r.at = omega (arith, taken_all h, ap length (line_open (drop at chunk) h), length-drop at chunk) in
      drop_of_length-le chunk f

-- a byte is there, and is the one
pub there : (s : List ℕ) (i b : ℕ) → is_at s i b ≡ true → (i < length s) × (get_or s i 0 ≡ b)
there s i b h =
    cases (holds? (ltb i (length s)))
    (λ e. (ltb-true i (length s) e, eqb-true (get_or s i 0) b (simp e at h)))
    (λ e. absurd (false≢true (simp e at h)))

-- a list parted at a place, of which a part behind another is a part of the whole
pub split_there : (s : List ℕ) (at i p b : ℕ) → p ≡ at + i → p < length s → get_or s p 0 ≡ b → drop at s ≡ take i (drop at s) ++ (b ∷ drop (p + 1) s)
split_there s at i p b e h g =
    let k : i < length (drop at s) = omega (arith, length-drop at s) in
    let f : at + suc i ≡ p + 1 = omega arith in
    split_at (drop at s) i 0 k ∙ rw (get_or-drop at s i 0, sym e, g, drop-drop (suc i) at s, f)
