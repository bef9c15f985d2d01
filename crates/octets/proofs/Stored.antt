-- Stores one after the other: a few bytes by hand, and two stores that are one.
-- Assumes nothing.
use Prim.Native.Nat.{ℕ, suc, ◌+◌, ◌≤◌}
use native.Mathlib.Nat.{add-zero, add_assoc}
use native.Mathlib.Numerals.{add-one}
use native.Mathlib.Omega.{arith}
use mathlib.Core.List.{List, [], ◌∷◌, ◌++◌}
use mathlib.Core.Path.{◌≡◌, refl, sym, ap, ◌∙◌, subst}
use lib.ListN.{length, set, take, drop, length-append}
use lib.Seq.{take_at}
use Rattle.octets.specs.Buffer.{laid}
use Rattle.octets.proofs.Buffer.{laid_none, laid_join, laid_all}
use Rattle.octets.specs.Stored.{Stored}

pub none : (l : List ℕ) (at : ℕ) → Stored l at [] l at
none l at = record { bytes = sym (laid_none l at); next = sym (add-zero at) }

module _ (l : List ℕ) (at a b : ℕ) where
  pub two : Stored l at (a ∷ b ∷ []) (set (set l at a) (at + 1) b) (at + 2)
  unfolding laid
  two = record { bytes = rw add-one; next = refl }

  pub three : (c : ℕ) → Stored l at (a ∷ b ∷ c ∷ []) (set (set (set l at a) (at + 1) b) (at + 2) c) (at + 3)
  unfolding laid
  three c = let e : at + 2 ≡ suc (suc at) = omega arith in record { bytes = rw (e, add-one); next = refl }

  pub four : (c d : ℕ) → Stored l at (a ∷ b ∷ c ∷ d ∷ []) (set (set (set (set l at a) (at + 1) b) (at + 2) c) (at + 3) d) (at + 4)
  unfolding laid
  four c d =
      let e : at + 2 ≡ suc (suc at) = omega arith in
      let f : at + 3 ≡ suc (suc (suc at)) = omega arith in
      record { bytes = rw (f, e, add-one); next = refl }

pub join : {l m o a b : List ℕ} {at next r : ℕ} → Stored l at a m next → Stored m next b o r → Stored l at (a ++ b) o r
join {l} {m} {o} {a} {b} {at} {next} {r} s t = record {
  bytes = t.bytes ∙ ap (λ (x : List ℕ). laid x next b) s.bytes ∙ laid_join l at next (length a) a b refl s.next;
  next = t.next ∙ ap (λ (n : ℕ). n + length b) s.next ∙ add_assoc at (length a) (length b)
      ∙ ap (λ (n : ℕ). at + n) (sym (length-append a b));
}

-- the same bytes by another name
pub same : {l o a b : List ℕ} {at r : ℕ} → a ≡ b → Stored l at a o r → Stored l at b o r
same {l} {o} {a} {b} {at} {r} e s = subst (λ (x : List ℕ). Stored l at x o r) e s

-- what is stored at the beginning is found there
pub front : (l b : List ℕ) (n : ℕ) → length b ≡ n → n ≤ length l → take n (laid l 0 b) ≡ b
front l b n e h = ap (take n) (laid_all l b n e h) ∙ take_at b (drop n l) n e
