-- Laws of stores that take as much as has room: one after the other they are one, and with room all is stored.
-- Assumes nothing.
use Prim.Native.Nat.{ℕ, ◌+◌, ◌-◌, ◌≤◌, ◌<◌}
use native.Mathlib.Omega.{arith}
use mathlib.Core.List.{List, [], ◌∷◌, ◌++◌}
use mathlib.Core.Path.{◌≡◌, refl, sym, ap, ◌∙◌, subst}
use borrow.Author.Tests.{leb-true, leb-false}
use lib.Dec.{leb}
use lib.ListN.{length, set, take, drop, length-append, length-take, take-append-drop}
use lib.Seq.{length-take-le}
use Rattle.octets.specs.Buffer.{laid, fitting}
use Rattle.octets.specs.Stored.{Stored}
use Rattle.octets.proofs.Buffer.{laid_none, laid_cons, laid_length, laid_past, laid_join, stored_on}
use Rattle.octets.proofs.Cases.{cases, holds?}
use Rattle.octets.proofs.Copying.{fitting_all}
use Rattle.octets.proofs.Decided.{one_answer}
use Rattle.labelled.specs.Put.{Put}

-- two stores
pub join : {l m o a b : List ℕ} {at next r : ℕ} → Put l at a m next → Put m next b o r → Put l at (a ++ b) o r
join {l} {m} {o} {a} {b} {at} {next} {r} s t =
    let both = stored_on l at a (length a) b (length b) refl (s.next, s.bytes) (t.next, t.bytes) in
    record { bytes = both.1; next = rw (length-append a b) both.0 }

-- the same bytes by another name
pub same : {l o a b : List ℕ} {at r : ℕ} → a ≡ b → Put l at a o r → Put l at b o r
same {l} {o} {a} {b} {at} {r} e s = subst (λ (x : List ℕ). Put l at x o r) e s

-- with room all is stored
pub roomy : {l b o : List ℕ} {at r : ℕ} → at + length b ≤ length l → Put l at b o r → Stored l at b o r
roomy {l} {b} {o} {at} {r} h s = record { bytes = s.bytes; next = omega (arith, s.next) }

pub full : {l b o : List ℕ} {at r : ℕ} → at + length b ≤ length l → Stored l at b o r → Put l at b o r
full {l} {b} {o} {at} {r} h s = record { bytes = s.bytes; next = omega (arith, s.next) }

-- place and buffer that a contract of this shape allows coincide
pub one_put : {l b o p : List ℕ} {at r q : ℕ} → Put l at b o r → Put l at b p q → (r ≡ q) × (o ≡ p)
one_put s t = (one_answer s.next t.next, one_answer s.bytes t.bytes)

module _ (l : List ℕ) (at : ℕ) where
  pub none : Put l at [] l at
  none = record { bytes = sym (laid_none l at); next = omega arith }

  -- one byte with room, and nothing without
  pub one : (b : ℕ) → at < length l → Put l at (b ∷ []) (set l at b) (at + 1)
  one b h = record { bytes = sym (laid_none (set l at b) (at + 1)) ∙ laid_cons l at b []; next = omega arith }

  pub past : (b : List ℕ) → length l ≤ at → Put l at b l at
  past b h = record { bytes = sym (laid_past l at b h); next = omega arith }

  -- as `copy` says it
  laid_fitting : (s : List ℕ) → laid l at (fitting l at s) ≡ laid l at s
  laid_fitting s =
      let room = length l - at in
      cases (holds? (leb (length s) room))
      (λ t. ap (laid l at) (fitting_all l at s (leb-true _ _ t)))
      (λ t.
      let h : room < length s = leb-false _ _ t in
      let k : length (take room s) ≡ room = length-take-le room s (omega arith) in
      sym (laid_past (laid l at (take room s)) (at + room) (drop room s) (omega (arith, laid_length l at (take room s))))
      ∙ laid_join l at (at + room) room (take room s) (drop room s) k refl
      ∙ ap (laid l at) (take-append-drop room s))

  pub copied : (s : List ℕ) {o : List ℕ} {r : ℕ} → (r ≡ at + length (fitting l at s)) × (o ≡ laid l at (fitting l at s)) → Put l at s o r
  copied s e = record { bytes = e.1 ∙ laid_fitting s; next = omega (arith, e.0, length-take (length l - at) s) }
