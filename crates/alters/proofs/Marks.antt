-- Laws of bits that are told one after the other, each behind its mark.
-- Assumes nothing.
use Prim.Native.Nat.{ℕ, ◌+◌, ◌/◌, ◌%◌, ◌^◌, ◌<◌}
use native.Mathlib.Numerals.{add-one}
use native.Mathlib.Omega.{arith}
use mathlib.Core.List.{List, [], ◌∷◌, ◌++◌, append-nil, append_assoc, map, flat_map}
use mathlib.Core.Path.{◌≡◌, refl, sym, ap, ◌∙◌}
use borrow.Author.Tests.{eq-eqb, ne_eqb}
use lib.ListN.{length, get_or, take}
use lib.Seq.{take-suc}
use Rattle.std.proofs.lemmas.List.{map-append}
use Rattle.octets.proofs.Lists.{flat_append}
use Rattle.line_cutter.specs.Line.{tab_byte}
use Rattle.labelled.specs.Put.{Put}
use Rattle.labelled.proofs.Putting.{join, same}
use Rattle.alters.specs.Answer.{dash, space, told, bits_told, column}
use Rattle.alterations.specs.declared.AlteredByte.{AlteredByte}
use Rattle.alterations.specs.Bytes.{pair, altered_byte}
use Rattle.alters.specs.Bits.{bits_below, bits_of}
use Rattle.alters.specs.Steps.{marked, next_mark}

still : (a : List (ℕ × ℕ)) → next_mark space a ≡ space
still [] = refl
still (x ∷ a) = refl

-- some bits and then others
pub marked_on : (mark : ℕ) (a b : List (ℕ × ℕ)) → marked mark a ++ marked (next_mark mark a) b ≡ marked mark (a ++ b)
unfolding marked
marked_on mark [] b = refl
marked_on mark (x ∷ a) b =
    ap (λ (l : List ℕ). mark ∷ l)
    (append_assoc (told x) (marked space a) (marked space b)
    ∙ ap (λ (m : ℕ). told x ++ (marked space a ++ marked m b)) (sym (still a))
    ∙ ap (λ (l : List ℕ). told x ++ l) (marked_on space a b))

pub mark_on : (mark : ℕ) (a b : List (ℕ × ℕ)) → next_mark (next_mark mark a) b ≡ next_mark mark (a ++ b)
mark_on mark [] b = refl
mark_on mark (x ∷ a) b = still b

-- one bit more that is set, or not
module _ (place mask k : ℕ) where
  pub below_set : mask / 2 ^ k % 2 ≡ 1 → bits_below place mask k ++ ((place, k) ∷ []) ≡ bits_below place mask (k + 1)
  unfolding bits_below
  below_set h = rw add-one (simp (eq-eqb (mask / 2 ^ k % 2) 1 h))

  pub below_clear : (mask / 2 ^ k % 2 ≡ 1 → ⊥) → bits_below place mask k ≡ bits_below place mask (k + 1)
  unfolding bits_below
  below_clear h = rw add-one (simp (ne_eqb (mask / 2 ^ k % 2) 1 h, append-nil))

-- bits told, and others behind them
pub told_on : (mark before : ℕ) (a b : List (ℕ × ℕ)) {l m o : List ℕ} {at next r : ℕ} → before ≡ next_mark mark a →
    Put l at (marked mark a) m next → Put m next (marked before b) o r →
    Put l at (marked mark (a ++ b)) o r
told_on mark before a b e s t =
    same (ap (λ (k : ℕ). marked mark a ++ marked k b) e ∙ marked_on mark a b) (join s t)

pub mark_behind : (mark before : ℕ) (a b : List (ℕ × ℕ)) → before ≡ next_mark mark a → next_mark before b ≡ next_mark mark (a ++ b)
mark_behind mark before a b e = ap (λ (k : ℕ). next_mark k b) e ∙ mark_on mark a b

-- one bit more, told where it is set
told_one : (mark : ℕ) (b : ℕ × ℕ) → mark ∷ told b ≡ marked mark (b ∷ [])
unfolding marked
told_one mark b = ap (λ (l : List ℕ). mark ∷ l) (sym (append-nil (told b)))

module _ (mark before place mask k : ℕ) {l m : List ℕ} {at next : ℕ} (e : before ≡ next_mark mark (bits_below place mask k))
    (s : Put l at (marked mark (bits_below place mask k)) m next) where
  pub told_set : {o : List ℕ} {r : ℕ} → mask / 2 ^ k % 2 ≡ 1 → Put m next (before ∷ told (place, k)) o r →
      Put l at (marked mark (bits_below place mask (k + 1))) o r × (space ≡ next_mark mark (bits_below place mask (k + 1)))
  told_set h t =
      let b = below_set place mask k h in
      let one : List (ℕ × ℕ) = (place, k) ∷ [] in (
        same (ap (marked mark) b) (told_on mark before (bits_below place mask k) one e s (same (told_one before (place, k)) t)),
        mark_behind mark before (bits_below place mask k) one e ∙ ap (next_mark mark) b,
      )

  pub told_clear : (mask / 2 ^ k % 2 ≡ 1 → ⊥) →
      Put l at (marked mark (bits_below place mask (k + 1))) m next × (before ≡ next_mark mark (bits_below place mask (k + 1)))
  told_clear h = let b = below_clear place mask k h in (same (ap (marked mark) b) s, e ∙ ap (next_mark mark) b)

-- the bits of one byte more
pub one_more : (bytes : List AlteredByte) (k : ℕ) → k < length bytes →
    bits_of (map pair (take k bytes)) ++ bits_below (get_or bytes k (altered_byte (0, 0))).place (get_or bytes k (altered_byte (0, 0))).mask 8
    ≡ bits_of (map pair (take (k + 1) bytes))
unfolding flat_map
one_more bytes k h =
    let b = get_or bytes k (altered_byte (0, 0)) in
    let before = map pair (take k bytes) in
    rw add-one
    (ap (λ (bits : List (ℕ × ℕ)). bits_of before ++ bits) (sym (append-nil (bits_below b.place b.mask 8)))
    ∙ sym (flat_append (λ (b : ℕ × ℕ). bits_below b.0 b.1 8) before (pair b ∷ []))
    ∙ ap bits_of (sym (map-append pair (take k bytes) (b ∷ [])))
    ∙ ap (λ (l : List AlteredByte). bits_of (map pair l)) (sym (take-suc bytes k (altered_byte (0, 0)) h)))

-- bits behind spaces
spaced : (bits : List (ℕ × ℕ)) → marked space bits ≡ flat_map (λ (b : ℕ × ℕ). space ∷ told b) bits
unfolding marked flat_map
spaced [] = refl
spaced (b ∷ bits) = ap (λ (l : List ℕ). space ∷ (told b ++ l)) (spaced bits)

-- where the mark is still the tab there was no bit
pub dashed : (bits : List (ℕ × ℕ)) → next_mark tab_byte bits ≡ tab_byte → marked tab_byte bits ++ (tab_byte ∷ dash ∷ []) ≡ column bits
unfolding marked bits_told
dashed [] e = refl
dashed (b ∷ bits) e = absurd (omega (arith, e))

pub undashed : (bits : List (ℕ × ℕ)) → (next_mark tab_byte bits ≡ tab_byte → ⊥) → marked tab_byte bits ≡ column bits
unfolding marked bits_told
undashed [] f = absurd (f refl)
undashed (b ∷ bits) f = ap (λ (l : List ℕ). tab_byte ∷ (told b ++ l)) (spaced bits)
