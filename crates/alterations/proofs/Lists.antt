-- Laws of the list of a frame's altered bits.
-- Assumes nothing.
use Prim.Native.Nat.{ℕ}
use mathlib.Core.Bool.{Bool, true, false, true≢false, cond, not, ◌&&◌}
use mathlib.Core.List.{List, [], ◌∷◌, ◌++◌, append-nil, append_assoc}
use mathlib.Core.Path.{◌≡◌, refl, sym, ap, ◌∙◌}
use lib.Dec.{eqb}
use lib.ListN.{get_or}
use Rattle.octets.specs.{Bits.bits, Bits.bit, Little.number}
use Rattle.header_bytes.specs.Layout.{source_end, header_end}
use Rattle.alterations.specs.Listed.{header_bits, beacon_bits, holds_beacon, listed}
use Rattle.alterations.specs.Altered.{mask, altered_at, altered_in}

pub altered_append : (s : List ℕ) (a b : List (ℕ × List ℕ)) → altered_in s (a ++ b) ≡ altered_in s a ++ altered_in s b
altered_append s [] b = refl
altered_append s (x ∷ a) b =
    ap (λ (l : List (ℕ × ℕ)). altered_at x.0 (mask x.1 (get_or s x.0 0)) ++ l) (altered_append s a b)
    ∙ sym (append_assoc (altered_at x.0 (mask x.1 (get_or s x.0 0))) (altered_in s a) (altered_in s b))

-- a header with and without its security control
pub secured_bits : (w : ℕ) → bit w 3 ≡ true →
    header_bits w ≡ (0, 7 ∷ []) ∷ (1, 0 ∷ 1 ∷ []) ∷ (source_end w, 5 ∷ 6 ∷ 7 ∷ []) ∷ []
secured_bits w e = simp e

pub unsecured_bits : (w : ℕ) → bit w 3 ≡ false → header_bits w ≡ (0, 7 ∷ []) ∷ (1, 0 ∷ 1 ∷ []) ∷ []
unsecured_bits w e = simp e

-- a frame that holds a beacon is not secured, so that the beacon stands where the source ends
right_fails : (a b : Bool) → (a && not b) ≡ true → b ≡ false
right_fails a false e = refl
right_fails true true e = absurd (true≢false (sym e))
right_fails false true e = absurd (true≢false (sym e))

pub beacon_unsecured : (w : ℕ) → holds_beacon w ≡ true → bit w 3 ≡ false
beacon_unsecured w e = right_fails (eqb (bits w 0 3) 0) (bit w 3) e

pub listed_alone : (s : List ℕ) → holds_beacon (number s 0 2) ≡ false → header_bits (number s 0 2) ≡ listed s
listed_alone s e =
    sym (append-nil (header_bits (number s 0 2)))
    ∙ ap (λ (on : Bool). header_bits (number s 0 2) ++ cond on (beacon_bits s (header_end s (number s 0 2))) []) (sym e)

pub listed_beacon : (s : List ℕ) → holds_beacon (number s 0 2) ≡ true →
    header_bits (number s 0 2) ++ beacon_bits s (source_end (number s 0 2)) ≡ listed s
listed_beacon s e =
    let w = number s 0 2 in
    let place : source_end w ≡ header_end s w = simp (beacon_unsecured w e) in
    ap (λ (n : ℕ). header_bits w ++ beacon_bits s n) place
    ∙ ap (λ (on : Bool). header_bits w ++ cond on (beacon_bits s (header_end s w)) []) (sym e)
