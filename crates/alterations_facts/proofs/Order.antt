-- The list is in the order of the bytes, and names none of them twice.
-- Assumes nothing.
use Prim.Native.Nat.{ℕ, zero, suc, ◌+◌, ◌≤◌, ◌<◌}
use native.Mathlib.Omega.{arith}
use mathlib.Core.List.{List, [], ◌∷◌, ◌++◌}
use mathlib.Core.Path.{sym, ap, ◌∙◌, subst}
use lib.Dec.{eqb}
use lib.ListN.{get_or}
use Rattle.octets.specs.{Bits.bit, Little.number}
use Rattle.octets.proofs.Cases.{cases, holds?}
use Rattle.header_bytes.specs.Layout.{source_end}
use Rattle.header_bytes.proofs.Sizes.{source_end_lem}
use Rattle.time_slots.specs.TimeSlots.{slots_length, slot_count_in}
use Rattle.alterations.specs.Listed.{direction_bits, beacon_bits, holds_beacon, listed}
use Rattle.alterations.specs.Altered.{mask, altered_in}
use Rattle.alterations.proofs.Lists.{secured_bits, unsecured_bits, beacon_unsecured, listed_alone, listed_beacon}
use Rattle.alterations_facts.specs.Named.{Above, Rising}

-- bytes that are left out break no order
above_less : {A : Type 0} (p q : ℕ) (l : List (ℕ × A)) → p < q → Above q l → Above p l
above_less p q [] h k = tt
above_less p q (x ∷ l) h k = (omega (arith, k.0), k.1)

above_altered : (s : List ℕ) (p : ℕ) (l : List (ℕ × List ℕ)) → Above p l → Above p (altered_in s l)
above_altered s p [] h = tt
above_altered s p (x ∷ l) h =
    let rest = above_altered s x.0 l h.1 in
    cases (holds? (eqb (mask x.1 (get_or s x.0 0)) 0))
    (λ t. simp t (above_less p x.0 (altered_in s l) h.0 rest))
    (λ f. simp f (h.0, rest))

above_rising : {A : Type 0} (p : ℕ) (l : List (ℕ × A)) → Above p l → Rising l
above_rising p [] h = tt
above_rising p (x ∷ l) h = h.1

pub rising_altered : (s : List ℕ) (l : List (ℕ × List ℕ)) → Rising l → Rising (altered_in s l)
rising_altered s [] h = tt
rising_altered s (x ∷ l) h =
    let rest = above_altered s x.0 l h in
    cases (holds? (eqb (mask x.1 (get_or s x.0 0)) 0))
    (λ t. simp t (above_rising x.0 (altered_in s l) rest))
    (λ f. simp f rest)

-- the listed bytes of a frame
slots_above : (at count : ℕ) (bits : List ℕ) →
    Above (at + 2) (direction_bits count (at + 3) ++ ((at + 2 + (1 + slots_length count), bits) ∷ []))
slots_above at zero bits = (omega arith, tt)
slots_above at (suc k) bits = (omega arith, (omega arith, tt))

beacon_above : (s : List ℕ) (at p : ℕ) → p ≤ at → Above p (beacon_bits s at)
beacon_above s at p h = (omega arith, (omega arith, slots_above at (slot_count_in s (at + 2)) (3 ∷ 7 ∷ [])))

pub listed_rising : (s : List ℕ) → Rising (listed s)
listed_rising s =
    let w = number s 0 2 in
    let three = (source_end_lem w).0 in
    cases (holds? (holds_beacon w))
    (λ on.
    let header = unsecured_bits w (beacon_unsecured w on) in
    subst Rising (ap (λ (l : List (ℕ × List ℕ)). l ++ beacon_bits s (source_end w)) (sym header) ∙ listed_beacon s on)
    (omega arith, beacon_above s (source_end w) 1 (omega (arith, three))))
    (λ off.
    subst Rising (listed_alone s off)
    (cases (holds? (bit w 3))
    (λ t. subst Rising (sym (secured_bits w t)) (omega arith, (omega (arith, three), tt)))
    (λ f. subst Rising (sym (unsecured_bits w f)) (omega arith, tt))))
