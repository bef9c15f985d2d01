-- The list that alterations tells names exactly the bits that are set and listed.
-- Assumes nothing.
use Prim.Native.Nat.{ℕ, zero, suc, ◌+◌, ◌<◌}
use native.Mathlib.Omega.{arith}
use mathlib.Core.Bool.{Bool, true, false, cond, ◌||◌, ◌&&◌}
use mathlib.Core.List.{List, [], ◌∷◌, ◌++◌}
use mathlib.Core.Path.{◌≡◌, refl, sym, ap, ◌∙◌}
use borrow.Author.Tests.{eqb-true, eqb-false, eq-eqb}
use lib.Dec.{eqb}
use lib.ListN.{get_or}
use Rattle.octets.specs.{Bits.bit, Little.number, Little.Bytes}
use Rattle.octets.proofs.Cases.{cases, holds?, neither}
use Rattle.octets.proofs.Little.{bytes_at}
use Rattle.header_bytes.specs.Layout.{source_end, header_end}
use Rattle.time_slots.specs.TimeSlots.{slot_count_in}
use Rattle.beacon.specs.Beacon.{pending_place}
use Rattle.alterations.specs.Listed.{header_bits, direction_bits, beacon_bits, holds_beacon, listed}
use Rattle.alterations.specs.Altered.{mask, altered_at, altered_in}
use Rattle.alterations_facts.specs.Named.{bit_at, named, among, is_listed}
use Rattle.alterations_facts.proofs.Truth.{and_false, or_false, or_assoc, and_or}
use Rattle.alterations_facts.proofs.Tables.{Listable, listable, directions_listable, by_bits, zero_bit}

-- each byte's listed bits can be told by a mask
abbrev pub AllListable : List (ℕ × List ℕ) → Type 0
AllListable [] = Unit
AllListable (x ∷ l) = Listable x.1 × AllListable l

all_append : (a b : List (ℕ × List ℕ)) → AllListable a → AllListable b → AllListable (a ++ b)
all_append [] b h k = k
all_append (x ∷ a) b h k = (h.0, all_append a b h.1 k)

all_cond : (on : Bool) (l : List (ℕ × List ℕ)) → AllListable l → AllListable (cond on l [])
all_cond true l h = h
all_cond false l h = tt

header_listable : (w : ℕ) → AllListable (header_bits w)
unfolding mask
header_listable w = (
  listable (7 ∷ []) tt tt,
  (
    listable (0 ∷ 1 ∷ []) tt tt,
    all_cond (bit w 3) ((source_end w, 5 ∷ 6 ∷ 7 ∷ []) ∷ []) (listable (5 ∷ 6 ∷ 7 ∷ []) tt tt, tt),
  ),
)

slots_listable : (n place : ℕ) → n < 8 → AllListable (direction_bits n place)
slots_listable zero place h = tt
slots_listable (suc k) place h = (directions_listable (suc k) h, tt)

beacon_listable : (s : List ℕ) (at : ℕ) → AllListable (beacon_bits s at)
unfolding mask
beacon_listable s at =
    let count = slot_count_in s (at + 2) in (
      listable (5 ∷ []) tt tt,
      (
        listable (3 ∷ 4 ∷ 5 ∷ 6 ∷ []) tt tt,
        all_append (direction_bits count (at + 3)) ((pending_place s at, 3 ∷ 7 ∷ []) ∷ []) (slots_listable count (at + 3) (omega arith))
            (listable (3 ∷ 7 ∷ []) tt tt, tt),
      ),
    )

pub listed_listable : (s : List ℕ) → AllListable (listed s)
listed_listable s =
    let w = number s 0 2 in
    all_append (header_bits w) (cond (holds_beacon w) (beacon_bits s (header_end s w)) []) (header_listable w)
    (all_cond (holds_beacon w) (beacon_bits s (header_end s w)) (beacon_listable s (header_end s w)))

-- side by side
named_append : (k l : List (ℕ × ℕ)) (i b : ℕ) → named (k ++ l) i b ≡ (named k i b || named l i b)
named_append [] l i b = refl
named_append (x ∷ k) l i b =
    ap (λ (rest : Bool). (eqb i x.0 && bit x.1 b) || rest) (named_append k l i b)
    ∙ or_assoc (eqb i x.0 && bit x.1 b) (named k i b) (named l i b)

-- one byte
named_at : (place m i b : ℕ) → b < 8 → named (altered_at place m) i b ≡ (eqb i place && bit m b)
named_at place m i b h =
    cases (holds? (eqb m 0))
    (λ t.
    let e : m ≡ 0 = eqb-true m 0 t in
    simp t (sym (ap (λ (m : ℕ). eqb i place && bit m b) e ∙ ap (λ (c : Bool). eqb i place && c) (zero_bit b h) ∙ and_false (eqb i place))))
    (λ f. simp f (or_false (eqb i place && bit m b)))

-- Named is what is set and listed.
pub named_altered : (s : List ℕ) (l : List (ℕ × List ℕ)) (i b : ℕ) → Bytes s → AllListable l → b < 8 →
    named (altered_in s l) i b ≡ (bit_at s i b && is_listed l i b)
named_altered s [] i b y h k = sym (and_false (bit_at s i b))
named_altered s (x ∷ l) i b y h k =
    let place = x.0 in
    let byte = get_or s place 0 in
    let m = mask x.1 byte in
    let rest = is_listed l i b in
    let here = among x.1 b in
    let told : named (altered_in s (x ∷ l)) i b ≡ ((eqb i place && (bit byte b && here)) || (bit_at s i b && rest)) =
    named_append (altered_at place m) (altered_in s l) i b
    ∙ (λ j. (named_at place m i b k ∙ ap (λ (c : Bool). eqb i place && c) (h.0.masked byte b (bytes_at s place y) k)) j
    || named_altered s l i b y h.1 k j) in
    told ∙ cases (holds? (eqb i place))
    (λ t.
    let e : i ≡ place = eqb-true i place t in
    simp t (ap (λ (c : ℕ). (bit (get_or s c 0) b && here) || (bit_at s i b && rest)) (sym e) ∙ and_or (bit_at s i b) here rest))
    (λ f. simp f)

-- A list of masks with a bit each that names nothing is empty.
abbrev pub Solid : List (ℕ × ℕ) → Type 0
Solid [] = Unit
Solid (x ∷ l) = ((x.1 ≡ 0 → ⊥) × (x.1 < 256)) × Solid l

solid_append : (k l : List (ℕ × ℕ)) → Solid k → Solid l → Solid (k ++ l)
solid_append [] l h j = j
solid_append (x ∷ k) l h j = (h.0, solid_append k l h.1 j)

pub solid_altered : (s : List ℕ) (l : List (ℕ × List ℕ)) → Bytes s → AllListable l → Solid (altered_in s l)
solid_altered s [] y h = tt
solid_altered s (x ∷ l) y h =
    let m = mask x.1 (get_or s x.0 0) in
    solid_append (altered_at x.0 m) (altered_in s l)
    (cases (holds? (eqb m 0)) (λ t. simp t tt)
    (λ f. simp f ((eqb-false m 0 f, h.0.small (get_or s x.0 0) (bytes_at s x.0 y)), tt)))
    (solid_altered s l y h.1)

pub names_nothing : (l : List (ℕ × ℕ)) → Solid l → ((i b : ℕ) → b < 8 → named l i b ≡ false) → l ≡ []
names_nothing [] h e = refl
names_nothing ((place, m) ∷ l) h e =
    absurd
    (h.0.0
    (by_bits m 0 h.0.1 (omega arith)
    (λ b k.
    let none = (neither (eqb place place && bit m b) (named l place b) (e place b k)).0 in
    ap (λ (on : Bool). on && bit m b) (sym (eq-eqb place place refl)) ∙ none ∙ sym (zero_bit b k))))
