-- How many bytes of a header are needed, by its frame control w: three where w refuses by itself, else those up to the security control
-- while that is unseen, and then the whole header. The first two bytes fix w, and the byte behind the source is the security control: so
-- bytes behind alter the number only where they show that control, and then it grows.
-- Assumes nothing.
use Prim.Native.Nat.{ℕ, ◌+◌, ◌≤◌, ◌<◌}
use native.Mathlib.Omega.{arith}
use mathlib.Core.Bool.{Bool, true, false, true≢false, cond, ◌||◌}
use mathlib.Core.List.{List, [], ◌∷◌, ◌++◌}
use mathlib.Core.Path.{◌≡◌, refl, sym, ap, ◌∙◌}
use borrow.Author.Tests.{ltb-true, ltb-false, leb-true, leb-false, eqb-true, le-ltb, lt-ltb, le-leb, lt-leb}
use lib.Dec.{ltb, leb, eqb}
use lib.ListN.{length, length-append}
use Rattle.std.specs.Prelude.{Ok, Err}
use Rattle.octets.specs.declared.Refusal.{Refusal}
use Rattle.octets.specs.declared.Refusal.TheVariants.{Ended, Version, FrameType, AddressMode, NoDestination}
use Rattle.octets.specs.{Bits.bits, Bits.bit, Little.number, Order.first}
use Rattle.octets.specs.Outcome.{Outcome, refusal_number, number_of, answered}
use Rattle.octets.proofs.Cases.{cases, holds?, both}
use Rattle.octets.proofs.Little.{number_more}
use Rattle.header_bytes.specs.Layout.{pan_size, address_size, destination_end, source_end, header_end}
use Rattle.header_bytes.specs.Reading.{unshared, measured}
use Rattle.header_bytes.proofs.Sizes.{source_end_lem, header_end_lem, control_inside}
use Rattle.pieces.specs.Needed.{control_unseen, needed}

-- That a frame control w refuses, by its five tests: version, type, the two address modes and compression; and the refusal of the first
-- that holds, the last one's where none does.
abbrev pub faulty : ℕ → Bool
faulty w = eqb (bits w 12 2) 3 || (eqb (bits w 0 3) 4 || (eqb (bits w 10 2) 1 || (eqb (bits w 14 2) 1 || unshared w)))

abbrev faults : Bool → Bool → Bool → Bool → Refusal
faults version type destination source =
    first ((version, Version) ∷ (type, FrameType) ∷ (destination, AddressMode) ∷ (source, AddressMode) ∷ []) NoDestination

abbrev pub fault : ℕ → Refusal
fault w = faults (eqb (bits w 12 2) 3) (eqb (bits w 0 3) 4) (eqb (bits w 10 2) 1) (eqb (bits w 14 2) 1)

-- 2 to 5
faults_two : (v t d s : Bool) → 1 < refusal_number (faults v t d s)
faults_two true t d s = omega arith
faults_two false true d s = omega arith
faults_two false false true s = omega arith
faults_two false false false true = omega arith
faults_two false false false false = omega arith

pub fault_two : (w : ℕ) → 1 < refusal_number (fault w)
fault_two w = faults_two (eqb (bits w 12 2) 3) (eqb (bits w 0 3) 4) (eqb (bits w 10 2) 1) (eqb (bits w 14 2) 1)

-- what measuring says where three bytes are there: the frame control's refusal, else 1 or the length n, by whether the header is cut short
abbrev pub measured_by : Bool → Refusal → Bool → ℕ → Outcome
measured_by refused refusal short n = cond refused (Err refusal) (cond short (Err Ended) (Ok n))

-- The tests in their order say so: "1 destination" does not hold where 5 does, and it and "1 source" hold only where the last one does.
in_order : (v t d s c toShort fromShort short : Bool) (n : ℕ) → (c ≡ true → toShort ≡ false) →
    (short ≡ false → (toShort ≡ false) × (fromShort ≡ false)) →
    answered
    ((v, Version) ∷ (t, FrameType) ∷ (d, AddressMode) ∷ (s, AddressMode) ∷ (toShort, Ended) ∷ (c, NoDestination) ∷ (fromShort, Ended) ∷
    (short, Ended) ∷ []) n
    ≡ measured_by (v || (t || (d || (s || c)))) (faults v t d s) short n
in_order true t d s c a b z n f g = refl
in_order false true d s c a b z n f g = refl
in_order false false true s c a b z n f g = refl
in_order false false false true c a b z n f g = refl
in_order false false false false true true b z n f g = absurd (true≢false (f refl))
in_order false false false false true false b z n f g = refl
in_order false false false false false true b true n f g = refl
in_order false false false false false false true true n f g = refl
in_order false false false false false false false true n f g = refl
in_order false false false false false true b false n f g = absurd (true≢false (g refl).0)
in_order false false false false false false true false n f g = absurd (true≢false (g refl).1)
in_order false false false false false false false false n f g = refl

-- compression with no destination: it ends where the addresses begin
unshared_end : (w : ℕ) → unshared w ≡ true → destination_end w ≡ 3
unshared_end w e =
    ap (λ (mode : ℕ). 3 + (pan_size (ltb 1 mode) + address_size mode)) (eqb-true (bits w 10 2) 0 (both (bit w 6) (eqb (bits w 10 2) 0) e).1)

pub measured_by_lem : (s : List ℕ) → 3 ≤ length s →
    measured s
    ≡ measured_by (faulty (number s 0 2)) (fault (number s 0 2)) (ltb (length s) (header_end s (number s 0 2))) (header_end s (number s 0 2))
unfolding measured
measured_by_lem s three =
    let w = number s 0 2 in
    let there : ltb (length s) 3 ≡ false = le-ltb (length s) 3 three in
    rw there
    (in_order (eqb (bits w 12 2) 3) (eqb (bits w 0 3) 4) (eqb (bits w 10 2) 1) (eqb (bits w 14 2) 1) (unshared w)
    (ltb (length s) (destination_end w)) (ltb (length s) (source_end w)) (ltb (length s) (header_end s w)) (header_end s w)
    (λ c. le-ltb (length s) (destination_end w) (omega (arith, unshared_end w c)))
    (λ whole.
    let end = ltb-false (length s) (header_end s w) whole in
    let source : source_end w ≤ length s = omega (arith, (header_end_lem w s).0) in
    (le-ltb (length s) (destination_end w) (omega arith), le-ltb (length s) (source_end w) source)))

-- Below three bytes three are needed; with them, three where the frame control refuses, else what the rest of it tells.
pub needed_short : (s : List ℕ) → length s < 3 → needed s ≡ 3
unfolding needed
needed_short s h = let short : ltb (length s) 3 ≡ true = lt-ltb (length s) 3 h in simp short

abbrev pub needed_rest : List ℕ → ℕ → ℕ
needed_rest s w = cond (control_unseen (length s) w) (source_end w + 1) (header_end s w)

-- measuring says more than 1 exactly where the frame control refuses
measured_two : (refused short : Bool) (refusal : Refusal) (n : ℕ) → 1 < refusal_number refusal →
    ltb 1 (number_of (measured_by refused refusal short n)) ≡ refused
measured_two true short refusal n h = lt-ltb 1 (refusal_number refusal) h
measured_two false true refusal n h = refl
measured_two false false refusal n h = refl

pub needed_by_lem : (s : List ℕ) → 3 ≤ length s → needed s ≡ cond (faulty (number s 0 2)) 3 (needed_rest s (number s 0 2))
unfolding needed
needed_by_lem s three =
    let w = number s 0 2 in
    let there : ltb (length s) 3 ≡ false = le-ltb (length s) 3 three in
    let refused : ltb 1 (number_of (measured s)) ≡ faulty w =
    ap (λ (o : Outcome). ltb 1 (number_of o)) (measured_by_lem s three)
    ∙ measured_two (faulty w) (ltb (length s) (header_end s w)) (fault w) (header_end s w) (fault_two w) in
    cases (holds? (faulty w)) (λ some. simp (there, refused, some)) (λ none. simp (there, refused, none))

-- at least three, at most the longest header
rest_bounds : (s : List ℕ) (w : ℕ) → (3 ≤ needed_rest s w) × (needed_rest s w ≤ 37)
rest_bounds s w =
    let source = source_end_lem w in
    let whole = header_end_lem w s in
    cases (holds? (control_unseen (length s) w)) (λ t. simp t (omega arith, omega arith)) (λ f. simp f (omega arith, omega arith))

pub needed_bounds : (s : List ℕ) → (3 ≤ needed s) × (needed s ≤ 37)
needed_bounds s =
    let w = number s 0 2 in
    cases (holds? (ltb (length s) 3))
    (λ short. rw (needed_short s (ltb-true (length s) 3 short)) (omega arith, omega arith))
    (λ there. rw (needed_by_lem s (ltb-false (length s) 3 there))
    (cases (holds? (faulty w)) (λ some. simp some (omega arith, omega arith)) (λ none. simp none (rest_bounds s w))))

longer : (s t : List ℕ) → length s ≤ length (s ++ t)
longer s t = omega (arith, length-append s t)

-- Bytes t behind s, with the frame control w.
module _ (s t : List ℕ) (w : ℕ) where
  -- they alter nothing where the security control is seen, or there is none
  pub seen_more : control_unseen (length s) w ≡ false → needed_rest (s ++ t) w ≡ needed_rest s w
  seen_more seen =
      cases (holds? (bit w 3))
      (λ on.
      let here : leb (length s) (source_end w) ≡ false = rw on at seen in
      let there : source_end w < length s = leb-false (length s) (source_end w) here in
      let still : leb (length (s ++ t)) (source_end w) ≡ false = lt-leb (length (s ++ t)) (source_end w) (omega (arith, longer s t)) in
      let control : number (s ++ t) (source_end w) 1 ≡ number s (source_end w) 1 = number_more s t (source_end w) 1 (omega arith) in
      simp (on, here, still, control))
      (λ off. simp off)

  -- nor while it is unseen
  unseen_more : control_unseen (length s) w ≡ true → length (s ++ t) ≤ source_end w → needed_rest (s ++ t) w ≡ needed_rest s w
  unseen_more unseen h =
      let control = both (bit w 3) (leb (length s) (source_end w)) unseen in
      let still : leb (length (s ++ t)) (source_end w) ≡ true = le-leb (length (s ++ t)) (source_end w) h in
      simp (control.0, control.1, still)

  -- so what is there settles the number, as long as one is missing it stays, and it never falls
  rest_settled : needed_rest s w ≤ length s → needed_rest (s ++ t) w ≡ needed_rest s w
  rest_settled h =
      cases (holds? (control_unseen (length s) w))
      (λ unseen.
      let missing = leb-true (length s) (source_end w) (both (bit w 3) (leb (length s) (source_end w)) unseen).1 in
      let there : source_end w + 1 ≤ length s = rw unseen at h in
      absurd (omega arith))
      seen_more

  rest_open : length (s ++ t) < needed_rest s w → needed_rest (s ++ t) w ≡ needed_rest s w
  rest_open h =
      cases (holds? (control_unseen (length s) w))
      (λ unseen. let missing : length (s ++ t) < source_end w + 1 = rw unseen at h in unseen_more unseen (omega arith))
      seen_more

  rest_grows : needed_rest s w ≤ needed_rest (s ++ t) w
  rest_grows =
      cases (holds? (control_unseen (length s) w))
      (λ unseen.
      let inside = control_inside w (s ++ t) (both (bit w 3) (leb (length s) (source_end w)) unseen).0 in
      cases (holds? (control_unseen (length (s ++ t)) w))
      (λ still. simp (unseen, still) (omega arith))
      (λ seen. simp (unseen, seen) (omega arith)))
      (λ seen. omega (arith, seen_more seen))

-- Bytes t behind s with its first three: what holds of three and of the rest holds of the numbers needed, since s fixes the frame control.
either : (b : Bool) (P : ℕ → ℕ → Type 0) (n m : ℕ) → P 3 3 → P n m → P (cond b 3 n) (cond b 3 m)
either true P n m three rest = three
either false P n m three rest = rest

needed_more : (P : ℕ → ℕ → Type 0) (s t : List ℕ) → 3 ≤ length s → P 3 3 →
    P (needed_rest s (number s 0 2)) (needed_rest (s ++ t) (number s 0 2)) →
    P (needed s) (needed (s ++ t))
needed_more P s t there three rest =
    let w = number s 0 2 in
    let same : number (s ++ t) 0 2 ≡ w = number_more s t 0 2 (omega arith) in
    rw (needed_by_lem s there, needed_by_lem (s ++ t) (omega (arith, longer s t)), same)
    (either (faulty w) P (needed_rest s w) (needed_rest (s ++ t) w) three rest)

-- where the bytes needed are there, bytes behind alter nothing
pub needed_settled : (s t : List ℕ) → needed s ≤ length s → needed (s ++ t) ≡ needed s
needed_settled s t h =
    let three = (needed_bounds s).0 in
    needed_more (λ n m. n ≤ length s → m ≡ n) s t (omega arith) (λ there. refl) (rest_settled s t (number s 0 2)) h

-- nor where one is missing still
pub needed_open : (s t : List ℕ) → length (s ++ t) < needed s → needed (s ++ t) ≡ needed s
needed_open s t h =
    cases (holds? (ltb (length s) 3))
    (λ short.
    let few : needed s ≡ 3 = needed_short s (ltb-true (length s) 3 short) in
    needed_short (s ++ t) (omega arith) ∙ sym few)
    (λ there.
    needed_more (λ n m. length (s ++ t) < n → m ≡ n) s t (ltb-false (length s) 3 there) (λ missing. refl)
    (rest_open s t (number s 0 2)) h)

-- and it never falls
pub needed_grows : (s t : List ℕ) → needed s ≤ needed (s ++ t)
needed_grows s t =
    cases (holds? (ltb (length s) 3))
    (λ short.
    let few : needed s ≡ 3 = needed_short s (ltb-true (length s) 3 short) in
    omega (arith, (needed_bounds (s ++ t)).0))
    (λ there. needed_more (λ n m. n ≤ m) s t (ltb-false (length s) 3 there) (omega arith) (rest_grows s t (number s 0 2)))
