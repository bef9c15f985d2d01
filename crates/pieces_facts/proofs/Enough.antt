-- What the whole reader says of bytes s, by how many of them are needed: 1 where one is missing, else the refusal of the frame control,
-- which three bytes tell, or the header, which is so long.
-- Assumes nothing.
use Prim.Native.Nat.{ℕ, ◌+◌, ◌≤◌, ◌<◌}
use native.Mathlib.Omega.{arith}
use mathlib.Core.Bool.{true, false}
use mathlib.Core.List.{List, ◌++◌}
use mathlib.Core.Logic.{◌⊎◌, inl, inr}
use mathlib.Core.Path.{◌≡◌, refl, sym, ap, ◌∙◌}
use borrow.Author.Tests.{ltb-true, ltb-false, leb-true, lt-ltb, le-ltb}
use lib.Dec.{ltb, leb}
use lib.ListN.{length, take, drop, replicate, length-append, length-take, take-append-drop}
use lib.Seq.{length-take-le}
use Rattle.std.specs.Prelude.{Result, Ok, Err}
use Rattle.octets.specs.declared.Refusal.{Refusal}
use Rattle.octets.specs.declared.Refusal.TheVariants.{Ended}
use Rattle.octets.specs.{Bits.bit, Little.number}
use Rattle.octets.specs.Outcome.{refusal_number, number_of}
use Rattle.octets.proofs.Accepted.{never, one_value}
use Rattle.octets.proofs.Cases.{cases, holds?, both}
use Rattle.octets.proofs.Little.{number_more}
use Rattle.header_bytes.specs.Layout.{source_end, header_end}
use Rattle.header_bytes.specs.Reading.{measured}
use Rattle.header_bytes.proofs.Accepted.{measured_most}
use Rattle.header_bytes.proofs.Passed.{measured_passed}
use Rattle.header_bytes.proofs.Sizes.{control_inside}
use Rattle.header.specs.declared.Header.{Header}
use Rattle.header.specs.Read.{header_in, read_header, read_outcome}
use Rattle.header.proofs.Apart.{read_measured, together, refused_read}
use Rattle.header_facts.proofs.Trip.{unread}
use Rattle.pieces.specs.Needed.{control_unseen, needed}
use Rattle.pieces.proofs.Prefix.{faulty, fault, fault_two, measured_by_lem, needed_rest, needed_by_lem}
use Rattle.pieces.proofs.Prefix.{needed_bounds, needed_settled, needed_grows}
use Rattle.pieces_facts.specs.Enough.{Enough}

-- one is missing, or all are there
pub missing? : (s : List ℕ) → (length s < needed s) ⊎ (needed s ≤ length s)
missing? s =
    cases (holds? (ltb (length s) (needed s)))
    (λ t. inl (ltb-true (length s) (needed s) t))
    (λ f. inr (ltb-false (length s) (needed s) f))

-- With no refusal of the frame control w: no more than the whole header is needed, and what is there shows the security control.
rest_most : (s : List ℕ) (w : ℕ) → needed_rest s w ≤ header_end s w
rest_most s w =
    cases (holds? (control_unseen (length s) w))
    (λ unseen. let inside = control_inside w s (both (bit w 3) (leb (length s) (source_end w)) unseen).0 in simp unseen (omega arith))
    (λ seen. simp seen (omega arith))

rest_whole : (s : List ℕ) (w : ℕ) → needed_rest s w ≤ length s → needed_rest s w ≡ header_end s w
rest_whole s w h =
    cases (holds? (control_unseen (length s) w))
    (λ unseen.
    let missing = leb-true (length s) (source_end w) (both (bit w 3) (leb (length s) (source_end w)) unseen).1 in
    let there : source_end w + 1 ≤ length s = rw unseen at h in
    absurd (omega arith))
    (λ seen. simp seen)

outcome_number : (r : Result (Header × ℕ) Refusal) → number_of (read_outcome r) ≡ number_of r
outcome_number (Ok p) = refl
outcome_number (Err r) = refl

module _ (s : List ℕ) where
  abbrev w : ℕ
  w = number s 0 2

  -- how many where the frame control refuses, and where it does not
  needed_refused : 3 ≤ length s → faulty w ≡ true → needed s ≡ 3
  needed_refused there some = rw (needed_by_lem s there, some)

  needed_passed : 3 ≤ length s → faulty w ≡ false → needed s ≡ needed_rest s w
  needed_passed there none = rw (needed_by_lem s there, none)

  -- what measuring says: 1 where one is missing, else the refusal of the frame control, or the length
  measured_below : ltb (length s) 3 ≡ true → measured s ≡ Err Ended
  unfolding measured
  measured_below short = simp short

  measured_short : length s < needed s → measured s ≡ Err Ended
  measured_short h =
      cases (holds? (ltb (length s) 3)) measured_below
      (λ three.
      let there = ltb-false (length s) 3 three in
      cases (holds? (faulty w))
      (λ some. absurd (omega (arith, needed_refused there some)))
      (λ none.
      let cut : ltb (length s) (header_end s w) ≡ true =
      lt-ltb (length s) (header_end s w) (omega (arith, needed_passed there none, rest_most s w)) in
      measured_by_lem s there ∙ simp (none, cut)))

  measured_refused : 3 ≤ length s → faulty w ≡ true → measured s ≡ Err (fault w)
  measured_refused there some = measured_by_lem s there ∙ simp some

  measured_whole : needed s ≤ length s → faulty w ≡ false → measured s ≡ Ok (needed s)
  measured_whole h none =
      let there : 3 ≤ length s = omega (arith, (needed_bounds s).0) in
      let rest = needed_passed there none in
      let end : needed s ≡ header_end s w = rest ∙ rest_whole s w (omega arith) in
      let whole : ltb (length s) (header_end s w) ≡ false = le-ltb (length s) (header_end s w) (omega arith) in
      measured_by_lem s there ∙ simp (none, whole) (ap (λ (n : ℕ). Ok n) (sym end))

  -- these three are all that there is
  by_need : {C : Type 0} → (length s < needed s → measured s ≡ Err Ended → C) → (measured s ≡ Ok (needed s) → C) →
      (measured s ≡ Err (fault w) → needed s ≡ 3 → C) →
      C
  by_need short whole refusal =
      cases (missing? s) (λ missing. short missing (measured_short missing))
      (λ there.
      let three : 3 ≤ length s = omega (arith, (needed_bounds s).0) in
      cases (holds? (faulty w))
      (λ some. refusal (measured_refused three some) (needed_refused three some))
      (λ none. whole (measured_whole there none)))

  -- what is read, by what measuring says
  read_told : (r : Result (Header × ℕ) Refusal) → read_header s ≡ r → measured s ≡ read_outcome r
  read_told r e = sym (read_measured s) ∙ ap read_outcome e

  read_number : number_of (read_header s) ≡ number_of (measured s)
  read_number = sym (outcome_number (read_header s)) ∙ ap number_of (read_measured s)

  pub number_most : number_of (read_header s) ≤ 5
  number_most = omega (arith, read_number, (measured_most s).0)

  read_short : length s < needed s → read_header s ≡ Err Ended
  read_short h = sym (refused_read s Ended (sym (measured_short h)))

  pub not_one : needed s ≤ length s → number_of (read_header s) ≡ 1 → ⊥
  not_one h one =
      by_need (λ missing short. omega arith) (λ whole. omega (arith, one, read_number, ap number_of whole))
      (λ refusal three. omega (arith, one, read_number, ap number_of refusal, fault_two w))

  read_length : (h : Header) (n : ℕ) → read_header s ≡ Ok (h, n) → needed s ≡ n
  read_length h n e =
      let read = read_told (Ok (h, n)) e in
      by_need (λ missing short. absurd (never (sym short ∙ read))) (λ whole. one_value (sym whole ∙ read))
      (λ refusal three. absurd (never (sym refusal ∙ read)))

  read_refusal : (r : Refusal) → 1 < refusal_number r → read_header s ≡ Err r → needed s ≡ 3
  read_refusal r two e =
      let read = read_told (Err r) e in
      by_need (λ missing short. absurd (omega (arith, two, ap number_of short, ap number_of read)))
      (λ whole. absurd (never (sym read ∙ whole))) (λ refusal three. three)

  -- bytes behind alter neither the header nor the frame control's refusal
  read_refused : 3 ≤ length s → faulty w ≡ true → read_header s ≡ Err (fault w)
  read_refused there some = sym (refused_read s (fault w) (sym (measured_refused there some)))

  read_whole : needed s ≤ length s → faulty w ≡ false → read_header s ≡ Ok (header_in s w, header_end s w)
  read_whole h none = together s w (measured_passed s (ap number_of (measured_whole h none))).0

read_more : (s more : List ℕ) → needed s ≤ length s → read_header (s ++ more) ≡ read_header s
read_more s more h =
    let word = number s 0 2 in
    let there : 3 ≤ length s = omega (arith, (needed_bounds s).0) in
    let longer : length (s ++ more) ≡ length s + length more = length-append s more in
    let same : number (s ++ more) 0 2 ≡ word = number_more s more 0 2 (omega arith) in
    cases (holds? (faulty word))
    (λ some.
    read_refused (s ++ more) (omega arith) (ap faulty same ∙ some)
    ∙ ap (λ (v : ℕ). Err (fault v)) same
    ∙ sym (read_refused s there some))
    (λ none. let read = read_whole s h none in unread s (header_in s word) (header_end s word) more read ∙ sym read)

-- where one is missing still with bytes behind, one is missing without them
pub needed_missing : (s more : List ℕ) → length s < needed (s ++ more) → length s < needed s
needed_missing s more h =
    cases (missing? s) (λ missing. missing) (λ there. absurd (omega (arith, needed_settled s more there)))

-- so it is of every beginning
beginning : (s : List ℕ) (k : ℕ) → k < needed s → length (take k s) < needed (take k s)
beginning s k h =
    let whole : needed (take k s ++ drop k s) ≡ needed s = ap needed (take-append-drop k s) in
    needed_missing (take k s) (drop k s) (omega (arith, length-take k s))

-- 37 bytes behind are enough, whatever they are
enough_behind : (s : List ℕ) → read_header (s ++ replicate 37 0) ≡ Err Ended → ⊥
enough_behind s =
    let all = s ++ replicate 37 0 in
    let longer : length all ≡ length s + 37 = length-append s (replicate 37 0) in
    λ e. not_one all (omega (arith, (needed_bounds all).1)) (ap number_of e)

pub enough : (s : List ℕ) → Enough s
enough s = record {
  three = (needed_bounds s).0;
  most = (needed_bounds s).1;
  decided = λ there more. read_more s more there;
  answered = λ there e. not_one s there (ap number_of e);
  short = read_short s;
  undecided = λ missing. (replicate 37 0, enough_behind s);
  earlier = λ k h. read_short (take k s) (beginning s k h);
  accepted = read_length s;
  refused = read_refusal s;
}

-- of the bytes needed the whole reader says what it says of them all
pub read_front : (s : List ℕ) → needed s ≤ length s → read_header (take (needed s) s) ≡ read_header s
read_front s h =
    let front = take (needed s) s in
    let rest = drop (needed s) s in
    let whole : front ++ rest ≡ s = take-append-drop (needed s) s in
    let long : length front ≡ needed s = length-take-le (needed s) s h in
    let same : needed (front ++ rest) ≡ needed s = ap needed whole in
    sym ((enough front).decided (omega (arith, needed_grows front rest)) rest) ∙ ap read_header whole
