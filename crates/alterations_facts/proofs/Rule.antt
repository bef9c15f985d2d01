-- The engineer's rule: what rewriting alters in a frame is what the list names.
-- Assumes nothing.
use Prim.Native.Nat.{ℕ, suc, ◌≤◌, ◌<◌}
use native.Mathlib.Omega.{arith}
use mathlib.Core.Bool.{Bool, true, false, true≢false, cond, not, ◌&&◌}
use mathlib.Core.List.{List, [], ◌∷◌, ◌++◌, append_assoc}
use mathlib.Core.Path.{◌≡◌, refl, sym, ap, ◌∙◌, subst}
use borrow.Author.Tests.{ltb-true, ltb-false}
use lib.Dec.{ltb, eqb}
use lib.ListN.{length, get_or, take, drop, get_or-append}
use lib.Seq.{take_at, drop_at, get_or-take, length-take-le}
use Rattle.octets.specs.{Bits.bit, Little.number, Little.Bytes}
use Rattle.octets.proofs.Cases.{cases, holds?}
use Rattle.octets.proofs.Little.{bytes_take, bytes_drop, bytes_append}
use Rattle.header_bytes.specs.{Layout.header_end, Cleared.header_cleared}
use Rattle.header_bytes.proofs.Cleared.{header_cleared_length}
use Rattle.header.specs.declared.Header.{Header}
use Rattle.header.specs.Read.{header_in, read_header}
use Rattle.header_facts.specs.Rewritten.{lost}
use Rattle.header_facts.proofs.Trip.{header_rewritten, unread}
use Rattle.beacon.specs.Beacon.{refuses, beacon_length_in, read_beacon, beacon_bytes}
use Rattle.beacon_facts.specs.Cleared.{beacon_cleared}
use Rattle.beacon_facts.proofs.Trip.{beacon_rewritten}
use Rattle.alterations.specs.Listed.{holds_beacon, listed}
use Rattle.alterations.specs.Rewriting.{rewrite_frame, frame_cleared}
use Rattle.alterations.specs.Altered.{mask, altered_at, altered_in, altered, told, alterations}
use Rattle.alterations.proofs.Answers.{Accepted, frame_accepted, frame_accepts}
use Rattle.alterations.proofs.Places.{Below}
use Rattle.alterations.proofs.Told.{altered_some}
use Rattle.alterations_facts.specs.Named.{bit_at, named, is_listed, Rising}
use Rattle.alterations_facts.specs.Bridge.{bridge_after}
use Rattle.alterations_facts.specs.Altering.{Altering}
use Rattle.alterations_facts.proofs.Truth.{and_true, and_without, and_left, and_right, and_never, and_false}
use Rattle.alterations_facts.proofs.Tables.{by_bits}
use Rattle.alterations_facts.proofs.Naming.{Solid, listed_listable, named_altered, solid_altered, names_nothing}
use Rattle.alterations_facts.proofs.Clearing.{Clears, listed_before}
use Rattle.alterations_facts.proofs.Frames.{frame_cleared_lem, frame_within, listed_within}
use Rattle.alterations_facts.proofs.Records.{Same}
use Rattle.alterations_facts.proofs.Alike.{Alike, alike_read, listed_alike, accepted_alike}
use Rattle.alterations_facts.proofs.Order.{rising_altered, listed_rising}
use Rattle.alterations_facts.proofs.Bridge.{read, beacon_answer, bridge_left, entries_left}
use Rattle.std.specs.Prelude.{Ok}
use Rattle.octets.specs.Outcome.{Outcome}

-- lists of bytes with the same bits
bytes_by_bits : (l m : List ℕ) → length l ≡ length m → Bytes l → Bytes m →
    ((i b : ℕ) → i < length m → b < 8 → bit_at l i b ≡ bit_at m i b) → l ≡ m
bytes_by_bits [] [] e y z h = refl
bytes_by_bits [] (c ∷ m) e y z h = absurd (omega (arith, e))
bytes_by_bits (c ∷ l) [] e y z h = absurd (omega (arith, e))
bytes_by_bits (c ∷ l) (d ∷ m) e y z h =
    let same : c ≡ d = by_bits c d y.0 z.0 (λ b k. h 0 b (omega arith) k) in
    let rest : l ≡ m = bytes_by_bits l m (omega (arith, e)) y.1 z.1 (λ i b k j. h (suc i) b (omega arith) j) in
    λ i. same i ∷ rest i

-- the list looks at the listed bytes alone
altered_same : (s t : List ℕ) (m : ℕ) (l : List (ℕ × List ℕ)) → Below m l → ((i : ℕ) → i < m → get_or t i 0 ≡ get_or s i 0) →
    altered_in t l ≡ altered_in s l
altered_same s t m [] h e = refl
altered_same s t m (x ∷ l) h e =
    λ i. altered_at x.0 (mask x.1 (e x.0 h.0 i)) ++ altered_same s t m l h.1 e i

-- what is told of a frame that is rewritten
told_accepted : (s : List ℕ) (m : ℕ) (l : List (ℕ × ℕ)) → rewrite_frame s ≡ Ok m → altered s ≡ l → alterations s ≡ told (Ok m) l
unfolding alterations
told_accepted s m l e f = λ i. told (e i) (f i)

-- neither the two lost flags nor the same record tell anything else
same_lost : (h : Header) → Same h (lost h)
same_lost h = record { type = refl; security = refl; compress = refl; to = refl; from = refl }

same_self : (h : Header) → Same h h
same_self h = record { type = refl; security = refl; compress = refl; to = refl; from = refl }

module _ (s : List ℕ) (m : ℕ) (y : Bytes s) (e : rewrite_frame s ≡ Ok m) where
  abbrev w : ℕ
  w = number s 0 2

  abbrev n : ℕ
  n = header_end s w

  abbrev h : Header
  h = header_in s w

  a : Accepted s m
  a = frame_accepted s m e

  within : m ≤ length s
  within = frame_within s y m a

  list : altered s ≡ altered_in s (listed s)
  list = altered_some s (ap refuses e)

  -- named is what is set and listed
  names : (i b : ℕ) → b < 8 → named (altered s) i b ≡ (bit_at s i b && is_listed (listed s) i b)
  names i b k = ap (λ (l : List (ℕ × ℕ)). named l i b) list ∙ named_altered s (listed s) i b y (listed_listable s) k

  set : (i b : ℕ) → b < 8 → named (altered s) i b ≡ true → (i < m) × (bit_at s i b ≡ true)
  set i b k t =
      let both : (bit_at s i b && is_listed (listed s) i b) ≡ true = sym (names i b k) ∙ t in
      let there = and_right (bit_at s i b) (is_listed (listed s) i b) both in (
        cases (holds? (ltb i m)) (λ inside. ltb-true i m inside)
            (λ past. absurd (true≢false (sym there ∙ listed_before m (listed s) i b (listed_within s m a) (ltb-false i m past)))),
        and_left (bit_at s i b) (is_listed (listed s) i b) both,
      )

  cleared : Clears (listed s) (take m s) (frame_cleared s)
  cleared = frame_cleared_lem s y m a

  long : length (frame_cleared s) ≡ m
  long = cleared.long ∙ length-take-le m s within

  -- each bit of the bytes that are rewritten
  bare : (i b : ℕ) → i < m → b < 8 → bit_at (frame_cleared s) i b ≡ (bit_at s i b && not (is_listed (listed s) i b))
  bare i b j k =
      cleared.each i b k
      ∙ ap (λ (c : ℕ). bit c b && not (is_listed (listed s) i b)) (get_or-take m s i 0 j)

  exactly : (i b : ℕ) → i < m → b < 8 → bit_at (frame_cleared s) i b ≡ (bit_at s i b && not (named (altered s) i b))
  exactly i b j k =
      bare i b j k
      ∙ and_without (bit_at s i b) (is_listed (listed s) i b)
      ∙ ap (λ (c : Bool). bit_at s i b && not c) (sym (names i b k))

  same : altered s ≡ [] → frame_cleared s ≡ take m s
  same none =
      bytes_by_bits (frame_cleared s) (take m s) cleared.long cleared.bytes (bytes_take m s y)
      (λ i b j k.
      let near : i < m = omega (arith, j, length-take-le m s within) in
      exactly i b near k
      ∙ ap (λ (l : List (ℕ × ℕ)). bit_at s i b && not (named l i b)) none
      ∙ and_true (bit_at s i b)
      ∙ ap (λ (c : ℕ). bit c b) (sym (get_or-take m s i 0 near)))

  only : frame_cleared s ≡ take m s → altered s ≡ []
  only equal =
      names_nothing (altered s) (subst Solid (sym list) (solid_altered s (listed s) y (listed_listable s)))
      (λ i b k.
      cases (holds? (named (altered s) i b))
      (λ t.
      let q = set i b k t in
      let off : bit_at (frame_cleared s) i b ≡ false =
      exactly i b q.0 k ∙ (λ j. q.1 j && not (t j)) in
      let on : bit_at (frame_cleared s) i b ≡ true =
      ap (λ (l : List ℕ). bit_at l i b) equal ∙ ap (λ (c : ℕ). bit c b) (get_or-take m s i 0 q.0) ∙ q.1 in
      absurd (true≢false (sym on ∙ off)))
      (λ f. f))

  -- the rewritten frame, with any bytes behind it
  module _ (more : List ℕ) where
    abbrev t : List ℕ
    t = frame_cleared s ++ more

    abbrev beacon : List ℕ
    beacon = cond (holds_beacon w) (beacon_cleared s n) []

    parts : t ≡ header_cleared s ++ (beacon ++ more)
    parts = append_assoc (header_cleared s) beacon more

    header : read_header s ≡ Ok (h, n)
    header = read s m s y a within

    reread : read_header t ≡ Ok (lost h, n)
    reread =
        let trip = header_rewritten s h n y header in
        ap read_header parts ∙ ap (λ (l : List ℕ). read_header (l ++ (beacon ++ more))) (sym trip.written) ∙ trip.again (beacon ++ more)

    rebeacon : holds_beacon w ≡ true → read_beacon t n ≡ read_beacon s n
    rebeacon on =
        let answer = beacon_answer s m s y a within on in
        let trip = beacon_rewritten s n (read_beacon s n).beacon (beacon_length_in s n) y answer in
        let size = header_cleared_length s n a.read in
        let bytes : t ≡ header_cleared s ++ (beacon_bytes (read_beacon s n).beacon ++ more) =
        parts ∙ ap (λ (c : Bool). header_cleared s ++ (cond c (beacon_cleared s n) [] ++ more)) on
        ∙ ap (λ (l : List ℕ). header_cleared s ++ (l ++ more)) (sym trip.written) in
        (λ i. read_beacon (bytes i) (sym size i)) ∙ trip.again (header_cleared s) more ∙ sym answer

    alike_again : Alike s t
    alike_again = alike_read s t h (lost h) n header reread (same_lost h) rebeacon

    settled : Bytes more → alterations t ≡ told (Ok m) []
    settled z =
        let taken = frame_accepts t m (accepted_alike s t m a alike_again) in
        let bytes = bytes_append (frame_cleared s) more cleared.bytes z in
        let listing : altered t ≡ altered_in t (listed s) =
        altered_some t (ap refuses taken) ∙ ap (altered_in t) (listed_alike s t m a alike_again) in
        told_accepted t m [] taken
        (listing
        ∙ names_nothing (altered_in t (listed s)) (solid_altered t (listed s) bytes (listed_listable s))
        (λ i b k.
        named_altered t (listed s) i b bytes (listed_listable s) k
        ∙ cases (holds? (ltb i m))
        (λ inside.
        let near : i < m = ltb-true i m inside in
        ap (λ (c : ℕ). bit c b && is_listed (listed s) i b) (get_or-append (frame_cleared s) more 0 i (omega (arith, near, long)))
        ∙ ap (λ (c : Bool). c && is_listed (listed s) i b) (bare i b near k)
        ∙ and_never (bit_at s i b) (is_listed (listed s) i b))
        (λ past.
        ap (λ (c : Bool). bit_at t i b && c) (listed_before m (listed s) i b (listed_within s m a) (ltb-false i m past))
        ∙ and_false (bit_at t i b))))

  -- the frame with bytes behind it
  module _ (more : List ℕ) where
    abbrev longer : List ℕ
    longer = s ++ more

    first : read_header s ≡ Ok (h, n)
    first = read s m s y a within

    second : read_header longer ≡ Ok (h, n)
    second = unread s h n more first

    alike_behind : Alike s longer
    alike_behind =
        alike_read s longer h h n first second (same_self h)
        (λ on.
        let answer = beacon_answer s m s y a within on in
        (beacon_rewritten s n (read_beacon s n).beacon (beacon_length_in s n) y answer).behind more ∙ sym answer)

    behind : alterations longer ≡ alterations s
    behind =
        let taken = frame_accepts longer m (accepted_alike s longer m a alike_behind) in
        let listing : altered longer ≡ altered s =
        altered_some longer (ap refuses taken)
        ∙ ap (altered_in longer) (listed_alike s longer m a alike_behind)
        ∙ altered_same s longer m (listed s) (listed_within s m a) (λ i j. get_or-append s more 0 i (omega (arith, j, within)))
        ∙ sym list in
        told_accepted longer m (altered s) taken listing ∙ sym (told_accepted s m (altered s) e refl)

-- The rule, of any frame that is rewritten and any buffer with room.
pub altering : (s : List ℕ) (m : ℕ) (out : List ℕ) → Bytes s → Bytes out → rewrite_frame s ≡ Ok m → m ≤ length out → Altering s m out
altering s m out y z e room =
    let left : bridge_after s (read_header s) out ≡ frame_cleared s ++ drop m out = bridge_left s m out y (a s m y e) room in
    let size = long s m y e in
    let front : take m (bridge_after s (read_header s) out) ≡ frame_cleared s =
    ap (take m) left ∙ take_at (frame_cleared s) (drop m out) m size in
    record {
      within = within s m y e;
      names = names s m y e;
      set = set s m y e;
      rising = subst Rising (sym (list s m y e)) (rising_altered s (listed s) (listed_rising s));
      exact = λ i b j k.
          ap (λ (l : List ℕ). bit_at l i b) left
          ∙ ap (λ (c : ℕ). bit c b) (get_or-append (frame_cleared s) (drop m out) 0 i (omega (arith, j, size)))
          ∙ exactly s m y e i b j k;
      kept = ap (drop m) left ∙ drop_at (frame_cleared s) (drop m out) m size;
      same = λ none. front ∙ same s m y e none;
      only = λ equal. only s m y e (sym front ∙ equal);
      alone = ap (λ (o : Outcome). not (refuses o) && eqb (length (altered s)) 0) e;
      settled = ap alterations left ∙ settled s m y e (drop m out) (bytes_drop m out z);
      behind = behind s m y e;
      entries = entries_left s m out y (a s m y e) room ∙ sym left;
    }
