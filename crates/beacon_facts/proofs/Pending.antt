-- Demand 3 of pending addresses: the header put together again is the byte that was read, bits 3 and 7 clear, and the addresses stand as
-- they stood.
-- Assumes nothing.
use Prim.Native.Nat.{ℕ, ◌+◌, ◌-◌, ◌*◌, ◌/◌, ◌^◌, ◌≤◌, ◌<◌}
use native.Mathlib.Nat.{mod-eq_of_lt}
use native.Mathlib.Omega.{arith}
use mathlib.Core.Bool.{false}
use mathlib.Core.List.{List, ◌++◌, flat_map}
use mathlib.Core.Path.{◌≡◌, refl, sym, ap, ◌∙◌}
use borrow.Author.Tests.{le-ltb}
use lib.ListN.{length, get_or, take, drop, length-append}
use lib.Seq.{take-add, drop-drop}
use Rattle.octets.specs.Bits.{bits, clear}
use Rattle.octets.specs.Little.{number, split, Bytes}
use Rattle.octets.specs.Outcome.{number_of, length_of}
use Rattle.octets.proofs.Each.{same}
use Rattle.octets.proofs.Little.{split_length, split_bytes, bytes_append, number_back, number_again, number_small, number_more}
use Rattle.identifiers.specs.declared.ShortAddress.{ShortAddress}
use Rattle.identifiers.specs.declared.ExtendedAddress.{ExtendedAddress}
use Rattle.identifiers.specs.ShortAddress.{short}
use Rattle.identifiers.specs.ExtendedAddress.{extended}
use Rattle.seven_places.specs.Seven.{emptied}
use Rattle.seven_places.proofs.Seven.{seven_length, seven_same, seven_emptied, seven_all, emptied_in_use, each_length}
use Rattle.pending.specs.declared.PendingAddress.{PendingAddress}
use Rattle.pending.specs.declared.PendingRead.{PendingRead}
use Rattle.pending.specs.Addresses.{short_at, extended_at, empty_short, empty_extended, shorts_in, extendeds_in, short_bytes, extended_bytes}
use Rattle.pending.specs.Pending.{short_count_in, extended_count_in, pending_in, pending_length_in, read_pending, pending_header, pending_bytes}
use Rattle.pending.specs.Pending.{pending_size, pending_too_large, write_pending}
use Rattle.pending.proofs.Pending.{fitting, pending_read}
use Rattle.beacon_facts.specs.Formats.{pending, SevenTyped, PendingTyped, pending_read_back}
use Rattle.beacon_facts.proofs.Format.{Writes, Laws}
use Rattle.beacon_facts.proofs.Listed.{pending_listed, pending_listed_lem}
use Rattle.beacon_facts.proofs.Places.{split_one, byte_small, over, past, past_length, number_first}
use Rattle.beacon_facts.proofs.SideBySide.{entries_again, entry_place, entry_at, each_bytes}

header_again_lem : (b : ℕ) → b < 256 → bits b 0 3 + 2 ^ 4 * bits b 4 3 ≡ clear 3 1 (clear 7 1 b)
header_again_lem = same (λ b. bits b 0 3 + 2 ^ 4 * bits b 4 3) (λ b. clear 3 1 (clear 7 1 b)) 256 tt

-- addresses of w bytes side by side, written again and read back
module _ (s : List ℕ) (at : ℕ) where
  shorts_again : (n : ℕ) → n ≤ 7 → Bytes s → at + 2 * n ≤ length s →
      flat_map short_bytes (take n (shorts_in s at n)) ≡ take (2 * n) (drop at s)
  unfolding short_at
  shorts_again n few b there = entries_again short_bytes 2 s at n (short_at s at)
      (λ k h. number_again s (at + 2 * k) 2 b (omega arith)) empty_short few

  extendeds_again : (n : ℕ) → n ≤ 7 → Bytes s → at + 8 * n ≤ length s →
      flat_map extended_bytes (take n (extendeds_in s at n)) ≡ take (8 * n) (drop at s)
  unfolding extended_at
  extendeds_again n few b there = entries_again extended_bytes 8 s at n (extended_at s at)
      (λ k h. number_again s (at + 8 * k) 8 b (omega arith)) empty_extended few

  shorts_typed : (n : ℕ) → Bytes s → at + 2 * n ≤ length s → SevenTyped (λ (a : ShortAddress). a.0 < 256 ^ 2) empty_short (shorts_in s at n)
  unfolding short_at
  shorts_typed n b there = (
    seven_length (short_at s at) empty_short n,
    seven_all (λ (a : ShortAddress). a.0 < 256 ^ 2) (short_at s at) empty_short n (omega arith)
        (λ k h. number_small s (at + 2 * k) 2 b (omega arith)),
  )

  extendeds_typed : (n : ℕ) → Bytes s → at + 8 * n ≤ length s →
      SevenTyped (λ (a : ExtendedAddress). a.0 < 256 ^ 8) empty_extended (extendeds_in s at n)
  unfolding extended_at
  extendeds_typed n b there = (
    seven_length (extended_at s at) empty_extended n,
    seven_all (λ (a : ExtendedAddress). a.0 < 256 ^ 8) (extended_at s at) empty_extended n (omega arith)
        (λ k h. number_small s (at + 8 * k) 8 b (omega arith)),
  )

  shorts_more : (n : ℕ) (t : List ℕ) → at + 2 * n ≤ length s → shorts_in (s ++ t) at n ≡ shorts_in s at n
  unfolding short_at
  shorts_more n t there = seven_same (short_at (s ++ t) at) (short_at s at) empty_short n
      (λ k h. ap short (number_more s t (at + 2 * k) 2 (omega arith)))

  extendeds_more : (n : ℕ) (t : List ℕ) → at + 8 * n ≤ length s → extendeds_in (s ++ t) at n ≡ extendeds_in s at n
  unfolding extended_at
  extendeds_more n t there = seven_same (extended_at (s ++ t) at) (extended_at s at) empty_extended n
      (λ k h. ap extended (number_more s t (at + 8 * k) 8 (omega arith)))

module _ {A : Type 0} (value : A → ℕ) (w : ℕ) (empty : A) (l : List A) (n : ℕ) (few : n ≤ length l) (p t : List ℕ) (at : ℕ)
    (before : length p ≡ at) where
  abbrev bytes_of : A → List ℕ
  bytes_of x = split w (value x)

  address_back : (k : ℕ) → k < n → value (get_or l k empty) < 256 ^ w →
      number (p ++ (flat_map bytes_of (take n l) ++ t)) (at + w * k) w ≡ value (get_or l k empty)
  address_back k h small =
      rw (entry_place bytes_of w (λ x. split_length w (value x)) l n few k h empty p t)
      (number_back (p ++ flat_map bytes_of (take k l)) (at + w * k) w (value (get_or l k empty))
      (flat_map bytes_of (drop (k + 1) (take n l)) ++ t)
      (entry_at bytes_of w (λ x. split_length w (value x)) l n few k h empty p at before) small)

module _ (p t : List ℕ) (at : ℕ) (before : length p ≡ at) where
  shorts_back : (l : List ShortAddress) (n : ℕ) → n ≤ 7 → SevenTyped (λ (a : ShortAddress). a.0 < 256 ^ 2) empty_short l →
      shorts_in (p ++ (flat_map short_bytes (take n l) ++ t)) at n ≡ emptied l empty_short n
  unfolding short_at
  shorts_back l n few typed =
      seven_same (short_at (p ++ (flat_map short_bytes (take n l) ++ t)) at) (λ (k : ℕ). get_or l k empty_short) empty_short n
      (λ k h. ap short (address_back (λ (a : ShortAddress). a.0) 2 empty_short l n (rw typed.0 few) p t at before k h
      (typed.1 k (omega arith))))

  extendeds_back : (l : List ExtendedAddress) (n : ℕ) → n ≤ 7 → SevenTyped (λ (a : ExtendedAddress). a.0 < 256 ^ 8) empty_extended l →
      extendeds_in (p ++ (flat_map extended_bytes (take n l) ++ t)) at n ≡ emptied l empty_extended n
  unfolding extended_at
  extendeds_back l n few typed =
      seven_same (extended_at (p ++ (flat_map extended_bytes (take n l) ++ t)) at) (λ (k : ℕ). get_or l k empty_extended) empty_extended n
      (λ k h. ap extended (address_back (λ (a : ExtendedAddress). a.0) 8 empty_extended l n (rw typed.0 few) p t at before k h
      (typed.1 k (omega arith))))

-- pending addresses that were written
module _ (x : PendingAddress) (typed : PendingTyped x) (f : pending_too_large x ≡ false) where
  abbrev shorts : List ℕ
  shorts = flat_map short_bytes (take x.short_address_count x.short_addresses)

  abbrev extendeds : List ℕ
  extendeds = flat_map extended_bytes (take x.extended_address_count x.extended_addresses)

  header_byte : pending_header x < 256
  header_byte = omega (arith, fitting x f)

  short_count_lem : bits (pending_header x) 0 3 ≡ x.short_address_count
  short_count_lem = omega (arith, fitting x f)

  extended_count_lem : bits (pending_header x) 4 3 ≡ x.extended_address_count
  extended_count_lem =
      let half : pending_header x / 16 ≡ x.extended_address_count = omega (arith, fitting x f) in
      rw half (mod-eq_of_lt (omega (arith, fitting x f)))

  shorts_length : length shorts ≡ 2 * x.short_address_count
  shorts_length = each_length short_bytes 2 (λ a. split_length 2 a.0) x.short_addresses x.short_address_count
      (rw typed.0.0 (fitting x f).0)

  pub pending_length : length (pending_bytes x) ≡ pending_size x
  unfolding pending_bytes
  pending_length =
      rw (
        length-append (split 1 (pending_header x)) (shorts ++ extendeds),
        split_length 1 (pending_header x),
        length-append shorts extendeds,
        shorts_length,
        each_length extended_bytes 8 (λ a. split_length 8 a.0) x.extended_addresses x.extended_address_count
            (rw typed.1.0 (fitting x f).1),
      )

  module _ (p t : List ℕ) (at : ℕ) (before : length p ≡ at) where
    header_stored : number (p ++ (pending_bytes x ++ t)) at 1 ≡ pending_header x
    unfolding pending_bytes
    header_stored = number_first p (shorts ++ extendeds) at 1 (pending_header x) t before header_byte

    pub shorts_stored : short_count_in (p ++ (pending_bytes x ++ t)) at ≡ x.short_address_count
    shorts_stored = rw header_stored short_count_lem

    pub extendeds_stored : extended_count_in (p ++ (pending_bytes x ++ t)) at ≡ x.extended_address_count
    extendeds_stored = rw header_stored extended_count_lem

    abbrev header : List ℕ
    header = p ++ split 1 (pending_header x)

    behind_header : length header ≡ at + 1
    behind_header = past_length p (split 1 (pending_header x)) at 1 before (split_length 1 (pending_header x))

    short_list : shorts_in (p ++ (pending_bytes x ++ t)) (at + 1) x.short_address_count
        ≡ emptied x.short_addresses empty_short x.short_address_count
    unfolding pending_bytes
    short_list =
        rw (past p (split 1 (pending_header x)) (shorts ++ extendeds) t, over header shorts extendeds t)
        (shorts_back header (extendeds ++ t) (at + 1) behind_header x.short_addresses x.short_address_count (fitting x f).0
        typed.0)

    extended_list : extendeds_in (p ++ (pending_bytes x ++ t)) (at + 1 + 2 * x.short_address_count) x.extended_address_count
        ≡ emptied x.extended_addresses empty_extended x.extended_address_count
    unfolding pending_bytes
    extended_list =
        rw (past p (split 1 (pending_header x)) (shorts ++ extendeds) t, past header shorts extendeds t)
        (extendeds_back (header ++ shorts) t (at + 1 + 2 * x.short_address_count)
        (past_length header shorts (at + 1) (2 * x.short_address_count) behind_header shorts_length)
        x.extended_addresses x.extended_address_count (fitting x f).1 typed.1)

    pub pending_back : pending_in (p ++ (pending_bytes x ++ t)) at ≡ pending_read_back x
    unfolding pending_in
    pending_back = rw (shorts_stored, extendeds_stored, short_list, extended_list)

-- an address past its count is not looked at
module _ (x : PendingAddress) (typed : PendingTyped x) (f : pending_too_large x ≡ false) where
  pub pending_back_fits : pending_too_large (pending_read_back x) ≡ false
  unfolding pending_too_large
  pending_back_fits = f

  pub pending_settled : pending_bytes (pending_read_back x) ≡ pending_bytes x
  unfolding pending_bytes
  pending_settled =
      let few = fitting x f in
      rw (
        emptied_in_use x.short_addresses empty_short x.short_address_count few.0 (rw typed.0.0 few.0),
        emptied_in_use x.extended_addresses empty_extended x.extended_address_count few.1 (rw typed.1.0 few.1),
      )

pub pending_bytes_lem : (x : PendingAddress) → Bytes (pending_bytes x)
unfolding pending_bytes
pending_bytes_lem x =
    let shorts = take x.short_address_count x.short_addresses in
    let extendeds = take x.extended_address_count x.extended_addresses in
    bytes_append (split 1 (pending_header x)) (flat_map short_bytes shorts ++ flat_map extended_bytes extendeds)
    (split_bytes 1 (pending_header x))
    (bytes_append (flat_map short_bytes shorts) (flat_map extended_bytes extendeds)
    (each_bytes short_bytes (λ a. split_bytes 2 a.0) shorts) (each_bytes extended_bytes (λ a. split_bytes 8 a.0) extendeds))

-- what stands at a place
module _ (s : List ℕ) (at : ℕ) where
  abbrev short_count : ℕ
  short_count = short_count_in s at

  abbrev extended_count : ℕ
  extended_count = extended_count_in s at

  pub pending_fits : pending_too_large (pending_in s at) ≡ false
  unfolding pending_too_large pending_in
  pending_fits = rw (le-ltb 7 short_count (omega arith), le-ltb 7 extended_count (omega arith))

  pub pending_same : pending_read_back (pending_in s at) ≡ pending_in s at
  unfolding pending_in
  pending_same =
      rw (
        seven_emptied (short_at s (at + 1)) empty_short short_count (omega arith),
        seven_emptied (extended_at s (at + 1 + 2 * short_count)) empty_extended extended_count (omega arith),
      )

  pub pending_size_lem : pending_size (pending_in s at) ≡ pending_length_in s at
  unfolding pending_in
  pending_size_lem = refl

  module _ (there : pending_length_in s at ≤ length s - at) where
    pub pending_typed : Bytes s → PendingTyped (pending_in s at)
    unfolding pending_in
    pending_typed b = (
      shorts_typed s (at + 1) short_count b (omega arith),
      extendeds_typed s (at + 1 + 2 * short_count) extended_count b
          (omega arith),
    )

    pub pending_again : Bytes s → pending_bytes (pending_in s at) ≡ pending_listed s at
    unfolding pending_bytes pending_in pending_listed
    pending_again b =
        let h = byte_small s at b (omega arith) in
        rw (
          header_again_lem (number s at 1) h,
          split_one (clear 3 1 (clear 7 1 (number s at 1))) (omega arith),
          shorts_again s (at + 1) short_count (omega arith) b (omega arith),
          extendeds_again s (at + 1 + 2 * short_count) extended_count (omega arith) b (omega arith),
          take-add (2 * short_count) (8 * extended_count) (drop (at + 1) s),
          drop-drop (2 * short_count) (at + 1) s,
        )

    module _ (t : List ℕ) where
      pub counts_more : pending_length_in (s ++ t) at ≡ pending_length_in s at
      counts_more = rw (number_more s t at 1 (omega arith))

      pub pending_more : pending_in (s ++ t) at ≡ pending_in s at
      unfolding pending_in
      pending_more =
          rw (
            number_more s t at 1 (omega arith),
            shorts_more s (at + 1) short_count t (omega arith),
            extendeds_more s (at + 1 + 2 * short_count) extended_count t (omega arith),
          )

pub pending_accepts : (s : List ℕ) (at : ℕ) → pending_length_in s at ≤ length s - at →
    read_pending s at ≡ pending.accepts (pending_in s at) (pending_length_in s at)
unfolding read_pending
pending_accepts s at h = rw (le-ltb (length s - at) 1 (omega arith), le-ltb (length s - at) (pending_length_in s at) h)

pending_writes : Writes pending
unfolding write_pending
pending_writes x out at = refl

pub pending_laws : Laws pending
pending_laws =
    record {
      writes = pending_writes;
      taken = λ s at x n b e.
          let found = pending_read s at (ap (λ (r : PendingRead). number_of r.outcome) e) in
          let told = sym found.0 ∙ e in
          let value : pending_in s at ≡ x = ap (λ (r : PendingRead). r.pending_address) told in
          let count : pending_length_in s at ≡ n = ap (λ (r : PendingRead). length_of r.outcome) told in
          rw (sym value, sym count)
          (record {
            typed = pending_typed s at found.1 b;
            fits = pending_fits s at;
            same = pending_same s at;
            size = pending_size_lem s at;
            within = found.1;
            written = pending_again s at found.1 b ∙ pending_listed_lem s at found.1;
            behind = λ t.
                pending_accepts (s ++ t) at (rw (counts_more s at found.1 t, length-append s t) (omega (arith, found.1)))
                ∙ rw (pending_more s at found.1 t, counts_more s at found.1 t);
          });
      bytes = pending_bytes_lem;
      returned = λ x typed f. record {
        long = pending_length x typed f;
        fits = pending_back_fits x typed f;
        settled = pending_settled x typed f;
        back = λ p t.
            let shorts = shorts_stored x typed f p t (length p) refl in
            let extendeds = extendeds_stored x typed f p t (length p) refl in
            pending_accepts (p ++ (pending_bytes x ++ t)) (length p)
            (rw (shorts, extendeds, length-append p (pending_bytes x ++ t), length-append (pending_bytes x) t, pending_length x typed f)
            (omega arith))
            ∙ rw (pending_back x typed f p t (length p) refl, shorts, extendeds);
      };
    }
