-- Demand 3 for a header, point by point, and with every byte of a buffer.
-- Assumes nothing.
use Prim.Native.Nat.{ℕ, ◌+◌, ◌≤◌}
use native.Mathlib.Omega.{arith}
use mathlib.Core.Bool.{Bool, true, false, true≢false, cond, not, ◌&&◌}
use mathlib.Core.List.{List, ◌++◌}
use mathlib.Core.Path.{◌≡◌, refl, sym, ap, ◌∙◌}
use borrow.Author.Tests.{le-ltb}
use lib.Dec.{eqb}
use lib.ListN.{length, take, drop, length-append}
use Rattle.std.specs.Prelude.{Option, Some, None, Ok}
use Rattle.octets.specs.Bits.{bits, bit}
use Rattle.octets.specs.Little.{number, Bytes}
use Rattle.octets.proofs.Buffer.{laid_parts}
use Rattle.octets.proofs.Cases.{cases, holds?}
use Rattle.octets.proofs.Little.{number_more, number_small}
use Rattle.header_bytes.specs.Layout.{start, destination_end, source_end, header_end, security_size}
use Rattle.header_bytes.specs.Rewriting.{sourceless}
use Rattle.header_bytes.proofs.Passed.{Passed}
use Rattle.header_bytes.proofs.Sizes.{control_inside}
use Rattle.frame_control.specs.Control.{control_of}
use Rattle.frame_control.specs.Modes.{mode_in, mode_bits}
use Rattle.identifiers.specs.PanId.{pan}
use Rattle.address.specs.declared.Address.{Address}
use Rattle.address.specs.declared.Address.TheVariants.{Short, Extended}
use Rattle.address.specs.Address.{mode_of, shared_pan}
use Rattle.address.specs.Layout.{address_in, sharing}
use Rattle.address.proofs.Addresses.{address_more, address_small, address_shares, shared_small}
use Rattle.address_pair.specs.Pair.{both_present}
use Rattle.security.specs.Optional.{optional_too_large, optional_in}
use Rattle.security.specs.Security.{length_in, security_in, level_of}
use Rattle.security.proofs.Security.{security_small, counter_small, security_told_lem, security_more}
use Rattle.header_parts.specs.Parts.{write_parts}
use Rattle.header.specs.declared.Header.{Header}
use Rattle.header.specs.Record.{header_of, header_length}
use Rattle.header.specs.Read.{destination_in, source_in, header_in, read_by, read_header}
use Rattle.header.specs.Write.{lacks_address, write_header}
use Rattle.header.proofs.Apart.{together, apart}
use Rattle.header_facts.specs.Rewritten.{lost, own_counter, rewritten, Rewritten}
use Rattle.header_facts.specs.RoundTrip.{InBuffer, RoundTrip}
use Rattle.header_facts.specs.Told.{Small}
use Rattle.header_facts.proofs.Fields.{own_to, own_from, to_bits, from_bits, owns_from_lem, destination_size, source_size}
use Rattle.header_facts.proofs.Fields.{part_whole, length_told}
use Rattle.header_facts.proofs.Again.{header_again_lem}
use Rattle.header_facts.proofs.Fit.{FitPart, Fit, settled, in_buffer, accepted as fit-accepted, long as fit-long, again as fit-again}

-- what was read fits
part_facts : (on : Bool) (s : List ℕ) (at : ℕ) → Bytes s → (on ≡ true → at + length_in s at ≤ length s) → FitPart (optional_in on s at)
part_facts false s at b h = record { small = tt; level = refl; counter = omega arith; same = refl }
part_facts true s at b h =
    let whole = h refl in
    let fits = security_small s at b whole in
    record {
      small = fits.1;
      level = le-ltb 7 (level_of (security_in s at)) (omega (arith, fits.0));
      counter = counter_small s at b whole;
      same = ap Some (security_told_lem s at b whole);
    }

-- bytes behind alter no security part
part_more : (on : Bool) (s t : List ℕ) (at : ℕ) → (on ≡ true → at + length_in s at ≤ length s) →
    optional_in on (s ++ t) at ≡ optional_in on s at
part_more false s t at h = refl
part_more true s t at h = ap Some (security_more s t at (h refl))

-- with a destination to share its PAN id, an address is missing exactly where the source is
pub source_missing : (compress : Bool) (d s : Option Address) → (compress && eqb (mode_bits (mode_of d)) 0) ≡ false →
    (compress && not (both_present d s)) ≡ (compress && eqb (mode_bits (mode_of s)) 0)
source_missing false d s e = refl
source_missing true None s e = absurd (true≢false e)
source_missing true (Some d) None e = refl
source_missing true (Some d) (Some (Short p a)) e = refl
source_missing true (Some d) (Some (Extended p a)) e = refl

-- bytes behind an accepted header alter nothing
module _ (s : List ℕ) (p : Passed s (number s 0 2)) (more : List ℕ) where
  abbrev w : ℕ
  w = number s 0 2

  word_more : number (s ++ more) 0 2 ≡ w
  word_more = number_more s more 0 2 (omega (arith, p.three))

  destination_more : destination_in (s ++ more) w ≡ destination_in s w
  destination_more =
      address_more (own_to s p) (pan 0) (mode_in (bits w 10 2)) s more (start (bit w 8)) (omega (arith, p.addresses, destination_size s p))

  source_more : source_in (s ++ more) w ≡ source_in s w
  source_more =
      ap (λ (d : Option Address). address_in (own_from s p) (shared_pan d) (mode_in (bits w 14 2)) (s ++ more) (destination_end w))
      destination_more
      ∙ address_more (own_from s p) (shared_pan (destination_in s w)) (mode_in (bits w 14 2)) s more (destination_end w)
      (omega (arith, p.addresses, source_size s p))

  end_more : header_end (s ++ more) w ≡ header_end s w
  end_more =
      cases (holds? (bit w 3))
      (λ on.
      let inside : source_end w + 1 ≤ length s = omega (arith, control_inside w s on, p.whole) in
      ap (λ (b : ℕ). cond (bit w 3) (source_end w + security_size (bits b 3 2)) (source_end w)) (number_more s more (source_end w) 1 inside))
      (λ off. simp off)

  passed_more : Passed (s ++ more) w
  passed_more =
      let longer : length (s ++ more) ≡ length s + length more = length-append s more in
      record {
        three = omega (arith, p.three);
        version = p.version;
        type = p.type;
        destination = p.destination;
        source = p.source;
        shared = p.shared;
        addresses = omega (arith, p.addresses);
        whole = omega (arith, p.whole, end_more);
      }

  behind : read_header (s ++ more) ≡ Ok (header_in s w, header_end s w)
  behind =
      ap (read_by (s ++ more)) word_more
      ∙ together (s ++ more) w passed_more
      ∙ (λ i. Ok (
        header_of (control_of w) (number_more s more 2 1 p.three i) (destination_more i) (source_more i)
            (part_more (bit w 3) s more (source_end w) (part_whole s p) i),
        end_more i,
      ))

module _ (s : List ℕ) (b : Bytes s) (p : Passed s (number s 0 2)) where
  abbrev word : ℕ
  word = number s 0 2

  abbrev header : Header
  header = header_in s word

  abbrev size : ℕ
  size = header_end s word

  facts : FitPart header.auxiliary_security_header
  facts = part_facts (bit word 3) s (source_end word) b (part_whole s p)

  pub level_fits : optional_too_large header.auxiliary_security_header ≡ false
  level_fits = facts.level

  small : Small header
  small =
      let destination = address_small (own_to s p) (pan 0) (mode_in (bits word 10 2)) s (start (bit word 8)) b (omega arith)
      (omega (arith, p.addresses, destination_size s p)) in
      record {
        seq = number_small s 2 1 b p.three;
        destination = destination;
        source = address_small (own_from s p) (shared_pan (destination_in s word)) (mode_in (bits word 14 2)) s (destination_end word) b
            (shared_small (destination_in s word) destination) (omega (arith, p.addresses, source_size s p));
        security = facts.small;
      }

  shared : (bit word 6 && eqb (mode_bits (mode_of header.destination)) 0) ≡ false
  shared = ap (λ (n : ℕ). bit word 6 && eqb n 0) (to_bits s p) ∙ p.shared

  pub lacks : lacks_address header ≡ sourceless word
  lacks =
      source_missing (bit word 6) header.destination header.source shared
      ∙ ap (λ (n : ℕ). bit word 6 && eqb n 0) (from_bits s p)

  fit : Fit header
  fit = record {
    small = small;
    part = facts;
    sound = record {
      shared = shared;
      source = ap (λ (own : Bool). sharing own (shared_pan (destination_in s word)) header.source) (owns_from_lem s p)
          ∙ address_shares (own_from s p) (shared_pan (destination_in s word)) (mode_in (bits word 14 2)) s (destination_end word);
      kept = refl;
    };
  }

  accepted : (room : ℕ) → sourceless word ≡ false → size ≤ room → write_header header (own_counter header) room ≡ Ok size
  accepted room e h =
      let told = length_told s p in
      fit-accepted header fit room (lacks ∙ e) (omega (arith, told)) ∙ ap Ok told

  again : (more : List ℕ) → read_header (rewritten header ++ more) ≡ Ok (lost header, size)
  again more = fit-again header fit more ∙ (λ i. Ok (lost header, length_told s p i))

  long : length (rewritten header) ≡ size
  long = fit-long header fit ∙ length_told s p

  once_more : (room : ℕ) → sourceless word ≡ false → size ≤ room → write_header (lost header) (own_counter header) room ≡ Ok size
  unfolding write_parts
  once_more = accepted

  points : Rewritten s header size
  points = record {
    within = p.whole;
    kept = length_told s p;
    parts = length_told s p;
    accepted = accepted;
    written = header_again_lem s b p;
    long = long;
    buffer = λ out to h. laid_parts out to (rewritten header) (omega (arith, long))
        ∙ ap (λ (k : ℕ). take to out ++ (rewritten header ++ drop (to + k) out)) long;
    again = again;
    settled = settled header;
    once_more = once_more;
    behind = behind s p;
  }

-- Demand 3, point by point.
pub header_rewritten : (s : List ℕ) (h : Header) (n : ℕ) → Bytes s → read_header s ≡ Ok (h, n) → Rewritten s h n
header_rewritten s h n b e =
    let q = apart s h n e in
    let points : Rewritten s (header_in s (number s 0 2)) (header_end s (number s 0 2)) = points s b q.passed in
    rw q.size at (rw q.header at points)

-- A record that was read is fit to be written with its own counter.
pub fit_read : (s : List ℕ) (h : Header) (n : ℕ) → Bytes s → read_header s ≡ Ok (h, n) → Fit h
fit_read s h n b e = let q = apart s h n e in rw q.header at (fit s b q.passed)

-- It keeps the sum of its parts, which is the length that reading answers.
pub kept_read : (s : List ℕ) (h : Header) (n : ℕ) → read_header s ≡ Ok (h, n) → (h.length ≡ n) × (header_length h ≡ n)
kept_read s h n e =
    let q = apart s h n e in
    let told = length_told s q.passed ∙ q.size in
    (ap (λ (h : Header). h.length) (sym q.header) ∙ told, ap header_length (sym q.header) ∙ told)

-- What reading answers does not depend on bytes behind an accepted header.
pub unread : (s : List ℕ) (h : Header) (n : ℕ) (more : List ℕ) → read_header s ≡ Ok (h, n) → read_header (s ++ more) ≡ Ok (h, n)
unread s h n more e = let q = apart s h n e in behind s q.passed more ∙ (λ i. Ok (q.header i, q.size i))

-- Demand 3, with every byte of a buffer.
pub round_trip : (s : List ℕ) (h : Header) (n : ℕ) (out : List ℕ) (to : ℕ) → Bytes s → read_header s ≡ Ok (h, n) →
    sourceless (number s 0 2) ≡ false → to + n ≤ length out →
    RoundTrip s h n out to
round_trip s h n out to b e both room =
    let q = apart s h n e in
    let trip = header_rewritten s h n b e in
    let kept = trip.kept in
    let there = ap lacks_address (sym q.header) ∙ lacks s b q.passed ∙ both in
    let into : InBuffer h out to = in_buffer h out to (fit_read s h n b e) there (omega (arith, kept)) in
    record {
      within = trip.within;
      accepted = into.accepted ∙ ap Ok kept;
      long = ap length (sym trip.written) ∙ trip.long;
      stored = into.stored ∙ (λ i. take to out ++ (trip.written i ++ drop (to + kept i) out));
      again = into.again ∙ (λ i. Ok (lost h, kept i));
      once_more = into.once_more ∙ ap Ok kept;
      settled = into.settled;
      behind = trip.behind;
    }
