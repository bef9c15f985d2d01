-- What suffices of a record to be written with its own counter and read back, by its bytes and from any buffer: each record that was read
-- is fit, and so is each that it is edited to.
-- Assumes nothing.
use Prim.Native.Nat.{ℕ, ◌+◌, ◌-◌, ◌^◌, ◌≤◌, ◌<◌}
use native.Mathlib.Omega.{arith}
use mathlib.Core.Bool.{false, not, ◌&&◌}
use mathlib.Core.List.{List, ◌++◌}
use mathlib.Core.Path.{◌≡◌, refl, sym, ap, ◌∙◌}
use borrow.Author.Tests.{le-ltb, eq-eqb}
use lib.Dec.{ltb, eqb}
use lib.ListN.{length, take, drop}
use lib.Seq.{drop_at, length-take-le}
use Rattle.std.specs.Prelude.{Option, Some, None, Ok}
use Rattle.octets.specs.Buffer.{laid}
use Rattle.octets.proofs.Buffer.{laid_length, laid_again, laid_parts}
use Rattle.frame_control.specs.Modes.{mode_bits}
use Rattle.address.specs.Address.{mode_of, shared_pan}
use Rattle.address.specs.Layout.{sharing}
use Rattle.security.specs.declared.AuxiliarySecurityHeader.{AuxiliarySecurityHeader}
use Rattle.security.specs.Optional.{is_present, optional_too_large, missing, counter_of, counter_read}
use Rattle.header_parts.specs.Parts.{write_parts}
use Rattle.header.specs.declared.Header.{Header}
use Rattle.header.specs.Record.{owns_source, addresses_end, header_length}
use Rattle.header.specs.Read.{read_header}
use Rattle.header.specs.Write.{lacks_address, write_header, header_bytes}
use Rattle.header.proofs.Writing.{header_length_lem}
use Rattle.header_facts.specs.Rewritten.{quiet, lost, own_counter, rewritten}
use Rattle.header_facts.specs.RoundTrip.{header_after, InBuffer}
use Rattle.header_facts.specs.Told.{part_told, SmallPart, Small}
use Rattle.header_facts.proofs.Back.{header_back}

-- a security part, with the counter that it has
pub record FitPart (k : Option AuxiliarySecurityHeader) : Type 0 where
  pub small : SmallPart k
  pub level : optional_too_large k ≡ false
  pub counter : counter_of (counter_read k) < 256 ^ 4
  pub same : part_told k (counter_of (counter_read k)) ≡ k

-- compressed, a record has a PAN id to share, and that is the source's; it keeps the sum of its parts
pub record Sound (h : Header) : Type 0 where
  pub shared : (h.pan_id_compress && eqb (mode_bits (mode_of h.destination)) 0) ≡ false
  pub source : sharing (owns_source h) (shared_pan h.destination) h.source ≡ h.source
  pub kept : h.length ≡ header_length h

pub record Fit (h : Header) : Type 0 where
  pub small : Small h
  pub part : FitPart h.auxiliary_security_header
  pub sound : Sound h

-- no refusal 8 for a length that is the sum of the parts
pub length_right : (h : Header) → h.length ≡ header_length h → not (eqb h.length (header_length h)) ≡ false
length_right h e = ap not (eq-eqb h.length (header_length h) e)

-- no refusal 7 with the counter that was read
pub counter_there : (k : Option AuxiliarySecurityHeader) → (is_present k && missing (counter_read k)) ≡ false
counter_there None = refl
counter_there (Some k) = refl

module _ (h : Header) (fit : Fit h) where
  -- with room, writing is accepted, unless an address to share with is missing
  pub accepted : (room : ℕ) → lacks_address h ≡ false → h.length ≤ room → write_header h (own_counter h) room ≡ Ok h.length
  unfolding write_parts
  accepted room both fits =
      let kept = fit.sound.kept in
      let three : ltb room 3 ≡ false = le-ltb room 3 (omega (arith, kept)) in
      let addresses : ltb room (addresses_end h) ≡ false = le-ltb room (addresses_end h) (omega (arith, kept)) in
      let whole : ltb room (header_length h) ≡ false = le-ltb room (header_length h) (omega (arith, kept)) in
      let counter = counter_there h.auxiliary_security_header in
      simp (length_right h kept, fit.part.level, three, both, addresses, counter, whole) (ap Ok (sym kept))

  -- the bytes, which are as many as it keeps, are read as the record but for the two flags
  pub long : length (rewritten h) ≡ h.length
  long = header_length_lem h (counter_of (own_counter h)) ∙ sym fit.sound.kept

  pub again : (more : List ℕ) → read_header (rewritten h ++ more) ≡ Ok (lost h, h.length)
  again more =
      let part = fit.part in
      let sound = fit.sound in
      header_back h (counter_of (own_counter h)) more fit.small part.counter part.level sound.shared
      ∙ (λ i. Ok (quiet h (sound.source i) (part.same i), sym sound.kept i))

  -- in a buffer they stand between what lay before and behind them
  parted : (out : List ℕ) (to : ℕ) → to + h.length ≤ length out →
      laid out to (rewritten h) ≡ take to out ++ (rewritten h ++ drop (to + h.length) out)
  parted out to room =
      laid_parts out to (rewritten h) (omega (arith, long))
      ∙ ap (λ (k : ℕ). take to out ++ (rewritten h ++ drop (to + k) out)) long

-- without the two flags it is as fit, and is written as the same bytes
fit_lost : (h : Header) → Fit h → Fit (lost h)
fit_lost h fit =
    let small = fit.small in
    let sound = fit.sound in
    record {
      small = record { seq = small.seq; destination = small.destination; source = small.source; security = small.security };
      part = fit.part;
      sound = record { shared = sound.shared; source = sound.source; kept = refl };
    }

pub settled : (h : Header) → rewritten (lost h) ≡ rewritten h
unfolding header_bytes
settled h = refl

-- an accepted writing stores the bytes
left_stored : (h : Header) (n : ℕ) (out : List ℕ) (to : ℕ) → write_header h (own_counter h) (length out - to) ≡ Ok n →
    header_after h out to ≡ laid out to (rewritten h)
left_stored h n out to e = rw e

-- a fit record in any buffer with room: stored there, read from there, stored once more
pub in_buffer : (h : Header) (out : List ℕ) (to : ℕ) → Fit h → lacks_address h ≡ false → to + h.length ≤ length out → InBuffer h out to
in_buffer h out to fit both room =
    let kept = sym fit.sound.kept in
    let answer = accepted h fit (length out - to) both (omega arith) in
    let left : header_after h out to ≡ laid out to (rewritten h) = left_stored h h.length out to answer in
    let stored = left ∙ parted h fit out to room in
    let place : length (take to out) ≡ to = length-take-le to out (omega arith) in
    let same : length (header_after h out to) ≡ length out = ap length left ∙ laid_length out to (rewritten h) in
    let once_more = accepted (lost h) (fit_lost h fit) (length (header_after h out to) - to) both (omega (arith, same, kept)) in
    record {
      accepted = answer;
      stored = stored;
      again = ap (λ (l : List ℕ). read_header (drop to l)) stored
          ∙ ap read_header (drop_at (take to out) (rewritten h ++ drop (to + h.length) out) to place)
          ∙ again h fit (drop (to + h.length) out);
      once_more = once_more ∙ ap Ok kept;
      settled = left_stored (lost h) (header_length h) (header_after h out to) to once_more
          ∙ (λ i. laid (left i) to (settled h i))
          ∙ laid_again out to (rewritten h)
          ∙ sym left;
    }
