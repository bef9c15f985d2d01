-- From the record's side: the bytes of a record that the writer accepts are read as told.
-- Assumes nothing.
use Prim.Native.Nat.{ℕ, ◌+◌, ◌^◌, ◌≤◌, ◌<◌}
use native.Mathlib.Omega.{arith}
use mathlib.Core.Bool.{Bool, true, false, not, ◌&&◌, cond}
use mathlib.Core.List.{List, [], ◌++◌, append_assoc}
use mathlib.Core.Path.{◌≡◌, refl, sym, ap, ◌∙◌}
use borrow.Author.Tests.{ltb-false, eqb-true, not-false}
use lib.Dec.{ltb, eqb}
use lib.ListN.{length, length-append}
use Rattle.std.specs.Prelude.{Option, Some, None, Ok}
use Rattle.octets.specs.Bits.{bits, bit}
use Rattle.octets.specs.Little.{split, number}
use Rattle.octets.proofs.Little.{split_length, number_back}
use Rattle.header_bytes.specs.Layout.{own_destination, own_source, pan_size, address_size, security_size, destination_end, source_end, header_end}
use Rattle.header_bytes.proofs.Passed.{Passed}
use Rattle.frame_control.specs.declared.FrameControl.{FrameControl}
use Rattle.frame_control.specs.Control.{control_of, control_bits}
use Rattle.frame_control.specs.Modes.{mode_bits}
use Rattle.frame_control.proofs.Control.{control_small, control_of_lem, control_known, destination_at, source_at}
use Rattle.identifiers.specs.declared.PanId.{PanId}
use Rattle.identifiers.specs.PanId.{pan}
use Rattle.address.specs.declared.Address.{Address}
use Rattle.address.specs.declared.Address.TheVariants.{Short, Extended}
use Rattle.address.specs.Address.{mode_of, shared_pan}
use Rattle.address.specs.Layout.{address_length, address_in, address_bytes, sharing}
use Rattle.address.proofs.Addresses.{address_length_lem, address_back}
use Rattle.address_pair.specs.Pair.{both_present}
use Rattle.security.specs.declared.AuxiliarySecurityHeader.{AuxiliarySecurityHeader}
use Rattle.security.specs.Optional.{is_present, optional_too_large, optional_length, optional_in, optional_bytes, counter_of}
use Rattle.security.specs.Security.{level_of}
use Rattle.security.proofs.Security.{security_in_lem, length_read}
use Rattle.header.specs.declared.Header.{Header}
use Rattle.header.specs.Record.{header_of, secured, owns_destination, owns_source, addresses_end, header_length}
use Rattle.header.specs.Read.{destination_in, source_in, read_by, read_header}
use Rattle.header.specs.Write.{write_header, written_control, fixed_bytes, header_bytes}
use Rattle.header.proofs.Writing.{fixed_length, header_length_lem, written_passes}
use Rattle.header.proofs.Apart.{together}
use Rattle.header_facts.specs.Told.{part_told, header_told, Small, SmallPart}
use Rattle.header_facts.proofs.Fields.{to_size, from_size, security_size_lem}

-- an address whose PAN id stands in the frame is read as it was
pub owned_back : (shared : PanId) (a : Option Address) → sharing (ltb 1 (mode_bits (mode_of a))) shared a ≡ a
owned_back shared None = refl
owned_back shared (Some (Short p a)) = refl
owned_back shared (Some (Extended p a)) = refl

-- a security part behind other bytes, and where it ends
module _ (counter : ℕ) (before after : List ℕ) (at : ℕ) (e : length before ≡ at) (fits : counter < 256 ^ 4) where
  abbrev whole : Option AuxiliarySecurityHeader → List ℕ
  whole k = before ++ (optional_bytes k counter ++ after)

  part_in : (k : Option AuxiliarySecurityHeader) → optional_too_large k ≡ false → SmallPart k →
      optional_in (is_present k) (whole k) at ≡ part_told k counter
  part_in None l small = refl
  part_in (Some k) l small =
      let level : level_of k ≤ 7 = ltb-false 7 (level_of k) l in
      ap Some (security_in_lem k counter before after at e (omega arith, small) fits)

  part_end : (k : Option AuxiliarySecurityHeader) → optional_too_large k ≡ false →
      cond (is_present k) (at + security_size (bits (number (whole k) at 1) 3 2)) at ≡ at + optional_length k
  part_end None l = omega arith
  part_end (Some k) l =
      let level : level_of k ≤ 7 = ltb-false 7 (level_of k) l in
      ap (λ (n : ℕ). at + n) (sym (security_size_lem (whole (Some k)) at) ∙ length_read k counter before after at e (omega arith))

-- with both addresses, or without compression, there is a PAN id to share
pub both_shared : (compress : Bool) (d s : Option Address) → (compress && not (both_present d s)) ≡ false →
    (compress && eqb (mode_bits (mode_of d)) 0) ≡ false
both_shared false d s e = refl
both_shared true None s e = e
both_shared true (Some (Short p a)) s e = refl
both_shared true (Some (Extended p a)) s e = refl

module _ (h : Header) (counter : ℕ) (more : List ℕ) (small : Small h) (fits : counter < 256 ^ 4)
    (level : optional_too_large h.auxiliary_security_header ≡ false)
    (shared : (h.pan_id_compress && eqb (mode_bits (mode_of h.destination)) 0) ≡ false) where
  abbrev bytes : List ℕ
  bytes = header_bytes h counter ++ more

  abbrev control : FrameControl
  control = written_control h

  abbrev word : ℕ
  word = control_bits control

  abbrev part : Option AuxiliarySecurityHeader
  part = h.auxiliary_security_header

  abbrev to : List ℕ
  to = address_bytes (owns_destination h) h.destination

  abbrev from : List ℕ
  from = address_bytes (owns_source h) h.source

  abbrev security : List ℕ
  security = optional_bytes part counter

  -- the bytes, parted before each field
  at_control : bytes ≡ [] ++ (split 2 word ++ (split 1 h.seq ++ (to ++ (from ++ (security ++ more)))))
  unfolding header_bytes
  at_control = simp append_assoc

  at_seq : bytes ≡ split 2 word ++ (split 1 h.seq ++ (to ++ (from ++ (security ++ more))))
  unfolding header_bytes
  at_seq = simp append_assoc

  at_destination : bytes ≡ fixed_bytes h ++ (to ++ (from ++ (security ++ more)))
  unfolding header_bytes
  at_destination = simp append_assoc

  at_source : bytes ≡ (fixed_bytes h ++ to) ++ (from ++ (security ++ more))
  unfolding header_bytes
  at_source = simp append_assoc

  at_security : bytes ≡ ((fixed_bytes h ++ to) ++ from) ++ (security ++ more)
  unfolding header_bytes
  at_security = simp append_assoc

  -- what the frame control says
  word_read : number bytes 0 2 ≡ word
  word_read = ap (λ (s : List ℕ). number s 0 2) at_control ∙ number_back [] 0 2 word _ refl (control_small control)

  same_control : control_of word ≡ control
  same_control = control_of_lem control

  compress_is : bit word 6 ≡ h.pan_id_compress
  compress_is = ap (λ (c : FrameControl). c.pan_id_compress) same_control

  secured_is : bit word 3 ≡ secured h
  secured_is = ap (λ (c : FrameControl). c.security) same_control

  own_to_lem : own_destination (bits word 10 2) (bits word 14 2) (bit word 6) ≡ owns_destination h
  own_to_lem = λ i. own_destination (destination_at control i) (source_at control i) (compress_is i)

  own_from_lem : own_source (bits word 10 2) (bits word 14 2) (bit word 6) ≡ owns_source h
  own_from_lem = λ i. own_source (destination_at control i) (source_at control i) (compress_is i)

  -- where the addresses end
  to_end : destination_end word ≡ 3 + address_length (owns_destination h) h.destination
  to_end =
      (λ i. 3 + (pan_size (own_to_lem i) + address_size (destination_at control i)))
      ∙ ap (λ (n : ℕ). 3 + n) (sym (to_size (mode_of h.destination)))

  from_end : source_end word ≡ addresses_end h
  from_end =
      (λ i. to_end i + (pan_size (own_from_lem i) + address_size (source_at control i)))
      ∙ ap (λ (n : ℕ). 3 + address_length (owns_destination h) h.destination + n)
      (sym (from_size h.pan_id_compress (mode_of h.source)))

  before_source : length (fixed_bytes h ++ to) ≡ 3 + address_length (owns_destination h) h.destination
  before_source = length-append (fixed_bytes h) to ∙ (λ i. fixed_length h i + address_length_lem (owns_destination h) h.destination i)

  before_security : length ((fixed_bytes h ++ to) ++ from) ≡ addresses_end h
  before_security = length-append (fixed_bytes h ++ to) from ∙ (λ i. before_source i + address_length_lem (owns_source h) h.source i)

  -- the fields
  seq_read : number bytes 2 1 ≡ h.seq
  seq_read = ap (λ (s : List ℕ). number s 2 1) at_seq ∙ number_back (split 2 word) 2 1 h.seq _ (split_length 2 word) small.seq

  destination_read : destination_in bytes word ≡ h.destination
  destination_read =
      (λ i. address_in (own_to_lem i) (pan 0) (same_control i).destination (at_destination i) 3)
      ∙ address_back (owns_destination h) (pan 0) h.destination (fixed_bytes h) _ 3 (fixed_length h) small.destination
      ∙ owned_back (pan 0) h.destination

  source_read : source_in bytes word ≡ sharing (owns_source h) (shared_pan h.destination) h.source
  source_read =
      let at = 3 + address_length (owns_destination h) h.destination in
      (λ i. address_in (own_from_lem i) (shared_pan (destination_read i)) (same_control i).source (at_source i) (to_end i))
      ∙ address_back (owns_source h) (shared_pan h.destination) h.source (fixed_bytes h ++ to) _ at before_source small.source

  security_read : optional_in (bit word 3) bytes (source_end word) ≡ part_told part counter
  security_read =
      (λ i. optional_in (secured_is i) (at_security i) (from_end i))
      ∙ part_in counter ((fixed_bytes h ++ to) ++ from) more (addresses_end h) before_security fits part level small.security

  end_read : header_end bytes word ≡ header_length h
  end_read =
      (λ i. cond (secured_is i) (from_end i + security_size (bits (number (at_security i) (from_end i) 1) 3 2)) (from_end i))
      ∙ part_end counter ((fixed_bytes h ++ to) ++ from) more (addresses_end h) before_security fits part level

  -- no test of reading holds
  there : header_length h ≤ length bytes
  there = simp (length-append, header_length_lem) (omega arith)

  passed : Passed bytes word
  passed =
      let known = control_known control in
      record {
        three = omega (arith, there);
        version = known.version;
        type = known.type;
        destination = known.destination;
        source = known.source;
        shared = (λ i. compress_is i && eqb (destination_at control i) 0) ∙ shared;
        addresses = omega (arith, there, from_end);
        whole = omega (arith, there, end_read);
      }

  -- the bytes of a record are read as told
  pub header_back : read_header bytes ≡ Ok (header_told h counter, header_length h)
  header_back =
      ap (read_by bytes) word_read
      ∙ together bytes word passed
      ∙ (λ i. Ok (header_of (same_control i) (seq_read i) (destination_read i) (source_read i) (security_read i), end_read i))

-- so are those of each record that the writer accepts
pub record_side : (h : Header) (counter : Option ℕ) (room n : ℕ) (more : List ℕ) → Small h → counter_of counter < 256 ^ 4 →
    write_header h counter room ≡ Ok n →
    read_header (header_bytes h (counter_of counter) ++ more) ≡ Ok (header_told h (counter_of counter), n)
record_side h counter room n more small fits e =
    let q = written_passes h counter room n e in
    let shared = both_shared h.pan_id_compress h.destination h.source q.0.1.1.1.0 in
    header_back h (counter_of counter) more small fits q.0.1.0 shared ∙ (λ i. Ok (header_told h (counter_of counter), q.1 i))

-- neither the PAN id of a source nor a counter alters a length
shared_mode : (own : Bool) (shared : PanId) (a : Option Address) → mode_of (sharing own shared a) ≡ mode_of a
shared_mode own shared None = refl
shared_mode own shared (Some (Short p a)) = refl
shared_mode own shared (Some (Extended p a)) = refl

told_length : (k : Option AuxiliarySecurityHeader) (counter : ℕ) → optional_length (part_told k counter) ≡ optional_length k
told_length None counter = refl
told_length (Some k) counter = refl

-- so the writer accepts a record only where it keeps the right length, and what is read back keeps the same
pub written_kept : (h : Header) (counter : Option ℕ) (room n : ℕ) → write_header h counter room ≡ Ok n →
    (h.length ≡ n) × ((header_told h (counter_of counter)).length ≡ n)
written_kept h counter room n e =
    let q = written_passes h counter room n e in
    let same = eqb-true h.length (header_length h) (not-false (eqb h.length (header_length h)) q.0.0) in
    let mode = shared_mode (owns_source h) (shared_pan h.destination) h.source in
    (same ∙ q.1, rw (mode, told_length h.auxiliary_security_header (counter_of counter)) q.1)
