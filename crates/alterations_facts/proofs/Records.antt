-- The frame control by the record that was read, and what the records of a frame are written as.
-- Assumes nothing.
use Prim.Native.Nat.{ℕ}
use native.Mathlib.Omega.{arith}
use mathlib.Core.Bool.{Bool, true, false, cond, not, ◌&&◌}
use mathlib.Core.List.{List}
use mathlib.Core.Path.{◌≡◌, refl, sym, ◌∙◌}
use lib.Dec.{eqb}
use Rattle.octets.specs.{Bits.bits, Bits.bit, Little.number}
use Rattle.header_bytes.specs.{Layout.header_end, Reading.measured}
use Rattle.header_bytes.proofs.Passed.{Passed, measured_passed}
use Rattle.frame_control.specs.{Types.type_bits, Modes.mode_bits}
use Rattle.frame_control.proofs.Known.{type_again}
use Rattle.address.specs.Address.{mode_of}
use Rattle.header.specs.declared.Header.{Header}
use Rattle.header.specs.{Record.secured, Read.header_in, Read.read_header}
use Rattle.header.proofs.Apart.{together, apart}
use Rattle.header_facts.proofs.Fields.{to_bits, from_bits, part_present}
use Rattle.payload.specs.Frame.{unsecured_beacon}
use Rattle.alterations.specs.Listed.{holds_beacon}
use Rattle.alterations_facts.proofs.Truth.{and_false, and_true}
use Rattle.std.specs.Prelude.{Ok}
use Rattle.octets.specs.Outcome.{number_of}

-- the bits of a frame control that tell where the parts of a frame lie
pub record Told (s : List ℕ) (h : Header) : Type 0 where
  pub type : bits (number s 0 2) 0 3 ≡ type_bits h.frame_type
  pub security : bit (number s 0 2) 3 ≡ secured h
  pub compress : bit (number s 0 2) 6 ≡ h.pan_id_compress
  pub to : bits (number s 0 2) 10 2 ≡ mode_bits (mode_of h.destination)
  pub from : bits (number s 0 2) 14 2 ≡ mode_bits (mode_of h.source)

told_passed : (s : List ℕ) → Passed s (number s 0 2) → Told s (header_in s (number s 0 2))
told_passed s p =
    let w = number s 0 2 in
    record {
      type = sym (type_again (bits w 0 3) (omega arith) p.type);
      security = sym (part_present (bit w 3) s _);
      compress = refl;
      to = sym (to_bits s p);
      from = sym (from_bits s p);
    }

pub told_read : (s : List ℕ) (h : Header) (n : ℕ) → read_header s ≡ Ok (h, n) → Told s h
told_read s h n e = let q = apart s h n e in rw q.header at (told_passed s q.passed)

-- two records that tell the same of it
pub record Same (h g : Header) : Type 0 where
  pub type : type_bits g.frame_type ≡ type_bits h.frame_type
  pub security : secured g ≡ secured h
  pub compress : g.pan_id_compress ≡ h.pan_id_compress
  pub to : mode_bits (mode_of g.destination) ≡ mode_bits (mode_of h.destination)
  pub from : mode_bits (mode_of g.source) ≡ mode_bits (mode_of h.source)

-- whether a beacon is looked at
holds_so : (secured : Bool) (type : ℕ) → (eqb type 0 && not secured) ≡ cond secured false (eqb type 0)
holds_so true type = and_false (eqb type 0)
holds_so false type = and_true (eqb type 0)

pub holds_told : (s : List ℕ) (h : Header) → Told s h → holds_beacon (number s 0 2) ≡ unsecured_beacon h
holds_told s h t = (λ i. eqb (t.type i) 0 && not (t.security i)) ∙ holds_so (secured h) (type_bits h.frame_type)

-- what measuring accepts is read
pub header_read : (s : List ℕ) → number_of (measured s) ≡ 0 → read_header s ≡ Ok (header_in s (number s 0 2), header_end s (number s 0 2))
header_read s z = together s (number s 0 2) (measured_passed s z).0
