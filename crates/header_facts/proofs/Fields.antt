-- The record of a header's fields beside its bytes: modes, PAN ids in the frame, places and lengths agree.
-- Assumes nothing.
use Prim.Native.Nat.{ℕ, ◌+◌, ◌≤◌}
use native.Mathlib.Nat.{add-zero}
use native.Mathlib.Omega.{arith}
use mathlib.Core.Bool.{Bool, true, false, cond, not, ◌&&◌}
use mathlib.Core.List.{List}
use mathlib.Core.Path.{◌≡◌, refl, ap, ◌∙◌}
use lib.Dec.{ltb, eqb}
use lib.ListN.{length}
use Rattle.octets.specs.Bits.{bits, bit}
use Rattle.octets.specs.Little.{number}
use Rattle.octets.proofs.Cases.{cases, holds?}
use Rattle.header_bytes.specs.Layout.{start, own_destination, own_source, pan_size, address_size, security_size}
use Rattle.header_bytes.specs.Layout.{destination_end, source_end, header_end}
use Rattle.header_bytes.proofs.Passed.{Passed}
use Rattle.frame_control.specs.declared.AddressMode.{AddressMode}
use Rattle.frame_control.specs.declared.AddressMode.TheVariants as Mode
use Rattle.frame_control.specs.Modes.{mode_in, mode_bits}
use Rattle.frame_control.proofs.Control.{Known, destination_bits, source_bits}
use Rattle.identifiers.specs.PanId.{pan}
use Rattle.address.specs.Address.{mode_of, shared_pan}
use Rattle.address.specs.Layout.{mode_length}
use Rattle.address.proofs.Addresses.{address_mode}
use Rattle.security_control.specs.Control.{key_mode_of}
use Rattle.key_identifier.specs.Key.{key_length}
use Rattle.security.specs.Optional.{is_present, optional_length, optional_in}
use Rattle.security.specs.Security.{length_in}
use Rattle.security.proofs.Security.{length_again}
use Rattle.header.specs.declared.Header.{Header}
use Rattle.header.specs.Record.{owns_destination, owns_source, addresses_end, header_length}
use Rattle.header.specs.Read.{destination_in, header_in}

-- an address's bytes by its mode and by the mode's number
pub to_size : (m : AddressMode) → mode_length (ltb 1 (mode_bits m)) m ≡ pan_size (ltb 1 (mode_bits m)) + address_size (mode_bits m)
to_size Mode.None = refl
to_size Mode.Short = refl
to_size Mode.Extended = refl

pub from_size : (k : Bool) (m : AddressMode) →
    mode_length (not k && ltb 1 (mode_bits m)) m ≡ pan_size (not k && ltb 1 (mode_bits m)) + address_size (mode_bits m)
from_size true Mode.None = refl
from_size true Mode.Short = refl
from_size true Mode.Extended = refl
from_size false m = to_size m

-- a security part's bytes by its key mode and by the mode's number
key_size : (n : ℕ) → 5 + key_length (key_mode_of n) ≡ security_size n
unfolding key_mode_of
key_size n =
    cases (holds? (eqb n 0)) (λ t. simp t) (λ none.
    cases (holds? (eqb n 1)) (λ t. simp (none, t)) (λ index.
    cases (holds? (eqb n 2)) (λ t. simp (none, index, t)) (λ short. simp (none, index, short))))

pub security_size_lem : (s : List ℕ) (at : ℕ) → length_in s at ≡ security_size (bits (number s at 1) 3 2)
security_size_lem s at = key_size (bits (number s at 1) 3 2)

pub part_present : (on : Bool) (s : List ℕ) (at : ℕ) → is_present (optional_in on s at) ≡ on
part_present true s at = refl
part_present false s at = refl

part_length : (on : Bool) (s : List ℕ) (at : ℕ) →
    at + optional_length (optional_in on s at) ≡ cond on (at + security_size (bits (number s at 1) 3 2)) at
part_length true s at = ap (λ (n : ℕ). at + n) (length_again s at ∙ security_size_lem s at)
part_length false s at = add-zero at

module _ (s : List ℕ) (p : Passed s (number s 0 2)) where
  abbrev w : ℕ
  w = number s 0 2

  abbrev header : Header
  header = header_in s w

  abbrev pub own_to : Bool
  own_to = own_destination (bits w 10 2) (bits w 14 2) (bit w 6)

  abbrev pub own_from : Bool
  own_from = own_source (bits w 10 2) (bits w 14 2) (bit w 6)

  pub known : Known w
  known = record { version = p.version; type = p.type; destination = p.destination; source = p.source }

  -- modes
  pub to_mode : mode_of header.destination ≡ mode_in (bits w 10 2)
  to_mode = address_mode own_to (pan 0) (mode_in (bits w 10 2)) s (start (bit w 8))

  pub from_mode : mode_of header.source ≡ mode_in (bits w 14 2)
  from_mode = address_mode own_from (shared_pan (destination_in s w)) (mode_in (bits w 14 2)) s (destination_end w)

  pub to_bits : mode_bits (mode_of header.destination) ≡ bits w 10 2
  to_bits = ap mode_bits to_mode ∙ destination_bits w known

  pub from_bits : mode_bits (mode_of header.source) ≡ bits w 14 2
  from_bits = ap mode_bits from_mode ∙ source_bits w known

  -- PAN ids in the frame
  pub owns_to_lem : owns_destination header ≡ own_to
  owns_to_lem = λ i. own_destination (to_bits i) (from_bits i) (bit w 6)

  pub owns_from_lem : owns_source header ≡ own_from
  owns_from_lem = λ i. own_source (to_bits i) (from_bits i) (bit w 6)

  -- lengths of the addresses
  pub destination_size : mode_length own_to (mode_in (bits w 10 2)) ≡ pan_size own_to + address_size (bits w 10 2)
  destination_size = rw (destination_bits w known) at (to_size (mode_in (bits w 10 2)))

  pub source_size : mode_length own_from (mode_in (bits w 14 2)) ≡ pan_size own_from + address_size (bits w 14 2)
  source_size = rw (source_bits w known) at (from_size (bit w 6) (mode_in (bits w 14 2)))

  -- places
  pub addresses_end_lem : addresses_end header ≡ source_end w
  addresses_end_lem =
      (λ i. 3 + mode_length (owns_to_lem i) (to_mode i) + mode_length (owns_from_lem i) (from_mode i))
      ∙ (λ i. 3 + destination_size i + source_size i)

  -- a security part lies in the input
  pub part_whole : bit w 3 ≡ true → source_end w + length_in s (source_end w) ≤ length s
  part_whole on = let whole : header_end s w ≤ length s = p.whole in omega (arith, security_size_lem s (source_end w), simp on at whole)

  pub length_told : header_length header ≡ header_end s w
  length_told = (λ i. addresses_end_lem i + optional_length (optional_in (bit w 3) s (source_end w))) ∙ part_length (bit w 3) s (source_end w)
