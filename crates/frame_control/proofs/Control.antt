-- The frame control's fields put together are read as those fields, and a field read and put together again has only its bit 7 cleared.
-- Assumes nothing.
use Prim.Native.Nat.{ℕ, ◌+◌, ◌-◌, ◌*◌, ◌%◌, ◌^◌, ◌<◌}
use native.Mathlib.Nat.{mod-eq_of_lt}
use native.Mathlib.Omega.{arith}
use mathlib.Core.Bool.{false}
use mathlib.Core.Path.{◌≡◌, sym, ap, ◌∙◌}
use lib.Dec.{eqb}
use Rattle.octets.specs.Bits.{bits, bit, bit_of, clear}
use Rattle.octets.proofs.Bits.{bit_back, bit_again, bit_small, bits_low, bits_join}
use Rattle.frame_control.specs.declared.FrameControl.{FrameControl}
use Rattle.std.specs.Prelude.{Ok}
use Rattle.frame_control.specs.Types.{type_bits}
use Rattle.frame_control.specs.Versions.{version_bits}
use Rattle.frame_control.specs.Modes.{mode_bits}
use Rattle.frame_control.specs.Control.{control_of, control_in, control_bits, quiet_control}
use Rattle.frame_control.proofs.Known.{type_back, type_listed, type_again, type_small, version_back, version_listed, version_again}
use Rattle.frame_control.proofs.Known.{version_small, mode_back, mode_listed, mode_again, mode_small}

-- each field fits its bits
abbrev Small : FrameControl → Type 0
Small c =
    (type_bits c.frame_type < 8) × (bit_of c.security < 2) × (bit_of c.frame_pending < 2) × (bit_of c.ack_request < 2) ×
    (bit_of c.pan_id_compress < 2) × (bit_of c.seq_no_suppress < 2) × (bit_of c.ie_present < 2) ×
    (mode_bits c.destination < 4) × (version_bits c.version < 4) × (mode_bits c.source < 4)

small : (c : FrameControl) → Small c
small c = (
  type_small c.frame_type,
  bit_small c.security,
  bit_small c.frame_pending,
  bit_small c.ack_request,
  bit_small c.pan_id_compress,
  bit_small c.seq_no_suppress,
  bit_small c.ie_present,
  mode_small c.destination,
  version_small c.version,
  mode_small c.source,
)

-- no test of the definition holds of the number
pub record Known (w : ℕ) : Type 0 where
  pub version : eqb (bits w 12 2) 3 ≡ false
  pub type : eqb (bits w 0 3) 4 ≡ false
  pub destination : eqb (bits w 10 2) 1 ≡ false
  pub source : eqb (bits w 14 2) 1 ≡ false

pub control_read : (w : ℕ) → Known w → control_in w ≡ Ok (control_of w)
unfolding control_in
control_read w k = simp (k.version, k.type, k.destination, k.source)

-- each field of the number put together is at its bits
module _ (c : FrameControl) where
  type_at : bits (control_bits c) 0 3 ≡ type_bits c.frame_type
  unfolding control_bits
  type_at = let h = small c in omega arith

  security_at : bits (control_bits c) 3 1 ≡ bit_of c.security
  unfolding control_bits
  security_at = let h = small c in omega arith

  pending_at : bits (control_bits c) 4 1 ≡ bit_of c.frame_pending
  unfolding control_bits
  pending_at = let h = small c in omega arith

  request_at : bits (control_bits c) 5 1 ≡ bit_of c.ack_request
  unfolding control_bits
  request_at = let h = small c in omega arith

  compress_at : bits (control_bits c) 6 1 ≡ bit_of c.pan_id_compress
  unfolding control_bits
  compress_at = let h = small c in omega arith

  suppress_at : bits (control_bits c) 8 1 ≡ bit_of c.seq_no_suppress
  unfolding control_bits
  suppress_at = let h = small c in omega arith

  elements_at : bits (control_bits c) 9 1 ≡ bit_of c.ie_present
  unfolding control_bits
  elements_at = let h = small c in omega arith

  pub destination_at : bits (control_bits c) 10 2 ≡ mode_bits c.destination
  unfolding control_bits
  destination_at = let h = small c in omega arith

  version_at : bits (control_bits c) 12 2 ≡ version_bits c.version
  unfolding control_bits
  version_at = let h = small c in omega arith

  pub source_at : bits (control_bits c) 14 2 ≡ mode_bits c.source
  unfolding control_bits
  source_at = let h = small c in omega arith

  pub control_small : control_bits c < 256 ^ 2
  unfolding control_bits
  control_small = let h = small c in omega arith

  -- fields put together are read as those fields
  pub control_of_lem : control_of (control_bits c) ≡ c
  control_of_lem =
      simp (
        version_at,
        version_back,
        type_at,
        type_back,
        destination_at,
        source_at,
        mode_back,
        security_at,
        pending_at,
        request_at,
        compress_at,
        suppress_at,
        elements_at,
        bit_back,
      )

  pub control_known : Known (control_bits c)
  control_known = record {
    version = ap (λ (n : ℕ). eqb n 3) version_at ∙ version_listed c.version;
    type = ap (λ (n : ℕ). eqb n 4) type_at ∙ type_listed c.frame_type;
    destination = ap (λ (n : ℕ). eqb n 1) destination_at ∙ mode_listed c.destination;
    source = ap (λ (n : ℕ). eqb n 1) source_at ∙ mode_listed c.source;
  }

  pub control_back : control_in (control_bits c) ≡ Ok c
  control_back = control_read (control_bits c) control_known ∙ ap Ok control_of_lem

-- the fields of a number sum up to the number without its bit 7
sum : (w t s p a k x q i d v m r4 r5 r6 r7 r8 r9 r10 r12 r14 : ℕ) →
    r4 ≡ s * 8 + t → r5 ≡ p * 16 + r4 → r6 ≡ a * 32 + r5 → r7 ≡ k * 64 + r6 → r8 ≡ x * 128 + r7 → r9 ≡ q * 256 + r8 → r10 ≡ i * 512 + r9 →
    r12 ≡ d * 1024 + r10 → r14 ≡ v * 4096 + r12 → w ≡ m * 16384 + r14 →
    t + 8 * s + 16 * p + 32 * a + 64 * k + 256 * q + 512 * i + 1024 * d + 4096 * v + 16384 * m ≡ w - x * 128
sum w t s p a k x q i d v m r4 r5 r6 r7 r8 r9 r10 r12 r14 e4 e5 e6 e7 e8 e9 e10 e12 e14 e = omega arith

joined : (w : ℕ) → w < 256 ^ 2 →
    bits w 0 3 + 2 ^ 3 * bits w 3 1 + 2 ^ 4 * bits w 4 1 + 2 ^ 5 * bits w 5 1 + 2 ^ 6 * bits w 6 1
    + 2 ^ 8 * bits w 8 1 + 2 ^ 9 * bits w 9 1 + 2 ^ 10 * bits w 10 2 + 2 ^ 12 * bits w 12 2 + 2 ^ 14 * bits w 14 2
    ≡ clear 7 1 w
joined w h =
    rw (bits_low w 3)
    (sum w (w % 8) (bits w 3 1) (bits w 4 1) (bits w 5 1) (bits w 6 1) (bits w 7 1) (bits w 8 1) (bits w 9 1)
    (bits w 10 2) (bits w 12 2) (bits w 14 2)
    (w % 16) (w % 32) (w % 64) (w % 128) (w % 256) (w % 512) (w % 1024) (w % 4096) (w % 16384)
    (bits_join w 3 1) (bits_join w 4 1) (bits_join w 5 1) (bits_join w 6 1) (bits_join w 7 1) (bits_join w 8 1) (bits_join w 9 1)
    (bits_join w 10 2)
    (bits_join w 12 2) (sym (mod-eq_of_lt h) ∙ bits_join w 14 2))

-- the listed values of a known number have the bits that they were read from
module _ (w : ℕ) (k : Known w) where
  pub destination_bits : mode_bits (control_of w).destination ≡ bits w 10 2
  destination_bits = mode_again (bits w 10 2) (omega arith) k.destination

  pub source_bits : mode_bits (control_of w).source ≡ bits w 14 2
  source_bits = mode_again (bits w 14 2) (omega arith) k.source

  -- put together again it has its bit 7 cleared and no other
  pub control_again : w < 256 ^ 2 → control_bits (control_of w) ≡ clear 7 1 w
  unfolding control_bits
  control_again h =
      rw (
        type_again (bits w 0 3) (omega arith) k.type,
        version_again (bits w 12 2) (omega arith) k.version,
        destination_bits,
        source_bits,
        bit_again (bits w 3 1) (omega arith),
        bit_again (bits w 4 1) (omega arith),
        bit_again (bits w 5 1) (omega arith),
        bit_again (bits w 6 1) (omega arith),
        bit_again (bits w 8 1) (omega arith),
        bit_again (bits w 9 1) (omega arith),
      )
      (joined w h)

-- without the two flags the number loses their bits
flags : (c : FrameControl) →
    control_bits (quiet_control c) + 256 * (bit_of c.seq_no_suppress + 2 * bit_of c.ie_present) ≡ control_bits c
unfolding control_bits
flags c = omega arith

three_bits : (u v x y q i p r7 r8 r9 r10 : ℕ) → u + 256 * (q + 2 * i) ≡ v → v ≡ y - x * 128 → r10 ≡ p * 128 + r7 → r8 ≡ x * 128 + r7 →
    r9 ≡ q * 256 + r8 → r10 ≡ i * 512 + r9 →
    u ≡ y - p * 128
three_bits u v x y q i p r7 r8 r9 r10 e f g7 g8 g9 g10 = omega arith

-- a number that is read, put together again with both flags false, has its bits 7, 8 and 9 cleared and no other
pub control_quiet : (w : ℕ) → Known w → w < 256 ^ 2 → control_bits (quiet_control (control_of w)) ≡ clear 7 3 w
control_quiet w k h =
    let suppress : bit_of (bit w 8) ≡ bits w 8 1 = bit_again (bits w 8 1) (omega arith) in
    let elements : bit_of (bit w 9) ≡ bits w 9 1 = bit_again (bits w 9 1) (omega arith) in
    three_bits (control_bits (quiet_control (control_of w))) (control_bits (control_of w)) (bits w 7 1) w (bits w 8 1) (bits w 9 1) (bits w 7 3)
    (w % 128) (w % 256) (w % 512) (w % 1024)
    (rw (suppress, elements) at (flags (control_of w))) (control_again w k h)
    (bits_join w 7 3) (bits_join w 7 1) (bits_join w 8 1) (bits_join w 9 1)
