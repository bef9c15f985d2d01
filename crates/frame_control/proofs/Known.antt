-- Listed values and their bits undo each other.
-- Assumes nothing.
use Prim.Native.Nat.{ℕ, zero, suc, ◌<◌}
use native.Mathlib.Omega.{arith}
use mathlib.Core.Bool.{false, true≢false}
use mathlib.Core.Path.{◌≡◌, refl}
use lib.Dec.{eqb}
use Rattle.std.specs.Prelude.{Ok}
use Rattle.frame_control.specs.declared.FrameType.{FrameType}
use Rattle.frame_control.specs.declared.FrameType.TheVariants as Kind
use Rattle.frame_control.specs.declared.FrameVersion.{FrameVersion}
use Rattle.frame_control.specs.declared.FrameVersion.TheVariants as Version
use Rattle.frame_control.specs.declared.AddressMode.{AddressMode}
use Rattle.frame_control.specs.declared.AddressMode.TheVariants as Mode
use Rattle.frame_control.specs.Types.{type_of, type_in, type_bits}
use Rattle.frame_control.specs.Versions.{version_of, version_in, version_bits}
use Rattle.frame_control.specs.Modes.{mode_of, mode_in, mode_bits}

-- the bits of a value are read as that value
pub type_back : (t : FrameType) → type_of (type_bits t) ≡ Ok t
unfolding type_of
type_back Kind.Beacon = refl
type_back Kind.Data = refl
type_back Kind.Acknowledgement = refl
type_back Kind.MacCommand = refl
type_back Kind.Multipurpose = refl
type_back Kind.FragOrFragAck = refl
type_back Kind.Extended = refl

pub version_back : (v : FrameVersion) → version_of (version_bits v) ≡ Ok v
unfolding version_of
version_back Version.Ieee802154_2003 = refl
version_back Version.Ieee802154_2006 = refl
version_back Version.Ieee802154 = refl

pub mode_back : (m : AddressMode) → mode_of (mode_bits m) ≡ Ok m
unfolding mode_of
mode_back Mode.None = refl
mode_back Mode.Short = refl
mode_back Mode.Extended = refl

-- they are none of the numbers that are refused
pub type_listed : (t : FrameType) → eqb (type_bits t) 4 ≡ false
type_listed Kind.Beacon = refl
type_listed Kind.Data = refl
type_listed Kind.Acknowledgement = refl
type_listed Kind.MacCommand = refl
type_listed Kind.Multipurpose = refl
type_listed Kind.FragOrFragAck = refl
type_listed Kind.Extended = refl

pub version_listed : (v : FrameVersion) → eqb (version_bits v) 3 ≡ false
version_listed Version.Ieee802154_2003 = refl
version_listed Version.Ieee802154_2006 = refl
version_listed Version.Ieee802154 = refl

pub mode_listed : (m : AddressMode) → eqb (mode_bits m) 1 ≡ false
mode_listed Mode.None = refl
mode_listed Mode.Short = refl
mode_listed Mode.Extended = refl

-- any other number that fits the field is the bits of its value
pub type_again : (n : ℕ) → n < 8 → eqb n 4 ≡ false → type_bits (type_in n) ≡ n
unfolding type_of
type_again zero h e = refl
type_again (suc zero) h e = refl
type_again (suc (suc zero)) h e = refl
type_again (suc (suc (suc zero))) h e = refl
type_again (suc (suc (suc (suc zero)))) h e = absurd (true≢false e)
type_again (suc (suc (suc (suc (suc zero))))) h e = refl
type_again (suc (suc (suc (suc (suc (suc zero)))))) h e = refl
type_again (suc (suc (suc (suc (suc (suc (suc zero))))))) h e = refl
type_again (suc (suc (suc (suc (suc (suc (suc (suc n)))))))) h e = absurd (omega arith)

pub version_again : (n : ℕ) → n < 4 → eqb n 3 ≡ false → version_bits (version_in n) ≡ n
unfolding version_of
version_again zero h e = refl
version_again (suc zero) h e = refl
version_again (suc (suc zero)) h e = refl
version_again (suc (suc (suc zero))) h e = absurd (true≢false e)
version_again (suc (suc (suc (suc n)))) h e = absurd (omega arith)

pub mode_again : (n : ℕ) → n < 4 → eqb n 1 ≡ false → mode_bits (mode_in n) ≡ n
unfolding mode_of
mode_again zero h e = refl
mode_again (suc zero) h e = absurd (true≢false e)
mode_again (suc (suc zero)) h e = refl
mode_again (suc (suc (suc zero))) h e = refl
mode_again (suc (suc (suc (suc n)))) h e = absurd (omega arith)

-- the bits fit their field
pub type_small : (t : FrameType) → type_bits t < 8
type_small Kind.Beacon = omega arith
type_small Kind.Data = omega arith
type_small Kind.Acknowledgement = omega arith
type_small Kind.MacCommand = omega arith
type_small Kind.Multipurpose = omega arith
type_small Kind.FragOrFragAck = omega arith
type_small Kind.Extended = omega arith

pub version_small : (v : FrameVersion) → version_bits v < 4
version_small Version.Ieee802154_2003 = omega arith
version_small Version.Ieee802154_2006 = omega arith
version_small Version.Ieee802154 = omega arith

pub mode_small : (m : AddressMode) → mode_bits m < 4
mode_small Mode.None = omega arith
mode_small Mode.Short = omega arith
mode_small Mode.Extended = omega arith
