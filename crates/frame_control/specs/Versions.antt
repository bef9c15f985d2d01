-- Frame versions and their bits: document 01, "Versions 0, 1, 2 are known" (IEEE 802.15.4-2011, 5.2.1.1.7, as document
-- 01 widens it).
use Rattle.std.specs.Prelude.{ℕ, List, [], ◌∷◌, Result, Ok, Err}
use Rattle.std.specs.Result.{result_unwrap_or}
use Rattle.octets.specs.{declared.Refusal.Refusal, Bits.find}
use Rattle.frame_control.specs.declared.FrameVersion.{FrameVersion}
use Rattle.frame_control.specs.declared.FrameVersion.TheVariants.{Ieee802154_2003, Ieee802154_2006, Ieee802154}

abbrev pub versions : List (ℕ × FrameVersion)
versions = (0, Ieee802154_2003) ∷ (1, Ieee802154_2006) ∷ (2, Ieee802154) ∷ []

-- the version of a number, refused where it is not listed
unfoldable pub version_of : ℕ → Result FrameVersion Refusal
version_of n = find versions (Err Refusal.Version) Ok n

abbrev pub version_bits : FrameVersion → ℕ
version_bits Ieee802154_2003 = 0
version_bits Ieee802154_2006 = 1
version_bits Ieee802154 = 2

-- the version of a number that is listed; 2003 stands in for another, which is refused before it is asked for
abbrev pub known_version : Result FrameVersion Refusal → FrameVersion
known_version r = result_unwrap_or r Ieee802154_2003

abbrev pub version_in : ℕ → FrameVersion
version_in n = known_version (version_of n)
