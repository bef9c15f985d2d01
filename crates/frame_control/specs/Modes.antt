-- Address modes and their bits: document 01, "Modes are 0 none, 2 short, 3 extended" (IEEE 802.15.4-2011, 5.2.1.1.6 and
-- 5.2.1.1.8).
use Rattle.std.specs.Prelude.{ℕ, List, [], ◌∷◌, Result, Ok, Err}
use Rattle.std.specs.Result.{result_unwrap_or}
use Rattle.octets.specs.{declared.Refusal.Refusal, Bits.find}
use Rattle.frame_control.specs.declared.AddressMode.{AddressMode}
use Rattle.frame_control.specs.declared.AddressMode.TheVariants.{None, Short, Extended}

abbrev pub modes : List (ℕ × AddressMode)
modes = (0, None) ∷ (2, Short) ∷ (3, Extended) ∷ []

-- the mode of a number, refused where it is not listed
unfoldable pub mode_of : ℕ → Result AddressMode Refusal
mode_of n = find modes (Err Refusal.AddressMode) Ok n

abbrev pub mode_bits : AddressMode → ℕ
mode_bits None = 0
mode_bits Short = 2
mode_bits Extended = 3

-- the mode of a number that is listed; None stands in for another, which is refused before it is asked for
abbrev pub known_mode : Result AddressMode Refusal → AddressMode
known_mode r = result_unwrap_or r None

abbrev pub mode_in : ℕ → AddressMode
mode_in n = known_mode (mode_of n)
