-- Frame types and their bits: document 01, "Types 0, 1, 2, 3, 5, 6, 7 are known" (IEEE 802.15.4-2011, 5.2.1.1.1, as
-- document 01 widens it).
use Rattle.std.specs.Prelude.{ℕ, List, [], ◌∷◌, Result, Ok, Err}
use Rattle.std.specs.Result.{result_unwrap_or}
use Rattle.octets.specs.{declared.Refusal.Refusal, Bits.find}
use Rattle.frame_control.specs.declared.FrameType.{FrameType}
use Rattle.frame_control.specs.declared.FrameType.TheVariants.{Beacon, Data, Acknowledgement, MacCommand}
use Rattle.frame_control.specs.declared.FrameType.TheVariants.{Multipurpose, FragOrFragAck, Extended}

abbrev pub types : List (ℕ × FrameType)
types =
    (0, Beacon) ∷
    (1, Data) ∷
    (2, Acknowledgement) ∷
    (3, MacCommand) ∷
    (5, Multipurpose) ∷
    (6, FragOrFragAck) ∷
    (7, Extended) ∷
    []

-- the type of a number, refused where it is not listed
unfoldable pub type_of : ℕ → Result FrameType Refusal
type_of n = find types (Err Refusal.FrameType) Ok n

abbrev pub type_bits : FrameType → ℕ
type_bits Beacon = 0
type_bits Data = 1
type_bits Acknowledgement = 2
type_bits MacCommand = 3
type_bits Multipurpose = 5
type_bits FragOrFragAck = 6
type_bits Extended = 7

-- the type of a number that is listed; Beacon stands in for another, which is refused before it is asked for
abbrev pub known_type : Result FrameType Refusal → FrameType
known_type r = result_unwrap_or r Beacon

abbrev pub type_in : ℕ → FrameType
type_in n = known_type (type_of n)
