-- An address in a frame: document 01, "PAN id (2) and address (2 or 8)", the PAN id left out where it is shared (IEEE
-- 802.15.4-2011, 5.2.1.3 to 5.2.1.6). Own says that the PAN id is in the frame.
use Rattle.std.specs.Prelude.{ℕ, ◌+◌, ◌^◌, ◌<◌, Bool, true, false, cond, List, [], ◌++◌, Option, Some, None}
use Rattle.octets.specs.Little.{number, split}
use Rattle.frame_control.specs.declared.{AddressMode.AddressMode}
use Rattle.identifiers.specs.{declared.PanId.PanId, PanId.pan, ShortAddress.short, ExtendedAddress.extended}
use Rattle.address.specs.{Address.mode_of}
use Rattle.address.specs.declared.Address.TheVariants.{Short, Extended}
use Rattle.address.specs.declared.Address.{Address}

-- how many bytes a PAN id, an address of a mode and an address take
abbrev pub pan_length : Bool → ℕ
pan_length true = 2
pan_length false = 0

abbrev pub mode_length : Bool → AddressMode → ℕ
mode_length own AddressMode.None = 0
mode_length own AddressMode.Short = pan_length own + 2
mode_length own AddressMode.Extended = pan_length own + 8

abbrev pub address_length : Bool → Option Address → ℕ
address_length own a = mode_length own (mode_of a)

-- the PAN id at a place, or the shared one
abbrev pub pan_in : Bool → PanId → List ℕ → ℕ → PanId
pan_in true shared s at = pan (number s at 2)
pan_in false shared s at = shared

-- the address of a mode at a place
unfoldable pub address_in : Bool → PanId → AddressMode → List ℕ → ℕ → Option Address
address_in own shared AddressMode.None s at = None
address_in own shared AddressMode.Short s at =
    Some (Short (pan_in own shared s at) (short (number s (at + pan_length own) 2)))
address_in own shared AddressMode.Extended s at =
    Some (Extended (pan_in own shared s at) (extended (number s (at + pan_length own) 8)))

-- the bytes of a PAN id, where it is in the frame
abbrev pub pan_bytes : Bool → PanId → List ℕ
pan_bytes true p = split 2 p.0
pan_bytes false p = []

-- the bytes of an address
unfoldable pub address_bytes : Bool → Option Address → List ℕ
address_bytes own None = []
address_bytes own (Some (Short p a)) = pan_bytes own p ++ split 2 a.0
address_bytes own (Some (Extended p a)) = pan_bytes own p ++ split 8 a.0

-- what is read of an address that was written: its own PAN id where it is in the frame, else the shared one
abbrev pub sharing : Bool → PanId → Option Address → Option Address
sharing own shared None = None
sharing own shared (Some (Short p a)) = Some (Short (cond own p shared) a)
sharing own shared (Some (Extended p a)) = Some (Extended (cond own p shared) a)

-- each number within its width
abbrev pub SmallPan : PanId → Type 0
SmallPan p = p.0 < 256 ^ 2

abbrev pub SmallAddress : Option Address → Type 0
SmallAddress None = Unit
SmallAddress (Some (Short p a)) = SmallPan p × (a.0 < 256 ^ 2)
SmallAddress (Some (Extended p a)) = SmallPan p × (a.0 < 256 ^ 8)
