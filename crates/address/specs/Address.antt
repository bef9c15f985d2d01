-- What an address answers: its PAN id, its mode, and the broadcast form of each mode (document 01, "Each broadcast form
-- of the source (all ones) belongs to its own kind").
use Rattle.frame_control.specs.declared.{AddressMode.AddressMode}
use Rattle.identifiers.specs.{declared.PanId.PanId, PanId.pan, ShortAddress.short, ExtendedAddress.extended}
use Rattle.address.specs.declared.{Address.Address}
use Rattle.address.specs.declared.Address.TheVariants.{Short, Extended}
use Rattle.std.specs.Prelude.{Option, Some, None}

abbrev pub pan_of : Address → PanId
pan_of (Short p a) = p
pan_of (Extended p a) = p

abbrev pub mode_of_address : Address → AddressMode
mode_of_address (Short p a) = AddressMode.Short
mode_of_address (Extended p a) = AddressMode.Extended

abbrev pub mode_of : Option Address → AddressMode
mode_of None = AddressMode.None
mode_of (Some a) = mode_of_address a

-- the PAN id that a compressed source shares with a destination: with none, compression is refused before it is asked
-- for
abbrev pub shared_pan : Option Address → PanId
shared_pan None = pan 0
shared_pan (Some a) = pan_of a

abbrev pub broadcast_of : AddressMode → Option Address
broadcast_of AddressMode.None = None
broadcast_of AddressMode.Short = Some (Short (pan 0xffff) (short 0xffff))
broadcast_of AddressMode.Extended = Some (Extended (pan 0xffff) (extended 0xffff_ffff_ffff_ffff))
