-- Rows P1 to P13 of document 01, as requests of document 02 change them, by computing.
-- Assumes nothing.
use mathlib.Core.List.{map, flat_map}
use mathlib.Core.Path.{◌≡◌, refl}
use Rattle.octets.specs.Little.{join, split, number}
use Rattle.frame_control.specs.Types.{type_of}
use Rattle.frame_control.specs.Versions.{version_of}
use Rattle.frame_control.specs.Modes.{mode_of}
use Rattle.frame_control.specs.Control.{control_bits}
use Rattle.address.specs.Layout.{address_in, address_bytes}
use Rattle.security_control.specs.Control.{key_mode_of}
use Rattle.key_identifier.specs.Key.{key_in, key_bytes}
use Rattle.security.specs.Security.{security_in, security_bytes}
use Rattle.header_parts.specs.Parts.{write_parts}
use Rattle.header.specs.Read.{read_by}
use Rattle.header.specs.Write.{header_bytes}
use Rattle.seven_places.specs.Seven.{seven, some}
use Rattle.superframe.specs.Superframe.{superframe_in, read_superframe, superframe_bytes, superframe_too_large}
use Rattle.time_slots.specs.Descriptor.{descriptor_in, descriptor_bytes, descriptor_too_large}
use Rattle.time_slots.specs.TimeSlots.{slot_at, time_slots_in, read_time_slots, directions_of, list_bytes, time_slots_bytes, time_slots_too_large}
use Rattle.time_slots.specs.TimeSlots.{write_time_slots}
use Rattle.pending.specs.Pending.{pending_in, read_pending, pending_bytes, pending_too_large}
use Rattle.beacon.specs.Beacon.{beacon_in, beacon_length_in, read_beacon, beacon_bytes, beacon_too_large, write_beacon}
use Rattle.rows_proved.specs.Rows.{Asked, Seen, seen, rows}

pub as_listed : map (λ (row : Asked × Seen). seen row.0) rows ≡ map (λ (row : Asked × Seen). row.1) rows
unfolding join split number type_of version_of mode_of control_bits address_in address_bytes key_mode_of key_in key_bytes security_in
    security_bytes read_by write_parts header_bytes read_beacon beacon_in beacon_length_in
    beacon_bytes beacon_too_large write_beacon read_superframe superframe_in superframe_bytes superframe_too_large read_time_slots time_slots_in
    time_slots_bytes time_slots_too_large write_time_slots list_bytes directions_of slot_at descriptor_in descriptor_bytes descriptor_too_large
    read_pending pending_in pending_bytes pending_too_large seven some flat_map
as_listed = refl
