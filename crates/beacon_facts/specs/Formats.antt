-- The beacon and each of its parts as formats.
use Rattle.std.specs.Prelude.{ℕ, ◌^◌, ◌<◌, List, ◌≡◌, length, get_or, Ok}
use Rattle.identifiers.specs.declared.{ShortAddress.ShortAddress, ExtendedAddress.ExtendedAddress}
use Rattle.seven_places.specs.Seven.{emptied}
use Rattle.superframe.specs.declared.{SuperframeSpecification.SuperframeSpecification, SuperframeRead.SuperframeRead}
use Rattle.superframe.specs.Superframe.{read_superframe, superframe_bytes, superframe_too_large, write_superframe}
use Rattle.time_slots.specs.declared.{GuaranteedTimeSlotDescriptor.GuaranteedTimeSlotDescriptor}
use Rattle.time_slots.specs.declared.{DescriptorRead.DescriptorRead}
use Rattle.time_slots.specs.declared.{GuaranteedTimeSlotInformation.GuaranteedTimeSlotInformation}
use Rattle.time_slots.specs.declared.{TimeSlotsRead.TimeSlotsRead}
use Rattle.time_slots.specs.Descriptor.{descriptor_of, empty_descriptor, read_descriptor, descriptor_bytes}
use Rattle.time_slots.specs.Descriptor.{descriptor_too_large, write_descriptor}
use Rattle.time_slots.specs.TimeSlots.{time_slots_of, read_time_slots, time_slots_bytes}
use Rattle.time_slots.specs.TimeSlots.{time_slots_size, time_slots_too_large, write_time_slots}
use Rattle.time_slots.specs.declared.Direction.TheVariants.{Receive}
use Rattle.pending.specs.declared.{PendingAddress.PendingAddress, PendingRead.PendingRead}
use Rattle.pending.specs.Addresses.{empty_short, empty_extended}
use Rattle.pending.specs.Pending.{pending_of, read_pending, pending_bytes, pending_size, pending_too_large, write_pending}
use Rattle.beacon.specs.declared.{Beacon.Beacon, BeaconRead.BeaconRead}
use Rattle.beacon.specs.Beacon.{beacon_of, beacon_accepted, read_beacon, beacon_bytes, beacon_size, beacon_too_large}
use Rattle.beacon.specs.Beacon.{write_beacon}
use Rattle.beacon_facts.specs.Cleared.{superframe_cleared, descriptor_cleared, time_slots_cleared, pending_cleared}
use Rattle.beacon_facts.specs.Cleared.{beacon_cleared}
use Rattle.beacon_facts.specs.Format.{Format}

abbrev pub superframe : Format SuperframeSpecification SuperframeRead
superframe =
    record {
      read = read_superframe;
      accepts = λ x n. record { outcome = Ok n; superframe_spec = x };
      write = write_superframe;
      too_large = superframe_too_large;
      bytes = superframe_bytes;
      size = λ x. 2;
      cleared = superframe_cleared;
      read_back = λ x. x;
      Typed = λ x. Unit;
    }

-- a descriptor read alone is Receive
abbrev pub descriptor_read_back : GuaranteedTimeSlotDescriptor → GuaranteedTimeSlotDescriptor
descriptor_read_back x = descriptor_of x.short_address x.starting_slot x.length Receive

abbrev pub DescriptorTyped : GuaranteedTimeSlotDescriptor → Type 0
DescriptorTyped x = x.short_address.0 < 256 ^ 2

abbrev pub descriptor : Format GuaranteedTimeSlotDescriptor DescriptorRead
descriptor =
    record {
      read = read_descriptor;
      accepts = λ x n. record { outcome = Ok n; slot = x };
      write = write_descriptor;
      too_large = descriptor_too_large;
      bytes = descriptor_bytes;
      size = λ x. 3;
      cleared = descriptor_cleared;
      read_back = descriptor_read_back;
      Typed = DescriptorTyped;
    }

-- seven entries, each as its type has it
abbrev pub SevenTyped : {A : Type 0} → (A → Type 0) → A → List A → Type 0
SevenTyped Typed empty l = (length l ≡ 7) × ((k : ℕ) → k < 7 → Typed (get_or l k empty))

abbrev pub time_slots_read_back : GuaranteedTimeSlotInformation → GuaranteedTimeSlotInformation
time_slots_read_back x = time_slots_of x.permit x.slot_count (emptied x.slots empty_descriptor x.slot_count)

abbrev pub TimeSlotsTyped : GuaranteedTimeSlotInformation → Type 0
TimeSlotsTyped x = SevenTyped DescriptorTyped empty_descriptor x.slots

abbrev pub time_slots : Format GuaranteedTimeSlotInformation TimeSlotsRead
time_slots =
    record {
      read = read_time_slots;
      accepts = λ x n. record { outcome = Ok n; guaranteed_time_slot_info = x };
      write = write_time_slots;
      too_large = time_slots_too_large;
      bytes = time_slots_bytes;
      size = time_slots_size;
      cleared = time_slots_cleared;
      read_back = time_slots_read_back;
      Typed = TimeSlotsTyped;
    }

abbrev pub pending_read_back : PendingAddress → PendingAddress
pending_read_back x =
    pending_of x.short_address_count (emptied x.short_addresses empty_short x.short_address_count)
    x.extended_address_count (emptied x.extended_addresses empty_extended x.extended_address_count)

abbrev pub PendingTyped : PendingAddress → Type 0
PendingTyped x =
    SevenTyped (λ (a : ShortAddress). a.0 < 256 ^ 2) empty_short x.short_addresses
    × SevenTyped (λ (a : ExtendedAddress). a.0 < 256 ^ 8) empty_extended x.extended_addresses

abbrev pub pending : Format PendingAddress PendingRead
pending =
    record {
      read = read_pending;
      accepts = λ x n. record { outcome = Ok n; pending_address = x };
      write = write_pending;
      too_large = pending_too_large;
      bytes = pending_bytes;
      size = pending_size;
      cleared = pending_cleared;
      read_back = pending_read_back;
      Typed = PendingTyped;
    }

abbrev pub beacon_read_back : Beacon → Beacon
beacon_read_back x =
    beacon_of x.superframe_spec (time_slots_read_back x.guaranteed_time_slot_info)
    (pending_read_back x.pending_address)

abbrev pub beacon : Format Beacon BeaconRead
beacon =
    record {
      read = read_beacon;
      accepts = beacon_accepted;
      write = write_beacon;
      too_large = beacon_too_large;
      bytes = beacon_bytes;
      size = beacon_size;
      cleared = beacon_cleared;
      read_back = beacon_read_back;
      Typed = λ x. TimeSlotsTyped x.guaranteed_time_slot_info × PendingTyped x.pending_address;
    }
