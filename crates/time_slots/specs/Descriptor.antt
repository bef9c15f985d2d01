-- The descriptor of a guaranteed time slot, document 01, "Beacon layout" (IEEE 802.15.4-2011, 5.2.2.1.5): short address
-- (2), start (low half), length (high half).
use Rattle.std.specs.Prelude.{ℕ, ◌+◌, ◌*◌, ◌^◌, Bool, ◌||◌, List, [], ◌∷◌, ◌++◌, ltb, Ok, Err}
use Rattle.octets.specs.{Bits.bits, Order.first, Part.ends, Value.write_value}
use Rattle.octets.specs.Little.{number, split}
use Rattle.identifiers.specs.declared.{ShortAddress.ShortAddress}
use Rattle.identifiers.specs.ShortAddress.{short}
use Rattle.time_slots.specs.declared.{Direction.Direction}
use Rattle.time_slots.specs.declared.{GuaranteedTimeSlotDescriptor.GuaranteedTimeSlotDescriptor}
use Rattle.time_slots.specs.declared.{DescriptorRead.DescriptorRead}
use Rattle.time_slots.specs.declared.Direction.TheVariants.{Receive}
use Rattle.octets.specs.Outcome.{Outcome}
use Rattle.octets.specs.declared.Refusal.TheVariants.{Ended}

abbrev pub descriptor_of : ShortAddress → ℕ → ℕ → Direction → GuaranteedTimeSlotDescriptor
descriptor_of address start length direction =
    record { short_address = address; starting_slot = start; length = length; direction = direction }

-- an unused place: a broadcast address, start 0, length 0, Receive
abbrev pub empty_descriptor : GuaranteedTimeSlotDescriptor
empty_descriptor = descriptor_of (short 0xffff) 0 0 Receive

-- the descriptor at a place, with its direction, which stands elsewhere
unfoldable pub descriptor_in : List ℕ → ℕ → Direction → GuaranteedTimeSlotDescriptor
descriptor_in s at direction =
    let slot = number s (at + 2) 1 in
    descriptor_of (short (number s at 2)) (bits slot 0 4) (bits slot 4 4) direction

-- and what reading it there alone answers: Receive, as in an unused place
unfoldable pub read_descriptor : List ℕ → ℕ → DescriptorRead
read_descriptor s at =
    first ((ends s at 3, record { outcome = Err Ended; slot = empty_descriptor }) ∷ [])
    (record { outcome = Ok 3; slot = descriptor_in s at Receive })

-- the three bytes
abbrev pub slot_byte : GuaranteedTimeSlotDescriptor → ℕ
slot_byte x = x.starting_slot + 2 ^ 4 * x.length

unfoldable pub descriptor_bytes : GuaranteedTimeSlotDescriptor → List ℕ
descriptor_bytes x = split 2 x.short_address.0 ++ split 1 (slot_byte x)

-- refusal 8: a start or a length above 15
unfoldable pub descriptor_too_large : GuaranteedTimeSlotDescriptor → Bool
descriptor_too_large x = ltb 15 x.starting_slot || ltb 15 x.length

unfoldable pub write_descriptor : GuaranteedTimeSlotDescriptor → List ℕ → ℕ → Outcome
write_descriptor x out at = write_value (descriptor_too_large x) out at 3
