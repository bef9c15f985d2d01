-- GTS information, document 01, "Beacon layout" (IEEE 802.15.4-2011, 5.2.2.1.3 to 5.2.2.1.5). Header: count n bits 0-2,
-- permit 7. For n > 0 a direction byte, then n descriptors. Bit k of the direction byte belongs to descriptor k. Document
-- 02, request 2, where document 01 has 2+3n: "For n > 0 let it demand 1+3n after its header", which is what it takes.
use Rattle.std.specs.Prelude.{ℕ, zero, suc, ◌+◌, ◌*◌, ◌^◌, Bool, false, ◌||◌, List, [], ◌∷◌, ◌++◌, ltb, take, replicate}
use Rattle.std.specs.Prelude.{Ok, Err}
use Rattle.octets.specs.Words.{flat_map}
use Rattle.octets.specs.Bits.{bits, bit, bit_of}
use Rattle.octets.specs.Little.{number, split}
use Rattle.octets.specs.{Order.first, Part.ends, Value.write_value}
use Rattle.seven_places.specs.declared.{Listed.Listed}
use Rattle.seven_places.specs.Seven.{seven, some}
use Rattle.time_slots.specs.declared.{GuaranteedTimeSlotDescriptor.GuaranteedTimeSlotDescriptor}
use Rattle.time_slots.specs.declared.{GuaranteedTimeSlotInformation.GuaranteedTimeSlotInformation}
use Rattle.time_slots.specs.declared.{TimeSlotsRead.TimeSlotsRead}
use Rattle.time_slots.specs.Direction.{direction_bit, direction_of}
use Rattle.time_slots.specs.Descriptor.{empty_descriptor, descriptor_in, descriptor_bytes, descriptor_too_large}
use Rattle.octets.specs.Outcome.{Outcome}
use Rattle.octets.specs.declared.Refusal.TheVariants.{Ended}

-- how many bytes n slots take behind the header
abbrev pub slots_length : ℕ → ℕ
slots_length zero = 0
slots_length (suc k) = 1 + 3 * suc k

-- slot k of the list whose directions stand at a place
unfoldable pub slot_at : List ℕ → ℕ → ℕ → GuaranteedTimeSlotDescriptor
slot_at s at k = descriptor_in s (at + 1 + 3 * k) (direction_of (bits (number s at 1) k 1))

-- the n slots of the list, and empty ones behind them
abbrev pub slots_in : List ℕ → ℕ → ℕ → List GuaranteedTimeSlotDescriptor
slots_in s at n = seven (slot_at s at) empty_descriptor n

abbrev pub time_slots_of : Bool → ℕ → List GuaranteedTimeSlotDescriptor → GuaranteedTimeSlotInformation
time_slots_of permit n slots = record { permit = permit; slot_count = n; slots = slots }

abbrev pub empty_time_slots : GuaranteedTimeSlotInformation
empty_time_slots = time_slots_of false 0 (replicate 7 empty_descriptor)

-- its slots: "the count with the array"
abbrev pub slots_of : GuaranteedTimeSlotInformation → Listed GuaranteedTimeSlotDescriptor
slots_of x = record { count = x.slot_count; places = x.slots }

-- the count in the header at a place, and all that stands there
abbrev pub slot_count_in : List ℕ → ℕ → ℕ
slot_count_in s at = bits (number s at 1) 0 3

unfoldable pub time_slots_in : List ℕ → ℕ → GuaranteedTimeSlotInformation
time_slots_in s at = time_slots_of (bit (number s at 1) 7) (slot_count_in s at) (slots_in s (at + 1) (slot_count_in s at))

abbrev pub time_slots_length_in : List ℕ → ℕ → ℕ
time_slots_length_in s at = 1 + slots_length (slot_count_in s at)

-- and what reading it there answers
abbrev pub time_slots_refused : TimeSlotsRead
time_slots_refused = record { outcome = Err Ended; guaranteed_time_slot_info = empty_time_slots }

unfoldable pub read_time_slots : List ℕ → ℕ → TimeSlotsRead
read_time_slots s at =
    first ((ends s at 1, time_slots_refused) ∷ (ends s at (time_slots_length_in s at), time_slots_refused) ∷ [])
    (record { outcome = Ok (time_slots_length_in s at); guaranteed_time_slot_info = time_slots_in s at })

-- the direction byte of a list of slots, the first slot's bit lowest
unfoldable pub directions_of : List GuaranteedTimeSlotDescriptor → ℕ
directions_of [] = 0
directions_of (x ∷ l) = direction_bit x.direction + 2 * directions_of l

-- what follows the header: nothing, or the directions and the slots
unfoldable pub list_bytes : List GuaranteedTimeSlotDescriptor → List ℕ
list_bytes [] = []
list_bytes (x ∷ l) = split 1 (directions_of (x ∷ l)) ++ flat_map descriptor_bytes (x ∷ l)

-- the header, bits 3-6 clear
abbrev pub time_slots_header : GuaranteedTimeSlotInformation → ℕ
time_slots_header x = x.slot_count + 2 ^ 7 * bit_of x.permit

unfoldable pub time_slots_bytes : GuaranteedTimeSlotInformation → List ℕ
time_slots_bytes x = split 1 (time_slots_header x) ++ list_bytes (take x.slot_count x.slots)

abbrev pub time_slots_size : GuaranteedTimeSlotInformation → ℕ
time_slots_size x = 1 + slots_length x.slot_count

-- refusal 8: a count above 7; a start or a length above 15 of a slot in use
abbrev pub slot_count_too_large : GuaranteedTimeSlotInformation → Bool
slot_count_too_large x = ltb 7 x.slot_count

unfoldable pub time_slots_too_large : GuaranteedTimeSlotInformation → Bool
time_slots_too_large x = slot_count_too_large x || some descriptor_too_large (take x.slot_count x.slots)

unfoldable pub write_time_slots : GuaranteedTimeSlotInformation → List ℕ → ℕ → Outcome
write_time_slots x out at = write_value (time_slots_too_large x) out at (time_slots_size x)
