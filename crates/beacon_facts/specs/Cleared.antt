-- The bytes that were read, but for the bits that writing clears. Document 01, "Bits that writing clears": "byte 1 bit
-- 5; GTS header bits 3-6; direction bits n to 7 where n > 0; pending header bits 3 and 7. No others".
use Rattle.std.specs.Prelude.{ℕ, zero, suc, ◌+◌, ◌-◌, List, take, drop}
use Rattle.octets.specs.Bits.{clear_at}
use Rattle.time_slots.specs.TimeSlots.{slot_count_in, time_slots_length_in}
use Rattle.pending.specs.Pending.{pending_length_in}
use Rattle.beacon.specs.Beacon.{beacon_length_in}

-- the n bytes from a place on
abbrev pub part : List ℕ → ℕ → ℕ → List ℕ
part s at n = take n (drop at s)

-- with the bits n to 7 of the direction byte i cleared, where n > 0
abbrev pub clear_directions : ℕ → ℕ → List ℕ → List ℕ
clear_directions zero i l = l
clear_directions (suc k) i l = clear_at i (suc k) (8 - suc k) l

unfoldable pub superframe_cleared : List ℕ → ℕ → List ℕ
superframe_cleared s at = clear_at 1 5 1 (part s at 2)

unfoldable pub descriptor_cleared : List ℕ → ℕ → List ℕ
descriptor_cleared s at = part s at 3

unfoldable pub time_slots_cleared : List ℕ → ℕ → List ℕ
time_slots_cleared s at = clear_directions (slot_count_in s at) 1 (clear_at 0 3 4 (part s at (time_slots_length_in s at)))

unfoldable pub pending_cleared : List ℕ → ℕ → List ℕ
pending_cleared s at = clear_at 0 3 1 (clear_at 0 7 1 (part s at (pending_length_in s at)))

-- of the whole: byte 1 of the superframe specification, the GTS header, its direction byte and the pending header
unfoldable pub beacon_cleared : List ℕ → ℕ → List ℕ
beacon_cleared s at =
    let header = 2 + time_slots_length_in s (at + 2) in
    clear_at header 3 1
    (clear_at header 7 1
    (clear_directions (slot_count_in s (at + 2)) 3
    (clear_at 2 3 4
    (clear_at 1 5 1
    (part s at (beacon_length_in s at))))))
