-- Demand 3 for a whole beacon, in the definitions that the contracts of `Beacon::read` and `Beacon::write` cite: read,
-- written again, read from there and written once more, with every byte of the buffer.
use Rattle.std.specs.Prelude.{ℕ, ◌+◌, ◌≤◌, List, ◌++◌, ◌≡◌, length, take, drop, Ok}
use Rattle.octets.specs.Buffer.{after}
use Rattle.beacon.specs.declared.{Beacon.Beacon}
use Rattle.beacon.specs.Beacon.{beacon_accepted, read_beacon, beacon_bytes, write_beacon}
use Rattle.beacon_facts.specs.Cleared.{beacon_cleared}

-- what writing x at a place leaves of a buffer, as the contract says it
abbrev pub beacon_after : Beacon → List ℕ → ℕ → List ℕ
beacon_after x out to = after (write_beacon x out to) out to (beacon_bytes x)

-- what holds of a beacon x of n bytes that was read from s at a place, and of any buffer with room for it at a place
pub record RoundTrip (s : List ℕ) (at : ℕ) (x : Beacon) (n : ℕ) (out : List ℕ) (to : ℕ) : Type 0 where
  -- it lies in the input
  pub within : at + n ≤ length s
  -- with room, writing it again is accepted, with as many bytes
  pub accepted : write_beacon x out to ≡ Ok n
  pub long : length (beacon_cleared s at) ≡ n
  -- the buffer then holds the bytes that were read, but for the listed bits cleared; earlier and later bytes stay
  pub stored : beacon_after x out to ≡ take to out ++ (beacon_cleared s at ++ drop (to + n) out)
  -- reading from that buffer gives the same record and length
  pub again : read_beacon (beacon_after x out to) to ≡ beacon_accepted x n
  -- writing that into it once more is accepted and changes nothing
  pub once_more : write_beacon x (beacon_after x out to) to ≡ Ok n
  pub settled : beacon_after x (beacon_after x out to) to ≡ beacon_after x out to
  -- bytes added behind the input alter none of this
  pub behind : (more : List ℕ) → read_beacon (s ++ more) at ≡ beacon_accepted x n
