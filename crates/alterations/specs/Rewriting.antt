-- What rewriting a frame answers, as a bridge does it: its header is read and, where it holds a beacon, the beacon;
-- then both are written again, with the counter that was read and with room. Reading's refusals come before writing's,
-- of which 6 alone is left, "writing: compression set, either address missing".
use Rattle.std.specs.Prelude.{ℕ, ◌+◌, cond, ◌&&◌, List, [], ◌∷◌, ◌++◌, Ok, Err}
use Rattle.octets.specs.declared.Refusal.TheVariants.{MissingAddress}
use Rattle.octets.specs.{Order.first, Outcome.Outcome, Little.number}
use Rattle.header_bytes.specs.{Layout.header_end, Reading.measured, Rewriting.sourceless, Cleared.header_cleared}
use Rattle.beacon.specs.Beacon.{refuses, read_beacon, beacon_length_in}
use Rattle.beacon_facts.specs.Cleared.{beacon_cleared}
use Rattle.alterations.specs.Listed.{holds_beacon}

-- by the frame control w, and the place n where the header ends
abbrev pub rewrite_by : List ℕ → ℕ → ℕ → Outcome
rewrite_by s w n =
    first (
    (refuses (measured s), measured s) ∷
    (holds_beacon w && refuses (read_beacon s n).outcome, (read_beacon s n).outcome) ∷
    (sourceless w, Err MissingAddress) ∷
    []
    )
    (Ok (n + cond (holds_beacon w) (beacon_length_in s n) 0))

unfoldable pub rewrite_frame : List ℕ → Outcome
rewrite_frame s = rewrite_by s (number s 0 2) (header_end s (number s 0 2))

-- the bytes of the frame that are rewritten, with the listed bits cleared
abbrev pub frame_cleared : List ℕ → List ℕ
frame_cleared s =
    header_cleared s ++ cond (holds_beacon (number s 0 2)) (beacon_cleared s (header_end s (number s 0 2))) []
