-- The payload view, document 01, "Payload view and C entry points": "The payload view reads a header and, for an
-- unsecured Beacon, the beacon, then hands back the rest of the caller's slice, possibly empty, with no byte copied. On
-- refusal, of header or beacon, it returns that number and the slice's empty beginning. A secured beacon's content is
-- not read."
use Rattle.std.specs.Prelude.{ℕ, ◌+◌, Bool, false, cond, List, [], eqb, drop, Some, None, Result, Ok, Err}
use Rattle.octets.specs.declared.Refusal.{Refusal}
use Rattle.octets.specs.Outcome.{Outcome}
use Rattle.frame_control.specs.Types.{type_bits}
use Rattle.header.specs.declared.{Header.Header}
use Rattle.header.specs.Record.{secured}
use Rattle.header.specs.Read.{read_header}
use Rattle.beacon.specs.declared.{BeaconRead.BeaconRead}
use Rattle.beacon.specs.Beacon.{empty_beacon, read_beacon}
use Rattle.payload.specs.declared.{FrameRead.FrameRead}

-- "an unsecured Beacon": its type is 0
abbrev pub unsecured_beacon : Header → Bool
unsecured_beacon h = cond (secured h) false (eqb (type_bits h.frame_type) 0)

-- a frame whose beacon is not looked at: it has no answer, neither accepted nor refused
abbrev pub without_beacon : Outcome → Result (Header × ℕ) Refusal → FrameRead
without_beacon outcome header = record { outcome = outcome; header = header; beacon_answer = None; beacon = empty_beacon }

-- where the payload begins behind a beacon at a place; the refusal of the beacon is the frame's
abbrev pub behind_beacon : ℕ → Outcome → Outcome
behind_beacon at (Ok n) = Ok (at + n)
behind_beacon at (Err r) = Err r

-- a frame whose beacon, at a place, is looked at: its answer is that of reading it
abbrev pub with_beacon : Result (Header × ℕ) Refusal → ℕ → BeaconRead → FrameRead
with_beacon header at read =
    record {
      outcome = behind_beacon at read.outcome;
      header = header;
      beacon_answer = Some read.outcome;
      beacon = read.beacon;
    }

-- "reads a header and, for an unsecured Beacon, the beacon": that of a header of n bytes stands at n; where none is
-- looked at, the payload begins there
abbrev pub frame_after : List ℕ → Result (Header × ℕ) Refusal → FrameRead
frame_after s (Err r) = without_beacon (Err r) (Err r)
frame_after s (Ok (h, n)) =
    cond (unsecured_beacon h) (with_beacon (Ok (h, n)) n (read_beacon s n)) (without_beacon (Ok n) (Ok (h, n)))

unfoldable pub read_frame : List ℕ → FrameRead
read_frame s = frame_after s (read_header s)

-- the bytes of "the rest of the caller's slice", and on refusal none
abbrev pub payload_of : Outcome → List ℕ → List ℕ
payload_of (Ok n) s = drop n s
payload_of (Err r) s = []
