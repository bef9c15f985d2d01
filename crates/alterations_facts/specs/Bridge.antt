-- What a bridge does with a frame, in the definitions that the contracts cite: of `Header::read` and `Header::write`,
-- `Beacon::read` and `Beacon::write`, and of the C entries that rewrite.
use Rattle.std.specs.Prelude.{ℕ, ◌+◌, cond, ◌&&◌, List, [], ◌∷◌, ◌++◌, length, take, drop, Result, Ok, Err}
use Rattle.octets.specs.{declared.Refusal.Refusal, Order.first, Outcome.Outcome, Outcome.length_of, Buffer.after, Little.number}
use Rattle.header_bytes.specs.{Layout.header_end, Cleared.header_cleared, Rewriting.rewrite_header}
use Rattle.header.specs.{declared.Header.Header, Write.write_header}
use Rattle.header_facts.specs.{Rewritten.own_counter, RoundTrip.header_after}
use Rattle.beacon.specs.Beacon.{refuses, read_beacon}
use Rattle.beacon_facts.specs.{Cleared.beacon_cleared, RoundTrip.beacon_after}
use Rattle.payload.specs.Frame.{unsecured_beacon}
use Rattle.gateway.specs.Rewrite.{rewrite_beacon}
use Rattle.alterations.specs.Listed.{holds_beacon}

-- what it answers: reading's refusals, the header's and then the beacon's, and writing's, with room for as many bytes
-- as were read
abbrev pub bridged : List ℕ → Result (Header × ℕ) Refusal → Outcome
bridged s (Err r) = Err r
bridged s (Ok (h, n)) =
    let beacon = (read_beacon s n).outcome in
    let header = write_header h (own_counter h) n in
    first ((unsecured_beacon h && refuses beacon, beacon) ∷ (refuses header, header) ∷ [])
    (Ok (n + cond (unsecured_beacon h) (length_of beacon) 0))

-- what it leaves in a buffer: the header at its beginning and, of an unsecured beacon frame, the beacon behind it
abbrev pub bridge_after : List ℕ → Result (Header × ℕ) Refusal → List ℕ → List ℕ
bridge_after s (Err r) out = out
bridge_after s (Ok (h, n)) out =
    cond (unsecured_beacon h) (beacon_after (read_beacon s n).beacon (header_after h out 0) n) (header_after h out 0)

-- what a driver in C leaves there that calls `knobtangle_rewrite_beacon`, for a beacon, with the frame and the buffer
-- behind the header, and then `knobtangle_rewrite_header` (c/README.md)
abbrev pub beacon_entry : List ℕ → List ℕ → List ℕ
beacon_entry s out = after (rewrite_beacon s (length out)) out 0 (beacon_cleared s 0)

abbrev pub header_entry : List ℕ → List ℕ → List ℕ
header_entry s out = after (rewrite_header s (length out)) out 0 (header_cleared s)

abbrev pub driven : List ℕ → List ℕ → List ℕ
driven s out =
    let n = header_end s (number s 0 2) in
    header_entry s (cond (holds_beacon (number s 0 2)) (take n out ++ beacon_entry (drop n s) (drop n out)) out)
