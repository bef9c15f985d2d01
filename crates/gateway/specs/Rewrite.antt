-- What rewriting a beacon answers, reading it and writing it again: reading's refusal, then 1 where its bytes have no
-- room. Writing's other refusal, 8, cannot be: what was read fits its bits.
use Rattle.std.specs.Prelude.{ℕ, List, [], ◌∷◌, ltb, Ok, Err}
use Rattle.octets.specs.declared.Refusal.TheVariants.{Ended}
use Rattle.octets.specs.{Order.first, Outcome.Outcome}
use Rattle.beacon.specs.Beacon.{beacon_length_in, refuses, read_beacon}

unfoldable pub rewrite_beacon : List ℕ → ℕ → Outcome
rewrite_beacon s room =
    first (
    (refuses (read_beacon s 0).outcome, (read_beacon s 0).outcome) ∷
    (ltb room (beacon_length_in s 0), Err Ended) ∷
    []
    )
    (Ok (beacon_length_in s 0))
