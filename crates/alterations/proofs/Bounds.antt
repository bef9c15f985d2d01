-- How large the numbers of an answer are: at most six bytes are altered, all in front of the frame's hundredth; the answer's number is at
-- most 6, and its length at most 133.
-- Assumes nothing.
use Prim.Native.Nat.{ℕ, ◌+◌, ◌≤◌}
use native.Mathlib.Omega.{arith}
use mathlib.Core.Bool.{Bool, cond, ◌&&◌}
use mathlib.Core.List.{List}
use mathlib.Core.Path.{ap}
use lib.ListN.{length}
use Rattle.octets.specs.{Little.number}
use Rattle.octets.proofs.Cases.{cases, holds?}
use Rattle.header_bytes.specs.{Layout.header_end, Reading.measured, Rewriting.sourceless}
use Rattle.header_bytes.proofs.Accepted.{measured_most}
use Rattle.header_bytes.proofs.Sizes.{header_end_lem}
use Rattle.beacon.specs.Beacon.{refuses, read_beacon, beacon_length_in}
use Rattle.beacon_facts.proofs.Trip.{beacon_most}
use Rattle.beacon_measure.proofs.BeaconLength.{outcome_most}
use Rattle.alterations.specs.Listed.{holds_beacon, listed}
use Rattle.alterations.specs.Rewriting.{rewrite_frame}
use Rattle.alterations.specs.Altered.{altered}
use Rattle.alterations.proofs.Places.{Below, below_altered, altered_long, listed_few, listed_near}
use Rattle.alterations.proofs.Told.{altered_none, altered_some}
use Rattle.octets.specs.Outcome.{number_of, length_of}

pub altered_few : (s : List ℕ) → length (altered s) ≤ 6
altered_few s =
    cases (holds? (refuses (rewrite_frame s)))
    (λ t. omega (arith, ap length (altered_none s t)))
    (λ f. omega (arith, ap length (altered_some s f), altered_long s (listed s), listed_few s))

pub altered_near : (s : List ℕ) → Below 100 (altered s)
altered_near s =
    cases (holds? (refuses (rewrite_frame s)))
    (λ t. rw (altered_none s t) tt)
    (λ f. rw (altered_some s f) (below_altered 100 s (listed s) (listed_near s)))

pub rewrite_most : (s : List ℕ) → (number_of (rewrite_frame s) ≤ 6) × (length_of (rewrite_frame s) ≤ 133)
unfolding rewrite_frame
rewrite_most s =
    let w = number s 0 2 in
    let n = header_end s w in
    let o = (read_beacon s n).outcome in
    let header = measured_most s in
    let beacon = outcome_most s n in
    cases (holds? (refuses (measured s)))
    (λ t. simp t (omega (arith, header.0), omega (arith, header.1)))
    (λ read.
    cases (holds? (holds_beacon w && refuses o))
    (λ lost. simp (read, lost) (omega (arith, beacon.0), omega (arith, beacon.1)))
    (λ there.
    cases (holds? (sourceless w)) (λ t. simp (read, there, t) (omega arith, omega arith))
    (λ f. simp (read, there, f) (omega arith, size_most (holds_beacon w) s n (header_end_lem w s).1))))
  where
    size_most : (on : Bool) (s : List ℕ) (n : ℕ) → n ≤ 37 → n + cond on (beacon_length_in s n) 0 ≤ 133
    size_most on s n h = cases (holds? on) (λ t. simp t (omega (arith, beacon_most s n))) (λ f. simp f (omega arith))
