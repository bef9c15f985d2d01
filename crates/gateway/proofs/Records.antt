-- Reading a beacon's record and writing it again answers and leaves what rewriting promises of the two slices, by demand 3. The entry
-- promises the same and makes no record.
-- Assumes nothing.
use Prim.Native.Nat.{ℕ, ◌-◌}
use native.Mathlib.Omega.{arith}
use mathlib.Core.Bool.{Bool, false}
use mathlib.Core.List.{List, [], ◌∷◌}
use mathlib.Core.Path.{◌≡◌, sym, ap, ◌∙◌}
use lib.Dec.{ltb}
use lib.ListN.{length}
use Rattle.octets.specs.{Buffer.after, Little.Bytes, Part.ends, Value.write_value}
use Rattle.octets.proofs.Cases.{cases, holds?}
use Rattle.octets.proofs.Order.{answered_passed}
use Rattle.beacon.specs.declared.Beacon.{Beacon}
use Rattle.beacon.specs.declared.BeaconRead.{BeaconRead}
use Rattle.beacon.specs.Beacon.{beacon_length_in, refuses, read_beacon, beacon_bytes, beacon_size, beacon_too_large, write_beacon}
use Rattle.beacon_facts.specs.Cleared.{beacon_cleared}
use Rattle.beacon_facts.specs.Format.{Rewritten}
use Rattle.beacon_facts.specs.Formats.{beacon}
use Rattle.beacon_facts.proofs.Beacon.{beacon_read}
use Rattle.beacon_facts.proofs.Trip.{beacon_rewritten}
use Rattle.gateway.specs.Rewrite.{rewrite_beacon}
use Rattle.std.specs.Prelude.{Ok}
use Rattle.octets.specs.Outcome.{number_of, Outcome}
use Rattle.octets.specs.declared.Refusal.TheVariants.{Ended, TooLarge}

-- a part that is written somewhere is free of refusal 8, and as long as that
free : (large : Bool) (out : List ℕ) (at m n : ℕ) → write_value large out at m ≡ Ok n → (large ≡ false) × (m ≡ n)
free large out at m n e =
    let q = answered_passed ((large, TooLarge) ∷ (ends out at m, Ended) ∷ []) m n e in
    (q.0.0, q.1)

-- a beacon that was read, written again into an output
module _ (s out : List ℕ) (b : Bytes s) (read : number_of (read_beacon s 0).outcome ≡ 0) where
  abbrev content : Beacon
  content = (read_beacon s 0).beacon

  abbrev size : ℕ
  size = beacon_length_in s 0

  answer : read_beacon s 0 ≡ beacon.accepts content size
  answer = let q = (beacon_read s 0 read).0 in q ∙ (λ i. beacon.accepts (ap (λ (r : BeaconRead). r.beacon) (sym q) i) size)

  trip : Rewritten beacon s 0 content size
  trip = beacon_rewritten s 0 content size b answer

  plain : (beacon_too_large content ≡ false) × (beacon_size content ≡ size)
  unfolding write_beacon
  plain = free (beacon_too_large content) s 0 (beacon_size content) size (trip.accepted s 0 trip.within)

  taken : refuses (read_beacon s 0).outcome ≡ false
  taken = ap (λ (r : BeaconRead). refuses r.outcome) (beacon_read s 0 read).0

  beacon_outcome : write_beacon content out 0 ≡ rewrite_beacon s (length out)
  unfolding write_beacon rewrite_beacon
  beacon_outcome =
      let all : length out - 0 ≡ length out = omega arith in
      cases (holds? (ltb (length out) size))
      (λ t. simp (plain.0, plain.1, all, t, taken))
      (λ f. simp (plain.0, plain.1, all, f, taken))

-- what the writer answers and leaves is what rewriting says of the two slices
pub beacon_written : (s out last : List ℕ) (x : BeaconRead) (r : Outcome) → Bytes s → x ≡ read_beacon s 0 → number_of x.outcome ≡ 0 →
    r ≡ write_beacon x.beacon out 0 → last ≡ after r out 0 (beacon_bytes x.beacon) →
    (r ≡ rewrite_beacon s (length out)) × (last ≡ after (rewrite_beacon s (length out)) out 0 (beacon_cleared s 0))
beacon_written s out last x r b e z w l =
    let read : number_of (read_beacon s 0).outcome ≡ 0 = ap (λ (x : BeaconRead). number_of x.outcome) (sym e) ∙ z in
    let told : r ≡ rewrite_beacon s (length out) =
    w ∙ ap (λ (x : BeaconRead). write_beacon x.beacon out 0) e ∙ beacon_outcome s out b read in
    let bytes : beacon_bytes x.beacon ≡ beacon_cleared s 0 =
    ap (λ (x : BeaconRead). beacon_bytes x.beacon) e ∙ (trip s out b read).written in
    (told, l ∙ (λ i. after (told i) out 0 (bytes i)))
