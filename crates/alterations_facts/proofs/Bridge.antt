-- What a bridge leaves in a buffer, by the records and by the C entries: the bytes of the frame with the listed bits cleared.
-- Assumes nothing.
use Prim.Native.Nat.{ℕ, ◌+◌, ◌-◌, ◌≤◌}
use native.Mathlib.Nat.{zero-add}
use native.Mathlib.Omega.{arith}
use mathlib.Core.Bool.{Bool, true, cond}
use mathlib.Core.List.{List, [], ◌++◌, append-nil, append_assoc}
use mathlib.Core.Path.{◌≡◌, sym, ap, ◌∙◌}
use lib.ListN.{length, take, drop, length-append, length-drop}
use lib.Seq.{take_at, drop_at, drop-drop, length-take-le}
use Rattle.octets.specs.{Bits.bits, Buffer.laid, Buffer.after, Little.number, Little.Bytes}
use Rattle.octets.proofs.Buffer.{laid_all}
use Rattle.octets.proofs.Cases.{cases, holds?}
use Rattle.header_bytes.specs.{Layout.header_end, Cleared.header_cleared}
use Rattle.header_bytes.proofs.{Cleared.header_cleared_length, Rewrites.rewrite_accepts}
use Rattle.header.specs.declared.Header.{Header}
use Rattle.header.specs.Read.{header_in, read_header}
use Rattle.header_facts.specs.RoundTrip.{header_after}
use Rattle.header_facts.proofs.Trip as HeaderTrip
use Rattle.time_slots.specs.TimeSlots.{slots_length, slot_count_in, time_slots_length_in}
use Rattle.pending.specs.Pending.{addresses_length}
use Rattle.beacon.specs.declared.Beacon.{Beacon}
use Rattle.beacon.specs.declared.BeaconRead.{BeaconRead}
use Rattle.beacon.specs.Beacon.{pending_place, beacon_length_in, beacon_accepted, read_beacon}
use Rattle.beacon_facts.specs.Cleared.{beacon_cleared}
use Rattle.beacon_facts.specs.RoundTrip.{beacon_after}
use Rattle.beacon_facts.proofs.Beacon.{beacon_read, all_found}
use Rattle.beacon_facts.proofs.Trip as BeaconTrip
use Rattle.beacon_measure.proofs.BeaconLength.{all_there}
use Rattle.payload.specs.Frame.{unsecured_beacon}
use Rattle.gateway.specs.Rewrite.{rewrite_beacon}
use Rattle.gateway.proofs.BeaconRewriting.{listed_cleared, beacon_fits}
use Rattle.alterations.specs.Listed.{holds_beacon}
use Rattle.alterations.specs.Rewriting.{frame_cleared}
use Rattle.alterations.proofs.Answers.{Accepted}
use Rattle.alterations_facts.specs.Bridge.{bridge_after, header_entry, beacon_entry, driven}
use Rattle.alterations_facts.proofs.Records.{told_read, holds_told, header_read}
use Rattle.std.specs.Prelude.{Result, Ok}
use Rattle.octets.specs.Outcome.{number_of, Outcome}
use Rattle.octets.specs.declared.Refusal.{Refusal}

-- a number in the rest of a list
number_rest : (s : List ℕ) (n at k : ℕ) → number (drop n s) at k ≡ number s (n + at) k
unfolding number
number_rest s n at k = rw (drop-drop at n s)

-- the beacon at the beginning of the rest is the one at that place
module _ (s : List ℕ) (n : ℕ) where
  count_rest : slot_count_in (drop n s) 2 ≡ slot_count_in s (n + 2)
  count_rest = ap (λ (b : ℕ). bits b 0 3) (number_rest s n 2 1)

  slots_rest : time_slots_length_in (drop n s) 2 ≡ time_slots_length_in s (n + 2)
  slots_rest = ap (λ (c : ℕ). 1 + slots_length c) count_rest

  pending_rest : number (drop n s) (2 + time_slots_length_in (drop n s) 2) 1 ≡ number s (pending_place s n) 1
  pending_rest =
      let place : n + (2 + time_slots_length_in (drop n s) 2) ≡ pending_place s n = omega (arith, slots_rest) in
      number_rest s n (2 + time_slots_length_in (drop n s) 2) 1 ∙ ap (λ (p : ℕ). number s p 1) place

  length_rest : beacon_length_in (drop n s) 0 ≡ beacon_length_in s n
  unfolding beacon_length_in
  length_rest = λ i. 2 + slots_rest i + (1 + addresses_length (bits (pending_rest i) 0 3) (bits (pending_rest i) 4 3))

  cleared_rest : beacon_cleared (drop n s) 0 ≡ beacon_cleared s n
  unfolding beacon_cleared
  cleared_rest = λ i. listed_cleared (count_rest i) (2 + slots_rest i) (take (length_rest i) (drop n s))

module _ (s : List ℕ) (m : ℕ) (out : List ℕ) (y : Bytes s) (a : Accepted s m) (room : m ≤ length out) where
  abbrev w : ℕ
  w = number s 0 2

  abbrev n : ℕ
  n = header_end s w

  abbrev h : Header
  h = header_in s w

  abbrev x : Beacon
  x = (read_beacon s n).beacon

  abbrev k : ℕ
  k = beacon_length_in s n

  pub read : read_header s ≡ Ok (h, n)
  read = header_read s (ap number_of a.read)

  pub holds : holds_beacon w ≡ unsecured_beacon h
  holds = holds_told s h (told_read s h n read)

  pub beacon_answer : holds_beacon w ≡ true → read_beacon s n ≡ beacon_accepted x k
  beacon_answer on =
      let q = (beacon_read s n (a.beacon on)).0 in
      q ∙ (λ i. beacon_accepted (ap (λ (r : BeaconRead). r.beacon) (sym q) i) k)

  front : n ≤ m
  front = omega (arith, a.long)

  long : length (header_cleared s) ≡ n
  long = header_cleared_length s n a.read

  -- behind the header
  abbrev half : List ℕ
  half = header_cleared s ++ drop n out

  half_long : length half ≡ length out
  half_long = omega (arith, front, long, length-append (header_cleared s) (drop n out), length-drop n out)

  half_front : take n half ≡ header_cleared s
  half_front = take_at (header_cleared s) (drop n out) n long

  half_rest : drop n half ≡ drop n out
  half_rest = drop_at (header_cleared s) (drop n out) n long

  header_left : header_after h out 0 ≡ half
  header_left =
      (HeaderTrip.round_trip s h n out 0 y read a.source (omega (arith, front))).stored
      ∙ ap (λ (k : ℕ). header_cleared s ++ drop k out) (zero-add n)

  -- with the beacon
  both_left : (on : holds_beacon w ≡ true) → m ≡ n + k →
      take n half ++ (beacon_cleared s n ++ drop (n + k) half) ≡ (header_cleared s ++ beacon_cleared s n) ++ drop m out
  both_left on e =
      let rest : drop (n + k) half ≡ drop m out =
      sym (drop-drop k n half) ∙ ap (drop k) half_rest ∙ drop-drop k n out ∙ ap (λ (j : ℕ). drop j out) (sym e) in
      (λ i. half_front i ++ (beacon_cleared s n ++ rest i)) ∙ sym (append_assoc (header_cleared s) (beacon_cleared s n) (drop m out))

  alone_left : m ≡ n + 0 → half ≡ (header_cleared s ++ []) ++ drop m out
  alone_left e =
      let same : n ≡ m = omega (arith, e) in
      λ i. sym (append-nil (header_cleared s)) i ++ drop (same i) out

  beacon_left : (on : holds_beacon w ≡ true) → m ≡ n + k →
      beacon_after x half n ≡ (header_cleared s ++ beacon_cleared s n) ++ drop m out
  beacon_left on e =
      (BeaconTrip.round_trip s n x k half n y (beacon_answer on) (omega (arith, half_long, room, e))).stored ∙ both_left on e

  pub bridge_left : bridge_after s (read_header s) out ≡ frame_cleared s ++ drop m out
  bridge_left =
      ap (λ (r : Result (Header × ℕ) Refusal). bridge_after s r out) read
      ∙ ap (λ (on : Bool). cond on (beacon_after x (header_after h out 0) n) (header_after h out 0)) (sym holds)
      ∙ ap (λ (l : List ℕ). cond (holds_beacon w) (beacon_after x l n) l) header_left
      ∙ cases (holds? (holds_beacon w))
      (λ on. let e = simp on at a.long in simp on (beacon_left on e))
      (λ off. let e = simp off at a.long in simp off (alone_left e))

  -- the C entries
  header_entry_lem : (l : List ℕ) → n ≤ length l → header_entry s l ≡ header_cleared s ++ drop n l
  header_entry_lem l fits =
      let told = rewrite_accepts s (length l) n (record { read = a.read; source = a.source; fits = fits }) in
      ap (λ (o : Outcome). after o l 0 (header_cleared s)) told ∙ laid_all l (header_cleared s) n long fits

  beacon_entry_lem : (on : holds_beacon w ≡ true) → m ≡ n + k → beacon_entry (drop n s) (drop n out) ≡ beacon_cleared s n ++ drop m out
  beacon_entry_lem on e =
      let there = all_found s n (beacon_read s n (a.beacon on)).1 in
      let rest : length (drop n out) ≡ length out - n = length-drop n out in
      let inside : length (drop n s) ≡ length s - n = length-drop n s in
      let answer : Ok k ≡ (read_beacon (drop n s) 0).outcome =
      all_there (drop n s) 0 k (sym (length_rest s n)) (omega (arith, there, inside)) in
      let told : Ok k ≡ rewrite_beacon (drop n s) (length (drop n out)) =
      beacon_fits (drop n s) (length (drop n out)) answer (omega (arith, rest, room, e)) in
      let size : length (beacon_cleared s n) ≡ k =
      (BeaconTrip.round_trip s n x k half n y (beacon_answer on) (omega (arith, half_long, room, e))).long in
      ap (λ (o : Outcome). after o (drop n out) 0 (beacon_cleared (drop n s) 0)) (sym told)
      ∙ ap (laid (drop n out) 0) (cleared_rest s n)
      ∙ laid_all (drop n out) (beacon_cleared s n) k size (omega (arith, rest, room, e))
      ∙ ap (λ (l : List ℕ). beacon_cleared s n ++ l) (drop-drop k n out ∙ ap (λ (j : ℕ). drop j out) (sym e))

  both_entries : (on : holds_beacon w ≡ true) → m ≡ n + k →
      header_entry s (take n out ++ beacon_entry (drop n s) (drop n out)) ≡ (header_cleared s ++ beacon_cleared s n) ++ drop m out
  both_entries on e =
      let before : length (take n out) ≡ n = length-take-le n out (omega (arith, front, room)) in
      let behind = beacon_entry (drop n s) (drop n out) in
      header_entry_lem (take n out ++ behind) (omega (arith, before, length-append (take n out) behind))
      ∙ ap (λ (l : List ℕ). header_cleared s ++ l) (drop_at (take n out) behind n before ∙ beacon_entry_lem on e)
      ∙ sym (append_assoc (header_cleared s) (beacon_cleared s n) (drop m out))

  pub entries_left : driven s out ≡ frame_cleared s ++ drop m out
  entries_left =
      cases (holds? (holds_beacon w))
      (λ on. let e = simp on at a.long in simp on (both_entries on e))
      (λ off.
      let e = simp off at a.long in
      simp off (header_entry_lem out (omega (arith, front, room)) ∙ alone_left e))
