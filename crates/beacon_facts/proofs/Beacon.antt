-- Demand 3 of a whole beacon, from that of its parts, and its length: it is refused exactly where its bytes are not all there.
-- Assumes nothing.
use Prim.Native.Nat.{ℕ, ◌+◌, ◌-◌, ◌≤◌}
use native.Mathlib.Omega.{arith}
use mathlib.Core.Bool.{false}
use mathlib.Core.List.{List, [], ◌∷◌, ◌++◌}
use mathlib.Core.Logic.{◌⊎◌, inl, inr}
use mathlib.Core.Path.{◌≡◌, refl, sym, ap, ◌∙◌}
use borrow.Author.Tests.{ltb-true, ltb-false}
use lib.ListN.{length, length-append}
use Rattle.octets.specs.Little.{Bytes}
use Rattle.octets.specs.Order.{first}
use Rattle.octets.specs.Outcome.{number_of, length_of}
use Rattle.octets.specs.Part.{ends}
use Rattle.octets.proofs.Little.{bytes_append}
use Rattle.octets.proofs.Cases.{cases, holds?}
use Rattle.superframe.specs.Superframe.{superframe_in, read_superframe, superframe_bytes}
use Rattle.superframe.proofs.Superframe.{superframe_length, superframe_read}
use Rattle.time_slots.specs.TimeSlots.{slot_count_in, time_slots_in, time_slots_length_in, read_time_slots, time_slots_bytes}
use Rattle.time_slots.specs.TimeSlots.{time_slots_size}
use Rattle.time_slots.proofs.TimeSlots.{time_slots_length, time_slots_read}
use Rattle.pending.specs.Pending.{short_count_in, extended_count_in, pending_in, pending_length_in, read_pending, pending_bytes}
use Rattle.pending.proofs.Pending.{pending_read}
use Rattle.beacon.specs.declared.Beacon.{Beacon}
use Rattle.beacon.specs.declared.BeaconRead.{BeaconRead}
use Rattle.beacon.specs.Beacon.{pending_place, beacon_of, beacon_in, beacon_length_in, beacon_refused, beacon_accepted, read_beacon, beacon_bytes}
use Rattle.beacon.specs.Beacon.{refuses, beacon_size, beacon_too_large, write_beacon}
use Rattle.beacon.proofs.Content.{fitting}
use Rattle.beacon.proofs.Parts.{accepting}
use Rattle.beacon_facts.specs.Cleared.{beacon_cleared}
use Rattle.beacon_facts.specs.Formats.{beacon}
use Rattle.beacon_facts.proofs.Format.{Writes, Laws}
use Rattle.beacon_facts.proofs.Listed.{superframe_listed_lem, time_slots_listed_lem, pending_listed_lem, beacon_listed}
use Rattle.beacon_facts.proofs.Places.{over, past, past_length}
use Rattle.beacon_facts.proofs.Superframe.{superframe_fits, superframe_again, superframe_more, superframe_back, superframe_accepts}
use Rattle.beacon_facts.proofs.Superframe.{superframe_laws}
use Rattle.beacon_facts.proofs.TimeSlots.{time_slots_fit, time_slots_same, time_slots_typed, time_slots_again, count_more}
use Rattle.beacon_facts.proofs.TimeSlots.{time_slots_more, count_stored, time_slots_back, time_slots_bytes_lem}
use Rattle.beacon_facts.proofs.TimeSlots.{time_slots_back_fits, time_slots_settled, time_slots_accepts}
use Rattle.beacon_facts.proofs.Pending.{pending_fits, pending_same, pending_typed, pending_again, counts_more, pending_more}
use Rattle.beacon_facts.proofs.Pending.{shorts_stored, extendeds_stored, pending_back, pending_length, pending_bytes_lem}
use Rattle.beacon_facts.proofs.Pending.{pending_back_fits, pending_settled, pending_accepts}

-- each part was there
pub record Found (s : List ℕ) (at : ℕ) : Type 0 where
  pub superframe : 2 ≤ length s - at
  pub slots : time_slots_length_in s (at + 2) ≤ length s - (at + 2)
  pub pending : pending_length_in s (pending_place s at) ≤ length s - pending_place s at

module _ (s : List ℕ) (at : ℕ) where
  found_all : beacon_length_in s at ≤ length s - at → Found s at
  unfolding beacon_length_in
  found_all h = record {
    superframe = omega arith;
    slots = omega arith;
    pending = omega arith;
  }

  pub all_found : Found s at → beacon_length_in s at ≤ length s - at
  unfolding beacon_length_in
  all_found h = omega (arith, h.superframe, h.slots, h.pending)

  -- it is refused, or each part was there
  refused_or_found : (read_beacon s at ≡ beacon_refused)
      ⊎ ((read_beacon s at ≡ beacon_accepted (beacon_in s at) (beacon_length_in s at)) × Found s at)
  unfolding read_beacon
  refused_or_found =
      cases (holds? (refuses (read_superframe s at).outcome)) (λ one. inl (simp one)) (λ one.
      cases (holds? (refuses (read_time_slots s (at + 2)).outcome)) (λ two. inl (simp (one, two))) (λ two.
      cases (holds? (refuses (read_pending s (pending_place s at)).outcome)) (λ three. inl (simp (one, two, three))) (λ three.
      inr (
        simp (one, two, three),
        record {
          superframe = (superframe_read s at (accepting _ one)).1;
          slots = (time_slots_read s (at + 2) (accepting _ two)).1;
          pending = (pending_read s (pending_place s at) (accepting _ three)).1;
        },
      ))))

  beacon_accepts : beacon_length_in s at ≤ length s - at → read_beacon s at ≡ beacon_accepted (beacon_in s at) (beacon_length_in s at)
  unfolding read_beacon
  beacon_accepts h =
      let found = found_all h in
      rw (
        superframe_accepts s at found.superframe,
        time_slots_accepts s (at + 2) found.slots,
        pending_accepts s (pending_place s at) found.pending,
      )

  -- a beacon is refused, only with 1, exactly where its bytes are not all there
  pub beacon_reading : read_beacon s at ≡ first ((ends s at (beacon_length_in s at), beacon_refused) ∷ [])
      (beacon_accepted (beacon_in s at) (beacon_length_in s at))
  beacon_reading =
      cases (holds? (ends s at (beacon_length_in s at)))
      (λ e. rw e (cases refused_or_found (λ r. r)
      (λ r. absurd (omega (arith, ltb-true (length s - at) (beacon_length_in s at) e, all_found r.1)))))
      (λ e. rw e (beacon_accepts (ltb-false _ _ e)))

  -- what was read was there
  pub beacon_read : number_of (read_beacon s at).outcome ≡ 0 →
      (read_beacon s at ≡ beacon_accepted (beacon_in s at) (beacon_length_in s at)) × Found s at
  beacon_read e =
      cases refused_or_found
      (λ r. let one : ◌≡◌ {A = ℕ} 1 0 = ap (λ (r : BeaconRead). number_of r.outcome) (sym r) ∙ e in absurd (omega arith))
      (λ r. r)

  -- the beacon at a place: fits, and is written as it stood
  module _ (found : Found s at) where
    beacon_fits : beacon_too_large (beacon_in s at) ≡ false
    unfolding beacon_too_large beacon_in
    beacon_fits = rw (superframe_fits s at, time_slots_fit s (at + 2), pending_fits s (pending_place s at))

    beacon_same : beacon.read_back (beacon_in s at) ≡ beacon_in s at
    unfolding beacon_in
    beacon_same = λ i. beacon_of (superframe_in s at) (time_slots_same s (at + 2) i) (pending_same s (pending_place s at) i)

    beacon_size_lem : beacon_size (beacon_in s at) ≡ beacon_length_in s at
    unfolding beacon_in beacon_length_in time_slots_in pending_in
    beacon_size_lem = refl

    beacon_again_lem : Bytes s → beacon_bytes (beacon_in s at) ≡ beacon_cleared s at
    unfolding beacon_bytes beacon_in
    beacon_again_lem b =
        rw (
          superframe_again s at b found.superframe,
          superframe_listed_lem s at found.superframe,
          time_slots_again s (at + 2) found.slots b,
          time_slots_listed_lem s (at + 2) found.slots,
          pending_again s (pending_place s at) found.pending b,
          pending_listed_lem s (pending_place s at) found.pending,
        )
        (beacon_listed s at (all_found found))

    beacon_typed : Bytes s → beacon.Typed (beacon_in s at)
    unfolding beacon_in
    beacon_typed b = (time_slots_typed s (at + 2) found.slots b, pending_typed s (pending_place s at) found.pending b)

    module _ (t : List ℕ) where
      length_more : beacon_length_in (s ++ t) at ≡ beacon_length_in s at
      unfolding beacon_length_in
      length_more = rw (count_more s (at + 2) found.slots t, counts_more s (pending_place s at) found.pending t)

      beacon_more : beacon_in (s ++ t) at ≡ beacon_in s at
      unfolding beacon_in
      beacon_more =
          rw (
            superframe_more s at t found.superframe,
            time_slots_more s (at + 2) found.slots t,
            count_more s (at + 2) found.slots t,
            pending_more s (pending_place s at) found.pending t,
          )

-- a beacon that was written
module _ (x : Beacon) (typed : beacon.Typed x) (f : beacon_too_large x ≡ false) where
  abbrev superframe : List ℕ
  superframe = superframe_bytes x.superframe_spec

  abbrev slots : List ℕ
  slots = time_slots_bytes x.guaranteed_time_slot_info

  abbrev pending : List ℕ
  pending = pending_bytes x.pending_address

  slots_length : length slots ≡ time_slots_size x.guaranteed_time_slot_info
  slots_length = time_slots_length x.guaranteed_time_slot_info typed.0.0 (fitting x f).slots

  pub beacon_length : length (beacon_bytes x) ≡ beacon_size x
  unfolding beacon_bytes
  beacon_length =
      rw (
        length-append superframe (slots ++ pending),
        superframe_length x.superframe_spec,
        length-append slots pending,
        slots_length,
        pending_length x.pending_address typed.1 (fitting x f).pending,
      )
      (omega arith)

  module _ (p t : List ℕ) where
    abbrev stored : List ℕ
    stored = p ++ (beacon_bytes x ++ t)

    abbrev at : ℕ
    at = length p

    abbrev place : ℕ
    place = at + 2 + time_slots_size x.guaranteed_time_slot_info

    behind_superframe : length (p ++ superframe) ≡ at + 2
    behind_superframe = past_length p superframe at 2 refl (superframe_length x.superframe_spec)

    at_superframe : stored ≡ p ++ (superframe ++ ((slots ++ pending) ++ t))
    unfolding beacon_bytes
    at_superframe = over p superframe (slots ++ pending) t

    at_slots : stored ≡ (p ++ superframe) ++ (slots ++ (pending ++ t))
    unfolding beacon_bytes
    at_slots = past p superframe (slots ++ pending) t ∙ over (p ++ superframe) slots pending t

    at_pending : stored ≡ ((p ++ superframe) ++ slots) ++ (pending ++ t)
    unfolding beacon_bytes
    at_pending = past p superframe (slots ++ pending) t ∙ past (p ++ superframe) slots pending t

    behind_slots : length ((p ++ superframe) ++ slots) ≡ place
    behind_slots = past_length (p ++ superframe) slots (at + 2)
        (time_slots_size x.guaranteed_time_slot_info) behind_superframe slots_length

    count_back : slot_count_in stored (at + 2) ≡ x.guaranteed_time_slot_info.slot_count
    count_back =
        ap (λ (s : List ℕ). slot_count_in s (at + 2)) at_slots
        ∙ count_stored x.guaranteed_time_slot_info typed.0 (fitting x f).slots (p ++ superframe) (pending ++ t)
        (at + 2) behind_superframe

    shorts_back : short_count_in stored place ≡ x.pending_address.short_address_count
    shorts_back =
        ap (λ (s : List ℕ). short_count_in s place) at_pending
        ∙ shorts_stored x.pending_address typed.1 (fitting x f).pending ((p ++ superframe) ++ slots) t place behind_slots

    extendeds_back : extended_count_in stored place ≡ x.pending_address.extended_address_count
    extendeds_back =
        ap (λ (s : List ℕ). extended_count_in s place) at_pending
        ∙ extendeds_stored x.pending_address typed.1 (fitting x f).pending ((p ++ superframe) ++ slots) t place behind_slots

    superframe_part : superframe_in stored at ≡ x.superframe_spec
    superframe_part =
        ap (λ (s : List ℕ). superframe_in s at) at_superframe
        ∙ superframe_back x.superframe_spec p ((slots ++ pending) ++ t) at (fitting x f).superframe refl

    slots_part : time_slots_in stored (at + 2) ≡ (beacon.read_back x).guaranteed_time_slot_info
    slots_part =
        ap (λ (s : List ℕ). time_slots_in s (at + 2)) at_slots
        ∙ time_slots_back x.guaranteed_time_slot_info typed.0 (fitting x f).slots (p ++ superframe) (pending ++ t)
        (at + 2) behind_superframe

    pending_part : pending_in stored place ≡ (beacon.read_back x).pending_address
    pending_part =
        ap (λ (s : List ℕ). pending_in s place) at_pending
        ∙ pending_back x.pending_address typed.1 (fitting x f).pending ((p ++ superframe) ++ slots) t place behind_slots

    length_back : beacon_length_in stored at ≡ beacon_size x
    unfolding beacon_length_in
    length_back = rw (count_back, shorts_back, extendeds_back)

    beacon_back : beacon_in stored at ≡ beacon.read_back x
    unfolding beacon_in
    beacon_back = rw (superframe_part, slots_part, count_back, pending_part)

    read_back : read_beacon stored at ≡ beacon_accepted (beacon.read_back x) (beacon_size x)
    read_back =
        beacon_accepts stored at
        (rw (length_back, length-append p (beacon_bytes x ++ t), length-append (beacon_bytes x) t, beacon_length) (omega arith))
        ∙ rw (beacon_back, length_back)

module _ (x : Beacon) (typed : beacon.Typed x) (f : beacon_too_large x ≡ false) where
  beacon_back_fits : beacon_too_large (beacon.read_back x) ≡ false
  unfolding beacon_too_large
  beacon_back_fits =
      let fits = fitting x f in
      rw (
        fits.superframe,
        time_slots_back_fits x.guaranteed_time_slot_info typed.0 fits.slots,
        pending_back_fits x.pending_address typed.1 fits.pending,
      )

  beacon_settled : beacon_bytes (beacon.read_back x) ≡ beacon_bytes x
  unfolding beacon_bytes
  beacon_settled =
      let fits = fitting x f in
      rw (
        time_slots_settled x.guaranteed_time_slot_info typed.0 fits.slots,
        pending_settled x.pending_address typed.1 fits.pending,
      )

pub beacon_bytes_lem : (x : Beacon) → Bytes (beacon_bytes x)
unfolding beacon_bytes
beacon_bytes_lem x =
    bytes_append (superframe_bytes x.superframe_spec)
    (time_slots_bytes x.guaranteed_time_slot_info ++ pending_bytes x.pending_address)
    (superframe_laws.bytes x.superframe_spec)
    (bytes_append (time_slots_bytes x.guaranteed_time_slot_info) (pending_bytes x.pending_address)
    (time_slots_bytes_lem x.guaranteed_time_slot_info) (pending_bytes_lem x.pending_address))

beacon_writes : Writes beacon
unfolding write_beacon
beacon_writes x out at = refl

pub beacon_laws : Laws beacon
beacon_laws =
    record {
      writes = beacon_writes;
      taken = λ s at x n b e.
          let read = beacon_read s at (ap (λ (r : BeaconRead). number_of r.outcome) e) in
          let found = read.1 in
          let told = sym read.0 ∙ e in
          let value : beacon_in s at ≡ x = ap (λ (r : BeaconRead). r.beacon) told in
          let count : beacon_length_in s at ≡ n = ap (λ (r : BeaconRead). length_of r.outcome) told in
          rw (sym value, sym count)
          (record {
            typed = beacon_typed s at found b;
            fits = beacon_fits s at found;
            same = beacon_same s at found;
            size = beacon_size_lem s at found;
            within = all_found s at found;
            written = beacon_again_lem s at found b;
            behind = λ t.
                beacon_accepts (s ++ t) at (rw (length_more s at found t, length-append s t) (omega (arith, all_found s at found)))
                ∙ rw (beacon_more s at found t, length_more s at found t);
          });
      bytes = beacon_bytes_lem;
      returned = λ x typed f. record {
        long = beacon_length x typed f;
        back = read_back x typed f;
        fits = beacon_back_fits x typed f;
        settled = beacon_settled x typed f;
      };
    }

-- a beacon that is read lies whole in the input
pub beacon_within : (s : List ℕ) (at : ℕ) → number_of (read_beacon s at).outcome ≡ 0 → length_of (read_beacon s at).outcome ≤ length s - at
beacon_within s at e =
    let q = beacon_read s at e in
    rw q.0 (all_found s at q.1)
