-- `beacon::Beacon::put` meets its contract: each part fits and has room, and the parts, stored side by side, are one store.
-- Assumes nothing.
use Prim.Native.Nat.{ℕ, ◌+◌}
use native.Mathlib.Omega.{arith}
use mathlib.Core.List.{List, map}
use mathlib.Core.Path.{◌≡◌, refl, sym, ap, ◌∙◌}
use borrow.Author.Rules.{rules}
use lib.ListN.{length, length-map}
use Rattle.octets.specs.Buffer.{laid}
use Rattle.octets.proofs.Buffer.{laid_two}
use Rattle.superframe.specs.Superframe.{superframe_bytes, write_superframe}
use Rattle.superframe.proofs.Superframe.{superframe_length}
use Rattle.time_slots.specs.TimeSlots.{time_slots_bytes, time_slots_size, write_time_slots}
use Rattle.time_slots.proofs.TimeSlots.{plain_size, time_slots_length}
use Rattle.pending.specs.Pending.{write_pending}
use Rattle.beacon.specs.Beacon.{beacon_bytes}
use Rattle.beacon.proofs.Content.{fitting, whole_stored}
use Rattle.beacon.proofs.Beacon.put.Goals as goal

-- an array of a record has all its places: that is known of what the record owns
mapped : {A B : Type 0} (f : A → B) (l : List A) (n : ℕ) → length (map f l) ≡ n → length l ≡ n
mapped f l n e = sym (length-map l f) ∙ e

pub overflow_add-at : goal.overflow_add-at
overflow_add-at c = omega (arith, c.requires.self_in_bounds)

pub overflow_add-at-3 : goal.overflow_add-at-3
overflow_add-at-3 c =
    let x = c.args.self in
    let size = c.size.ensures.value ∙ plain_size _ (fitting x c.requires.self_value).slots in
    rw size (omega (arith, c.requires.self_in_bounds))

pub returns : goal.returns
unfolding beacon_bytes write_pending write_superframe write_time_slots
returns c =
    let x = c.args.self in
    let at = c.args.at in
    let fits = fitting x c.requires.self_value in
    let room = c.requires.self_in_bounds in
    let size : c.size.result ≡ time_slots_size x.guaranteed_time_slot_info = c.size.ensures.value ∙ plain_size _ fits.slots in
    let place : at + 2 + c.size.result ≡ at + 2 + time_slots_size x.guaranteed_time_slot_info =
    ap (λ (n : ℕ). at + 2 + n) size in
    let seven_slots : length x.guaranteed_time_slot_info.slots ≡ 7 = search rules in
    -- each part is stored whole
    let superframe : c.write.new.out ≡ laid c.args.out.now at (superframe_bytes x.superframe_spec) =
    whole_stored c.args.out.now _ at 2 fits.superframe (omega (arith, room)) c.write.ensures.value c.write.ensures.out_after in
    let slots : c.write-2.new.out ≡ laid c.write.new.out (at + 2) (time_slots_bytes x.guaranteed_time_slot_info) =
    whole_stored c.write.new.out _ (at + 2) (time_slots_size x.guaranteed_time_slot_info) fits.slots (omega (arith, room))
    c.write-2.ensures.value c.write-2.ensures.out_after in
    laid_two _ _ 2 _ _ _ (superframe_length _) refl superframe
    (laid_two _ _ _ _ _ _ (time_slots_length _ seven_slots fits.slots) place slots
    (whole_stored c.write-2.new.out _ _ _ fits.pending (omega (arith, place, room))
    c.write-3.ensures.value c.write-3.ensures.out_after))
