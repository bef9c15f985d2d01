-- `alterations::AlteredBytes::note_beacon` meets its contract: byte 1, the GTS header, its direction byte and the pending header.
-- Assumes nothing.
use Prim.Native.Nat.{ℕ, ◌+◌, ◌%◌}
use mathlib.Core.List.{List, [], ◌∷◌, ◌++◌, append-nil, append_assoc}
use mathlib.Core.Path.{◌≡◌, sym, ap, ◌∙◌}
use lib.ListN.{get_or}
use Rattle.octets.specs.Little.{number}
use Rattle.octets.proofs.Bits.{bits_low}
use Rattle.octets.proofs.Little.{number_one}
use Rattle.time_slots.specs.TimeSlots.{slot_count_in}
use Rattle.alterations.specs.Listed.{direction_bits}
use Rattle.alterations.specs.Altered.{mask, altered_at, altered_in}
use Rattle.alterations.proofs.Lists.{altered_append}
use Rattle.alterations.proofs.AlteredBytes.note_beacon.Goals as goal

pub returns : goal.returns
returns c =
    let a = c.args in
    let s = a.frame.now in
    let n = ap (λ (b : ℕ). b % 8) c.u8_at-n.ensures ∙ sym (bits_low (number s (a.at + 2) 1) 3) in
    let place = ap (λ (k : ℕ). a.at + 2 + k) c.time_slots_length.ensures.value in
    let byte = c.u8_at.ensures ∙ number_one s _ ∙ ap (λ (p : ℕ). get_or s p 0) place in
    let held = c.pending_mask.ensures ∙ ap (mask (3 ∷ 7 ∷ [])) byte in
    let first = a.self.now ++ altered_at (a.at + 1) (mask (5 ∷ []) (get_or s (a.at + 1) 0)) in
    let second = first ++ altered_at (a.at + 2) (mask (3 ∷ 4 ∷ 5 ∷ 6 ∷ []) (get_or s (a.at + 2) 0)) in
    let two : c.note_bits-2.new.self ≡ second =
    c.note_bits-2.ensures ∙ ap (λ (l : List (ℕ × ℕ)). l ++ altered_at (a.at + 2) (mask (3 ∷ 4 ∷ 5 ∷ 6 ∷ []) (get_or s (a.at + 2) 0))) c.note_bits.ensures in
    let three : c.note_directions.new.self ≡ second ++ altered_in s (direction_bits (slot_count_in s (a.at + 2)) (a.at + 3)) =
    c.note_directions.ensures ∙ (λ i. two i ++ altered_in s (direction_bits (n i) (a.at + 3))) in
    c.note.ensures ∙ (λ i. three i ++ altered_at (place i) (held i)) ∙ simp (append_assoc, altered_append, append-nil)
