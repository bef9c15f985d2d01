-- `alterations::AlteredBytes::note_frame` meets its contract: the header's bits and, where the frame holds a beacon, the beacon's.
-- Assumes nothing.
use Prim.Native.Nat.{ℕ}
use mathlib.Core.List.{◌++◌}
use mathlib.Core.Path.{sym, ap, ◌∙◌}
use Rattle.octets.specs.Little.{number}
use Rattle.header_bytes.specs.Layout.{source_end}
use Rattle.alterations.specs.Listed.{header_bits, beacon_bits, holds_beacon}
use Rattle.alterations.specs.Altered.{altered_in}
use Rattle.alterations.proofs.Lists.{altered_append, listed_alone, listed_beacon}
use Rattle.alterations.proofs.AlteredBytes.note_frame.Goals as goal

pub returns-then-holds_beacon : goal.returns-then-holds_beacon
returns-then-holds_beacon c =
    let s = c.args.frame.now in
    let w = c.u16_at-w.ensures in
    let both = ap holds_beacon (sym w) ∙ sym c.holds_beacon.ensures ∙ c.if-holds_beacon.true in
    let place = c.source_end.ensures.value ∙ ap source_end w in
    let header = c.note_header.ensures ∙ ap (λ (w : ℕ). altered_in s (header_bits w)) w in
    c.note_beacon.ensures
    ∙ (λ i. header i ++ altered_in s (beacon_bits s (place i)))
    ∙ sym (altered_append s (header_bits (number s 0 2)) (beacon_bits s (source_end (number s 0 2))))
    ∙ ap (altered_in s) (listed_beacon s both)

pub returns-else-holds_beacon : goal.returns-else-holds_beacon
returns-else-holds_beacon c =
    let s = c.args.frame.now in
    let w = c.u16_at-w.ensures in
    let alone = ap holds_beacon (sym w) ∙ sym c.holds_beacon.ensures ∙ c.if-holds_beacon.false in
    c.note_header.ensures
    ∙ ap (λ (w : ℕ). altered_in s (header_bits w)) w
    ∙ ap (altered_in s) (listed_alone s alone)
