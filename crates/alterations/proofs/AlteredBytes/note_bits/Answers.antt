-- `alterations::AlteredBytes::note_bits` meets its contract: what is held of the byte is noted.
-- Assumes nothing.
use Prim.Native.Nat.{ℕ}
use native.Mathlib.Omega.{arith}
use mathlib.Core.List.{◌++◌}
use mathlib.Core.Path.{ap, ◌∙◌}
use Rattle.octets.proofs.Little.{number_one}
use Rattle.alterations.specs.Altered.{altered_at, mask, span}
use Rattle.alterations.proofs.Masks.{held_mask}
use Rattle.alterations.proofs.AlteredBytes.note_bits.Goals as goal

pub returns : goal.returns
returns c =
    let a = c.args in
    let byte = c.u8_at.ensures ∙ number_one a.frame.now a.place in
    let held = held_mask c.u8_at.result a.bits.at a.bits.count (omega arith) a.bits.at_bound a.bits.count_bound in
    c.note.ensures
    ∙ ap (λ (m : ℕ). a.self.now ++ altered_at a.place m) (c.held.ensures ∙ held ∙ ap (mask (span a.bits.at a.bits.count)) byte)
