-- `labelled::put_pair` meets its contract: two stores, one after the other.
-- Assumes nothing.
use Prim.Native.Nat.{ℕ, ◌/◌, ◌%◌}
use mathlib.Core.List.{[], ◌∷◌}
use mathlib.Core.Path.{ap, ◌∙◌}
use Rattle.labelled.specs.Hexed.{hex_digit, hex_by}
use Rattle.labelled.proofs.Putting.{join, same}
use Rattle.labelled.proofs.put_pair.Goals as goal

pub returns : goal.returns
unfolding hex_by
returns c =
    same
    (ap (λ (d : ℕ). d ∷ c.last_hex_digit-low.result ∷ []) (rw c.from-number.ensures at c.last_hex_digit-high.ensures)
    ∙ ap (λ (d : ℕ). hex_digit (c.args.byte / 16 % 16) ∷ d ∷ []) (rw c.from-number.ensures at c.last_hex_digit-low.ensures))
    (join c.put_byte-next.ensures c.put_byte.ensures)
