-- `quick::look` meets its contract: the entry stands in the row of its index, at each index by a computed test, and is the frame control's.
-- Assumes nothing.
use Prim.Native.Nat.{ℕ, ◌+◌, ◌*◌, ◌/◌, ◌%◌, ◌^◌}
use mathlib.Core.Path.{ap, ◌∙◌}
use Rattle.octets.specs.Little.{join}
use Rattle.octets.proofs.Each.{same}
use Rattle.quick.specs.Table.{table_at, row_of}
use Rattle.quick.proofs.Table.{at_index}
use Rattle.quick.proofs.look.Goals as goal

pub returns : goal.returns
unfolding join
returns c =
    let a = c.args in
    let i = c.index-i.result in
    ap (λ (row : ℕ). row / 2 ^ (i % 4 * 8) % 256) c.row.ensures
    ∙ same (λ (i : ℕ). join (row_of (i / 4)) / 2 ^ (i % 4 * 8) % 256) table_at 256 tt i c.index-i.ensures.upper_bound
    ∙ ap table_at c.index-i.ensures.value
    ∙ at_index (a.a + 256 * a.b)
