-- `quick::entry` meets its contract: the table's rule is one test, computed at each of its entries. What is tested is the table that the
-- function reads, so the table stands in the code alone.
-- Assumes nothing.
use Rattle.std.proofs.Common.{◌≡◌, ℕ, ◌<◌, List, get_or, rules}
use lib.Dec.{T, eqb}
use Rattle.octets.proofs.Each.{below, same}
use Rattle.quick.specs.Table.{table_at}
use Rattle.quick.proofs.entry.Goals as goal

-- a table that follows the rule at each index, as a computed test tells
as_ruled : (table : List ℕ) (i : ℕ) → T (below (λ (k : ℕ). eqb (get_or table k 0) (table_at k)) 256) → i < 256 →
    get_or table i 0 ≡ table_at i
as_ruled table i t h = same (λ (k : ℕ). get_or table k 0) table_at 256 t i h

pub returns : goal.returns
returns c = search (rules, as_ruled)
