-- `octets::narrow_at` meets its contract: where fewer than n bytes are left, the number in eight is the number in n.
-- Assumes nothing.
use native.Mathlib.Omega.{arith}
use mathlib.Core.Path.{◌∙◌}
use Rattle.octets.proofs.Little.{bytes_known, number_left, number_within}
use Rattle.octets.proofs.narrow_at.Goals as goal

pub returns-then-left-n-clause-value : goal.returns-then-left-n-clause-value
returns-then-left-n-clause-value c =
    let a = c.args in
    c.padded_at.ensures ∙ number_left a.s.now a.at a.n 8 (omega (arith, c.left.ensures)) (omega arith)

pub returns-then-left-n-clause-upper_bound : goal.returns-then-left-n-clause-upper_bound
returns-then-left-n-clause-upper_bound c =
    let a = c.args in
    omega (arith, returns-then-left-n-clause-value c, number_within a.s.now a.at a.n a.n (bytes_known _ c.type_inv.s) (omega arith))
