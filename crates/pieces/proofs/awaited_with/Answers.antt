-- `pieces::awaited_with` meets its contract: by what measuring the whole array tells of its first bytes.
-- Assumes nothing.
use native.Mathlib.Omega.{arith}
use mathlib.Core.Path.{sym, ◌∙◌}
use lib.ListN.{take}
use lib.Seq.{length-take-le}
use Rattle.pieces.proofs.Prefix.{needed_short}
use Rattle.pieces.proofs.Looking.{refused_needs, unseen_needs, seen_needs}
use Rattle.pieces.proofs.awaited_with.Goals as goal

pub returns-then-count-lt3-clause-value : goal.returns-then-count-lt3-clause-value
returns-then-count-lt3-clause-value c =
    let a = c.args in
    let front = length-take-le a.count a.bytes.now (omega (arith, c.requires)) in
    let short = needed_short (take a.count a.bytes.now) (omega (arith, front, c.if-count-lt3.true)) in
    omega (arith, short, c.if-count-lt3.true)

pub returns-in_default-clause-value : goal.returns-in_default-clause-value
returns-in_default-clause-value c =
    let a = c.args in
    let r = c.requires in
    let needs = refused_needs a.bytes.now a.count r.bytes_len c.if-count-lt3.false r.count_le_header_most _ c.in_default.ensures in
    omega (arith, needs, c.if-count-lt3.false)

pub returns-then-control_unseen-clause-value : goal.returns-then-control_unseen-clause-value
returns-then-control_unseen-clause-value c =
    let a = c.args in
    let r = c.requires in
    let unseen = sym c.control_unseen.ensures ∙ c.if-control_unseen.true in
    let needs =
    unseen_needs a.bytes.now a.count r.bytes_len c.if-count-lt3.false r.count_le_header_most _ _ c.u16_at-w.ensures unseen
    c.in-Ok.ensures in
    omega (arith, needs.0, needs.1, c.source_end.ensures.value)

pub returns-else-control_unseen : goal.returns-else-control_unseen
returns-else-control_unseen c =
    let a = c.args in
    let r = c.requires in
    let seen = sym c.control_unseen.ensures ∙ c.if-control_unseen.false in
    let needs =
    seen_needs a.bytes.now a.count r.bytes_len c.if-count-lt3.false r.count_le_header_most _ _ c.u16_at-w.ensures seen c.in-Ok.ensures in
    record { value = omega (arith, needs.0, c.max.ensures); upper_bound = omega (arith, needs.1, c.max.ensures, r.count_le_header_most) }
