-- `identifiers::Identifier::read` meets its contract: its test is that of the definition for every width.
-- Assumes nothing.
use Rattle.std.proofs.Common.{◌≡◌, Ok, Err, sym, ◌∙◌}
use Rattle.octets.specs.declared.Refusal.TheVariants.{Ended}
use Rattle.octets.proofs.Part.{fewer, enough}
use Rattle.identifiers.specs.Identifier.{read_identifier}
use Rattle.identifiers.proofs.Identifier.read.Goals as goal

pub returns-then-left-WIDTH : goal.returns-then-left-WIDTH
unfolding read_identifier
returns-then-left-WIDTH g c =
    let i = g.Self.Identifier in
    let a = c.args in
    let e : Err Ended ≡ read_identifier i.WIDTH i.of a.s.now a.at =
    simp (fewer c.left.ensures (rw c.WIDTH.ensures at c.if-left-WIDTH.true)) in
    e ∙ sym (g.met.Self.Identifier.reads a.s.now a.at)

pub returns : goal.returns
unfolding read_identifier
returns g c =
    let i = g.Self.Identifier in
    let a = c.args in
    let e : Ok c.at.result ≡ read_identifier i.WIDTH i.of a.s.now a.at =
    simp (enough c.left.ensures (rw c.WIDTH.ensures at c.if-left-WIDTH.false), c.at.ensures) in
    e ∙ sym (g.met.Self.Identifier.reads a.s.now a.at)
