-- `line_teller::Kept::cut` meets its contract: no more is kept than the buffer has room for.
-- Assumes nothing.
use Rattle.std.proofs.Common.{◌∙◌, arith}
use Rattle.line_cutter.proofs.Line.{taken_small}
use Rattle.line_teller.proofs.kept.Kept.cut.Goals as goal

pub invariant_of-self : goal.invariant_of-self
invariant_of-self c =
    let line = c.args.self.now in
    let small = taken_small c.args.chunk.now c.args.at line.bytes line.n c.cut-taken.result c.cut-taken.ensures.value (omega (arith, line.few, line.long)) in
    record { few = omega (arith, small.0, line.long); long = c.cut-taken.auto.line ∙ line.long }
