-- `pieces::HeaderReader::take` meets its contract: by whether it waits, and by the reader that the piece leads to.
-- Assumes nothing.
use Prim.Native.Nat.{◌-◌}
use mathlib.Core.Path.{sym, ap, ◌∙◌}
use borrow.Author.Rules.{rules}
use Rattle.pieces.specs.Steps.{spoken}
use Rattle.pieces.proofs.Growing.{taken_waiting, gathered_more}
use Rattle.pieces.proofs.HeaderReader.take.Goals as goal

pub overflow_sub-used : goal.overflow_sub-used
overflow_sub-used c =
    let a = c.args in
    rw c.gather-next.ensures.value (gathered_more a.self a.piece.now (search rules) (search rules))

pub returns : goal.returns
returns c =
    let a = c.args in
    (λ i. record {
      reader = c.gather-next.ensures.value i;
      answer = (c.say.ensures ∙ ap spoken c.gather-next.ensures.value) i;
      used = (c.gather-next.ensures.value i).count - a.self.count;
    })
    ∙ sym (taken_waiting a.self a.piece.now (search rules) (search rules))
