-- `header::Header::put_fixed` meets its contract: the sequence number is stored behind the frame control.
-- Assumes nothing.
use Prim.Native.Nat.{ℕ}
use mathlib.Core.List.{◌++◌}
use mathlib.Core.Path.{ap, ◌∙◌}
use Rattle.octets.specs.Buffer.{laid}
use Rattle.octets.specs.Little.{split}
use Rattle.octets.proofs.Buffer.{stored_on}
use Rattle.octets.proofs.Little.{split_length}
use Rattle.frame_control.specs.Control.{control_bits}
use Rattle.header.proofs.Header.put_fixed.Goals as goal

pub returns : goal.returns
returns c =
    let a = c.args in
    let word = c.from-control.ensures ∙ ap control_bits c.written_control.ensures in
    let both = stored_on _ _ _ 2 _ 1 (split_length 2 _) (c.put-next.ensures.value, c.put-next.ensures.out_after) (c.put.ensures.value, c.put.ensures.out_after) in record {
      value = both.0;
      out_after = both.1 ∙ ap (λ (w : ℕ). laid a.out.now a.at (split 2 w ++ split 1 a.self.seq)) word;
    }
