-- `header::Header::write` meets its contract: it writes at the first place.
-- Assumes nothing.
use native.Mathlib.Nat.{sub-zero}
use mathlib.Core.Path.{ap, ◌∙◌}
use Rattle.header.specs.Write.{write_header}
use Rattle.header.proofs.Header.write.Goals as goal

pub returns : goal.returns
returns c =
    let a = c.args in record {
      value = c.write_at.ensures.value ∙ ap (write_header a.self a.counter) (sub-zero _);
      out_after = c.write_at.ensures.out_after;
    }
