-- `octets::write_number` meets its contract: its test is the definition's, and `put` stores what fits.
-- Assumes nothing.
use mathlib.Core.Path.{refl}
use Rattle.octets.proofs.Part.{fewer, enough}
use Rattle.octets.proofs.write_number.Goals as goal

pub returns-then-left-n : goal.returns-then-left-n
returns-then-left-n c = record {
  value = simp (fewer c.left.ensures c.if-left-n.true);
  out_after = refl;
}

pub returns : goal.returns
returns c =
    let test = c in record {
      value = simp (enough test.left.ensures test.if-left-n.false);
      out_after = c.put.ensures.out_after;
    }
