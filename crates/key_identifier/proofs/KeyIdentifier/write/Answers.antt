-- `key_identifier::KeyIdentifier::write` meets its contract: its test is the definition's, and `put_key` stores what fits.
-- Assumes nothing.
use mathlib.Core.Path.{refl, ap, ◌∙◌}
use Rattle.octets.proofs.Part.{fewer, enough}
use Rattle.key_identifier.specs.Key.{key_length}
use Rattle.key_identifier.proofs.KeyIdentifier.write.Goals as goal

pub returns-then-left-n : goal.returns-then-left-n
returns-then-left-n c =
    let n = c.key_octets-n.ensures.value ∙ ap key_length c.mode_of_key.ensures in record {
      value = simp (fewer c.left.ensures (rw n at c.if-left-n.true));
      out_after = refl;
    }

pub returns : goal.returns
returns c =
    let n = c.key_octets-n.ensures.value ∙ ap key_length c.mode_of_key.ensures in record {
      value = simp (enough c.left.ensures (rw n at c.if-left-n.false), n);
      out_after = c.put_key.ensures.out_after;
    }
