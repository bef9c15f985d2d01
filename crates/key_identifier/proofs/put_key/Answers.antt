-- `key_identifier::put_key` meets its contract: an absent key identifier stores nothing, a present one its source and then its index.
-- Assumes nothing.
use mathlib.Core.Path.{sym, ◌∙◌}
use native.Mathlib.Omega.{arith}
use Rattle.octets.proofs.Buffer.{laid_none, laid_on}
use Rattle.key_identifier.specs.Key.{key_bytes}
use Rattle.key_identifier.proofs.Keys.{source_key, source_length_lem}
use Rattle.key_identifier.proofs.put_key.Goals as goal

pub returns-in_default : goal.returns-in_default
unfolding key_bytes
returns-in_default c =
    record {
      value = rw c.in_default.is (omega arith);
      out_after = rw c.in_default.is (sym (laid_none _ _));
    }

pub returns : goal.returns
unfolding key_bytes
returns c =
    record {
      value = rw c.in-Some.is (omega (arith, c.put.ensures.value, c.put_source-next.ensures.value, c.put_source-next.auto.out, source_key c.in-Some.present.key_source));
      out_after = rw c.in-Some.is (c.put.ensures.out_after ∙ rw c.put_source-next.ensures.out_after (laid_on _ _ _ _ _ _ (source_length_lem c.in-Some.present.key_source) c.put_source-next.ensures.value));
    }
