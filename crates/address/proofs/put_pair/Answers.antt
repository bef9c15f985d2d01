-- `address::put_pair` meets its contract: the second store begins where the first ended.
-- Assumes nothing.
use mathlib.Core.Path.{◌∙◌}
use native.Mathlib.Omega.{arith}
use Rattle.octets.proofs.Buffer.{laid_on}
use Rattle.address.proofs.Addresses.{pan_length_lem}
use Rattle.address.proofs.put_pair.Goals as goal

pub returns : goal.returns
returns c =
    let a = c.args in record {
      value = omega (arith, c.put_pan-next.ensures.value, c.put_pan-next.auto.out, c.put.ensures.value);
      out_after = c.put.ensures.out_after ∙ rw c.put_pan-next.ensures.out_after (laid_on _ _ _ _ _ _ (pan_length_lem a.own a.pan_id) c.put_pan-next.ensures.value);
    }
