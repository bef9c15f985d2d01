-- `security::AuxiliarySecurityHeader::put` meets its contract: each store begins where the one before ended.
-- Assumes nothing.
use native.Mathlib.Omega.{arith}
use Rattle.octets.proofs.Buffer.{stored_on}
use Rattle.octets.proofs.Little.{split_length}
use Rattle.security.specs.Security.{security_bytes}
use Rattle.security.proofs.AuxiliarySecurityHeader.put.Goals as goal

pub returns : goal.returns
unfolding security_bytes
returns c =
    let behind = stored_on _ _ _ 4 _ _ (split_length 4 _) (c.put-behind_counter.ensures.value, c.put-behind_counter.ensures.out_after) (c.put_key.ensures.value, c.put_key.ensures.out_after) in
    let whole = stored_on _ _ _ 1 _ _ (split_length 1 _) (c.put-behind_control.ensures.value, c.put-behind_control.ensures.out_after) behind in record {
      value = omega (arith, whole.0);
      out_after = rw (← c.written_control.ensures.value) whole.1;
    }
