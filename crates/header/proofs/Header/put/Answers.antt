-- `header::Header::put` meets its contract: each part is stored where the one before ends.
-- Assumes nothing.
use mathlib.Core.Path.{refl}
use lib.ListN.{length}
use Rattle.octets.proofs.Buffer.{stored_on}
use Rattle.header.specs.Write.{fixed_bytes, addresses_bytes, header_bytes}
use Rattle.header.proofs.Writing.{fixed_length}
use Rattle.header.proofs.Header.put.Goals as goal

pub returns : goal.returns
unfolding header_bytes
returns c =
    let addresses = addresses_bytes c.args.self in
    let behind = stored_on _ _ addresses (length addresses) _ _ refl (rw c.pair.ensures at c.put-next.ensures.value, rw c.pair.ensures at c.put-next.ensures.out_after) (c.put_security.ensures.value, c.put_security.ensures.out_after) in
    (stored_on _ _ (fixed_bytes c.args.self) 3 _ _ (fixed_length c.args.self) (c.put_fixed-next.ensures.value, c.put_fixed-next.ensures.out_after) behind).1
