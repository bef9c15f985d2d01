-- `pending::PendingAddress::put` meets its contract: the header and the lists, three stores side by side, are one.
-- Assumes nothing.
use mathlib.Core.Path.{◌∙◌}
use Rattle.octets.proofs.Little.{split_length}
use Rattle.octets.proofs.Buffer.{laid_on}
use Rattle.seven_places.proofs.Seven.{all_length}
use Rattle.pending.specs.Addresses.{short_bytes}
use Rattle.pending.specs.Pending.{pending_bytes}
use Rattle.pending.proofs.PendingAddress.put.Goals as goal

pub returns : goal.returns
unfolding pending_bytes
returns c =
    let shorts = rw (c.short_addresses.ensures, c.put-next.ensures.out_after, c.header-header.ensures) at c.put-next-2.ensures in
    rw (c.put.ensures.out_after, c.extended_addresses.ensures, shorts.out_after)
    (laid_on _ _ _ _ _ _ (all_length short_bytes 2 (λ x. split_length 2 x.0) _) shorts.value
    ∙ laid_on _ _ _ 1 _ _ (split_length 1 _) c.put-next.ensures.value)
