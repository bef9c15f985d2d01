-- `address_pair::AddressPair::put` meets its contract: the source is stored where the destination ends.
-- Assumes nothing.
use Prim.Native.Nat.{ℕ, ◌+◌, ◌-◌, min}
use mathlib.Core.List.{◌++◌}
use mathlib.Core.Path.{sym, ap, ◌∙◌}
use lib.ListN.{length}
use Rattle.octets.specs.Buffer.{laid}
use Rattle.octets.proofs.Buffer.{stored_on}
use Rattle.address.specs.Layout.{address_length, address_bytes}
use Rattle.address.proofs.Addresses.{address_length_lem}
use Rattle.address_pair.proofs.Own.{to_own, from_own, no_length, no_bytes, pair_length}
use Rattle.address_pair.proofs.AddressPair.put.Goals as goal

pub returns : goal.returns
returns c =
    let a = c.args in
    let k = a.self.compress in
    let d = a.self.destination in
    let f = a.self.source in
    let to = to_own address_length no_length k d f in
    let from = from_own address_length no_length k d f in
    let first-bytes = to_own address_bytes no_bytes k d f in
    let second-bytes = from_own address_bytes no_bytes k d f in
    let both = stored_on _ _ _ _ _ _ (address_length_lem _ d) (c.put_address-next.ensures.value, c.put_address-next.ensures.out_after) (c.put_address.ensures.value, c.put_address.ensures.out_after) in record {
      value = both.0
          ∙ (λ i. a.at + min (to i + from i) (length a.out.now - a.at))
          ∙ ap (λ (n : ℕ). a.at + min n (length a.out.now - a.at)) (sym (pair_length k d f));
      out_after = both.1 ∙ (λ i. laid a.out.now a.at (first-bytes i ++ second-bytes i));
    }
