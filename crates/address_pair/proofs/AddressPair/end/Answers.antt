-- `address_pair::AddressPair::end` meets its contract: each address is as long as its PAN id in the frame makes it.
-- Assumes nothing.
use native.Mathlib.Omega.{arith}
use Prim.Native.Nat.{◌+◌}
use mathlib.Core.Path.{◌∙◌}
use Rattle.address.specs.Layout.{address_length}
use Rattle.address_pair.proofs.Own.{to_own, from_own, no_length}
use Rattle.address_pair.proofs.AddressPair.end.Goals as goal

pub returns : goal.returns
returns c =
    let a = c.args.self in
    let to = c.address_octets.ensures.value ∙ to_own address_length no_length a.compress a.destination a.source in
    let from = c.address_octets-2.ensures.value ∙ from_own address_length no_length a.compress a.destination a.source in record {
      value = λ i. 3 + to i + from i;
      upper_bound = omega (arith, c.address_octets.ensures.upper_bound, c.address_octets-2.ensures.upper_bound);
    }
