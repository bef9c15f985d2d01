-- `hexadecimal::decode` meets its contract: by the table of values the digits are decoded.
-- Assumes nothing.
use Prim.Native.Nat.{ℕ}
use mathlib.Core.List.{List}
use mathlib.Core.Path.{◌≡◌, subst}
use lib.ListN.{length}
use Rattle.octets.specs.Buffer.{laid}
use Rattle.octets.proofs.Little.{bytes_known}
use Rattle.hexadecimal.proofs.Hex.{by_digits}
use Rattle.hexadecimal.proofs.decode.Goals as goal

pub returns : goal.returns
returns c =
    let a = c.args in
    let both = subst (λ (b : List ℕ). (c.decode_by.result ≡ length b) × (c.decode_by.new.out ≡ laid a.out.now 0 b))
    (by_digits _ a.s.now a.at (length a.out.now) c.values-values.ensures (bytes_known a.s.now c.type_inv.s))
    (c.decode_by.ensures.value, c.decode_by.ensures.out_after) in record {
      value = both.0;
      out_after = both.1;
    }
