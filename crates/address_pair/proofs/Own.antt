-- A destination has its PAN id in the frame, and a source has it there unless compressed: of an address that is there the
-- modes say the same, and of one that is missing it makes no difference.
-- Assumes nothing.
use Prim.Native.Nat.{◌+◌}
use mathlib.Core.Bool.{Bool, true, false, not}
use mathlib.Core.Path.{◌≡◌, refl}
use lib.ListN.{length, length-append}
use Rattle.address.specs.declared.Address.TheVariants.{Short, Extended}
use Rattle.address.specs.Layout.{address_length, address_bytes}
use Rattle.address.proofs.Addresses.{address_length_lem}
use Rattle.address_pair.specs.Pair.{owns_to, owns_from, pair_bytes}
use Rattle.std.specs.Prelude.{Option, Some, None}
use Rattle.address.specs.declared.Address.{Address}

-- of whatever is asked of an address by its PAN id in the frame
module _ {A : Type 0} (f : Bool → Option Address → A) (missing : (a b : Bool) → f a None ≡ f b None) where
  pub to_own : (compress : Bool) (d s : Option Address) → f true d ≡ f (owns_to compress d s) d
  to_own compress None s = missing true false
  to_own compress (Some (Short p a)) s = refl
  to_own compress (Some (Extended p a)) s = refl

  pub from_own : (compress : Bool) (d s : Option Address) → f (not compress) s ≡ f (owns_from compress d s) s
  from_own true d s = refl
  from_own false d s = to_own false s d

-- a missing address takes and gives no bytes
pub no_length : (a b : Bool) → address_length a None ≡ address_length b None
no_length a b = refl

pub no_bytes : (a b : Bool) → address_bytes a None ≡ address_bytes b None
unfolding address_bytes
no_bytes a b = refl

-- the bytes of both are as many as each takes
pub pair_length : (compress : Bool) (d s : Option Address) →
    length (pair_bytes compress d s) ≡ address_length (owns_to compress d s) d + address_length (owns_from compress d s) s
pair_length compress d s = simp (length-append, address_length_lem)
