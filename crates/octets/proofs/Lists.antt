-- Laws of lists: a front, and lists side by side.
-- Assumes nothing.
use Prim.Native.Nat.{ℕ}
use mathlib.Core.List.{List, ◌++◌, flat_map}
use mathlib.Core.Path.{◌≡◌}
use lib.ListN.{length, take}
use Rattle.std.proofs.lemmas.Grind.{flat_map-append}
use Rattle.std.proofs.lemmas.List.{length-take, take_min}

-- a front as long as a front is that front
pub take_again : (k : ℕ) (s : List ℕ) → take (length (take k s)) s ≡ take k s
take_again k s = rw (length-take k s) (take_min k s)

-- the lists of two lists' elements side by side
pub flat_append : {A B : Type 0} (f : A → List B) (a b : List A) → flat_map f (a ++ b) ≡ flat_map f a ++ flat_map f b
unfolding flat_map
flat_append f a b = flat_map-append f a b
