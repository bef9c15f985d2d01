-- The three ends of every writer of values, from what its own tests showed: too large, no room, or stored. A writer tests for refusal 8,
-- then for its room, and stores what is left.
-- Assumes nothing.
use Prim.Native.Nat.{ℕ, ◌≤◌, ◌<◌}
use mathlib.Core.Bool.{Bool, true, false}
use mathlib.Core.List.{[], ◌∷◌}
use mathlib.Core.Path.{◌≡◌, sym, ◌∙◌}
use lib.Dec.{ltb}
use Rattle.std.specs.Prelude.{Ok, Err}
use Rattle.octets.specs.declared.Refusal.TheVariants.{Ended, TooLarge}
use Rattle.octets.specs.Outcome.{Outcome, answered}
use Rattle.octets.specs.Order.{first}
use Rattle.octets.proofs.Part.{fewer, enough}

-- what `write_value` says of the bytes that are left in a buffer
abbrev answer : Bool → ℕ → ℕ → Outcome
answer large left size = answered ((large, TooLarge) ∷ (ltb left size, Ended) ∷ []) size

module _ {flag large : Bool} (e : flag ≡ large) where
  pub too_large : (other : Outcome) → flag ≡ true → Err TooLarge ≡ first ((large, Err TooLarge) ∷ []) other
  too_large other t = simp (sym e ∙ t)

  module _ (f : flag ≡ false) where
    pub plain : large ≡ false
    plain = sym e ∙ f

    module _ {size n room left : ℕ} (s : n ≡ size) (r : room ≡ left) where
      pub no_room : room < n → Err Ended ≡ answer large left size
      no_room h = simp (plain, fewer r (rw s at h))

      -- what is asked to store
      pub all_room : n ≤ room → (large ≡ false) × (size ≤ left)
      all_room h = (plain, rw r at (rw s at h))

      pub stored : n ≤ room → Ok n ≡ answer large left size
      stored h = simp (plain, enough r (rw s at h), s)
