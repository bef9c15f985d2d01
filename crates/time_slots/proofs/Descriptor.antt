-- Laws of the descriptor of a guaranteed time slot.
-- Assumes nothing.
use Prim.Native.Nat.{ℕ, ◌-◌, ◌≤◌}
use native.Mathlib.Omega.{arith}
use mathlib.Core.Bool.{false}
use mathlib.Core.List.{List}
use mathlib.Core.Path.{◌≡◌}
use borrow.Author.Tests.{ltb-false}
use lib.ListN.{length}
use Rattle.octets.specs.Part.{ends}
use Rattle.octets.proofs.Cases.{cases, holds?, neither}
use Rattle.time_slots.specs.declared.Direction.TheVariants.{Receive}
use Rattle.time_slots.specs.declared.GuaranteedTimeSlotDescriptor.{GuaranteedTimeSlotDescriptor}
use Rattle.time_slots.specs.Descriptor.{descriptor_in, read_descriptor, descriptor_too_large}
use Rattle.std.specs.Prelude.{Ok}
use Rattle.octets.specs.Outcome.{number_of}

-- each number fits its bits
pub fitting : (x : GuaranteedTimeSlotDescriptor) → descriptor_too_large x ≡ false → (x.starting_slot ≤ 15) × (x.length ≤ 15)
unfolding descriptor_too_large
fitting x e = let both = neither _ _ e in (ltb-false 15 x.starting_slot both.0, ltb-false 15 x.length both.1)

-- what is read was there
pub descriptor_read : (s : List ℕ) (at : ℕ) → number_of (read_descriptor s at).outcome ≡ 0 →
    (read_descriptor s at ≡ record { outcome = Ok 3; slot = descriptor_in s at Receive }) × (3 ≤ length s - at)
unfolding read_descriptor
descriptor_read s at e =
    cases (holds? (ends s at 3)) (λ t. absurd (omega (arith, simp t at e))) (λ t. (simp t, ltb-false _ _ t))
