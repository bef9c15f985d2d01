-- `gateway::control` meets its contract: the number in the first two bytes is that of the frame they are taken from.
-- Assumes nothing.
use Prim.Native.Nat.{ℕ}
use mathlib.Core.List.{List, [], ◌∷◌}
use mathlib.Core.Path.{◌≡◌, refl, ◌∙◌}
use lib.ListN.{take}
use Rattle.octets.specs.Little.{number}
use Rattle.gateway.proofs.control.Goals as goal

number_front : (s : List ℕ) → number (take 2 s) 0 2 ≡ number s 0 2
unfolding number
number_front [] = refl
number_front (a ∷ []) = refl
number_front (a ∷ b ∷ s) = refl

pub returns : goal.returns
returns c = c.u16_at.ensures ∙ number_front _
