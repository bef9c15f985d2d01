-- Parts that can only be refused with 1, "input ends, or room ends, before the part at hand is complete" (document 01,
-- "Refusal numbers").
use Rattle.std.specs.Prelude.{ℕ, ◌-◌, Bool, List, [], ◌∷◌, ltb, length}
use Rattle.octets.specs.declared.{Refusal.TheVariants.Ended}
use Rattle.octets.specs.Outcome.{Outcome, answered}

-- fewer than n bytes of s are left from at on
abbrev pub ends : List ℕ → ℕ → ℕ → Bool
ends s at n = ltb (length s - at) n

-- writing a part of n bytes into a buffer at a place
abbrev pub write_part : List ℕ → ℕ → ℕ → Outcome
write_part out at n = answered ((ends out at n, Ended) ∷ []) n
