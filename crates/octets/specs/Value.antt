-- Writing a part that can hold a value too large for its bits: 8, then 1 (document 01, "Refusal numbers").
use Rattle.std.specs.Prelude.{ℕ, Bool, List, [], ◌∷◌}
use Rattle.octets.specs.declared.Refusal.TheVariants.{Ended, TooLarge}
use Rattle.octets.specs.{Outcome.Outcome, Outcome.answered, Part.ends}

-- writing a part of n bytes into a buffer at a place, where large says that a value does not fit its bits
abbrev pub write_value : Bool → List ℕ → ℕ → ℕ → Outcome
write_value large out at n = answered ((large, TooLarge) ∷ (ends out at n, Ended) ∷ []) n
