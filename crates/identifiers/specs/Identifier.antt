-- A number in a wrapper of its own, in so many bytes, little-endian (document 01, "Header layout").
use Rattle.std.specs.Prelude.{ℕ, List, [], ◌∷◌, Result}
use Rattle.octets.specs.declared.{Refusal.Refusal, Refusal.TheVariants.Ended}
use Rattle.octets.specs.{Little.number, Part.ends, Outcome.answered}

-- the identifier at a place, of so many bytes, made of its number
unfoldable pub read_identifier : {T : Type 0} → ℕ → (ℕ → T) → List ℕ → ℕ → Result T Refusal
read_identifier width of s at = answered ((ends s at width, Ended) ∷ []) (of (number s at width))
