-- The bits that rewriting a given frame alters: those that are set in the frame and listed for its parts.
use Rattle.std.specs.Prelude.{ℕ, ◌+◌, ◌^◌, Bool, cond, not, ◌&&◌, List, [], ◌∷◌, ◌++◌, eqb, length, get_or, take, drop}
use Rattle.octets.specs.{Bits.bit, Outcome.Outcome}
use Rattle.beacon.specs.Beacon.{refuses}
use Rattle.alterations.specs.{declared.Alterations.Alterations, Listed.listed, Rewriting.rewrite_frame}

-- those bits of a byte that are set and listed, as a number: a mask
unfoldable pub mask : List ℕ → ℕ → ℕ
mask [] byte = 0
mask (b ∷ listed) byte = cond (bit byte b) (2 ^ b) 0 + mask listed byte

-- the numbers of count bits from bit at on, of a byte
abbrev pub span : ℕ → ℕ → List ℕ
span at count = take count (drop at (0 ∷ 1 ∷ 2 ∷ 3 ∷ 4 ∷ 5 ∷ 6 ∷ 7 ∷ []))

-- the mask of a byte with its place, where it has such a bit
abbrev pub altered_at : ℕ → ℕ → List (ℕ × ℕ)
altered_at place m = cond (eqb m 0) [] ((place, m) ∷ [])

-- so for each byte that has listed bits
abbrev pub altered_in : List ℕ → List (ℕ × List ℕ) → List (ℕ × ℕ)
altered_in s [] = []
altered_in s (b ∷ rest) = altered_at b.0 (mask b.1 (get_or s b.0 0)) ++ altered_in s rest

-- the engineer's list for a frame: places and masks in the order of the bytes. A frame that is not rewritten has none.
unfoldable pub altered : List ℕ → List (ℕ × ℕ)
altered s = cond (refuses (rewrite_frame s)) [] (altered_in s (listed s))

-- an answer with its list
abbrev pub told : Outcome → List (ℕ × ℕ) → Alterations
told o l = record { outcome = o; bytes = l }

unfoldable pub alterations : List ℕ → Alterations
alterations s = told (rewrite_frame s) (altered s)

-- rewriting a frame is accepted and alters nothing
abbrev pub leaves_alone : List ℕ → Bool
leaves_alone s = not (refuses (rewrite_frame s)) && eqb (length (altered s)) 0
