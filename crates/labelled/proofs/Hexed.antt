-- Laws of bytes in hex: the digits of one byte more, and of all bytes or none.
-- Assumes nothing.
use Prim.Native.Nat.{ℕ, ◌+◌, ◌<◌, ◌≤◌}
use native.Mathlib.Numerals.{add-one}
use native.Mathlib.Omega.{arith}
use mathlib.Core.List.{List, [], ◌∷◌, ◌++◌, flat_map}
use mathlib.Core.Path.{◌≡◌, refl, sym, ap, ◌∙◌}
use lib.ListN.{length, get_or, take}
use lib.Seq.{take_all, take-suc}
use Rattle.octets.proofs.Lists.{flat_append}
use Rattle.labelled.specs.Hexed.{hex_by, hexed}

-- one byte more
pub pair_more : (s : List ℕ) (i : ℕ) → i < length s →
    flat_map (hex_by 2) (take i s) ++ hex_by 2 (get_or s i 0) ≡ flat_map (hex_by 2) (take (i + 1) s)
unfolding flat_map hex_by
pair_more s i h =
    rw (add-one i) (sym (flat_append (hex_by 2) (take i s) (get_or s i 0 ∷ [])) ∙ ap (flat_map (hex_by 2)) (sym (take-suc s i 0 h)))

-- no byte, and all of one or more
pub hexed_none : (s : List ℕ) → length s ≡ 0 → 45 ∷ [] ≡ hexed s
unfolding hexed
hexed_none [] e = refl
hexed_none (b ∷ s) e = absurd (omega (arith, e))

pub hexed_all : (s : List ℕ) (i : ℕ) → 0 < length s → length s ≤ i → flat_map (hex_by 2) (take i s) ≡ hexed s
unfolding hexed
hexed_all [] i h l = absurd (omega (arith, h))
hexed_all (b ∷ s) i h l = ap (flat_map (hex_by 2)) (take_all i (b ∷ s) l)
