-- Laws of a copy that stores as much as has room, one byte after the other.
-- Assumes nothing.
use Prim.Native.Nat.{ℕ, ◌+◌, ◌-◌, ◌≤◌, ◌<◌}
use native.Mathlib.Omega.{arith}
use mathlib.Core.List.{List, [], ◌∷◌, ◌++◌}
use mathlib.Core.Path.{◌≡◌, refl, ap, ◌∙◌}
use lib.ListN.{length, get_or, set, take, drop}
use lib.Seq.{take_all, length-take-le}
use Rattle.std.proofs.lemmas.List.{take_more}
use Rattle.octets.specs.Buffer.{laid, fitting}
use Rattle.octets.proofs.Buffer.{laid_join, laid_all}

-- all of it, where it has room
pub fitting_all : (out : List ℕ) (at : ℕ) (s : List ℕ) → length s ≤ length out - at → fitting out at s ≡ s
fitting_all out at s h = take_all (length out - at) s h

-- the first n bytes of s at the beginning, and what lay behind them
pub copied_front : (s out : List ℕ) (n : ℕ) → n ≤ length s → n ≤ length out → laid out 0 (fitting out 0 (take n s)) ≡ take n s ++ drop n out
copied_front s out n h k =
    let long = length-take-le n s h in
    ap (laid out 0) (fitting_all out 0 (take n s) (omega (arith, long))) ∙ laid_all out (take n s) n long k

-- one byte more
pub copy_next : (out : List ℕ) (at : ℕ) (s : List ℕ) (i : ℕ) → i < length s →
    set (laid out at (take i s)) (at + i) (get_or s i 0) ≡ laid out at (take (i + 1) s)
unfolding laid
copy_next out at s i h =
    rw (take_more s i 0 h) (laid_join out at (at + i) i (take i s) (get_or s i 0 ∷ []) (length-take-le i s (omega arith)) refl)
