-- Numbers at a place of a list, and a place behind a part that was stored.
-- Assumes nothing.
use Prim.Native.Nat.{ℕ, ◌+◌, ◌-◌, ◌^◌, ◌≤◌, ◌<◌}
use native.Mathlib.Nat.{mod-eq_of_lt}
use native.Mathlib.Omega.{arith}
use mathlib.Core.List.{List, [], ◌∷◌, ◌++◌, append_assoc}
use mathlib.Core.Path.{◌≡◌}
use lib.ListN.{length, length-append}
use Rattle.octets.specs.Little.{split, number, Bytes}
use Rattle.octets.proofs.Little.{number_back, number_small}

-- a byte as a list
pub split_one : (v : ℕ) → v < 256 → split 1 v ≡ v ∷ []
unfolding split
split_one v h = rw (mod-eq_of_lt h)

pub byte_small : (s : List ℕ) (at : ℕ) → Bytes s → 1 ≤ length s - at → number s at 1 < 256
byte_small s at b h = number_small s at 1 b (omega arith)

-- a part in the middle: what stands before it, and what stands before and a part more
pub over : (p a b t : List ℕ) → p ++ ((a ++ b) ++ t) ≡ p ++ (a ++ (b ++ t))
over p a b t = rw (append_assoc a b t)

pub past : (p a b t : List ℕ) → p ++ ((a ++ b) ++ t) ≡ (p ++ a) ++ (b ++ t)
past p a b t = rw (append_assoc a b t, append_assoc p a (b ++ t))

pub past_length : (p a : List ℕ) (at n : ℕ) → length p ≡ at → length a ≡ n → length (p ++ a) ≡ at + n
past_length p a at n e f = rw (length-append p a, e, f)

-- the second of two numbers side by side
pub number_second : (p a : List ℕ) (at m n v : ℕ) (t : List ℕ) → length p ≡ at → length a ≡ m → v < 256 ^ n →
    number (p ++ ((a ++ split n v) ++ t)) (at + m) n ≡ v
number_second p a at m n v t e f h = rw (past p a (split n v) t) (number_back (p ++ a) (at + m) n v t (past_length p a at m e f) h)

pub number_first : (p b : List ℕ) (at n v : ℕ) (t : List ℕ) → length p ≡ at → v < 256 ^ n → number (p ++ ((split n v ++ b) ++ t)) at n ≡ v
number_first p b at n v t e h = rw (over p (split n v) b t) (number_back p at n v (b ++ t) e h)
