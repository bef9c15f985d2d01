-- Laws of numbers as bytes, stated once over the width: joining and splitting undo each other, and a number at a place of a list is read
-- back from what was written, written again as what was read, and not altered by what follows.
-- Assumes nothing.
use Prim.Native.Nat.{ℕ, zero, suc, ◌+◌, ◌-◌, ◌*◌, ◌/◌, ◌%◌, ◌^◌, ◌≤◌, ◌<◌}
use native.Mathlib.Nat.{mul_assoc, pow-suc, pow-succ'}
use native.Mathlib.Omega.{arith}
use mathlib.Core.Bool.{cond}
use mathlib.Core.List.{List, [], ◌∷◌, ◌++◌}
use mathlib.Core.Path.{◌≡◌, refl, sym, ap, ◌∙◌}
use mir.Syntax.{w8}
use mir.Val.{Fits}
use borrow.Author.Tests.{ltb-true, leb-true, leb-false}
use lib.Dec.{ltb, leb}
use lib.ListN.{length, get_or, take, drop, length-take, length-drop, drop_of_length-le}
use lib.Seq.{drop_at, take_at, take_all, take-nil, length-take-le, drop-append-le, take-append-le, take-add, drop-drop, drop-nil}
use Rattle.octets.specs.Little.{join, split, number, Bytes}
use Rattle.octets.proofs.Cases.{cases, holds?}

-- bytes are bytes in every part of a list
pub bytes_take : (n : ℕ) (s : List ℕ) → Bytes s → Bytes (take n s)
bytes_take zero s b = tt
bytes_take (suc n) [] b = tt
bytes_take (suc n) (x ∷ s) b = (b.0, bytes_take n s b.1)

pub bytes_drop : (n : ℕ) (s : List ℕ) → Bytes s → Bytes (drop n s)
bytes_drop zero s b = b
bytes_drop (suc n) [] b = tt
bytes_drop (suc n) (x ∷ s) b = bytes_drop n s b.1

pub bytes_at : (s : List ℕ) (i : ℕ) → Bytes s → get_or s i 0 < 256
bytes_at [] i b = omega arith
bytes_at (x ∷ s) zero b = b.0
bytes_at (x ∷ s) (suc i) b = bytes_at s i b.1

pub bytes_append : (s t : List ℕ) → Bytes s → Bytes t → Bytes (s ++ t)
bytes_append [] t b c = c
bytes_append (x ∷ s) t b c = (b.0, bytes_append s t b.1 c)

-- a slice's elements are bytes
pub bytes_known : (s : List ℕ) → ((i : ℕ) → Fits w8 (get_or s i 0)) → Bytes s
bytes_known [] f = tt
bytes_known (x ∷ s) f = (omega (arith, f 0), bytes_known s (λ i. f (suc i)))

-- splitting
pub split_length : (n v : ℕ) → length (split n v) ≡ n
unfolding split
split_length zero v = refl
split_length (suc n) v = ap suc (split_length n (v / 256))

pub split_bytes : (n v : ℕ) → Bytes (split n v)
unfolding split
split_bytes zero v = tt
split_bytes (suc n) v = (omega arith, split_bytes n (v / 256))

-- a joined number, split, gives the bytes
pub split_join : (s : List ℕ) → Bytes s → split (length s) (join s) ≡ s
unfolding join split
split_join [] h = refl
split_join (b ∷ s) h =
    let m : (b + 256 * join s) % 256 ≡ b = omega arith in
    let d : (b + 256 * join s) / 256 ≡ join s = omega arith in
    rw (m, d, split_join s h.1)

-- split bytes, joined, give the number
pub join_split : (n v : ℕ) → v < 256 ^ n → join (split n v) ≡ v
unfolding join split
join_split zero v h = omega arith
join_split (suc n) v h =
    let k : v / 256 < 256 ^ n = omega arith in
    rw (join_split n (v / 256) k) (omega arith)

pub join_small : (n : ℕ) (s : List ℕ) → Bytes s → length s ≤ n → join s < 256 ^ n
unfolding join
join_small zero [] b h = omega arith
join_small (suc n) [] b h = omega (arith, join_small n [] tt (omega arith), pow-suc 256 n)
join_small zero (x ∷ s) b h = absurd (omega arith)
join_small (suc n) (x ∷ s) b h = omega (arith, join_small n s b.1 (omega arith), pow-suc 256 n)

pub join_append : (s t : List ℕ) → join (s ++ t) ≡ join s + 256 ^ length s * join t
unfolding join
join_append [] t = omega arith
join_append (x ∷ s) t =
    let e : 256 ^ suc (length s) * join t ≡ 256 * (256 ^ length s * join t) = rw (pow-succ', mul_assoc) in
    rw (join_append s t, e) (omega arith)

-- a number at a place, byte by byte and part by part
pub number_none : (s : List ℕ) (at : ℕ) → number s at 0 ≡ 0
unfolding number join
number_none s at = refl

pub number_one : (s : List ℕ) (at : ℕ) → number s at 1 ≡ get_or s at 0
unfolding number join
number_one [] at = rw drop-nil
number_one (x ∷ s) zero = omega arith
number_one (x ∷ s) (suc at) = number_one s at

-- past the end of a list
pub number_past : (s : List ℕ) (at n : ℕ) → length s ≤ at → number s at n ≡ 0
unfolding number join
number_past s at n h = rw (drop_of_length-le s h, take-nil n)

-- a place n bytes on, or where the list ends, whichever comes first
pub number_behind : (s : List ℕ) (at n k : ℕ) →
    number s (cond (ltb (length s - at) n) (length s) (at + n)) k ≡ number s (at + n) k
number_behind s at n k =
    cases (holds? (ltb (length s - at) n))
    (λ t.
    let h : length s - at < n = ltb-true _ _ t in
    simp t (number_past s (length s) k (omega arith) ∙ sym (number_past s (at + n) k (omega arith))))
    (λ t. simp t)

-- two parts of a number, where the first is there, and where it is not
join_there : (s : List ℕ) (at m n : ℕ) → at + m ≤ length s → number s at (m + n) ≡ number s at m + 256 ^ m * number s (at + m) n
unfolding number
join_there s at m n h =
    let k : length (take m (drop at s)) ≡ m = length-take-le m (drop at s) (rw length-drop (omega arith)) in
    rw (take-add m n (drop at s), join_append (take m (drop at s)), k, drop-drop m at s)

number_all : (s : List ℕ) (at m : ℕ) → length s ≤ at + m → number s at m ≡ join (drop at s)
unfolding number
number_all s at m h = ap join (take_all m (drop at s) (rw length-drop (omega arith)))

join_past : (s : List ℕ) (at m n : ℕ) → length s ≤ at + m → number s at (m + n) ≡ number s at m + 256 ^ m * number s (at + m) n
join_past s at m n h =
    rw (number_past s (at + m) n h, number_all s at m h, number_all s at (m + n) (omega arith)) (omega arith)

pub number_join : (s : List ℕ) (at m n : ℕ) → number s at (m + n) ≡ number s at m + 256 ^ m * number s (at + m) n
number_join s at m n =
    cases (holds? (leb (at + m) (length s)))
    (λ t. join_there s at m n (leb-true _ _ t))
    (λ t. let h : length s < at + m = leb-false _ _ t in join_past s at m n (omega arith))

-- a byte, and above it the number behind
pub number_next : (s : List ℕ) (at n : ℕ) → number s at (suc n) ≡ number s at 1 + 256 * number s (at + 1) n
number_next s at n = let e : suc n ≡ 1 + n = omega arith in rw (e, number_join s at 1 n) (omega arith)

-- one turn of reading n bytes from the last one down
pub number_turn : (s : List ℕ) (at n i v : ℕ) {b : ℕ} → 0 < i → i ≤ n → v ≡ number s (at + i) (n - i) → b ≡ number s (at + (i - 1)) 1 →
    256 * v + b ≡ number s (at + (i - 1)) (n - (i - 1))
number_turn s at n i v h l e d =
    let f : n - (i - 1) ≡ suc (n - i) = omega arith in
    let g : at + (i - 1) + 1 ≡ at + i = omega arith in
    rw (f, number_next s (at + (i - 1)) (n - i), g, e, d) (omega arith)

-- read back from what was written
pub number_back : (p : List ℕ) (at n v : ℕ) (t : List ℕ) → length p ≡ at → v < 256 ^ n → number (p ++ (split n v ++ t)) at n ≡ v
unfolding number
number_back p at n v t e h = rw (drop_at p (split n v ++ t) at e, take_at (split n v) t n (split_length n v)) (join_split n v h)

-- written again as what was read
pub number_again : (s : List ℕ) (at n : ℕ) → Bytes s → at + n ≤ length s → split n (number s at n) ≡ take n (drop at s)
unfolding number
number_again s at n b h =
    let k : length (take n (drop at s)) ≡ n = length-take-le n (drop at s) (rw length-drop (omega arith)) in
    ap (λ (j : ℕ). split j (join (take n (drop at s)))) (sym k)
    ∙ split_join (take n (drop at s)) (bytes_take n (drop at s) (bytes_drop at s b))

-- not altered by what follows
pub number_more : (s t : List ℕ) (at n : ℕ) → at + n ≤ length s → number (s ++ t) at n ≡ number s at n
unfolding number
number_more s t at n h =
    let a : at ≤ length s = omega arith in
    let k : n ≤ length (drop at s) = rw length-drop (omega arith) in
    rw (drop-append-le at s t a, take-append-le n (drop at s) t k)

-- within its width, and within any greater one
pub number_within : (s : List ℕ) (at n k : ℕ) → Bytes s → n ≤ k → number s at n < 256 ^ k
unfolding number
number_within s at n k b h =
    join_small k (take n (drop at s)) (bytes_take n (drop at s) (bytes_drop at s b)) (rw (length-take n (drop at s)) (omega arith))

-- what was read of at most eight bytes before the last turn: there is room for a byte more in a word
pub number_room : (s : List ℕ) (at n i : ℕ) → Bytes s → 0 < i → n ≤ 8 → number s (at + i) (n - i) < 2 ^ 56
number_room s at n i b h l = number_within s (at + i) (n - i) 7 b (omega arith)

pub number_small : (s : List ℕ) (at n : ℕ) → Bytes s → at + n ≤ length s → number s at n < 256 ^ n
number_small s at n b _ = number_within s at n n b (omega arith)

-- all bytes that are left, in whatever width they lie
pub number_left : (s : List ℕ) (at m n : ℕ) → length s - at ≤ m → m ≤ n → number s at n ≡ number s at m
number_left s at m n h l = number_all s at n (omega arith) ∙ sym (number_all s at m (omega arith))
