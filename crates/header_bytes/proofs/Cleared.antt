-- Laws of the bits that writing a header clears: the bytes stay as many, and what lies behind the header stays.
-- Assumes nothing.
use Prim.Native.Nat.{ℕ, ◌<◌}
use native.Mathlib.Omega.{arith}
use mathlib.Core.Bool.{true}
use mathlib.Core.List.{List, ◌++◌}
use mathlib.Core.Path.{◌≡◌, sym, ap, ◌∙◌}
use lib.ListN.{length, take}
use lib.Seq.{length-take-le}
use Rattle.std.specs.Prelude.{Ok}
use Rattle.octets.specs.{Bits.bit, Bits.clear_at, Little.number}
use Rattle.octets.proofs.Bits.{clear_append, clear_length}
use Rattle.octets.proofs.Cases.{cases, holds?}
use Rattle.header_bytes.specs.Layout.{source_end}
use Rattle.header_bytes.specs.Reading.{measured}
use Rattle.header_bytes.specs.Cleared.{cleared_by, header_cleared}
use Rattle.header_bytes.proofs.Accepted.{read_accepted}

two_length : (l : List ℕ) → length (clear_at 1 0 2 (clear_at 0 7 1 l)) ≡ length l
two_length l = clear_length (clear_at 0 7 1 l) 1 0 2 ∙ clear_length l 0 7 1

pub cleared_length : (w : ℕ) (l : List ℕ) → length (cleared_by w l) ≡ length l
cleared_length w l =
    cases (holds? (bit w 3))
    (λ t. simp t (clear_length (clear_at 1 0 2 (clear_at 0 7 1 l)) (source_end w) 5 3 ∙ two_length l))
    (λ f. simp f (two_length l))

-- cleared in front of other bytes
pub cleared_append : (w : ℕ) (l m : List ℕ) → 1 < length l → (bit w 3 ≡ true → source_end w < length l) →
    cleared_by w (l ++ m) ≡ cleared_by w l ++ m
cleared_append w l m h k =
    let two : clear_at 1 0 2 (clear_at 0 7 1 (l ++ m)) ≡ clear_at 1 0 2 (clear_at 0 7 1 l) ++ m =
    ap (clear_at 1 0 2) (clear_append l m 0 7 1 (omega arith))
    ∙ clear_append (clear_at 0 7 1 l) m 1 0 2 (omega (arith, clear_length l 0 7 1)) in
    cases (holds? (bit w 3))
    (λ t. simp t
    (ap (clear_at (source_end w) 5 3) two
    ∙ clear_append (clear_at 1 0 2 (clear_at 0 7 1 l)) m (source_end w) 5 3 (omega (arith, two_length l, k t))))
    (λ f. simp f two)

-- of the n bytes of a header that reading accepts
pub header_cleared_lem : (s : List ℕ) (n : ℕ) → measured s ≡ Ok n → header_cleared s ≡ cleared_by (number s 0 2) (take n s)
unfolding header_cleared
header_cleared_lem s n e = ap (λ (k : ℕ). cleared_by (number s 0 2) (take k s)) (sym (read_accepted s n e).end)

pub header_cleared_length : (s : List ℕ) (n : ℕ) → measured s ≡ Ok n → length (header_cleared s) ≡ n
header_cleared_length s n e =
    ap length (header_cleared_lem s n e)
    ∙ cleared_length (number s 0 2) (take n s)
    ∙ length-take-le n s (read_accepted s n e).within

pub header_cleared_append : (s m : List ℕ) (n : ℕ) → measured s ≡ Ok n →
    cleared_by (number s 0 2) (take n s ++ m) ≡ header_cleared s ++ m
header_cleared_append s m n e =
    let q = read_accepted s n e in
    let long = length-take-le n s q.within in
    cleared_append (number s 0 2) (take n s) m (omega (arith, long, q.three)) (λ on. omega (arith, long, q.secured on))
    ∙ ap (λ (l : List ℕ). l ++ m) (sym (header_cleared_lem s n e))
