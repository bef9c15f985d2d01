-- What it says of n bytes that reading accepts them: they end where the header does, hold at least its frame control and sequence number,
-- and with the security bit its security control. And how large the numbers of any answer are.
-- Assumes nothing.
use Prim.Native.Nat.{ℕ, ◌≤◌, ◌<◌}
use native.Mathlib.Omega.{arith}
use mathlib.Core.Bool.{Bool, true, false}
use mathlib.Core.List.{List, [], ◌∷◌}
use mathlib.Core.Path.{◌≡◌, sym, ap, ◌∙◌}
use lib.ListN.{length}
use Rattle.std.specs.Prelude.{Ok}
use Rattle.octets.specs.declared.Refusal.{Refusal}
use Rattle.octets.specs.{Bits.bit, Little.number, Outcome.answered, Outcome.refusal_number, Outcome.number_of, Outcome.length_of}
use Rattle.header_bytes.specs.Layout.{source_end, header_end}
use Rattle.header_bytes.specs.Reading.{read_tests, measured}
use Rattle.header_bytes.proofs.Passed.{Passed, measured_passed}
use Rattle.header_bytes.proofs.Sizes.{source_end_lem, header_end_lem, control_inside}

pub record Accepted (s : List ℕ) (n : ℕ) : Type 0 where
  pub passed : Passed s (number s 0 2)
  pub end : n ≡ header_end s (number s 0 2)
  pub within : n ≤ length s
  pub three : 3 ≤ n
  pub most : n ≤ 37
  pub secured : bit (number s 0 2) 3 ≡ true → source_end (number s 0 2) < n

pub read_accepted : (s : List ℕ) (n : ℕ) → measured s ≡ Ok n → Accepted s n
read_accepted s n e =
    let w = number s 0 2 in
    let q = measured_passed s (ap number_of e) in
    let end : n ≡ header_end s w = ap length_of (sym e ∙ q.1) in
    record {
      passed = q.0;
      end = end;
      within = omega (arith, q.0.whole);
      three = omega (arith, (source_end_lem w).0, (header_end_lem w s).0);
      most = omega (arith, (header_end_lem w s).1);
      secured = λ on. omega (arith, control_inside w s on);
    }

-- the numbers of the refusals beside tests are at most k
abbrev AtMost : ℕ → List (Bool × Refusal) → Type 0
AtMost k [] = Unit
AtMost k (test ∷ rest) = (refusal_number test.1 ≤ k) × AtMost k rest

answered_most : (k : ℕ) (tests : List (Bool × Refusal)) (n : ℕ) → AtMost k tests → number_of (answered tests n) ≤ k
answered_most k [] n h = omega arith
answered_most k ((true, r) ∷ rest) n h = h.0
answered_most k ((false, r) ∷ rest) n h = answered_most k rest n h.1

-- the length of an answer is that of the header, or 0
pub answered_length : (tests : List (Bool × Refusal)) (n : ℕ) → length_of (answered tests n) ≤ n
answered_length [] n = omega arith
answered_length ((true, r) ∷ rest) n = omega arith
answered_length ((false, r) ∷ rest) n = answered_length rest n

pub measured_most : (s : List ℕ) → (number_of (measured s) ≤ 5) × (length_of (measured s) ≤ 37)
unfolding measured
measured_most s =
    let w = number s 0 2 in
    let five = answered_most 5 (read_tests s w) (header_end s w)
    (omega arith, (omega arith, (omega arith, (omega arith, (omega arith, (omega arith, (omega arith, (omega arith, (omega arith, tt))))))))) in
    (five, omega (arith, answered_length (read_tests s w) (header_end s w), (header_end_lem w s).1))
