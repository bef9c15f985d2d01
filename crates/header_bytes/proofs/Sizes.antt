-- How long the parts of a header are: an address at most 10 bytes, a security part 5 to 14, the whole 3 to 37.
-- Assumes nothing.
use Prim.Native.Nat.{ℕ, ◌≤◌, ◌<◌}
use native.Mathlib.Omega.{arith}
use mathlib.Core.Bool.{Bool, true, false}
use mathlib.Core.List.{List}
use mathlib.Core.Path.{◌≡◌}
use lib.Dec.{eqb}
use Rattle.octets.specs.Bits.{bits, bit}
use Rattle.octets.specs.Little.{number}
use Rattle.octets.proofs.Cases.{cases, holds?}
use Rattle.header_bytes.specs.Layout.{own_destination, own_source, pan_size, address_size, security_size, source_end, header_end}

pan_size_lem : (own : Bool) → pan_size own ≤ 2
pan_size_lem true = omega arith
pan_size_lem false = omega arith

address_size_lem : (mode : ℕ) → address_size mode ≤ 8
address_size_lem mode =
    cases (holds? (eqb mode 2)) (λ t. simp t (omega arith)) (λ two.
    cases (holds? (eqb mode 3)) (λ t. simp (two, t) (omega arith)) (λ three. simp (two, three) (omega arith)))

security_size_lem : (mode : ℕ) → (5 ≤ security_size mode) × (security_size mode ≤ 14)
security_size_lem mode =
    cases (holds? (eqb mode 0)) (λ t. simp t (omega arith, omega arith)) (λ none.
    cases (holds? (eqb mode 1)) (λ t. simp (none, t) (omega arith, omega arith)) (λ index.
    cases (holds? (eqb mode 2)) (λ t. simp (none, index, t) (omega arith, omega arith))
    (λ short. simp (none, index, short) (omega arith, omega arith))))

module _ (w : ℕ) where
  abbrev to : ℕ
  to = bits w 10 2

  abbrev from : ℕ
  from = bits w 14 2

  pub source_end_lem : (3 ≤ source_end w) × (source_end w ≤ 23)
  source_end_lem =
      let a = pan_size_lem (own_destination to from (bit w 6)) in
      let b = address_size_lem to in
      let c = pan_size_lem (own_source to from (bit w 6)) in
      let d = address_size_lem from in
      (omega arith, omega arith)

  pub header_end_lem : (s : List ℕ) → (source_end w ≤ header_end s w) × (header_end s w ≤ 37)
  header_end_lem s =
      let a = source_end_lem in
      let b = security_size_lem (bits (number s (source_end w) 1) 3 2) in
      cases (holds? (bit w 3)) (λ t. simp t (omega arith, omega arith)) (λ f. simp f (omega arith, omega arith))

  -- a security control lies in front of the header's end
  pub control_inside : (s : List ℕ) → bit w 3 ≡ true → source_end w < header_end s w
  control_inside s on = let b = security_size_lem (bits (number s (source_end w) 1) 3 2) in simp on (omega arith)
