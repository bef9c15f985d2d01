-- What one look at the frame control tells is what the tests of reading answer, in their order: the type in its place between the version
-- and the modes, 5 without a test for the destination's bytes, and one test for all of them at the end.
-- Assumes nothing.
use Prim.Native.Nat.{ℕ, ◌+◌, ◌-◌, ◌≤◌, ◌<◌}
use native.Mathlib.Omega.{arith}
use mathlib.Core.Bool.{Bool, true, false, cond, ◌&&◌, true≢false}
use mathlib.Core.List.{List}
use mathlib.Core.Path.{◌≡◌, refl, sym, ap}
use borrow.Author.Tests.{ltb-false, le-ltb, eqb-true}
use lib.Dec.{ltb, eqb}
use lib.ListN.{length}
use Rattle.octets.specs.{Bits.bits, Bits.bit, Little.number}
use Rattle.octets.proofs.Cases.{cases, holds?}
use Rattle.header_bytes.specs.Layout.{destination_end, source_end, header_end}
use Rattle.header_bytes.specs.Reading.{unshared, measured}
use Rattle.header_bytes.proofs.Passed.{idle_first}
use Rattle.header_bytes.proofs.Sizes.{source_end_lem, header_end_lem}
use Rattle.octets.specs.Outcome.{code_of, Outcome}
use Rattle.quick.specs.Table.{control_end, entry_of}
use Rattle.quick.proofs.Ends.{rest}
use Rattle.std.specs.Prelude.{Ok, Err}
use Rattle.octets.specs.declared.Refusal.TheVariants.{AddressMode, Ended, FrameType, NoDestination, Version}

-- the entry and the answer by the tests alone: version, the two modes, compression, and the type
abbrev lettered : Bool → Bool → Bool → Bool → ℕ → ℕ
lettered version to from shared n = cond version 50 (cond to 52 (cond from 52 (cond shared 53 (96 + n))))

abbrev answer : Bool → Bool → Bool → Bool → Bool → Outcome → Outcome
answer version kind to from shared rest =
    cond version (Err Version) (cond kind (Err FrameType) (cond to (Err AddressMode) (cond from (Err AddressMode) (cond shared (Err NoDestination) rest))))

version_told : (v k a b u : Bool) (n : ℕ) (rest : Outcome) → lettered v a b u n ≡ 50 → answer v k a b u rest ≡ Err Version
version_told true k a b u n rest e = refl
version_told false k true b u n rest e = absurd (omega arith)
version_told false k false true u n rest e = absurd (omega arith)
version_told false k false false true n rest e = absurd (omega arith)
version_told false k false false false n rest e = absurd (omega arith)

type_told : (v a b u : Bool) (n : ℕ) (rest : Outcome) → (lettered v a b u n ≡ 50 → ⊥) → answer v true a b u rest ≡ Err FrameType
type_told true a b u n rest f = absurd (f refl)
type_told false a b u n rest f = refl

refusal_told : (v a b u : Bool) (n : ℕ) (rest : Outcome) → (lettered v a b u n ≡ 50 → ⊥) → lettered v a b u n < 97 → 1 ≤ n →
    (48 ≤ lettered v a b u n) × (1000 + (lettered v a b u n - 48) ≡ code_of (answer v false a b u rest))
refusal_told true a b u n rest f h m = absurd (f refl)
refusal_told false true b u n rest f h m = (omega arith, refl)
refusal_told false false true u n rest f h m = (omega arith, refl)
refusal_told false false false true n rest f h m = (omega arith, refl)
refusal_told false false false false n rest f h m = absurd (omega arith)

length_told : (v a b u : Bool) (n : ℕ) (rest : Outcome) → 97 ≤ lettered v a b u n →
    (lettered v a b u n - 96 ≡ n) × (rest ≡ answer v false a b u rest)
length_told true a b u n rest h = absurd (omega arith)
length_told false true b u n rest h = absurd (omega arith)
length_told false false true u n rest h = absurd (omega arith)
length_told false false false true n rest h = absurd (omega arith)
length_told false false false false n rest h = (omega arith, refl)

second : (a b : Bool) → (a && b) ≡ true → b ≡ true
second true b e = e
second false b e = absurd (true≢false (sym e))

-- compression without a destination: nothing lies between the sequence number and the source
no_destination : (w : ℕ) → unshared w ≡ true → destination_end w ≡ 3
no_destination w e =
    let none : bits w 10 2 ≡ 0 = eqb-true _ _ (second (bit w 6) (eqb (bits w 10 2) 0) e) in
    rw none refl

-- the tests behind the modes: 5 needs none for the destination, and one test serves for all bytes
behind_modes : (s : List ℕ) (w : ℕ) → 3 ≤ length s →
    cond (ltb (length s) (destination_end w)) (Err Ended)
    (cond (unshared w) (Err NoDestination)
    (cond (ltb (length s) (source_end w)) (Err Ended) (rest s w)))
    ≡ cond (unshared w) (Err NoDestination) (rest s w)
behind_modes s w h =
    let n = length s in
    let end = header_end s w in
    let addresses = (header_end_lem w s).0 in
    let inside : ltb n end ≡ false → source_end w ≤ n = λ f. omega (arith, addresses, ltb-false n end f) in
    cases (holds? (unshared w))
    (λ t. let there = le-ltb n (destination_end w) (omega (arith, no_destination w t)) in rw (t, there) refl)
    (λ f.
    let source = idle_first (ltb n (source_end w)) (ltb n end) (Err Ended) (Ok end) (λ g. le-ltb n (source_end w) (inside g)) in
    let destination =
    idle_first (ltb n (destination_end w)) (ltb n end) (Err Ended) (Ok end)
    (λ g. let far = inside g in le-ltb n (destination_end w) (omega arith)) in
    rw (f, source) destination)

-- the answer, and what each look at the entry says of it
module _ (s : List ℕ) (w : ℕ) where
  abbrev version : Bool
  version = eqb (bits w 12 2) 3

  abbrev kind : Bool
  kind = eqb (bits w 0 3) 4

  abbrev to : Bool
  to = eqb (bits w 10 2) 1

  abbrev from : Bool
  from = eqb (bits w 14 2) 1

  abbrev pub told : Outcome
  told = answer version kind to from (unshared w) (rest s w)

  pub looked : number s 0 2 ≡ w → 3 ≤ length s → measured s ≡ told
  unfolding measured
  looked e h = rw (e, le-ltb (length s) 3 h) (ap (answer version kind to from false) (behind_modes s w h))

  pub version_looked : entry_of w ≡ 50 → told ≡ Err Version
  version_looked e = version_told version kind to from (unshared w) (control_end w) (rest s w) e

  pub type_looked : (entry_of w ≡ 50 → ⊥) → kind ≡ true → told ≡ Err FrameType
  type_looked f t = rw t (type_told version to from (unshared w) (control_end w) (rest s w) f)

  pub refusal_looked : (entry_of w ≡ 50 → ⊥) → kind ≡ false → entry_of w < 97 → (48 ≤ entry_of w) × (1000 + (entry_of w - 48) ≡ code_of told)
  refusal_looked f t h =
      rw t (refusal_told version to from (unshared w) (control_end w) (rest s w) f h (omega (arith, (source_end_lem w).0)))

  pub length_looked : kind ≡ false → 97 ≤ entry_of w → (entry_of w - 96 ≡ control_end w) × (rest s w ≡ told)
  length_looked t h = rw t (length_told version to from (unshared w) (control_end w) (rest s w) h)
