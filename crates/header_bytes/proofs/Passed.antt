-- What holds of bytes where no test of reading holds, by the frame control w: reading accepts them.
-- Assumes nothing.
use Prim.Native.Nat.{ℕ, ◌≤◌}
use native.Mathlib.Omega.{arith}
use mathlib.Core.Bool.{Bool, true, false, cond, true≢false}
use mathlib.Core.List.{List, map}
use mathlib.Core.Path.{◌≡◌, refl}
use Rattle.std.specs.Prelude.{Ok, Err}
use borrow.Author.Tests.{ltb-false, le-ltb, eq-eqb}
use lib.Dec.{eqb}
use lib.ListN.{length}
use Rattle.octets.specs.declared.Refusal.{Refusal}
use Rattle.octets.specs.Bits.{bits}
use Rattle.octets.specs.Little.{number}
use Rattle.octets.specs.Outcome.{Outcome, number_of}
use Rattle.octets.proofs.Order.{Fail, none_holds}
use Rattle.header_bytes.specs.Layout.{destination_end, source_end, header_end}
use Rattle.header_bytes.specs.Reading.{unshared, read_tests, measured}

pub record Passed (s : List ℕ) (w : ℕ) : Type 0 where
  pub three : 3 ≤ length s
  pub version : eqb (bits w 12 2) 3 ≡ false
  pub type : eqb (bits w 0 3) 4 ≡ false
  pub destination : eqb (bits w 10 2) 1 ≡ false
  pub source : eqb (bits w 14 2) 1 ≡ false
  pub shared : unshared w ≡ false
  pub addresses : source_end w ≤ length s
  pub whole : header_end s w ≤ length s

pub passed : (s : List ℕ) (w : ℕ) → Fail (read_tests s w) → Passed s w
passed s w f =
    let rest = f.1.1.1.1.1.1 in
    record {
      three = ltb-false (length s) 3 f.0;
      version = f.1.0;
      type = f.1.1.0;
      destination = f.1.1.1.0;
      source = f.1.1.1.1.0;
      shared = rest.0;
      addresses = ltb-false (length s) (source_end w) rest.1.0;
      whole = ltb-false (length s) (header_end s w) rest.1.1.0;
    }

pub failed : (s : List ℕ) (w : ℕ) → Passed s w → Fail (read_tests s w)
failed s w p =
    let addresses = p.addresses in (
      le-ltb (length s) 3 p.three,
      (
        p.version,
        (
          p.type,
          (
            p.destination,
            (
              p.source,
              (
                le-ltb (length s) (destination_end w) (omega arith),
                (p.shared, (le-ltb (length s) (source_end w) addresses, (le-ltb (length s) (header_end s w) p.whole, tt))),
              ),
            ),
          ),
        ),
      ),
    )

-- measuring tells it, or a refusal
abbrev accepting : Outcome → Bool
accepting o = eqb (number_of o) 0

pub measured_passed : (s : List ℕ) → number_of (measured s) ≡ 0 →
    Passed s (number s 0 2) × (measured s ≡ Ok (header_end s (number s 0 2)))
unfolding measured
measured_passed s z =
    let w = number s 0 2 in
    let q =
    none_holds accepting (map (λ (test : Bool × Refusal). (test.0, Err test.1)) (read_tests s w)) (Ok (header_end s w))
    (refl, (refl, (refl, (refl, (refl, (refl, (refl, (refl, (refl, tt))))))))) (eq-eqb _ 0 z) in
    (passed s w q.0, q.1)

-- of two tests with one answer, the first is idle where it holds only with the second
pub idle_first : {A : Type 0} (a b : Bool) (x y : A) → (b ≡ false → a ≡ false) → cond a x (cond b x y) ≡ cond b x y
idle_first true true x y h = refl
idle_first false true x y h = refl
idle_first true false x y h = absurd (true≢false (h refl))
idle_first false false x y h = refl
