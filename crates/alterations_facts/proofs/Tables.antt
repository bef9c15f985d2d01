-- The bits of a byte: what a mask holds of them, what clearing leaves of them, and a byte by its bits. Each is one test, computed for all
-- bytes.
-- Assumes nothing.
use Prim.Native.Nat.{ℕ, ◌+◌, ◌-◌, ◌<◌}
use native.Mathlib.Omega.{arith}
use mathlib.Core.Bool.{Bool, false, cond, not, ◌&&◌}
use mathlib.Core.List.{List, [], ◌∷◌}
use mathlib.Core.Path.{◌≡◌, sym, ◌∙◌}
use borrow.Author.Tests.{ltb-true}
use lib.Dec.{T, ltb}
use lib.ListN.{drop}
use Rattle.octets.specs.Bits.{bit, clear}
use Rattle.octets.proofs.Each.{below, each, same}
use Rattle.alterations.specs.Altered.{mask}
use Rattle.alterations_facts.specs.Named.{among}
use Rattle.alterations_facts.proofs.Truth.{agree, agreed, holds}

abbrev pub all : List ℕ
all = 0 ∷ 1 ∷ 2 ∷ 3 ∷ 4 ∷ 5 ∷ 6 ∷ 7 ∷ []

-- a test at each bit of each byte
abbrev each_bit : (ℕ → ℕ → Bool) → Bool
each_bit test = below (λ (byte : ℕ). below (test byte) 8) 256

at_bit : (test : ℕ → ℕ → Bool) → T (each_bit test) → (byte b : ℕ) → byte < 256 → b < 8 → T (test byte b)
at_bit test t byte b h k = each (test byte) 8 (each (λ (byte : ℕ). below (test byte) 8) 256 t byte h) b k

-- a mask holds those bits that are set and listed
abbrev pub masks : List ℕ → Bool
masks bits = each_bit (λ byte b. agree (bit (mask bits byte) b) (bit byte b && among bits b))

abbrev pub fits : List ℕ → Bool
fits bits = below (λ (byte : ℕ). ltb (mask bits byte) 256) 256

pub record Listable (bits : List ℕ) : Type 0 where
  pub masked : (byte b : ℕ) → byte < 256 → b < 8 → bit (mask bits byte) b ≡ (bit byte b && among bits b)
  pub small : (byte : ℕ) → byte < 256 → mask bits byte < 256

pub listable : (bits : List ℕ) → T (masks bits) → T (fits bits) → Listable bits
listable bits t u =
    record {
      masked = λ byte b h k. agreed _ _ (at_bit (λ byte b. agree (bit (mask bits byte) b) (bit byte b && among bits b)) t byte b h k);
      small = λ byte h. ltb-true _ _ (holds _ (each (λ (byte : ℕ). ltb (mask bits byte) 256) 256 u byte h));
    }

-- clearing leaves those that are not listed
abbrev pub clears : ℕ → ℕ → List ℕ → Bool
clears at count bits = each_bit (λ byte b. agree (bit (clear at count byte) b) (bit byte b && not (among bits b)))

pub cleared_bit : (at count : ℕ) (bits : List ℕ) → T (clears at count bits) → (byte b : ℕ) → byte < 256 → b < 8 →
    bit (clear at count byte) b ≡ (bit byte b && not (among bits b))
cleared_bit at count bits t byte b h k =
    agreed _ _ (at_bit (λ byte b. agree (bit (clear at count byte) b) (bit byte b && not (among bits b))) t byte b h k)

-- the direction bits past n slots
pub directions_listable : (n : ℕ) → n < 8 → Listable (drop n all)
unfolding mask
directions_listable n h =
    listable (drop n all) (each (λ (n : ℕ). masks (drop n all)) 8 tt n h) (each (λ (n : ℕ). fits (drop n all)) 8 tt n h)

pub directions_clear : (n : ℕ) → n < 8 → T (clears n (8 - n) (drop n all))
directions_clear n h = each (λ (n : ℕ). clears n (8 - n) (drop n all)) 8 tt n h

-- a byte is the mask of all its bits
whole : (x : ℕ) → x < 256 → mask all x ≡ x
unfolding mask
whole x h = same (mask all) (λ (x : ℕ). x) 256 tt x h

alike : (x y : ℕ) → ((b : ℕ) → b < 8 → bit x b ≡ bit y b) → mask all x ≡ mask all y
unfolding mask
alike x y e =
    λ i. cond (e 0 (omega arith) i) 1 0
    + (cond (e 1 (omega arith) i) 2 0
    + (cond (e 2 (omega arith) i) 4 0
    + (cond (e 3 (omega arith) i) 8 0
    + (cond (e 4 (omega arith) i) 16 0
    + (cond (e 5 (omega arith) i) 32 0
    + (cond (e 6 (omega arith) i) 64 0
    + (cond (e 7 (omega arith) i) 128 0 + 0)))))))

pub by_bits : (x y : ℕ) → x < 256 → y < 256 → ((b : ℕ) → b < 8 → bit x b ≡ bit y b) → x ≡ y
by_bits x y h k e = sym (whole x h) ∙ alike x y e ∙ whole y k

pub zero_bit : (b : ℕ) → b < 8 → bit 0 b ≡ false
zero_bit b h = agreed _ _ (each (λ (b : ℕ). agree (bit 0 b) false) 8 tt b h)
