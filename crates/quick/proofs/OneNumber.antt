-- The one number of an answer: the length where it accepts, and from 1000 on where it refuses.
-- Assumes nothing.
use Prim.Native.Nat.{ℕ, ◌+◌, ◌≤◌}
use native.Mathlib.Omega.{arith}
use mathlib.Core.Path.{◌≡◌, refl, sym, ap, ◌∙◌}
use Rattle.std.specs.Prelude.{[], ◌∷◌, Ok, Err}
use Rattle.octets.specs.declared.Refusal.{Refusal}
use Rattle.octets.specs.declared.Refusal.TheVariants.{Ended, Version, FrameType, AddressMode, NoDestination}
use Rattle.octets.specs.declared.Refusal.TheVariants.{MissingAddress, MissingCounter, TooLarge, WrongLength, Over}
use Rattle.octets.proofs.Accepted.{refusal_some}
use Rattle.octets.specs.{Bits.find, Outcome.Outcome, Outcome.refusal_number, Outcome.number_of, Outcome.length_of, Outcome.code_of}

-- reading's refusals have numbers of their own
abbrev reading : ℕ → Refusal
reading n = find ((1, Ended) ∷ (2, Version) ∷ (3, FrameType) ∷ (4, AddressMode) ∷ []) NoDestination (λ r. r) n

reading_back : (r : Refusal) → refusal_number r ≤ 5 → reading (refusal_number r) ≡ r
reading_back Ended h = refl
reading_back Version h = refl
reading_back FrameType h = refl
reading_back AddressMode h = refl
reading_back NoDestination h = refl
reading_back MissingAddress h = absurd (omega arith)
reading_back MissingCounter h = absurd (omega arith)
reading_back TooLarge h = absurd (omega arith)
reading_back WrongLength h = absurd (omega arith)
reading_back Over h = absurd (omega arith)

-- a length being below 1000, a number from there on tells the refusal
pub code_refuses : (o : Outcome) (r : Refusal) → length_of o ≤ 37 → number_of o ≤ 5 → refusal_number r ≤ 5 →
    code_of o ≡ 1000 + refusal_number r → Err r ≡ o
code_refuses (Ok n) r short few h e = absurd (omega arith)
code_refuses (Err q) r short few h e =
    let same : refusal_number r ≡ refusal_number q = omega arith in
    ap Err (sym (reading_back r h) ∙ ap reading same ∙ reading_back q few)

-- no other numbers are given
pub code_other : (o : Outcome) → length_of o ≤ 37 → number_of o ≤ 5 → 1000 ≤ code_of o →
    (code_of o ≡ 1001 → ⊥) → (code_of o ≡ 1002 → ⊥) → (code_of o ≡ 1003 → ⊥) → (code_of o ≡ 1004 → ⊥) →
    Err NoDestination ≡ o
code_other (Ok n) short few h a b c d = absurd (omega arith)
code_other (Err r) short few h a b c d =
    let some = (refusal_some r).0 in
    code_refuses (Err r) NoDestination (omega arith) few (omega arith) (omega (arith, few, some, a, b, c, d))
