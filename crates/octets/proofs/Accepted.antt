-- What an answer's number and length say.
-- Assumes nothing.
use Prim.Native.Nat.{◌≤◌}
use native.Mathlib.Omega.{arith}
use mathlib.Core.Path.{◌≡◌, refl, ap}
use Rattle.std.specs.Prelude.{Result, Ok, Err}
use Rattle.std.specs.Result.{result_unwrap_or}
use Rattle.octets.specs.declared.Refusal.{Refusal}
use Rattle.octets.specs.declared.Refusal.TheVariants.{Ended, Version, FrameType, AddressMode, NoDestination}
use Rattle.octets.specs.declared.Refusal.TheVariants.{MissingAddress, MissingCounter, TooLarge, WrongLength, Over}
use Rattle.octets.specs.Outcome.{Outcome, refusal_number, number_of, length_of}

-- a refusal has a number, 1 to 9
pub refusal_some : (r : Refusal) → (1 ≤ refusal_number r) × (refusal_number r ≤ 9)
refusal_some Ended = (omega arith, omega arith)
refusal_some Version = (omega arith, omega arith)
refusal_some FrameType = (omega arith, omega arith)
refusal_some AddressMode = (omega arith, omega arith)
refusal_some NoDestination = (omega arith, omega arith)
refusal_some MissingAddress = (omega arith, omega arith)
refusal_some MissingCounter = (omega arith, omega arith)
refusal_some TooLarge = (omega arith, omega arith)
refusal_some WrongLength = (omega arith, omega arith)
refusal_some Over = (omega arith, omega arith)

-- number 0 is that of an accepting answer, which tells its length
pub accepted_of : (o : Outcome) → number_of o ≡ 0 → o ≡ Ok (length_of o)
accepted_of (Ok n) z = refl
accepted_of (Err r) z = let some = (refusal_some r).0 in absurd (omega (arith, some, z))

-- an answer is not both, and accepts one value
pub never : {A : Type 0} {r : Refusal} {x : A} → ◌≡◌ {A = Result A Refusal} (Err r) (Ok x) → ⊥
never {r = r} e = let some = (refusal_some r).0 in let none : refusal_number r ≡ 0 = ap number_of e in absurd (omega (arith, some, none))

pub one_value : {A : Type 0} {x y : A} → ◌≡◌ {A = Result A Refusal} (Ok x) (Ok y) → x ≡ y
one_value {x = x} e = ap (λ r. result_unwrap_or r x) e
