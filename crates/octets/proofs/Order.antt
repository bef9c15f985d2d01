-- Laws of the first test that holds.
-- Assumes nothing.
use mathlib.Core.Bool.{Bool, true, false, true≢false}
use mathlib.Core.List.{List, [], ◌∷◌, map}
use mathlib.Core.Path.{◌≡◌, refl, sym, ap, ◌∙◌}
use Rattle.std.specs.Prelude.{Result, Ok, Err}
use Rattle.octets.specs.declared.Refusal.{Refusal}
use Rattle.octets.specs.declared.Refusal.TheVariants.{Ended}
use Rattle.octets.specs.Order.{first}
use Rattle.octets.specs.Outcome.{answered}
use Rattle.octets.proofs.Accepted.{never, one_value}

-- what is said of the answer is said beside each test
pub first_map : {A B : Type 0} (f : A → B) (tests : List (Bool × A)) (other : A) →
    f (first tests other) ≡ first (map (λ (t : Bool × A). (t.0, f t.1)) tests) (f other)
first_map f [] other = refl
first_map f ((true, a) ∷ rest) other = refl
first_map f ((false, a) ∷ rest) other = first_map f rest other

-- Where each answer beside a test is a refusal, an accepting answer says that no test holds and that it is the last one.
abbrev pub Refusing : {A : Type 0} → (A → Bool) → List (Bool × A) → Type 0
Refusing accepts [] = Unit
Refusing accepts (test ∷ rest) = (accepts test.1 ≡ false) × Refusing accepts rest

abbrev pub Fail : {A : Type 0} → List (Bool × A) → Type 0
Fail [] = Unit
Fail (test ∷ rest) = (test.0 ≡ false) × Fail rest

-- no test holds, so the last one is given, whatever stands beside the tests
pub none_first : {A B : Type 0} (f : A → B) (tests : List (Bool × A)) (other : B) → Fail tests →
    first (map (λ (t : Bool × A). (t.0, f t.1)) tests) other ≡ other
none_first f [] other h = refl
none_first f ((true, a) ∷ rest) other h = absurd (true≢false h.0)
none_first f ((false, a) ∷ rest) other h = none_first f rest other h.1

pub none_holds : {A : Type 0} (accepts : A → Bool) (tests : List (Bool × A)) (other : A) → Refusing accepts tests →
    accepts (first tests other) ≡ true →
    Fail tests × (first tests other ≡ other)
none_holds accepts [] other r e = (tt, refl)
none_holds accepts ((true, a) ∷ rest) other r e = absurd (true≢false (sym e ∙ r.0))
none_holds accepts ((false, a) ∷ rest) other r e =
    let q = none_holds accepts rest other r.1 e in
    ((refl, q.0), q.1)

-- What tests answer is a value made from theirs, and the same refusal; and an accepting answer says that none of them holds.
pub answered_map : {A B : Type 0} (f : Result A Refusal → Result B Refusal) (tests : List (Bool × Refusal)) (x : A) (y : B) →
    ((r : Refusal) → f (Err r) ≡ Err r) →
    f (Ok x) ≡ Ok y →
    f (answered tests x) ≡ answered tests y
answered_map f [] x y h e = e
answered_map f ((true, r) ∷ rest) x y h e = h r
answered_map f ((false, r) ∷ rest) x y h e = answered_map f rest x y h e

pub answered_passed : {A : Type 0} (tests : List (Bool × Refusal)) (x y : A) → answered tests x ≡ Ok y → Fail tests × (x ≡ y)
answered_passed [] x y e = (tt, one_value e)
answered_passed ((true, r) ∷ rest) x y e = absurd (never e)
answered_passed ((false, r) ∷ rest) x y e = let q = answered_passed rest x y e in ((refl, q.0), q.1)

pub answered_none : {A : Type 0} (tests : List (Bool × Refusal)) (x : A) → Fail tests → answered tests x ≡ Ok x
answered_none [] x f = refl
answered_none ((true, r) ∷ rest) x f = absurd (true≢false f.0)
answered_none ((false, r) ∷ rest) x f = answered_none rest x f.1

-- the refusal of an answer, as that of an answer of another type
abbrev refusal_like : {A B : Type 0} → Result A Refusal → Result B Refusal
refusal_like (Ok x) = Err Ended
refusal_like (Err r) = Err r

-- tests that refuse one value refuse another, and tests that accept one accept another
pub answered_refused : {A B : Type 0} (tests : List (Bool × Refusal)) (x : A) (y : B) {r : Refusal} → answered tests x ≡ Err r →
    answered tests y ≡ Err r
answered_refused [] x y e = absurd (never (sym e))
answered_refused ((true, r) ∷ rest) x y e = ap refusal_like e
answered_refused ((false, r) ∷ rest) x y e = answered_refused rest x y e

pub answered_accepted : {A B : Type 0} (tests : List (Bool × Refusal)) (x y : A) (z : B) → answered tests x ≡ Ok y →
    answered tests z ≡ Ok z
answered_accepted tests x y z e = answered_none tests z (answered_passed tests x y e).0
