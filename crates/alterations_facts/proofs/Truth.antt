-- Laws of tests put together.
-- Assumes nothing.
use mathlib.Core.Bool.{Bool, true, false, true≢false, not, ◌||◌, ◌&&◌}
use mathlib.Core.Path.{◌≡◌, refl, sym}
use lib.Dec.{T}

-- two tests agree, as a test that can be computed
abbrev pub agree : Bool → Bool → Bool
agree true b = b
agree false b = not b

pub agreed : (a b : Bool) → T (agree a b) → a ≡ b
agreed true true t = refl
agreed true false t = absurd t
agreed false true t = absurd t
agreed false false t = refl

pub holds : (a : Bool) → T a → a ≡ true
holds true t = refl
holds false t = absurd t

pub and_false : (a : Bool) → (a && false) ≡ false
and_false true = refl
and_false false = refl

pub and_true : (a : Bool) → (a && true) ≡ a
and_true true = refl
and_true false = refl

pub or_false : (a : Bool) → (a || false) ≡ a
or_false true = refl
or_false false = refl

pub or_assoc : (a b c : Bool) → (a || (b || c)) ≡ ((a || b) || c)
or_assoc true b c = refl
or_assoc false b c = refl

-- one test over two others
pub and_or : (a b c : Bool) → ((a && b) || (a && c)) ≡ (a && (b || c))
and_or true b c = refl
and_or false b c = refl

-- neither of two
pub and_neither : (a b c : Bool) → ((a && not b) && not c) ≡ (a && not (b || c))
and_neither true true c = refl
and_neither true false c = refl
and_neither false b c = refl

-- a test that is set aside where it holds
pub and_without : (a b : Bool) → (a && not b) ≡ (a && not (a && b))
and_without true b = refl
and_without false b = refl

-- both hold
pub and_left : (a b : Bool) → (a && b) ≡ true → a ≡ true
and_left true b e = refl
and_left false b e = e

pub and_right : (a b : Bool) → (a && b) ≡ true → b ≡ true
and_right true b e = e
and_right false b e = absurd (true≢false (sym e))

pub and_never : (a b : Bool) → ((a && not b) && b) ≡ false
and_never true true = refl
and_never true false = refl
and_never false b = refl
