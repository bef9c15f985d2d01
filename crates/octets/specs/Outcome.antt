-- What an answer says: how many bytes it accepts, or why it refuses, by document 01's table "Refusal numbers". 8 is also
-- given for a wrong kept length (document 02, request 4), and 9 where an answer was given before (request 3).
use Rattle.std.specs.Prelude.{ℕ, ◌+◌, Bool, List, map, Result, Ok, Err}
use Rattle.octets.specs.declared.{Refusal.Refusal}
use Rattle.octets.specs.declared.Refusal.TheVariants.{Ended, Version, FrameType, AddressMode, NoDestination}
use Rattle.octets.specs.declared.Refusal.TheVariants.{MissingAddress, MissingCounter, TooLarge, WrongLength, Over}
use Rattle.octets.specs.Order.{first}

abbrev pub Outcome : Type 0
Outcome = Result ℕ Refusal

-- the numbers of the table
abbrev pub refusal_number : Refusal → ℕ
refusal_number Ended = 1
refusal_number Version = 2
refusal_number FrameType = 3
refusal_number AddressMode = 4
refusal_number NoDestination = 5
refusal_number MissingAddress = 6
refusal_number MissingCounter = 7
refusal_number TooLarge = 8
refusal_number WrongLength = 8
refusal_number Over = 9

-- an answer's number, 0 where it accepts
abbrev pub number_of : {A : Type 0} → Result A Refusal → ℕ
number_of (Ok a) = 0
number_of (Err r) = refusal_number r

-- how many bytes an answer accepts, 0 where it refuses
abbrev pub length_of : Outcome → ℕ
length_of (Ok n) = n
length_of (Err r) = 0

-- an answer as one number, as a C entry returns it, document 01, "Payload view and C entry points": "the length, or on
-- refusal, in place of length 0, 1000 plus the refusal number"
abbrev pub code_of : Outcome → ℕ
code_of (Ok n) = n
code_of (Err r) = 1000 + refusal_number r

-- what tests answer: the refusal beside the first that holds, or a value where none does
abbrev pub answered : {A : Type 0} → List (Bool × Refusal) → A → Result A Refusal
answered tests value = first (map (λ (test : Bool × Refusal). (test.0, Err test.1)) tests) (Ok value)
