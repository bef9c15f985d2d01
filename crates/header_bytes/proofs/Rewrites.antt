-- What rewriting a header answers by what reading it does: reading's refusals, and of n bytes that it accepts what writing them finds.
-- Assumes nothing.
use Prim.Native.Nat.{ℕ, ◌≤◌}
use native.Mathlib.Omega.{arith}
use mathlib.Core.Bool.{Bool, true, false, cond, true≢false}
use mathlib.Core.List.{List, [], ◌∷◌, ◌++◌, map}
use mathlib.Core.Path.{◌≡◌, refl, sym, ap, ◌∙◌}
use borrow.Author.Tests.{ltb-false, le-ltb, eqb-true, eqb-false}
use lib.Dec.{ltb, eqb}
use Rattle.std.specs.Prelude.{Ok, Err}
use Rattle.octets.specs.declared.Refusal.{Refusal}
use Rattle.octets.specs.declared.Refusal.TheVariants.{Ended, MissingAddress}
use Rattle.octets.specs.{Little.number, Outcome.Outcome, Outcome.answered, Outcome.number_of, Outcome.length_of}
use Rattle.octets.proofs.Accepted.{accepted_of}
use Rattle.octets.proofs.Cases.{cases, holds?}
use Rattle.octets.proofs.Order.{Fail, none_first, none_holds}
use Rattle.header_bytes.specs.Layout.{source_end, header_end}
use Rattle.header_bytes.specs.Reading.{read_tests, measured}
use Rattle.header_bytes.specs.Rewriting.{sourceless, again_tests, rewrite_header}
use Rattle.header_bytes.proofs.Passed.{failed, idle_first}
use Rattle.header_bytes.proofs.Sizes.{header_end_lem}
use Rattle.header_bytes.proofs.Accepted.{read_accepted, answered_length}

-- tests that refuse do so whatever tests stand behind them
answered_first : (tests behind : List (Bool × Refusal)) (n m : ℕ) → (number_of (answered tests n) ≡ 0 → ⊥) →
    answered tests n ≡ answered (tests ++ behind) m
answered_first [] behind n m f = absurd (f refl)
answered_first ((true, k) ∷ rest) behind n m f = refl
answered_first ((false, k) ∷ rest) behind n m f = answered_first rest behind n m f

-- where none of them holds, those behind them answer
answered_behind : (tests behind : List (Bool × Refusal)) (n : ℕ) → Fail tests → answered (tests ++ behind) n ≡ answered behind n
answered_behind [] behind n f = refl
answered_behind ((true, k) ∷ rest) behind n f = absurd (true≢false f.0)
answered_behind ((false, k) ∷ rest) behind n f = answered_behind rest behind n f.1

pub rewrite_refused : (s : List ℕ) (room : ℕ) → (number_of (measured s) ≡ 0 → ⊥) → measured s ≡ rewrite_header s room
unfolding measured rewrite_header
rewrite_refused s room f =
    answered_first (read_tests s (number s 0 2)) (again_tests s (number s 0 2) room) (header_end s (number s 0 2)) _ f

-- writing's tests, by the length n: no room for all bytes, or for the addresses alone, is 1 either way
abbrev pub room_tests : ℕ → ℕ → ℕ → List (Bool × Refusal)
room_tests w n room = (ltb room 3, Ended) ∷ (sourceless w, MissingAddress) ∷ (ltb room n, Ended) ∷ []

pub rewrite_read : (s : List ℕ) (room n : ℕ) → measured s ≡ Ok n → rewrite_header s room ≡ answered (room_tests (number s 0 2) n room) n
unfolding rewrite_header
rewrite_read s room n e =
    let w = number s 0 2 in
    let q = read_accepted s n e in
    let addresses = (header_end_lem w s).0 in
    let once = idle_first (ltb room (source_end w)) (ltb room (header_end s w)) (Err Ended) (Ok (header_end s w))
    (λ f. let whole : header_end s w ≤ room = ltb-false _ _ f in le-ltb room (source_end w) (omega (arith, addresses))) in
    rw q.end
    (answered_behind (read_tests s w) (again_tests s w room) (header_end s w) (failed s w q.passed)
    ∙ ap (λ (o : Outcome). cond (ltb room 3) (Err Ended) (cond (sourceless w) (Err MissingAddress) o)) once)

-- rewriting accepts n bytes exactly where reading does, they have room, and compression is not set without a source
pub record AcceptedAgain (s : List ℕ) (room n : ℕ) : Type 0 where
  pub read : measured s ≡ Ok n
  pub source : sourceless (number s 0 2) ≡ false
  pub fits : n ≤ room

pub rewrite_accepts : (s : List ℕ) (room n : ℕ) → AcceptedAgain s room n → rewrite_header s room ≡ Ok n
rewrite_accepts s room n q =
    let three : ltb room 3 ≡ false = le-ltb room 3 (omega (arith, (read_accepted s n q.read).three, q.fits)) in
    rewrite_read s room n q.read
    ∙ none_first Err (room_tests (number s 0 2) n room) (Ok n) (three, (q.source, (le-ltb room n q.fits, tt)))

abbrev accepting : Outcome → Bool
accepting o = eqb (number_of o) 0

pub rewrite_accepted : (s : List ℕ) (room n : ℕ) → rewrite_header s room ≡ Ok n → AcceptedAgain s room n
rewrite_accepted s room n e =
    let w = number s 0 2 in
    let m = length_of (measured s) in
    let read : measured s ≡ Ok m =
    cases (holds? (accepting (measured s)))
    (λ t. accepted_of (measured s) (eqb-true _ 0 t))
    (λ f. absurd (eqb-false _ 0 f (ap number_of (rewrite_refused s room (eqb-false _ 0 f) ∙ e)))) in
    let told : answered (room_tests w m room) m ≡ Ok n = sym (rewrite_read s room m read) ∙ e in
    let none =
    none_holds accepting (map (λ (test : Bool × Refusal). (test.0, Err test.1)) (room_tests w m room)) (Ok m)
    (refl, (refl, (refl, tt))) (ap accepting told) in
    let same : m ≡ n = ap length_of (sym none.1 ∙ told) in
    record { read = read ∙ ap Ok same; source = none.0.1.0; fits = omega (arith, ltb-false room m none.0.1.1.0) }

-- the length of any answer
pub rewrite_most : (s : List ℕ) (room : ℕ) → length_of (rewrite_header s room) ≤ 37
unfolding rewrite_header
rewrite_most s room =
    let w = number s 0 2 in
    omega (arith, answered_length (read_tests s w ++ again_tests s w room) (header_end s w), (header_end_lem w s).1)
