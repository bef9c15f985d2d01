-- `quick::measure_header` meets its contract: the one number tells lengths and refusals apart, as a length is at most 37.
-- Assumes nothing.
use Prim.Native.Nat.{ℕ, ◌+◌, ◌≤◌}
use native.Mathlib.Omega.{arith}
use mathlib.Core.List.{List}
use mathlib.Core.Path.{◌≡◌, sym, ◌∙◌}
use borrow.Author.Rules.{rules}
use Rattle.std.specs.Prelude.{Err}
use Rattle.octets.specs.declared.Refusal.{Refusal}
use Rattle.octets.specs.declared.Refusal.TheVariants.{Ended, Version, FrameType, AddressMode, NoDestination}
use Rattle.octets.specs.Outcome.{Outcome, refusal_number, code_of}
use Rattle.header_bytes.specs.Reading.{measured}
use Rattle.header_bytes.proofs.Accepted.{measured_most}
use Rattle.quick.proofs.OneNumber.{code_refuses, code_other}
use Rattle.quick.proofs.measure_header.Goals as goal

module _ (s : List ℕ) (code : ℕ) (told : code ≡ code_of (measured s)) where
  -- the number of a refusal tells it
  refuses : (r : Refusal) → refusal_number r ≤ 5 → code ≡ 1000 + refusal_number r → ◌≡◌ {A = Outcome} (Err r) (measured s)
  refuses r few is = let most = measured_most s in code_refuses (measured s) r most.1 most.0 few (sym told ∙ is)

  -- and a number from 1000 on that is none of four is the fifth's
  last : 1000 ≤ code → (code ≡ 1001 → ⊥) → (code ≡ 1002 → ⊥) → (code ≡ 1003 → ⊥) → (code ≡ 1004 → ⊥) →
      ◌≡◌ {A = Outcome} (Err NoDestination) (measured s)
  last least a b c d =
      let most = measured_most s in
      code_other (measured s) most.1 most.0 (omega (arith, told)) (λ e. a (told ∙ e)) (λ e. b (told ∙ e)) (λ e. c (told ∙ e))
      (λ e. d (told ∙ e))

pub returns-in-1001 : goal.returns-in-1001
returns-in-1001 c = refuses _ _ c.header_code-code.ensures Ended (omega arith) c.in-1001.is

pub returns-in-1002 : goal.returns-in-1002
returns-in-1002 c = refuses _ _ c.header_code-code.ensures Version (omega arith) c.in-1002.is

pub returns-in-1003 : goal.returns-in-1003
returns-in-1003 c = refuses _ _ c.header_code-code.ensures FrameType (omega arith) c.in-1003.is

pub returns-in-1004 : goal.returns-in-1004
returns-in-1004 c = refuses _ _ c.header_code-code.ensures AddressMode (omega arith) c.in-1004.is

pub returns-in_default : goal.returns-in_default
returns-in_default c = search (rules, last c.args.s.now c.header_code-code.result c.header_code-code.ensures)
