-- What each step of the quick reader knows of a slice with three bytes, whose frame control has the entry t.
-- Assumes nothing.
use Prim.Native.Nat.{ℕ, ◌+◌, ◌-◌, ◌*◌, ◌%◌, ◌≤◌, ◌<◌}
use mathlib.Core.Bool.{false}
use mathlib.Core.List.{List, [], ◌∷◌}
use mathlib.Core.Path.{◌≡◌, sym, ap, ◌∙◌}
use borrow.Author.Tests.{eq-eqb, ne_eqb}
use lib.Dec.{ltb, eqb}
use lib.ListN.{length, get_or}
use Rattle.octets.specs.declared.Refusal.TheVariants.{Ended}
use Rattle.octets.specs.{Bits.bits, Outcome.answered, Outcome.code_of}
use Rattle.header_bytes.specs.{Layout.header_end, Reading.measured}
use Rattle.quick.specs.Table.{control_end, entry_of}
use Rattle.quick.proofs.Bytes.{two_bytes, type_bits_lem}
use Rattle.quick.proofs.Ends.{rest}
use Rattle.quick.proofs.Looking.{told, looked, version_looked, type_looked, refusal_looked, length_looked}

abbrev low : List ℕ → ℕ
low s = get_or s 0 0

-- its frame control
abbrev pub word : List ℕ → ℕ
word s = low s + 256 * get_or s 1 0

module _ (s : List ℕ) (three : 3 ≤ length s) (t : ℕ) (looks : t ≡ entry_of (word s)) where
  answer : code_of (told s (word s)) ≡ code_of (measured s)
  answer = ap code_of (sym (looked s (word s) (two_bytes s) three))

  pub version_step : t ≡ 50 → 1002 ≡ code_of (measured s)
  version_step e = sym (ap code_of (version_looked s (word s) (sym looks ∙ e))) ∙ answer

  pub type_step : (t ≡ 50 → ⊥) → low s % 8 ≡ 4 → 1003 ≡ code_of (measured s)
  type_step known e =
      let four = eq-eqb _ _ (type_bits_lem (low s) (get_or s 1 0) ∙ e) in
      sym (ap code_of (type_looked s (word s) (λ e. known (looks ∙ e)) four)) ∙ answer

  -- a type other than 4
  other : (low s % 8 ≡ 4 → ⊥) → eqb (bits (word s) 0 3) 4 ≡ false
  other f = ne_eqb _ _ (λ e. f (sym (type_bits_lem (low s) (get_or s 1 0)) ∙ e))

  -- a digit is a refusal
  pub refusal_step : (t ≡ 50 → ⊥) → (low s % 8 ≡ 4 → ⊥) → t < 97 → (48 ≤ t) × (1000 + (t - 48) ≡ code_of (measured s))
  refusal_step known f h =
      let q = refusal_looked s (word s) (λ e. known (looks ∙ e)) (other f) (rw looks at h) in
      rw looks (q.0, q.1 ∙ answer)

  -- a letter is a length, up to the security control
  pub length_step : (low s % 8 ≡ 4 → ⊥) → 97 ≤ t →
      (t - 96 ≡ control_end (word s)) × (code_of (rest s (word s)) ≡ code_of (measured s))
  length_step f h =
      let q = length_looked s (word s) (other f) (rw looks at h) in
      (rw looks q.0, ap code_of q.1 ∙ answer)

-- what is told of the header's end is what reading answers
pub end_step : (s : List ℕ) (n : ℕ) → (n ≡ control_end (word s)) × (code_of (rest s (word s)) ≡ code_of (measured s)) → (end : ℕ) →
    end ≡ header_end s (word s) →
    code_of (answered ((ltb (length s) end, Ended) ∷ []) end) ≡ code_of (measured s)
end_step s n size end e = ap (λ (end : ℕ). code_of (answered ((ltb (length s) end, Ended) ∷ []) end)) e ∙ size.1
