-- The end of the input: without a line at hand nothing is told, and with one that line.
-- Assumes nothing.
use Rattle.std.proofs.Common.{ℕ, ◌<◌, List, [], ◌∷◌, ◌≡◌, length, take, refl, sym, arith}
use mathlib.Core.List.{append-nil}
use Rattle.line_cutter.specs.Lines.{last, run}
use Rattle.line_cutter.specs.Telling.{told}

module _ {S : Type 0} (step : S → List ℕ → S) (says : S → List ℕ → List ℕ) (s : S) where
  pub run_none : (l : List ℕ) (n : ℕ) → n ≡ 0 → s ≡ run step s (last (take n l))
  unfolding last run
  run_none l n e = rw e refl

  pub told_none : (l : List ℕ) (n : ℕ) → n ≡ 0 → [] ≡ told step says s (last (take n l))
  unfolding last told
  told_none l n e = rw e refl

  pub run_some : (l : List ℕ) → 0 < length l → step s l ≡ run step s (last l)
  unfolding last run
  run_some [] h = absurd (omega (arith, h))
  run_some (b ∷ l) h = refl

  pub told_some : (l : List ℕ) → 0 < length l → says s l ≡ told step says s (last l)
  unfolding last told
  told_some [] h = absurd (omega (arith, h))
  told_some (b ∷ l) h = sym (append-nil (says s (b ∷ l)))
