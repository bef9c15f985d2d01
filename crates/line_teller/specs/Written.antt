-- What a program writes for the chunks of its input, one after the other, and then its end.
use Rattle.std.specs.Prelude.{ℕ, List, [], ◌++◌}
use Rattle.line_cutter.specs.{Line.kept_most, Lines.in_chunks, Telling.told_in_chunks}

unfoldable pub written : {S : Type 0} → (S → List ℕ → S) → (S → List ℕ → List ℕ) → (S → List ℕ) → S → List (List ℕ) → List ℕ
written step says closes s cs = told_in_chunks step says s [] cs ++ closes (in_chunks step kept_most s [] cs)
