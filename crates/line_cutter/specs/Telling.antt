-- What a program writes that goes from line to line with a state: each line is a step to the next state, and something
-- is written for it. What one chunk of its input leads to, and all chunks.
use Rattle.std.specs.Prelude.{ℕ, ◌+◌, List, [], ◌∷◌, ◌++◌, length, take}
use Rattle.octets.specs.{Buffer.laid}
use Rattle.line_cutter.specs.{Line.kept_most, Lines.ended, Lines.begun, Lines.last, Lines.run}

-- where a chunk leaves a program: its state, the output buffer, how much of it is used, and what is kept of the line at
-- hand
pub record Standing (S : Type 0) : Type 0 where
  pub state : S
  pub out : List ℕ
  pub used : ℕ
  pub kept : List ℕ

module _ {S : Type 0} (step : S → List ℕ → S) (says : S → List ℕ → List ℕ) where
  -- what is written for lines, one after the other, from a state on
  unfoldable pub told : S → List (List ℕ) → List ℕ
  told s [] = []
  told s (l ∷ ls) = says s l ++ told (step s l) ls

  -- what a chunk t leads to, where l is kept of the line at hand and the output is used up to a place
  unfoldable pub worked_to : S → List ℕ → List ℕ → List ℕ → ℕ → Standing S
  worked_to s l t out used = record {
    state = run step s (ended l t);
    out = laid out used (told s (ended l t));
    used = used + length (told s (ended l t));
    kept = take kept_most (begun l t);
  }

  -- what the chunks of an input write by that, one after the other, and then a last line that is not ended
  unfoldable pub told_in_chunks : S → List ℕ → List (List ℕ) → List ℕ
  told_in_chunks s l [] = told s (last l)
  told_in_chunks s l (c ∷ cs) = told s (ended l c) ++ told_in_chunks (run step s (ended l c)) (take kept_most (begun l c)) cs
