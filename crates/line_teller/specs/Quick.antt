-- A line that begins at a place of a chunk and ends in it, and was told from where it lies.
use Rattle.std.specs.Prelude.{ℕ, ◌+◌, ◌≤◌, ◌≡◌, true, List, length, drop}
use Rattle.octets.specs.{Stored.Stored}
use Rattle.line_cutter.specs.{Line.line_of, Line.line_ends}
use Rattle.line_teller.specs.{declared.Told.Told}

-- the line is a step from s to r, what is written for it is stored, and the chunk is used up behind its line feed
pub record Quick {S : Type 0} (step : S → List ℕ → S) (says : S → List ℕ → List ℕ) (more : ℕ)
    (s r : S) (chunk : List ℕ) (at : ℕ) (out : List ℕ) (used : ℕ) (o : List ℕ) (t : Told) : Type 0 where
  pub ends : line_ends (drop at chunk) ≡ true
  pub place : t.at ≡ at + length (line_of (drop at chunk)) + 1
  pub state : r ≡ step s (line_of (drop at chunk))
  pub stored : Stored out used (says s (line_of (drop at chunk))) o t.used
  pub few : t.used ≤ used + length (line_of (drop at chunk)) + more
