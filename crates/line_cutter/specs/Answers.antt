-- What a program writes that answers each line by itself, and what one chunk of its input adds to that. An answer is a
-- function from a line, given without its line feed, to the bytes that are written for it.
use Rattle.std.specs.Prelude.{ℕ, ◌+◌, ◌≤◌, ◌<◌, List, [], ◌∷◌, ◌++◌, length, take}
use Rattle.octets.specs.{Buffer.laid}
use Rattle.line_cutter.specs.{Line.kept_most, Lines.ended, Lines.begun, Lines.last, Lines.lines}

-- where a chunk leaves a program: the output buffer, how much of it is used, and what is kept of the line at hand
pub record Left : Type 0 where
  pub out : List ℕ
  pub used : ℕ
  pub kept : List ℕ

-- such a program is one with a state that has nothing in it
abbrev pub stays : Unit {0} → List ℕ → Unit {0}
stays s l = s

module _ (answer : List ℕ → List ℕ) where
  abbrev pub tells : Unit {0} → List ℕ → List ℕ
  tells s l = answer l

  -- the answers to lines, one after the other
  unfoldable pub answers : List (List ℕ) → List ℕ
  answers [] = []
  answers (l ∷ ls) = answer l ++ answers ls

  -- what is to be written for an input
  unfoldable pub output : List ℕ → List ℕ
  output s = answers (lines s)

  -- what a chunk s leads to, where l is kept of the line at hand and the output is used up to a place
  unfoldable pub fed_to : List ℕ → List ℕ → List ℕ → ℕ → Left
  fed_to l s out used = record {
    out = laid out used (answers (ended l s));
    used = used + length (answers (ended l s));
    kept = take kept_most (begun l s);
  }

  -- what the chunks of an input write by that, one after the other, and then its end
  unfoldable pub printed : List ℕ → List (List ℕ) → List ℕ
  printed l [] = answers (last l)
  printed l (c ∷ cs) = answers (ended l c) ++ printed (take kept_most (begun l c)) cs

-- a step through a chunk of so many bytes goes on from a place, and keeps no more of a line than tells it
pub record Onward (size at kept next : ℕ) : Type 0 where
  pub small : kept ≤ kept_most
  pub later : at < next
  pub within : next ≤ size
