-- What the line program does with a chunk of its input, and with the input's end, whatever buffers it is lent. The line
-- at hand is the first n bytes of a line buffer.
use Rattle.std.specs.Prelude.{ℕ, ◌+◌, ◌-◌, ◌*◌, Bool, true, false, cond, ◌&&◌, List, [], ◌++◌, leb, eqb, length, take}
use Rattle.std.specs.Prelude.{replicate}
use Rattle.line_cutter.specs.{Answers.answers, Answers.fed_to, Line.kept_most, Lines.last}
use Rattle.lines.specs.{declared.Fed.Fed, Answer.answer}

-- a chunk of so many bytes is taken with a line buffer of kept_most bytes, at most as many of them in use, and room in
-- the output for kept_most bytes and five for each of the chunk
unfoldable pub takes : ℕ → ℕ → ℕ → ℕ → Bool
takes size line n room = eqb line kept_most && leb n kept_most && leb (kept_most + 5 * size) room

-- what a chunk leads to: the answer, the line buffer and the output buffer
pub record Feeding : Type 0 where
  pub fed : Fed
  pub line : List ℕ
  pub out : List ℕ

-- where it is taken, zeros stand in the line buffer behind what is kept of the next line; where not, all is as it was
unfoldable pub feeding : List ℕ → List ℕ → ℕ → List ℕ → Feeding
feeding chunk line n out =
    let left = fed_to answer (take n line) chunk out 0 in
    cond (takes (length chunk) (length line) n (length out))
    (record {
      fed = record { n = length left.kept; used = left.used; taken = true };
      line = left.kept ++ replicate (kept_most - length left.kept) 0;
      out = left.out;
    })
    (record { fed = record { n = n; used = 0; taken = false }; line = line; out = out })

-- what is stored at the input's end: the answer to a last line, where its n bytes are there and the output has room for
-- them and five
unfoldable pub ending : List ℕ → ℕ → ℕ → List ℕ
ending line n room = cond (leb n (length line) && leb (n + 5) room) (answers answer (last (take n line))) []
