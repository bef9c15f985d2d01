-- What is handed over of a chunk without reading more of the input.
use Rattle.std.specs.Prelude.{ℕ, ◌-◌, ◌≤◌, ◌≡◌, true, List, Some, None, cond, length, take, drop}
use Rattle.octets.specs.Buffer.{laid, fitting}
use Rattle.line_cutter.specs.declared.Taken.{Taken}
use Rattle.line_cutter.specs.Line.{line_of, line_ends, taken}
use Rattle.line_by_line.specs.declared.Turn.{Turn}

-- room for an answer
abbrev pub answer_most : ℕ
answer_most = 4096

-- the part of a chunk that is still to be used
abbrev pub unused : Turn → List ℕ → List ℕ
unused t chunk = drop t.at (take t.end chunk)

-- a run that has used what was taken of the chunk
abbrev pub past : Turn → Taken → Turn
past t k = record { found = t.found; used = t.used; at = k.at; end = t.end; next = t.next }

-- a run where a line has ended
abbrev pub found : Turn → Taken → Turn
found t k = record { found = Some k.n; used = t.used; at = k.at; end = t.end; next = t.next }

-- what is then taken of it for a new line, of which nothing is kept yet
unfoldable pub held : Turn → List ℕ → List ℕ → Turn
held t chunk line =
    let k = taken (unused t chunk) t.at line 0 in
    record { found = cond k.ended (Some k.n) None; used = t.used; at = k.at; end = t.end; next = t.next }

-- and the line's buffer behind that, which kept n bytes of the line
abbrev pub line_after : Turn → ℕ → List ℕ → List ℕ → List ℕ
line_after t n chunk line = laid line n (fitting line n (line_of (unused t chunk)))

-- there is room for an answer
abbrev pub Roomy : Turn → List ℕ → Type 0
Roomy t out = answer_most ≤ length out - t.used

-- a line ends in what is still to be used, and there is room for its answer
abbrev pub Ready : Turn → List ℕ → List ℕ → Type 0
Ready t chunk out = (line_ends (unused t chunk) ≡ true) × Roomy t out

-- then that line is handed over, and nothing is read: the answer, and the chunk and the line's buffer
pub record HandsOver (t : Turn) (chunk line : List ℕ) (r : Turn) (chunk' line' : List ℕ) : Type 0 where
  pub answer : r ≡ held t chunk line
  pub chunk_same : chunk' ≡ chunk
  pub line_after : line' ≡ line_after t 0 chunk line
