-- A line taken apart by a table of what bytes count for in a pair of digits, whatever the table has. Of a line that is
-- too long nothing is looked at.
use Rattle.std.specs.Prelude.{ℕ, ◌+◌, ◌*◌, cond, Result, Ok, Err, List, [], ltb, eqb, length}
use Rattle.line_cutter.specs.{Line.line_most}
use Rattle.hexadecimal.specs.{Hex.decoded_by}
use Rattle.labelled.specs.{declared.Parted.Parted, Answer.label}

-- the bytes behind the first tab that have room
abbrev pub bytes_behind : List ℕ → List ℕ → ℕ → List ℕ
bytes_behind table l room = decoded_by table l (length (label l) + 1) room

abbrev pub frame_by : List ℕ → List ℕ → ℕ → List ℕ
frame_by table l room = cond (ltb line_most (length l)) [] (bytes_behind table l room)

-- a line is of its form where its label, a tab and two digits to each of these bytes are all of it
unfoldable pub parted : List ℕ → List ℕ → ℕ → Result Parted Parted
parted table l room =
    let found : Parted = record { tab = length (label l); count = length (bytes_behind table l room) } in
    cond (ltb line_most (length l)) (Err (record { tab = 0; count = 0 }))
    (cond (eqb (length (label l) + 1 + 2 * length (bytes_behind table l room)) (length l)) (Ok found) (Err found))
