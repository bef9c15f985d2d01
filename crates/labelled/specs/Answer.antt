-- A line that is a label, a tab and a frame in hex, given without its line feed, and the answer of a program that says
-- something of the frame: document 01, "Line program".
use Rattle.std.specs.Prelude.{ℕ, suc, ◌+◌, cond, not, List, [], ◌∷◌, ◌++◌, ltb, eqb, length, drop}
use Rattle.octets.specs.{Order.first}
use Rattle.line_cutter.specs.{Line.tab_byte, Line.line_feed, Line.line_most, Line.before}
use Rattle.hexadecimal.specs.{Hex.odd, Hex.foreign, Hex.unhex}

-- how many tabs a line has
unfoldable pub tabs : List ℕ → ℕ
tabs [] = 0
tabs (b ∷ l) = cond (eqb b tab_byte) (suc (tabs l)) (tabs l)

-- what stands before the first tab, and behind it
abbrev pub label : List ℕ → List ℕ
label l = before tab_byte tab_byte l

abbrev pub digits : List ℕ → List ℕ
digits l = drop (length (label l) + 1) l

-- `bad` and a line feed
unfoldable pub bad : List ℕ
bad = 98 ∷ 97 ∷ 100 ∷ line_feed ∷ []

-- `bad` above the longest line, without exactly one tab, with a digit left over or a foreign digit; else the label and
-- what is said of the frame
unfoldable pub labelled : (List ℕ → List ℕ) → List ℕ → List ℕ
labelled said l =
    first
    ((ltb line_most (length l), bad) ∷
    (not (eqb (tabs l) 1), bad) ∷
    (odd (digits l), bad) ∷
    (foreign (digits l), bad) ∷
    [])
    (label l ++ said (unhex (digits l)))
