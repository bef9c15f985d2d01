-- Counts of senders in a table of numbers, a row of seven for each of at most sixty-four.
use Rattle.std.specs.Prelude.{ℕ, zero, suc, ◌+◌, ◌*◌, Bool, cond, not, ◌||◌, ◌&&◌, Option, Some, None, List, [], ◌∷◌, ◌++◌, ltb, leb, eqb}
use Rattle.std.specs.Prelude.{length, get_or, set}
use Rattle.octets.specs.{Order.first}
use Rattle.senders.specs.{declared.Sender.Sender, declared.Counted.Counted}
use Rattle.senders.specs.Hearing.{senders_most, no_one, first_heard, heard_again, place_of, can_go_on}

abbrev pub table_length : ℕ
table_length = 448

-- what a row holds
unfoldable pub counted_at : List ℕ → ℕ → Counted
counted_at t i = record {
  who = record { octets = get_or t (7 * i) 0; pan_id = get_or t (7 * i + 1) 0; address = get_or t (7 * i + 2) 0 };
  last = get_or t (7 * i + 3) 0;
  frames = get_or t (7 * i + 4) 0;
  repeats = get_or t (7 * i + 5) 0;
  missing = get_or t (7 * i + 6) 0;
}

-- what the first n rows hold
unfoldable pub counted_in : List ℕ → ℕ → List Counted
counted_in t zero = []
counted_in t (suc n) = counted_in t n ++ (counted_at t n ∷ [])

-- the table with a row written
unfoldable pub row_set : List ℕ → ℕ → Counted → List ℕ
row_set t i c =
    set
    (set
    (set
    (set
    (set
    (set (set t (7 * i) c.who.octets) (7 * i + 1) c.who.pan_id)
    (7 * i + 2) c.who.address)
    (7 * i + 3) c.last)
    (7 * i + 4) c.frames)
    (7 * i + 5) c.repeats)
    (7 * i + 6) c.missing

-- the row of a sender among the first n, or n
abbrev pub row_of : List ℕ → ℕ → Sender → ℕ
row_of t n who = place_of who (counted_in t n)

-- a table has its length, and no more rows are in use than it has
abbrev pub fits : List ℕ → ℕ → Bool
fits t n = eqb (length t) table_length && leb n senders_most

-- a row of a table, nobody past its end
unfoldable pub row_in : List ℕ → ℕ → Counted
row_in t i = cond (fits t (i + 1)) (counted_at t i) no_one

-- a frame is counted on in its sender's row, where one more can be; or its sender is new and has the next row
unfoldable pub goes_on : List ℕ → ℕ → Sender → Bool
goes_on t n who = fits t n && ltb (row_of t n who) n && can_go_on (counted_at t (row_of t n who))

unfoldable pub is_new : List ℕ → ℕ → Sender → Bool
is_new t n who = fits t n && not (ltb (row_of t n who) n) && ltb n senders_most

-- the table after one more frame, where n rows are in use, how many then are, and whether the frame was counted
unfoldable pub table_after : List ℕ → ℕ → Sender → ℕ → List ℕ
table_after t n who number =
    first
    ((goes_on t n who, row_set t (row_of t n who) (heard_again (counted_at t (row_of t n who)) number)) ∷
    (is_new t n who, row_set t n (first_heard who number)) ∷
    [])
    t

unfoldable pub rows_after : List ℕ → ℕ → Sender → ℕ
rows_after t n who = cond (is_new t n who) (n + 1) n

unfoldable pub counts : List ℕ → ℕ → Sender → Bool
counts t n who = goes_on t n who || is_new t n who

-- how many rows are in use behind a frame that was counted
unfoldable pub rows_heard : List ℕ → ℕ → Sender → Option ℕ
rows_heard t n who = cond (counts t n who) (Some (rows_after t n who)) None
