-- What is counted of a sender, by the sequence numbers of its frames in the order in which they were heard: document 02,
-- request 3, "For each sender it compares sequence numbers".
use Rattle.std.specs.Prelude.{ℕ, ◌+◌, ◌-◌, ◌%◌, cond, List, [], ◌∷◌, ltb, eqb, length}
use Rattle.senders.specs.{declared.Sender.Sender, declared.Counted.Counted}

-- "the step from the last one is taken around 256, so 255 to 0 is a step of one"
abbrev pub step_to : ℕ → ℕ → ℕ
step_to a b = (b + 256 - a) % 256

-- the steps from one number to the next
unfoldable pub steps_from : ℕ → List ℕ → List ℕ
steps_from a [] = []
steps_from a (b ∷ ns) = step_to a b ∷ steps_from b ns

-- "The first frame of a sender adds nothing": no step leads to it
abbrev pub steps : List ℕ → List ℕ
steps [] = []
steps (a ∷ ns) = steps_from a ns

-- "Step 0 is a repeat"
abbrev pub repeats_by : ℕ → ℕ
repeats_by d = cond (eqb d 0) 1 0

-- "a step d of 2 or more adds d-1 missing"
abbrev pub missing_by : ℕ → ℕ
missing_by d = cond (ltb d 2) 0 (d - 1)

unfoldable pub repeats_in : List ℕ → ℕ
repeats_in [] = 0
repeats_in (d ∷ ds) = repeats_by d + repeats_in ds

unfoldable pub missing_in : List ℕ → ℕ
missing_in [] = 0
missing_in (d ∷ ds) = missing_by d + missing_in ds

-- the last of some numbers, other where there is none
unfoldable pub last_or : ℕ → List ℕ → ℕ
last_or other [] = other
last_or other (n ∷ ns) = last_or n ns

-- a sender with the numbers of its frames
unfoldable pub counts_of : Sender → List ℕ → Counted
counts_of who ns = record {
  who = who;
  last = last_or 0 ns;
  frames = length ns;
  repeats = repeats_in (steps ns);
  missing = missing_in (steps ns);
}
