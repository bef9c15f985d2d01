-- That `needed` counts the bytes that the whole reader's answer needs (document 02, request 1: "with the last byte
-- needed"): with them the answer stands, whatever follows, and with fewer it does not.
use Rattle.std.specs.Prelude.{ℕ, ◌≤◌, ◌<◌, List, ◌++◌, ◌≡◌, length, take, Ok, Err}
use Rattle.octets.specs.declared.Refusal.{Refusal}
use Rattle.octets.specs.declared.Refusal.TheVariants.{Ended}
use Rattle.octets.specs.Outcome.{refusal_number}
use Rattle.header.specs.{declared.Header.Header, Read.read_header}
use Rattle.pieces.specs.Needed.{needed}

pub record Enough (s : List ℕ) : Type 0 where
  -- at least three, at most the longest header
  pub three : 3 ≤ needed s
  pub most : needed s ≤ 37
  -- where they are there, bytes behind alter nothing, and the answer is not 1
  pub decided : needed s ≤ length s → (more : List ℕ) → read_header (s ++ more) ≡ read_header s
  pub answered : needed s ≤ length s → read_header s ≡ Err Ended → ⊥
  -- where one is missing, the answer is 1, and some bytes behind would alter it
  pub short : length s < needed s → read_header s ≡ Err Ended
  pub undecided : length s < needed s → (more : List ℕ) × (read_header (s ++ more) ≡ Err Ended → ⊥)
  -- so it is of every beginning that lacks one of them
  pub earlier : (k : ℕ) → k < needed s → read_header (take k s) ≡ Err Ended
  -- the length of an accepted header, and three at refusals 2 to 5
  pub accepted : (h : Header) (n : ℕ) → read_header s ≡ Ok (h, n) → needed s ≡ n
  pub refused : (r : Refusal) → 1 < refusal_number r → read_header s ≡ Err r → needed s ≡ 3
