-- The reader in pieces beside the whole reader, however the bytes of a frame are cut (document 02, request 1).
use Rattle.std.specs.Prelude.{ℕ, ◌+◌, ◌-◌, ◌≤◌, ◌<◌, cond, List, [], ◌∷◌, ◌++◌, ◌≡◌, leb, eqb, length, Result, Ok, Err}
use Rattle.octets.specs.declared.Refusal.{Refusal}
use Rattle.octets.specs.declared.Refusal.TheVariants.{Ended, Over}
use Rattle.octets.specs.Outcome.{refusal_number}
use Rattle.header.specs.{declared.Header.Header, Read.read_header}
use Rattle.pieces.specs.declared.{HeaderReader.HeaderReader}
use Rattle.pieces.specs.{Needed.needed, Answer.more, Answer.told, Answer.piece_outcome}
use Rattle.pieces.specs.Reader.{new_reader, waits, over, taken, ended}
use Rattle.pieces_facts.specs.Calls.{Call, end, handed, behind, run, pieces, joined, finals, used_sum}

-- bytes used for an answer to so many bytes: the header's length, all where they end, three at refusals 2 to 5
abbrev pub used_for : Result (Header × ℕ) Refusal → ℕ → ℕ
used_for (Ok p) all = p.1
used_for (Err r) all = cond (eqb (refusal_number r) 1) all 3

-- all pieces of a frame, the end, and any calls behind it
pub record AsWhole (ps : List (List ℕ)) (later : List Call) : Type 0 where
  -- exactly one answer is neither more nor 9: the whole reader's of the joined bytes
  pub once : finals (run new_reader (pieces ps ++ (end ∷ later))) ≡ told (read_header (joined ps)) ∷ []
  -- so many bytes are used
  pub sum : used_sum (run new_reader (pieces ps ++ (end ∷ later)))
      ≡ used_for (read_header (joined ps)) (length (joined ps))
  -- without the end: that answer exactly where all bytes needed are there
  pub unended : finals (run new_reader (pieces ps))
      ≡ cond (leb (needed (joined ps)) (length (joined ps))) (told (read_header (joined ps)) ∷ []) []

-- a piece p behind the pieces ps and in front of qs: the bytes s of them all, of which it holds those from a place on
-- up to another
module _ (ps : List (List ℕ)) (p : List ℕ) (qs : List (List ℕ)) where
  abbrev s : List ℕ
  s = joined (ps ++ (p ∷ qs))

  abbrev from : ℕ
  from = length (joined ps)

  abbrev to : ℕ
  to = from + length p

  abbrev reader : HeaderReader
  reader = behind new_reader (pieces ps)

  pub record InPlace : Type 0 where
    -- in front of the last byte needed: more, and all of it is used
    pub before : to < needed s → ((taken reader p).answer ≡ more) × ((taken reader p).used ≡ length p)
    -- it holds the last byte needed: the answer, and no byte behind that one is used
    pub last : from < needed s → needed s ≤ to →
        ((taken reader p).answer ≡ told (read_header s)) × ((taken reader p).used ≡ needed s - from)
    -- behind the last byte needed, an empty piece too: 9, the state kept, none used
    pub after : needed s ≤ from → taken reader p ≡ over reader

-- any calls: once an answer was given, every call is answered 9, with the state kept and no byte used
abbrev pub Later : List Call → Type 0
Later cs =
    (finals (run new_reader cs) ≡ [] → ⊥) → (c : Call) → handed (behind new_reader cs) c ≡ over (behind new_reader cs)

-- the end says 1 or 9 and nothing else, and uses no byte, whatever the reader
pub record AtEnd (r : HeaderReader) : Type 0 where
  pub says : piece_outcome (ended r).answer ≡ Err (cond (waits r) Ended Over)
  pub uses : (ended r).used ≡ 0
