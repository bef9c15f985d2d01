-- The reader behind pieces with the bytes b: it has seen those of them that are needed, and awaits so many. So a piece behind them leads to
-- what the bytes with its own say.
-- Assumes nothing.
use Prim.Native.Nat.{ℕ, ◌+◌, ◌-◌, ◌≤◌, ◌<◌, min}
use native.Mathlib.Omega.{arith}
use mathlib.Core.Bool.{true, false}
use mathlib.Core.List.{List, [], ◌∷◌, ◌++◌, append_assoc, append-nil, flat_map}
use mathlib.Core.Path.{◌≡◌, refl, sym, ap, subst, ◌∙◌}
use borrow.Author.Tests.{ltb-true, lt-ltb, le-ltb, le-leb}
use lib.Dec.{ltb, leb}
use lib.ListN.{length, take, length-append, length-take}
use lib.Seq.{take_all, take-append-le}
use Rattle.octets.proofs.Buffer.{laid_length}
use Rattle.octets.proofs.Cases.{cases, holds?}
use Rattle.octets.proofs.Lists.{take_again}
use Rattle.header.specs.Read.{read_header}
use Rattle.pieces.specs.declared.HeaderReader.{HeaderReader}
use Rattle.pieces.specs.declared.PieceTaken.{PieceTaken}
use Rattle.pieces.specs.Needed.{needed}
use Rattle.pieces.specs.Answer.{more, told}
use Rattle.pieces.specs.Reader.{new_reader, seen, waits, awaited_with, grown, taken_with, taken}
use Rattle.pieces.proofs.Prefix.{needed_short, needed_bounds, needed_settled, needed_open, needed_grows}
use Rattle.pieces.proofs.Growing.{grown_seen}
use Rattle.pieces_facts.specs.Calls.{piece, behind, pieces, joined}
use Rattle.pieces_facts.proofs.Enough.{missing?, read_front}
use Rattle.pieces_facts.proofs.Kept.{handed_over}

pub record Stands (r : HeaderReader) (b : List ℕ) : Type 0 where
  pub bytes : seen r ≡ take (needed b) b
  pub count : r.count ≡ min (needed b) (length b)
  pub awaited : r.awaited ≡ needed b
  pub room : length r.bytes ≡ 37

-- a front, no longer than the list
take_min : (n : ℕ) (l : List ℕ) → take (min n (length l)) l ≡ take n l
take_min n l = ap (λ (k : ℕ). take k l) (sym (length-take n l)) ∙ take_again n l

-- a new reader, behind nothing
pub stands_new : Stands new_reader []
stands_new =
    let three : needed [] ≡ 3 = needed_short [] (omega arith) in
    record { bytes = rw three; count = omega arith; awaited = sym three; room = refl }

-- how many bytes are awaited where a piece follows: the number grows, and while one is missing it stays
awaited_needed : (b p : List ℕ) → awaited_with (needed b) (b ++ p) ≡ needed (b ++ p)
awaited_needed b p =
    let j = b ++ p in
    cases (holds? (ltb (length j) (needed b)))
    (λ t. simp t (sym (needed_open b p (ltb-true (length j) (needed b) t))))
    (λ f. simp f (omega (arith, needed_grows b p)))

module _ (r : HeaderReader) (b : List ℕ) (st : Stands r b) where
  -- it waits exactly where one is missing
  pub stands_waits : length b < needed b → waits r ≡ true
  stands_waits h =
      let less : ltb r.count r.awaited ≡ true = lt-ltb r.count r.awaited (omega (arith, st.count, st.awaited)) in
      let room : leb r.awaited 37 ≡ true = le-leb r.awaited 37 (omega (arith, st.awaited, (needed_bounds b).1)) in
      simp (less, room)

  pub stands_over : needed b ≤ length b → waits r ≡ false
  stands_over h =
      let none : ltb r.count r.awaited ≡ false = le-ltb r.count r.awaited (omega (arith, st.count, st.awaited)) in
      simp none

  -- it has seen them all as long as it waits
  seen_all : length b < needed b → seen r ≡ b
  seen_all h = st.bytes ∙ take_all (needed b) b (omega arith)

  count_all : length b < needed b → r.count ≡ length b
  count_all h = omega (arith, st.count)

module _ (r : HeaderReader) (b : List ℕ) (st : Stands r b) (p : List ℕ) where
  abbrev j : List ℕ
  j = b ++ p

  long : length j ≡ length b + length p
  long = length-append b p

  -- what a piece leads to while it waits
  taken_needed : length b < needed b → taken r p ≡ taken_with r p j (needed j)
  unfolding taken
  taken_needed h =
      let all = seen_all r b st h in
      rw (stands_waits r b st h)
      ((λ i. taken_with r p (all i ++ p) (awaited_with (st.awaited i) (all i ++ p))) ∙ ap (taken_with r p j) (awaited_needed b p))

  -- more where one is missing still, else the whole reader's answer
  pub taken_more : length b < needed b → length j < needed j → (taken r p).answer ≡ more
  taken_more h missing =
      let short : ltb (length j) (needed j) ≡ true = lt-ltb (length j) (needed j) missing in
      ap (λ (t : PieceTaken). t.answer) (taken_needed h) ∙ simp short

  pub taken_told : length b < needed b → needed j ≤ length j → (taken r p).answer ≡ told (read_header j)
  taken_told h there =
      let all : ltb (length j) (needed j) ≡ false = le-ltb (length j) (needed j) there in
      ap (λ (t : PieceTaken). t.answer) (taken_needed h) ∙ simp all (ap told (read_front j there))

  -- the bytes up to the last one needed
  pub taken_used : length b < needed b → (taken r p).used ≡ min (needed j) (length j) - length b
  taken_used h =
      ap (λ (t : PieceTaken). t.used) (taken_needed h)
      ∙ ap (λ (n : ℕ). min (needed j) (length j) - n) (count_all r b st h)

  -- behind it, the reader stands at the bytes with those of the piece
  grown_stands : length b < needed b → Stands (grown r p (min (needed j) (length j)) (needed j)) j
  grown_stands h =
      let m = min (needed j) (length j) in
      let grows = needed_grows b p in
      let all = count_all r b st h in
      let inside : r.count ≤ m = omega (arith, long) in
      let room : m ≤ length r.bytes = omega (arith, (needed_bounds j).1, st.room) in
      let part : m ≤ r.count + length p = omega (arith, long) in
      record {
        bytes = grown_seen r.bytes r.count p m inside room part
            ∙ ap (λ (l : List ℕ). take m (l ++ p)) (seen_all r b st h)
            ∙ take_min (needed j) j;
        count = refl;
        awaited = refl;
        room = laid_length r.bytes r.count (take (m - r.count) p) ∙ st.room;
      }

  pub stands_next : Stands (taken r p).reader j
  stands_next =
      cases (missing? b)
      (λ missing. subst (λ (t : PieceTaken). Stands t.reader j) (sym (taken_needed missing)) (grown_stands missing))
      (λ there.
      let same : needed j ≡ needed b = needed_settled b p there in
      subst (λ (t : PieceTaken). Stands t.reader j) (sym (handed_over r (piece p) (stands_over r b st there)))
      (record {
        bytes = st.bytes ∙ sym (take-append-le (needed b) b p there) ∙ ap (λ (n : ℕ). take n j) (sym same);
        count = omega (arith, st.count, long);
        awaited = st.awaited ∙ sym same;
        room = st.room;
      }))

-- behind all pieces
stands_behind : (r : HeaderReader) (b : List ℕ) (ps : List (List ℕ)) → Stands r b → Stands (behind r (pieces ps)) (b ++ joined ps)
unfolding behind flat_map
stands_behind r b [] st = rw append-nil st
stands_behind r b (p ∷ ps) st = rw (← (append_assoc b p (joined ps))) (stands_behind (taken r p).reader (b ++ p) ps (stands_next r b st p))

pub stands : (ps : List (List ℕ)) → Stands (behind new_reader (pieces ps)) (joined ps)
stands ps = stands_behind new_reader [] ps stands_new
