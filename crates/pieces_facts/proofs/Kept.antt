-- A reader that does not wait says 9 to every call and stays as it is. Such is the reader behind any answer, and behind the end.
-- Assumes nothing.
use Prim.Native.Nat.{ℕ, min}
use native.Mathlib.Nat.{zero-add}
use native.Mathlib.Omega.{arith}
use mathlib.Core.Bool.{true, false, true≢false}
use mathlib.Core.List.{List, [], ◌∷◌, ◌++◌}
use mathlib.Core.Path.{◌≡◌, refl, sym, ap, ◌∙◌}
use borrow.Author.Tests.{ltb-false, le-ltb}
use lib.Dec.{ltb}
use lib.ListN.{length}
use Rattle.octets.proofs.Cases.{cases, holds?}
use Rattle.pieces.specs.declared.HeaderReader.{HeaderReader}
use Rattle.pieces.specs.declared.PieceTaken.{PieceTaken}
use Rattle.pieces.specs.Reader.{new_reader, seen, waits, awaited_with, says, taken_with, over, taken, ended}
use Rattle.pieces_facts.specs.Calls.{Call, piece, end, handed, behind, run, final, finals, used_sum}
use Rattle.pieces_facts.specs.Whole.{Later, AtEnd}

-- a reader that does not wait: 9 to a piece and to the end
pub handed_over : (r : HeaderReader) (c : Call) → waits r ≡ false → handed r c ≡ over r
unfolding taken ended
handed_over r (piece p) f = simp f
handed_over r end f = simp f

-- so no call alters it, gives an answer or uses a byte
behind_over : (r : HeaderReader) (cs : List Call) → waits r ≡ false → behind r cs ≡ r
unfolding behind
behind_over r [] f = refl
behind_over r (c ∷ cs) f = ap (λ (t : PieceTaken). behind t.reader cs) (handed_over r c f) ∙ behind_over r cs f

pub finals_over : (r : HeaderReader) (cs : List Call) → waits r ≡ false → finals (run r cs) ≡ []
unfolding run finals
finals_over r [] f = refl
finals_over r (c ∷ cs) f = ap (λ (t : PieceTaken). finals (t ∷ run t.reader cs)) (handed_over r c f) ∙ finals_over r cs f

pub used_over : (r : HeaderReader) (cs : List Call) → waits r ≡ false → used_sum (run r cs) ≡ 0
unfolding run used_sum
used_over r [] f = refl
used_over r (c ∷ cs) f =
    ap (λ (t : PieceTaken). used_sum (t ∷ run t.reader cs)) (handed_over r c f) ∙ zero-add (used_sum (run r cs)) ∙ used_over r cs f

-- Behind an answer, given to a piece or to the end, none is awaited.
says_over : (r : HeaderReader) (p j : List ℕ) (n : ℕ) → final (says n j) ≡ true → waits (taken_with r p j n).reader ≡ false
says_over r p j n e =
    cases (holds? (ltb (length j) n))
    (λ t. let more : final (says n j) ≡ false = simp t in absurd (true≢false (sym e ∙ more)))
    (λ f.
    let h = ltb-false (length j) n f in
    let there : ltb (min n (length j)) n ≡ false = le-ltb (min n (length j)) n (omega arith) in
    simp there)

pub ended_over : (r : HeaderReader) → waits (ended r).reader ≡ false
unfolding ended
ended_over r =
    let none : ltb r.count r.count ≡ false = le-ltb r.count r.count (omega arith) in
    cases (holds? (waits r)) (λ t. simp (t, none)) (λ f. simp f)

answer_over : (r : HeaderReader) (c : Call) → final (handed r c).answer ≡ true → waits (handed r c).reader ≡ false
unfolding taken
answer_over r (piece p) e =
    let j = seen r ++ p in
    cases (holds? (waits r)) (λ t. simp t (says_over r p j (awaited_with r.awaited j) (simp t at e))) (λ f. simp f)
answer_over r end e = ended_over r

later_over : (r : HeaderReader) (cs : List Call) → (finals (run r cs) ≡ [] → ⊥) → waits (behind r cs) ≡ false
unfolding run behind finals
later_over r [] some = absurd (some refl)
later_over r (c ∷ cs) some =
    let next = (handed r c).reader in
    cases (holds? (final (handed r c).answer))
    (λ t. let over = answer_over r c t in ap waits (behind_over next cs over) ∙ over)
    (λ f. later_over next cs (λ none. some (simp f none)))

pub later : (cs : List Call) → Later cs
later cs some c = handed_over (behind new_reader cs) c (later_over new_reader cs some)

-- the end, whatever the reader
pub at_end : (r : HeaderReader) → AtEnd r
unfolding ended
at_end r =
    cases (holds? (waits r)) (λ t. record { says = simp t; uses = simp t }) (λ f. record { says = simp f; uses = simp f })
