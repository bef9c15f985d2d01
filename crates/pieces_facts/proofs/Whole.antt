-- All pieces of a frame, the end, and any calls behind it: one answer, the whole reader's, and the bytes used for it.
-- Assumes nothing.
use Prim.Native.Nat.{ℕ, ◌+◌, ◌≤◌, ◌<◌, min}
use native.Mathlib.Nat.{add_assoc}
use native.Mathlib.Omega.{arith}
use mathlib.Core.Bool.{true, false, cond, not}
use mathlib.Core.List.{List, [], ◌∷◌, ◌++◌, append_assoc, append-nil, flat_map}
use mathlib.Core.Path.{◌≡◌, refl, sym, ap, ◌∙◌}
use borrow.Author.Tests.{eqb-true, eqb-false, ne_eqb, le-leb, lt-leb}
use lib.Dec.{leb, eqb}
use lib.ListN.{length, length-append}
use Rattle.octets.proofs.Cases.{cases, holds?}
use Rattle.std.specs.Prelude.{Result, Ok, Err}
use Rattle.octets.specs.declared.Refusal.{Refusal}
use Rattle.octets.specs.declared.Refusal.TheVariants.{Ended}
use Rattle.octets.specs.Outcome.{refusal_number, number_of}
use Rattle.octets.proofs.Accepted.{refusal_some}
use Rattle.header.specs.declared.Header.{Header}
use Rattle.header.specs.Read.{read_header}
use Rattle.pieces.specs.declared.HeaderReader.{HeaderReader}
use Rattle.pieces.specs.declared.PieceTaken.{PieceTaken}
use Rattle.pieces.specs.Needed.{needed}
use Rattle.pieces.specs.Answer.{PieceAnswer, more, told}
use Rattle.pieces.specs.Reader.{new_reader, taken, ended}
use Rattle.pieces.proofs.Prefix.{needed_settled, needed_grows}
use Rattle.pieces_facts.specs.Calls.{Call, piece, end, handed, behind, run, pieces, joined, final, finals, used_sum}
use Rattle.pieces_facts.specs.Whole.{used_for, AsWhole}
use Rattle.pieces_facts.proofs.Enough.{missing?, number_most, not_one, enough}
use Rattle.pieces_facts.proofs.Kept.{handed_over, finals_over, used_over, ended_over, at_end}
use Rattle.pieces_facts.proofs.Standing.{Stands, stands_new, stands_waits, stands_over, stands_next, stands}
use Rattle.pieces_facts.proofs.Standing.{taken_more, taken_told, taken_used}

-- The bytes used for the whole reader's answer are those up to the last one needed.
used_by : (r : Result (Header × ℕ) Refusal) (all n : ℕ) → (number_of r ≡ 1 → ⊥) → ((h : Header) (k : ℕ) → r ≡ Ok (h, k) → n ≡ k) →
    ((q : Refusal) → 1 < refusal_number q → r ≡ Err q → n ≡ 3) →
    n ≡ used_for r all
used_by (Ok p) all n one accepted refused = accepted p.0 p.1 refl
used_by (Err r) all n one accepted refused =
    cases (holds? (eqb (refusal_number r) 1))
    (λ t. absurd (one (eqb-true (refusal_number r) 1 t)))
    (λ f.
    let other : refusal_number r ≡ 1 → ⊥ = eqb-false (refusal_number r) 1 f in
    let two : 1 < refusal_number r = omega (arith, other, (refusal_some r).0) in
    simp f (refused r two refl))

used_needed : (s : List ℕ) → min (needed s) (length s) ≡ used_for (read_header s) (length s)
used_needed s =
    let facts = enough s in
    cases (missing? s)
    (λ missing.
    let all : min (needed s) (length s) ≡ length s = omega arith in
    all ∙ ap (λ (r : Result (Header × ℕ) Refusal). used_for r (length s)) (sym (facts.short missing)))
    (λ there.
    let few : min (needed s) (length s) ≡ needed s = omega arith in
    few ∙ used_by (read_header s) (length s) (needed s) (not_one s there) facts.accepted facts.refused)

-- bytes used in front of a piece and by it, whether the reader waits or not
used_next : (r : HeaderReader) (b p : List ℕ) → Stands r b →
    min (needed b) (length b) + (taken r p).used ≡ min (needed (b ++ p)) (length (b ++ p))
used_next r b p st =
    let j = b ++ p in
    let long : length j ≡ length b + length p = length-append b p in
    cases (missing? b)
    (λ missing.
    let used = taken_used r b st p missing in
    let all : min (needed b) (length b) ≡ length b = omega arith in
    let inside : length b ≤ min (needed j) (length j) = omega (arith, needed_grows b p) in
    omega arith)
    (λ there.
    let none : (taken r p).used ≡ 0 = ap (λ (t : PieceTaken). t.used) (handed_over r (piece p) (stands_over r b st there)) in
    let same : needed j ≡ needed b = needed_settled b p there in
    omega arith)

-- Calls and calls behind them: what is handed back, the answers, and the bytes used.
run_append : (r : HeaderReader) (cs ds : List Call) → run r (cs ++ ds) ≡ run r cs ++ run (behind r cs) ds
unfolding run behind
run_append r [] ds = refl
run_append r (c ∷ cs) ds = ap (λ (ts : List PieceTaken). handed r c ∷ ts) (run_append (handed r c).reader cs ds)

finals_append : (ts us : List PieceTaken) → finals (ts ++ us) ≡ finals ts ++ finals us
unfolding finals
finals_append [] us = refl
finals_append (t ∷ ts) us =
    cases (holds? (final t.answer))
    (λ e. simp e (ap (λ (l : List PieceAnswer). t.answer ∷ l) (finals_append ts us)))
    (λ e. simp e (finals_append ts us))

used_append : (ts us : List PieceTaken) → used_sum (ts ++ us) ≡ used_sum ts + used_sum us
unfolding used_sum
used_append [] us = omega arith
used_append (t ∷ ts) us = omega (arith, used_append ts us)

-- an answer in front of others; what the whole reader says is one, since it never says 9
told_final : (r : Result (Header × ℕ) Refusal) → number_of r ≤ 5 → final (told r) ≡ true
told_final (Ok p) most = refl
told_final (Err r) most = ap not (ne_eqb (refusal_number r) 9 (λ nine. omega (arith, nine, most)))

finals_more : (t : PieceTaken) (ts : List PieceTaken) → t.answer ≡ more → finals (t ∷ ts) ≡ finals ts
unfolding finals
finals_more t ts e = rw e

finals_told : (t : PieceTaken) (ts : List PieceTaken) (r : Result (Header × ℕ) Refusal) → t.answer ≡ told r → number_of r ≤ 5 →
    finals (t ∷ ts) ≡ told r ∷ finals ts
unfolding finals
finals_told t ts r e most = rw (e, told_final r most)

-- All pieces: the one answer where all bytes needed are there, and the bytes up to the last one needed.
abbrev answers : List ℕ → List PieceAnswer
answers s = cond (leb (needed s) (length s)) (told (read_header s) ∷ []) []

answers_short : (s : List ℕ) → length s < needed s → [] ≡ answers s
answers_short s h = let short : leb (needed s) (length s) ≡ false = lt-leb (needed s) (length s) h in simp short

answers_there : (s : List ℕ) → needed s ≤ length s → told (read_header s) ∷ [] ≡ answers s
answers_there s h = let there : leb (needed s) (length s) ≡ true = le-leb (needed s) (length s) h in simp there

answers_more : (s t : List ℕ) → needed s ≤ length s → told (read_header s) ∷ [] ≡ answers (s ++ t)
answers_more s t h =
    let same = needed_settled s t h in
    ap (λ (r : Result (Header × ℕ) Refusal). told r ∷ []) (sym ((enough s).decided h t))
    ∙ answers_there (s ++ t) (omega (arith, length-append s t))

pieces_finals : (r : HeaderReader) (b : List ℕ) (ps : List (List ℕ)) → Stands r b → length b < needed b →
    finals (run r (pieces ps)) ≡ answers (b ++ joined ps)
unfolding run finals flat_map
pieces_finals r b [] st h = rw append-nil (answers_short b h)
pieces_finals r b (p ∷ ps) st h =
    let j = b ++ p in
    let t = taken r p in
    let on = stands_next r b st p in
    let rest = run t.reader (pieces ps) in
    cases (missing? j)
    (λ missing. finals_more t rest (taken_more r b st p h missing) ∙ pieces_finals t.reader j ps on missing)
    (λ there.
    finals_told t rest (read_header j) (taken_told r b st p h there) (number_most j)
    ∙ ap (λ (l : List PieceAnswer). told (read_header j) ∷ l) (finals_over t.reader (pieces ps) (stands_over t.reader j on there))
    ∙ answers_more j (joined ps) there)
    ∙ ap answers (append_assoc b p (joined ps))

pieces_used : (r : HeaderReader) (b : List ℕ) (ps : List (List ℕ)) → Stands r b →
    min (needed b) (length b) + used_sum (run r (pieces ps)) ≡ min (needed (b ++ joined ps)) (length (b ++ joined ps))
unfolding run used_sum flat_map
pieces_used r b [] st = rw append-nil (omega arith)
pieces_used r b (p ∷ ps) st =
    let t = taken r p in
    let rest = used_sum (run t.reader (pieces ps)) in
    sym (add_assoc (min (needed b) (length b)) t.used rest)
    ∙ ap (λ (n : ℕ). n + rest) (used_next r b p st)
    ∙ pieces_used t.reader (b ++ p) ps (stands_next r b st p)
    ∙ ap (λ (s : List ℕ). min (needed s) (length s)) (append_assoc b p (joined ps))

-- The end and any calls behind it: 1 where a byte is missing, and no byte is used.
end_finals : (r : HeaderReader) (later : List Call) (s : List ℕ) → Stands r s →
    answers s ++ finals (run r (end ∷ later)) ≡ told (read_header s) ∷ []
unfolding run ended
end_finals r later s st =
    cases (missing? s)
    (λ missing.
    let waits = stands_waits r s st missing in
    let one : (ended r).answer ≡ told (Err Ended) = simp waits in
    let ends : Err Ended ≡ read_header s = sym ((enough s).short missing) in
    ap (λ (l : List PieceAnswer). l ++ finals (run r (end ∷ later))) (sym (answers_short s missing))
    ∙ finals_told (ended r) (run (ended r).reader later) (Err Ended) one (omega arith)
    ∙ (λ i. told (ends i) ∷ finals_over (ended r).reader later (ended_over r) i))
    (λ there i. sym (answers_there s there) i ++ finals_over r (end ∷ later) (stands_over r s st there) i)

end_used : (r : HeaderReader) (later : List Call) → used_sum (run r (end ∷ later)) ≡ 0
unfolding run used_sum
end_used r later = omega (arith, (at_end r).uses, used_over (ended r).reader later (ended_over r))

pub as_whole : (ps : List (List ℕ)) (later : List Call) → AsWhole ps later
as_whole ps later =
    let s = joined ps in
    let r = behind new_reader (pieces ps) in
    let parts = run_append new_reader (pieces ps) (end ∷ later) in
    let missing : 0 < needed [] = omega (arith, (enough []).three) in
    let answered : finals (run new_reader (pieces ps)) ≡ answers s = pieces_finals new_reader [] ps stands_new missing in
    let used : used_sum (run new_reader (pieces ps)) ≡ min (needed s) (length s) =
    omega (arith, pieces_used new_reader [] ps stands_new) in
    record {
      once = ap finals parts
          ∙ finals_append (run new_reader (pieces ps)) (run r (end ∷ later))
          ∙ ap (λ (l : List PieceAnswer). l ++ finals (run r (end ∷ later))) answered
          ∙ end_finals r later s (stands ps);
      sum = ap used_sum parts
          ∙ used_append (run new_reader (pieces ps)) (run r (end ∷ later))
          ∙ omega (arith, end_used r later)
          ∙ used_needed s;
      unended = answered;
    }
