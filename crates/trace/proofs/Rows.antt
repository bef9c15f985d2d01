-- The known senders with their counts, where one frame more is heard.
-- Assumes nothing.
use Prim.Native.Nat.{ℕ, ◌+◌, ◌<◌}
use mathlib.Core.Bool.{true, false, not, or-true}
use mathlib.Core.List.{List, [], ◌∷◌, ◌++◌, map, append-nil}
use mathlib.Core.Path.{◌≡◌, refl, sym, ap, ap₂, ◌∙◌}
use borrow.Author.Tests.{ltb-true, ltb-false}
use lib.Dec.{ltb}
use lib.ListN.{length, length-map}
use lib.Seq.{append_snoc}
use Rattle.octets.specs.Bits.{bit_of}
use Rattle.octets.proofs.Cases.{cases, holds?, neither}
use Rattle.senders.specs.declared.Sender.{Sender}
use Rattle.senders.specs.declared.Counted.{Counted}
use Rattle.senders.specs.Sender.{same, among}
use Rattle.senders.specs.Counts.{counts_of}
use Rattle.senders.specs.Hearing.{senders_most, first_heard, heard_again, hearing, is_known, is_crowded, heard_of}
use Rattle.trace.specs.Plain.{known, numbers_of, strangers, senders_in}
use Rattle.trace.proofs.Numbers.{counts_first, counts_on}
use Rattle.trace.proofs.Among.{same_refl, same_true, same_not, among_last, Distinct}
use Rattle.trace.proofs.Known.{known_distinct, numbers_on, strangers_on}
use Rattle.trace.proofs.Known.{known_keeps, known_full, known_again, known_new, known_numbers, new_numbers, strangers_new}

-- some senders with their counts
abbrev rows : List (Sender × ℕ) → List Sender → List Counted
rows hs ks = map (λ (who : Sender). counts_of who (numbers_of who hs)) ks

rows_who : (hs : List (Sender × ℕ)) (ks : List Sender) → map (λ (c : Counted). c.who) (rows hs ks) ≡ ks
unfolding counts_of
rows_who hs [] = refl
rows_who hs (k ∷ ks) = ap (λ (l : List Sender). k ∷ l) (rows_who hs ks)

-- who has a row, and how many there are
module _ (hs : List (Sender × ℕ)) where
  is_known_lem : (who : Sender) → is_known who (senders_in hs) ≡ among who (known hs)
  is_known_lem who = ap (among who) (rows_who hs (known hs))

  known_many : length (senders_in hs) ≡ length (known hs)
  known_many = length-map (known hs) (λ (who : Sender). counts_of who (numbers_of who hs))

  module _ (who : Sender) (n : ℕ) where
    -- a row that the frame is not of, and one that it is of
    row_other : (k : Sender) → same who k ≡ false → counts_of k (numbers_of k (hs ++ ((who, n) ∷ []))) ≡ counts_of k (numbers_of k hs)
    row_other k e = ap (counts_of k) (numbers_on k who n hs ∙ simp (same_not who k e))

    rows_stay : (ks : List Sender) → among who ks ≡ false → rows (hs ++ ((who, n) ∷ [])) ks ≡ rows hs ks
    unfolding among
    rows_stay [] e = refl
    rows_stay (k ∷ ks) e =
        let apart = neither (same who k) (among who ks) e in
        ap₂ ◌∷◌ (row_other k apart.0) (rows_stay ks apart.1)

    row_same : (k : Sender) → same who k ≡ true → 0 < length (numbers_of k hs) →
        heard_again (counts_of k (numbers_of k hs)) n ≡ counts_of k (numbers_of k (hs ++ ((who, n) ∷ [])))
    row_same k e h =
        counts_on k (numbers_of k hs) n h
        ∙ ap (counts_of k) (sym (numbers_on k who n hs ∙ rw (same_true who k e) (simp (same_refl k))))

    rows_hear : (ks : List Sender) → Distinct ks → ((k : Sender) → among k ks ≡ true → 0 < length (numbers_of k hs)) →
        hearing who n (rows hs ks) ≡ rows (hs ++ ((who, n) ∷ [])) ks
    unfolding hearing among counts_of
    rows_hear [] d h = refl
    rows_hear (k ∷ ks) d h =
        cases (holds? (same who k))
        (λ t. simp t (ap₂ ◌∷◌ (row_same k t (h k (simp (same_refl k)))) (sym (rows_stay ks (rw (same_true who k t) d.0)))))
        (λ t. simp t (ap₂ ◌∷◌ (sym (row_other k t)) (rows_hear ks d.1 (λ m e. h m (simp (e, or-true))))))

    rows_new : (ks : List Sender) → among who ks ≡ false → numbers_of who hs ≡ [] →
        rows hs ks ++ (first_heard who n ∷ []) ≡ rows (hs ++ ((who, n) ∷ [])) (ks ++ (who ∷ []))
    unfolding among
    rows_new [] e none =
        ap (λ (c : Counted). c ∷ []) (counts_first who n ∙ ap (counts_of who) (sym (numbers_on who who n hs ∙ simp (same_refl who, none))))
    rows_new (k ∷ ks) e none =
        let apart = neither (same who k) (among who ks) e in
        ap₂ ◌∷◌ (sym (row_other k apart.0)) (rows_new ks apart.1 none)

    -- the senders, and the frames of others, behind the frame
    pub heard_on : heard_of who n (senders_in hs) ≡ senders_in (hs ++ ((who, n) ∷ []))
    unfolding heard_of
    heard_on =
        rw (is_known_lem who, known_many)
        (cases (holds? (among who (known hs)))
        (λ t. simp (t, known_again hs who n t) (rows_hear (known hs) (known_distinct hs) (known_numbers hs)))
        (λ t.
        cases (holds? (ltb (length (known hs)) senders_most))
        (λ u.
        let l = ltb-true (length (known hs)) senders_most u in
        simp (t, u, known_new hs who n t l) (rows_new (known hs) t (new_numbers hs who t l)))
        (λ u.
        let l = ltb-false (length (known hs)) senders_most u in
        simp (t, u, known_full hs ((who, n) ∷ []) l) (sym (rows_stay (known hs) t)))))

    pub crowd_on : strangers (known hs) hs + bit_of (is_crowded who (senders_in hs))
        ≡ strangers (known (hs ++ ((who, n) ∷ []))) (hs ++ ((who, n) ∷ []))
    crowd_on =
        rw (is_known_lem who, known_many, strangers_on (known (hs ++ ((who, n) ∷ []))) who n hs)
        (cases (holds? (among who (known hs)))
        (λ t. simp (t, known_again hs who n t))
        (λ t.
        cases (holds? (ltb (length (known hs)) senders_most))
        (λ u.
        let l = ltb-true (length (known hs)) senders_most u in
        let none : strangers (known hs) hs ≡ 0 = rw append-nil at (strangers_new hs [] l) in
        simp (t, u, known_new hs who n t l, among_last who (known hs), none, strangers_new hs (who ∷ []) l))
        (λ u.
        let l = ltb-false (length (known hs)) senders_most u in
        simp (t, u, known_full hs ((who, n) ∷ []) l))))

    -- a sender without a place never has one later on
    pub crowd_ahead : (ts : List (Sender × ℕ)) → is_crowded who (senders_in hs) ≡ not (among who (known (hs ++ ((who, n) ∷ ts))))
    crowd_ahead ts =
        rw (is_known_lem who, known_many)
        (cases (holds? (among who (known hs)))
        (λ t. simp (t, known_keeps hs ((who, n) ∷ ts) who t))
        (λ t.
        cases (holds? (ltb (length (known hs)) senders_most))
        (λ u.
        let l = ltb-true (length (known hs)) senders_most u in
        let e : among who (known (hs ++ ((who, n) ∷ []))) ≡ true = rw (known_new hs who n t l) (among_last who (known hs)) in
        let kept = rw append_snoc at (known_keeps (hs ++ ((who, n) ∷ [])) ts who e) in
        simp (t, u, kept))
        (λ u.
        let l = ltb-false (length (known hs)) senders_most u in
        simp (t, u, known_full hs ((who, n) ∷ ts) l))))
