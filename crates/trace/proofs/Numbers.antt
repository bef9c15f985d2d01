-- The counts of a sender where one frame more is heard of it.
-- Assumes nothing.
use Prim.Native.Nat.{ℕ, suc, ◌+◌, ◌<◌}
use native.Mathlib.Omega.{arith}
use mathlib.Core.List.{List, [], ◌∷◌, ◌++◌}
use mathlib.Core.Path.{◌≡◌, refl, sym}
use lib.ListN.{length, length-append}
use Rattle.senders.specs.declared.Sender.{Sender}
use Rattle.senders.specs.Counts.{step_to, steps_from, repeats_by, missing_by, repeats_in, missing_in, last_or, counts_of}
use Rattle.senders.specs.Hearing.{first_heard, heard_again}

-- one number more, behind a first one
last_on : (a n : ℕ) (ns : List ℕ) → last_or a (ns ++ (n ∷ [])) ≡ n
unfolding last_or
last_on a n [] = refl
last_on a n (b ∷ ns) = last_on b n ns

repeats_on : (a n : ℕ) (ns : List ℕ) →
    repeats_in (steps_from a ns) + repeats_by (step_to (last_or a ns) n) ≡ repeats_in (steps_from a (ns ++ (n ∷ [])))
unfolding last_or repeats_in steps_from
repeats_on a n [] = omega arith
repeats_on a n (b ∷ ns) = omega (arith, repeats_on b n ns)

missing_on : (a n : ℕ) (ns : List ℕ) →
    missing_in (steps_from a ns) + missing_by (step_to (last_or a ns) n) ≡ missing_in (steps_from a (ns ++ (n ∷ [])))
unfolding last_or missing_in steps_from
missing_on a n [] = omega arith
missing_on a n (b ∷ ns) = omega (arith, missing_on b n ns)

-- a sender's first frame
pub counts_first : (who : Sender) (n : ℕ) → first_heard who n ≡ counts_of who (n ∷ [])
unfolding counts_of last_or repeats_in missing_in steps_from
counts_first who n = refl

-- and each later one
pub counts_on : (who : Sender) (ns : List ℕ) (n : ℕ) → 0 < length ns → heard_again (counts_of who ns) n ≡ counts_of who (ns ++ (n ∷ []))
unfolding counts_of heard_again last_or
counts_on who [] n h = absurd (omega arith)
counts_on who (a ∷ ns) n h =
    let last = sym (last_on a n ns) in
    let frames : suc (length ns) + 1 ≡ suc (length (ns ++ (n ∷ []))) = simp length-append (omega arith) in
    let repeats = repeats_on a n ns in
    let missing = missing_on a n ns in
    λ i. record { who = who; last = last i; frames = frames i; repeats = repeats i; missing = missing i }
