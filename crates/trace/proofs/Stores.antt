-- Laws of what is stored of senders: the parts of a line, the lines of one row more, and that each row is small.
-- Assumes nothing.
use Prim.Native.Nat.{ℕ, zero, suc, ◌+◌, ◌*◌, ◌<◌}
use native.Mathlib.Numerals.{add-one}
use native.Mathlib.Omega.{arith}
use mathlib.Core.List.{List, [], ◌∷◌, ◌++◌, flat_map, append-nil, append_assoc}
use mathlib.Core.Path.{◌≡◌, sym, ap, ◌∙◌, subst}
use borrow.Author.Tests.{ltb-true, ltb-false}
use lib.Dec.{ltb}
use Rattle.octets.proofs.Cases.{cases, holds?}
use Rattle.octets.proofs.Lists.{flat_append}
use Rattle.labelled.specs.{Decimal.column, Hexed.hex_by}
use Rattle.senders.specs.declared.Counted.{Counted}
use Rattle.senders.specs.Table.{counted_at, counted_in}
use Rattle.trace.specs.Output.{sender_line}
use Rattle.trace.specs.Within.{Small, AllSmall}

-- the parts of a sender's line
pub line_parts : (c : Counted) →
    115 ∷ 101 ∷ 110 ∷ 100 ∷ 101 ∷ 114 ∷ 9
    ∷ ((hex_by 4 c.who.pan_id ++ (9 ∷ hex_by (2 * c.who.octets) c.who.address))
    ++ ((column c.frames ++ (column c.repeats ++ column c.missing)) ++ (10 ∷ [])))
    ≡ sender_line c
unfolding sender_line
line_parts c = simp append_assoc

-- the lines of one row more
pub rows_more : (t : List ℕ) (i : ℕ) →
    flat_map sender_line (counted_in t i) ++ sender_line (counted_at t i) ≡ flat_map sender_line (counted_in t (i + 1))
unfolding counted_in flat_map
rows_more t i =
    rw add-one
    (ap (λ (l : List ℕ). flat_map sender_line (counted_in t i) ++ l) (sym (append-nil (sender_line (counted_at t i))))
    ∙ sym (flat_append sender_line (counted_in t i) (counted_at t i ∷ [])))

-- each row is small where all are
module _ (lines : ℕ) where
  small_front : (cs ds : List Counted) → AllSmall lines (cs ++ ds) → AllSmall lines cs
  small_front [] ds s = tt
  small_front (c ∷ cs) ds s = (s.0, small_front cs ds s.1)

  small_last : (cs : List Counted) (c : Counted) → AllSmall lines (cs ++ (c ∷ [])) → Small lines c
  small_last [] c s = s.0
  small_last (d ∷ cs) c s = small_last cs c s.1

  pub small_at : (t : List ℕ) (n i : ℕ) → i < n → AllSmall lines (counted_in t n) → Small lines (counted_at t i)
  unfolding counted_in
  small_at t zero i h s = absurd (omega arith)
  small_at t (suc n) i h s =
      cases (holds? (ltb i n))
      (λ e. small_at t n i (ltb-true i n e) (small_front (counted_in t n) (counted_at t n ∷ []) s))
      (λ e.
      let f : n ≡ i = omega (arith, ltb-false i n e) in
      subst (λ (j : ℕ). Small lines (counted_at t j)) f (small_last (counted_in t n) (counted_at t n) s))
