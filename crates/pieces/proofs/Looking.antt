-- What the first c bytes of an array need, told by the array: it holds any header, so measured whole it is refused only by its frame
-- control, and else tells where the header ends.
-- Assumes nothing.
use Prim.Native.Nat.{ℕ, ◌+◌, ◌≤◌}
use native.Mathlib.Omega.{arith}
use mathlib.Core.Bool.{Bool, true, false, cond, ◌&&◌}
use mathlib.Core.List.{List}
use mathlib.Core.Path.{◌≡◌, refl, sym, ap, ◌∙◌}
use borrow.Author.Tests.{leb-true, le-ltb, lt-leb}
use lib.Dec.{ltb, leb}
use lib.ListN.{length, take, drop, take-append-drop}
use lib.Seq.{length-take-le}
use Rattle.std.specs.Prelude.{Ok, Err}
use Rattle.octets.specs.declared.Refusal.{Refusal}
use Rattle.octets.specs.{Bits.bit, Little.number}
use Rattle.octets.specs.Outcome.{Outcome, length_of}
use Rattle.octets.proofs.Accepted.{never, one_value}
use Rattle.octets.proofs.Cases.{cases, holds?, both}
use Rattle.octets.proofs.Little.{number_more}
use Rattle.header_bytes.specs.Layout.{source_end, header_end}
use Rattle.header_bytes.specs.Reading.{measured}
use Rattle.header_bytes.proofs.Accepted.{measured_most}
use Rattle.header_bytes.proofs.Sizes.{source_end_lem, header_end_lem}
use Rattle.pieces.specs.Needed.{control_unseen, needed}
use Rattle.pieces.proofs.Prefix.{faulty, fault, measured_by, measured_by_lem, needed_rest, needed_by_lem, seen_more}

-- no second test where the first fails
neither : (a b : Bool) → b ≡ false → (a && b) ≡ false
neither true b e = e
neither false b e = refl

module _ (b : List ℕ) (c : ℕ) (whole : length b ≡ 37) (three : 3 ≤ c) (few : c ≤ 37) where
  abbrev s : List ℕ
  s = take c b

  abbrev w : ℕ
  w = number b 0 2

  pub front : length s ≡ c
  front = length-take-le c b (omega arith)

  word : number s 0 2 ≡ w
  word =
      sym (number_more s (drop c b) 0 2 (omega (arith, front)))
      ∙ ap (λ (l : List ℕ). number l 0 2) (take-append-drop c b)

  of_front : needed s ≡ cond (faulty w) 3 (needed_rest s w)
  of_front = rw word at (needed_by_lem s (omega (arith, front)))

  of_whole : measured b ≡ measured_by (faulty w) (fault w) false (header_end b w)
  of_whole =
      let there : ltb (length b) (header_end b w) ≡ false = le-ltb (length b) (header_end b w) (omega (arith, (header_end_lem w b).1)) in
      rw there at (measured_by_lem b (omega arith))

  -- refused by its frame control
  pub refused_needs : (r : Refusal) → ◌≡◌ {A = Outcome} (Err r) (measured b) → needed s ≡ 3
  refused_needs r e =
      cases (holds? (faulty w))
      (λ some. of_front ∙ simp some)
      (λ none. let accepted : measured b ≡ Ok (header_end b w) = of_whole ∙ simp none in absurd (never (e ∙ accepted)))

  -- otherwise
  rest : needed_rest s w ≡ cond (control_unseen c w) (source_end w + 1) (header_end b w)
  rest =
      cases (holds? (control_unseen c w))
      (λ unseen. rw front (simp unseen))
      (λ seen.
      let there : leb 37 (source_end w) ≡ false = lt-leb 37 (source_end w) (omega (arith, (source_end_lem w).1)) in
      let all : needed_rest b w ≡ header_end b w =
      ap (λ (n : ℕ). cond (control_unseen n w) (source_end w + 1) (header_end b w)) whole
      ∙ ap (λ (t : Bool). cond t (source_end w + 1) (header_end b w)) (neither (bit w 3) (leb 37 (source_end w)) there) in
      sym (seen_more s (drop c b) w (ap (λ (n : ℕ). control_unseen n w) front ∙ seen))
      ∙ ap (λ (l : List ℕ). needed_rest l w) (take-append-drop c b)
      ∙ all
      ∙ ap (λ (t : Bool). cond t (source_end w + 1) (header_end b w)) (sym seen))

  accepted_needs : (n : ℕ) → ◌≡◌ {A = Outcome} (Ok n) (measured b) →
      needed s ≡ cond (control_unseen c w) (source_end w + 1) n
  accepted_needs n e =
      cases (holds? (faulty w))
      (λ some. let refused : measured b ≡ Err (fault w) = of_whole ∙ simp some in absurd (never (sym (e ∙ refused))))
      (λ none.
      let accepted : measured b ≡ Ok (header_end b w) = of_whole ∙ simp none in
      of_front ∙ simp none (rest ∙ ap (cond (control_unseen c w) (source_end w + 1)) (sym (one_value (e ∙ accepted)))))

  -- by whether the security control, where there is one, is seen
  pub unseen_needs : (v n : ℕ) → v ≡ w → control_unseen c v ≡ true → ◌≡◌ {A = Outcome} (Ok n) (measured b) →
      (needed s ≡ source_end v + 1) × (c ≤ source_end v)
  unseen_needs v n word unseen e =
      let there = both (bit v 3) (leb c (source_end v)) unseen in
      let needs : needed s ≡ cond (control_unseen c v) (source_end v + 1) n = rw word (accepted_needs n e) in
      (needs ∙ simp unseen, leb-true c (source_end v) there.1)

  pub seen_needs : (v n : ℕ) → v ≡ w → control_unseen c v ≡ false → ◌≡◌ {A = Outcome} (Ok n) (measured b) →
      (needed s ≡ n) × (n ≤ 37)
  seen_needs v n word seen e =
      let needs : needed s ≡ cond (control_unseen c v) (source_end v + 1) n = rw word (accepted_needs n e) in
      let long : n ≡ length_of (measured b) = ap length_of e in
      (needs ∙ simp seen, omega (arith, long, (measured_most b).1))
