-- A line that lies in its chunk as a whole and is not bad: its label up to a tab, its digits in pairs, and a line feed.
-- Assumes nothing.
use Prim.Native.Nat.{ℕ, ◌+◌, ◌-◌, ◌*◌, ◌≤◌}
use native.Mathlib.Omega.{arith}
use mathlib.Core.Bool.{true}
use mathlib.Core.List.{List, ◌∷◌, ◌++◌, append_assoc}
use mathlib.Core.Path.{◌≡◌, refl, sym, ap, ◌∙◌}
use borrow.Author.Tests.{lt-ltb}
use lib.ListN.{length, take, drop, length-append, length-drop}
use lib.Seq.{length-take-le}
use Rattle.octets.proofs.Lists.{take_again}
use Rattle.line_cutter.specs.Answers.{stays, tells}
use Rattle.line_cutter.specs.Line.{line_most, before, is_at, line_of, line_ends}
use Rattle.line_cutter.proofs.Line.{Free, free_append, free_first, free_second, before_free, before_part, there, split_there}
use Rattle.hexadecimal.specs.Hex.{unhex, decoded}
use Rattle.hexadecimal.proofs.Hex.{unhex_take, whole_good}
use Rattle.lines.specs.Answer.{said, answer}
use Rattle.octets.specs.Stored.{Stored}
use Rattle.labelled.proofs.Answer.{feed_foreign, foreign_free, answer_good}
use Rattle.line_teller.specs.Quick.{Quick}
use Rattle.octets.proofs.Stored.{same}

module _ (chunk : List ℕ) (at tab n : ℕ) (e : tab ≡ at + length (before 9 10 (drop at chunk))) (t : is_at chunk tab 9 ≡ true)
    (f : n ≡ length (decoded chunk (tab + 1) 512)) (g : is_at chunk (tab + 1 + 2 * n) 10 ≡ true) (h : tab + 1 + 2 * n - at ≤ line_most) where
  label : List ℕ
  label = take (tab - at) (drop at chunk)

  digits : List ℕ
  digits = take (2 * n) (drop (tab + 1) chunk)

  label_before : label ≡ before 9 10 (drop at chunk)
  unfolding label
  label_before = before_part 9 10 at tab (drop at chunk) e

  digits_length : length digits ≡ 2 * n
  unfolding digits
  digits_length = length-take-le (2 * n) (drop (tab + 1) chunk) (omega (arith, (there chunk (tab + 1 + 2 * n) 10 g).0, length-drop (tab + 1) chunk))

  digits_bytes : unhex digits ≡ decoded chunk (tab + 1) 512
  unfolding digits
  digits_bytes =
      unhex_take n (drop (tab + 1) chunk) ∙ ap (λ (k : ℕ). take k (unhex (drop (tab + 1) chunk))) f
      ∙ take_again 512 (unhex (drop (tab + 1) chunk))

  digits_whole : 2 * length (unhex digits) ≡ length digits
  digits_whole = omega (arith, ap length digits_bytes, digits_length, f)

  -- the chunk from here on
  laid_out : drop at chunk ≡ (label ++ (9 ∷ digits)) ++ (10 ∷ drop (tab + 1 + 2 * n + 1) chunk)
  unfolding label digits
  laid_out =
      let a = there chunk tab 9 t in
      let b = there chunk (tab + 1 + 2 * n) 10 g in
      split_there chunk at (tab - at) tab 9 (omega arith) a.0 a.1
      ∙ ap (λ (l : List ℕ). label ++ (9 ∷ l)) (split_there chunk (tab + 1) (2 * n) (tab + 1 + 2 * n) 10 refl b.0 b.1)
      ∙ sym (append_assoc label (9 ∷ digits) (10 ∷ drop (tab + 1 + 2 * n + 1) chunk))

  label_length : length label ≡ tab - at
  label_length = omega (arith, ap length label_before)

  short : length (label ++ (9 ∷ digits)) ≤ line_most
  short = rw length-append (omega (arith, label_length, digits_length))

  no_tab : Free 9 label
  no_tab = rw label_before (free_first 9 10 (drop at chunk))

  no_feed : Free 10 (label ++ (9 ∷ digits))
  no_feed =
      free_append 10 label (9 ∷ digits) (rw label_before (free_second 9 10 (drop at chunk)))
      (refl, foreign_free 10 digits feed_foreign (whole_good digits digits_whole).1)

  line : line_of (drop at chunk) ≡ label ++ (9 ∷ digits)
  line = ap (λ (l : List ℕ). line_of l) laid_out ∙ before_free 10 (label ++ (9 ∷ digits)) (drop (tab + 1 + 2 * n + 1) chunk) no_feed

  line_length : length (line_of (drop at chunk)) ≡ length label + 1 + 2 * n
  line_length = rw (line, length-append label) (omega (arith, digits_length))

  ends : line_ends (drop at chunk) ≡ true
  ends =
      let l = label ++ (9 ∷ digits) in
      let e = ap length laid_out ∙ length-append l (10 ∷ drop (tab + 1 + 2 * n + 1) chunk) in
      lt-ltb _ _ (omega (arith, e, ap length line))

  pub quick_told : (out o : List ℕ) (used next : ℕ) → next ≤ used + length (take (tab - at) (drop at chunk)) + 6 →
      Stored out used (take (tab - at) (drop at chunk) ++ said (decoded chunk (tab + 1) 512)) o next →
      Quick stays (tells answer) 5 tt tt chunk at out used o (record { at = tab + 1 + 2 * n + 1; used = next })
  unfolding label
  quick_told out o used next few s =
      let a = ap (λ (l : List ℕ). label ++ said l) (sym digits_bytes) ∙ sym (answer_good said label digits no_tab short digits_whole) in
      record {
        ends = ends;
        place = omega (arith, line_length, label_length, e);
        state = refl;
        stored = same (a ∙ ap answer (sym line)) s;
        few = omega (arith, line_length, few);
      }
