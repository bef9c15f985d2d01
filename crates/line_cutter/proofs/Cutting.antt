-- What a line that was cut from a chunk leads to: as much of it is kept as tells its answer where it has ended. The
-- same for a program with a state.
-- Assumes nothing.
use Prim.Native.Nat.{ℕ, ◌+◌, ◌-◌, ◌≤◌, ◌<◌}
use native.Mathlib.Omega.{arith}
use mathlib.Core.Bool.{true, false}
use mathlib.Core.List.{List, [], ◌++◌}
use mathlib.Core.Path.{◌≡◌, refl, sym, ap, ◌∙◌}
use borrow.Author.Tests.{ltb-true, ltb-false}
use lib.ListN.{length, take, drop, length-drop}
use Rattle.octets.specs.Buffer.{laid, fitting}
use Rattle.octets.specs.Stored.{Stored}
use Rattle.octets.proofs.Stored.{same}
use Rattle.line_cutter.specs.declared.Taken.{Taken}
use Rattle.line_cutter.specs.Answers.{Onward, stays, tells, fed_to}
use Rattle.line_cutter.specs.Line.{kept_most, line_feed, line_of, line_ends, taken}
use Rattle.line_cutter.specs.Telling.{worked_to}
use Rattle.line_cutter.proofs.Answers.{left, fed_worked}
use Rattle.line_cutter.proofs.Line.{before_length, taken_kept, taken_end, taken_small, taken_feed, taken_all, taken_behind, taken_rest}
use Rattle.line_cutter.specs.Lines.{Sees}
use Rattle.line_cutter.proofs.Telling.{worked_ended, worked_open}

-- an answer looks at no more of a line than is kept
abbrev pub Seen : (List ℕ → List ℕ) → Type 0
Seen answer = (l : List ℕ) → answer (take kept_most l) ≡ answer l

-- what was cut from a place of a chunk, with n bytes of the line at hand in a buffer before, and how it then is
pub record Cut (chunk : List ℕ) (at : ℕ) (line : List ℕ) (n : ℕ) (r : Taken) (kept : List ℕ) : Type 0 where
  pub small : r.n ≤ kept_most
  -- what is kept came from the bytes that were used, of which the line feed is none
  pub used : r.ended ≡ true → (r.n + 1 ≤ n + (r.at - at)) × (r.at ≤ length chunk)
  pub held : r.ended ≡ false → r.n ≤ n + (r.at - at)
  -- a line that has ended and is answered, and one that goes on
  pub answered : r.ended ≡ true → (answer : List ℕ → List ℕ) → Seen answer → (out o : List ℕ) (u next : ℕ) →
      Stored out u (answer (take r.n kept)) o next →
      (fed_to answer [] (drop r.at chunk) o next ≡ fed_to answer (take n line) (drop at chunk) out u)
      × Onward (length chunk) at 0 r.at
  pub goes : r.ended ≡ false → (answer : List ℕ → List ℕ) (out : List ℕ) (u : ℕ) →
      (fed_to answer (take r.n kept) (drop r.at chunk) out u ≡ fed_to answer (take n line) (drop at chunk) out u)
      × Onward (length chunk) at r.n r.at

module _ (chunk : List ℕ) (at : ℕ) (line : List ℕ) (n : ℕ) (r : Taken) (kept : List ℕ)
    (c : (r ≡ taken (drop at chunk) at line n) × (kept ≡ laid line n (fitting line n (line_of (drop at chunk)))))
    (little : n ≤ kept_most) (long : length line ≡ kept_most) (there : at < length chunk) where
  e : r ≡ taken (drop at chunk) at line n
  e = c.0

  front : take r.n kept ≡ take kept_most (take n line ++ line_of (drop at chunk))
  front = taken_kept chunk at line n r e kept c.1 (omega arith) ∙ ap (λ (k : ℕ). take k (take n line ++ line_of (drop at chunk))) long

  cut_small : r.n ≤ kept_most
  cut_small = omega (arith, (taken_small chunk at line n r e (omega arith)).0)

  cut_used : r.ended ≡ true → (r.n + 1 ≤ n + (r.at - at)) × (r.at ≤ length chunk)
  cut_used t =
      let d = drop at chunk in
      let ends : line_ends d ≡ true = sym (taken_end chunk at line n r e) ∙ t in
      let x : length (line_of d) < length d = ltb-true _ _ ends in
      let z = taken_feed chunk at line n r e ends in
      (omega (arith, (taken_small chunk at line n r e (omega arith)).1, z), omega (arith, z, length-drop at chunk, x))

  cut_held : r.ended ≡ false → r.n ≤ n + (r.at - at)
  cut_held t =
      let z = taken_all chunk at line n r e (sym (taken_end chunk at line n r e) ∙ t) in
      omega (arith, (taken_small chunk at line n r e (omega arith)).1, z)

  -- the same for a program with a state: a line that has ended and is a step, and one that goes on
  module _ {S : Type 0} (step : S → List ℕ → S) (says : S → List ℕ → List ℕ) where
    pub cut_told : r.ended ≡ true → Sees kept_most step → Sees kept_most says → (s : S) (out o : List ℕ) (u next : ℕ) →
        Stored out u (says s (take r.n kept)) o next →
        (worked_to step says (step s (take r.n kept)) [] (drop r.at chunk) o next ≡ worked_to step says s (take n line) (drop at chunk) out u)
        × Onward (length chunk) at 0 r.at
    cut_told t sees hears s out o u next p =
        let l = take n line in
        let d = drop at chunk in
        let ends : line_ends d ≡ true = sym (taken_end chunk at line n r e) ∙ t in
        let z = taken_feed chunk at line n r e ends in (
          rw (front, sees s (l ++ line_of d), taken_behind chunk at line n r e ends)
              (worked_ended step says l d out o s u next ends (same (ap (says s) front ∙ hears s (l ++ line_of d)) p)),
          record { small = omega arith; later = omega (arith, z); within = (cut_used t).1 },
        )

    pub cut_goes : r.ended ≡ false → (s : S) (out : List ℕ) (u : ℕ) →
        (worked_to step says s (take r.n kept) (drop r.at chunk) out u ≡ worked_to step says s (take n line) (drop at chunk) out u)
        × Onward (length chunk) at r.n r.at
    cut_goes t s out u =
        let l = take n line in
        let d = drop at chunk in
        let goes : line_ends d ≡ false = sym (taken_end chunk at line n r e) ∙ t in
        let x : length d ≤ length (line_of d) = ltb-false _ _ goes in
        let y = length-drop at chunk in
        let z = taken_all chunk at line n r e goes in (
          rw (front, taken_rest chunk at line n r e (omega arith) goes) (worked_open step says l d out s u goes),
          record { small = cut_small; later = omega (arith, x, y, z); within = omega (arith, before_length line_feed line_feed d, y, z) },
        )

  pub cutting : Cut chunk at line n r kept
  cutting = record {
    small = cut_small;
    used = cut_used;
    held = cut_held;
    answered = λ t answer sees out o u next s.
        let z = cut_told stays (tells answer) t (λ _ l. refl) (λ _ l. sees l) tt out o u next s in
        (simp (fed_worked answer) (ap left z.0), z.1);
    goes = λ t answer out u.
        let z = cut_goes stays (tells answer) t tt out u in
        (simp (fed_worked answer) (ap left z.0), z.1);
  }
