-- Laws of a line that is taken apart: by any table its bytes are no more than its digits allow; by the values of hex digits what was found
-- tells the answer to it, whatever is said of its frame.
-- Assumes nothing.
use Prim.Native.Nat.{ℕ, ◌+◌, ◌*◌, ◌≤◌, ◌<◌}
use native.Mathlib.Omega.{arith}
use mathlib.Core.Bool.{true, false, cond}
use Rattle.std.specs.Prelude.{Result, Ok, Err}
use mathlib.Core.List.{List, [], ◌∷◌, ◌++◌}
use mathlib.Core.Path.{◌≡◌, refl, sym, ap, ◌∙◌}
use borrow.Author.Tests.{lt-ltb, le-ltb, ltb-true, ltb-false, eq-eqb, ne_eqb, eqb-true, eqb-false}
use lib.Dec.{ltb, eqb}
use lib.ListN.{length, take, drop, length-take, length-drop}
use Rattle.octets.specs.Buffer.{laid}
use Rattle.octets.specs.Little.{Bytes}
use Rattle.octets.proofs.Buffer.{laid_none}
use Rattle.octets.proofs.Cases.{cases, holds?}
use Rattle.line_cutter.specs.Line.{line_most}
use Rattle.hexadecimal.specs.Hex.{worths, pair_by, unhex_by, decoded_by}
use Rattle.hexadecimal.proofs.Hex.{Decoding, decoding}
use Rattle.labelled.specs.declared.Parted.{Parted}
use Rattle.labelled.specs.Answer.{label, bad, labelled}
use Rattle.labelled.specs.Parted.{bytes_behind, frame_by, parted}
use Rattle.labelled.proofs.Answer.{answer_long, answer_tabless, line_good, line_part}

-- at most half as many bytes as digits
by_length : (table s : List ℕ) → 2 * length (unhex_by table s) ≤ length s
unfolding unhex_by
by_length table [] = omega arith
by_length table (a ∷ []) = omega arith
by_length table (a ∷ b ∷ s) =
    cases (holds? (ltb (pair_by table a b) 256)) (λ e. simp e (omega (arith, by_length table s))) (λ e. simp e (omega arith))

pub frame_within : (table l : List ℕ) (at room : ℕ) → 2 * length (decoded_by table l at room) ≤ length l
frame_within table l at room =
    omega (arith, length-take room (unhex_by table (drop at l)), by_length table (drop at l), length-drop at l)

-- what the code's test shows is what the definition says: a line is too long, or it is not
module _ (table l : List ℕ) (room : ℕ) where
  pub part_long : (frame : List ℕ) → line_most < length l →
      (Err (record { tab = 0; count = 0 }) ≡ parted table l room) × (frame ≡ laid frame 0 (frame_by table l room))
  unfolding parted
  part_long frame h = simp (lt-ltb line_most (length l) h) (refl, sym (laid_none frame 0))

  module _ (tab : ℕ) (e : tab ≡ length (label l)) (h : length l ≤ line_most) where
    module _ (count : ℕ) (f : count ≡ length (decoded_by table l (tab + 1) room)) where
      pub part_whole : tab + 1 + 2 * count ≡ length l → Ok (record { tab = tab; count = count }) ≡ parted table l room
      unfolding parted
      part_whole g =
          let t = rw (f, e) at (eq-eqb (tab + 1 + 2 * count) (length l) g) in
          rw (f, e) (simp (le-ltb line_most (length l) h, t))

      pub part_other : (tab + 1 + 2 * count ≡ length l → ⊥) → Err (record { tab = tab; count = count }) ≡ parted table l room
      unfolding parted
      part_other g =
          let t = rw (f, e) at (ne_eqb (tab + 1 + 2 * count) (length l) g) in
          rw (f, e) (simp (le-ltb line_most (length l) h, t))

    pub frame_short : decoded_by table l (tab + 1) room ≡ frame_by table l room
    frame_short = rw e (simp (le-ltb line_most (length l) h))

-- what taking a line apart by the values of hex digits tells, with room for 512 bytes: of a line of its form, and of another
pub record Whole (l : List ℕ) (p : Parted) (frame : List ℕ) : Type 0 where
  pub few : p.count ≤ 512
  pub whole : p.tab + 1 + 2 * p.count ≡ length l
  pub good : (said : List ℕ → List ℕ) → take p.tab l ++ said (take p.count frame) ≡ labelled said l

pub record Other (l : List ℕ) (p : Parted) : Type 0 where
  pub few : p.count ≤ 512
  pub other : (said : List ℕ → List ℕ) → bad ≡ labelled said l

abbrev pub Apart : List ℕ → Result Parted Parted → List ℕ → Type 0
Apart l (Ok p) frame = Whole l p frame
Apart l (Err p) frame = Other l p

-- nothing, of a line that is too long
apart_long : (l frame : List ℕ) → line_most < length l → Apart l (Err (record { tab = 0; count = 0 })) frame
apart_long l frame h = record { few = omega arith; other = λ said. sym (answer_long said l h) }

-- its label and its bytes, of another
module _ (l after : List ℕ) (tab count : ℕ) (short : length l ≤ line_most) (e : tab ≡ length (label l))
    (found : Decoding l (tab + 1) 512 count after) where
  abbrev found_there : Parted
  found_there = record { tab = tab; count = count }

  apart_whole : eqb (tab + 1 + 2 * count) (length l) ≡ true → Whole l found_there after
  apart_whole g =
      let w : tab + 1 + 2 * count ≡ length l = eqb-true _ _ g in
      record {
        few = found.few;
        whole = w;
        good = λ said.
            ap (λ (u : List ℕ). take tab l ++ said u) found.bytes
            ∙ line_good said l tab count e short (omega (arith, w)) found.count w;
      }

  apart_other : eqb (tab + 1 + 2 * count) (length l) ≡ false → Other l found_there
  apart_other g = record {
    few = found.few;
    other = λ said.
        cases (holds? (ltb tab (length l)))
        (λ k. line_part said l tab count e short (ltb-true tab (length l) k) found.count (eqb-false (tab + 1 + 2 * count) (length l) g))
        (λ k. let past = ltb-false tab (length l) k in sym (answer_tabless said l (omega (arith, e, past))));
  }

  apart_short : Apart l (cond (eqb (tab + 1 + 2 * count) (length l)) (Ok found_there) (Err found_there)) after
  apart_short =
      cases (holds? (eqb (tab + 1 + 2 * count) (length l))) (λ g. simp g (apart_whole g)) (λ g. simp g (apart_other g))

pub apart : (table l frame after : List ℕ) (r : Result Parted Parted) → table ≡ worths 256 → Bytes l → length frame ≡ 512 →
    (r ≡ parted table l (length frame)) × (after ≡ laid frame 0 (frame_by table l (length frame))) →
    Apart l r after
unfolding parted
apart table l frame after r t b room e =
    cases (holds? (ltb line_most (length l)))
    (λ long. rw e.0 (simp long (apart_long l after (ltb-true line_most (length l) long))))
    (λ short.
    let bytes = bytes_behind table l (length frame) in
    let stored : after ≡ laid frame 0 bytes = e.1 ∙ simp short in
    let found = decoding table l frame after (length (label l) + 1) (length bytes) 512 t b room (refl, stored) in
    rw e.0 (simp short (apart_short l after (length (label l)) (length bytes) (ltb-false line_most (length l) short) refl found)))
