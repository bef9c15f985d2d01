-- Laws of what a chunk of the input leads to, and its end: which chunks are taken, and what they leave.
-- Assumes nothing.
use Prim.Native.Nat.{ℕ, ◌+◌, ◌-◌, ◌*◌, ◌/◌, ◌≤◌, ◌<◌}
use native.Mathlib.Omega.{arith}
use mathlib.Core.Bool.{true, false, ◌&&◌, and-false, false≢true}
use mathlib.Core.List.{List, [], ◌++◌}
use mathlib.Core.Path.{◌≡◌, refl, sym, ◌∙◌}
use borrow.Author.Tests.{leb-true, leb-false, le-leb, lt-leb, eqb-true, eqb-false, eq-eqb, ne_eqb}
use lib.Dec.{leb, eqb}
use lib.ListN.{length, take, replicate, length-take}
use lib.Seq.{length-take-le, take-append_seam}
use Rattle.octets.proofs.Cases.{cases, holds?}
use Rattle.line_cutter.specs.Answers.{fed_to, answers}
use Rattle.line_cutter.specs.Line.{kept_most}
use Rattle.line_cutter.specs.Lines.{begun, last}
use Rattle.line_cutter.proofs.Answers.{last_none, last_some}
use Rattle.lines.specs.declared.Fed.{Fed}
use Rattle.lines.specs.Answer.{answer}
use Rattle.lines.specs.Chunks.{takes, feeding, ending}

-- a chunk is taken where nothing is missing, and only there
module _ (size line n room : ℕ) where
  pub other_line : (line ≡ kept_most → ⊥) → takes size line n room ≡ false
  unfolding takes
  other_line h = simp (ne_eqb line kept_most h)

  pub too_many : kept_most < n → takes size line n room ≡ false
  unfolding takes
  too_many h = simp (lt-leb n kept_most h, and-false)

  pub no_room : room < kept_most + 5 * size → takes size line n room ≡ false
  unfolding takes
  no_room h = simp (lt-leb (kept_most + 5 * size) room h, and-false)

  pub all_there : line ≡ kept_most → n ≤ kept_most → kept_most + 5 * size ≤ room → takes size line n room ≡ true
  unfolding takes
  all_there e h k = simp (eq-eqb line kept_most e, le-leb n kept_most h, le-leb (kept_most + 5 * size) room k)

  -- with a line buffer as it should be the room decides
  pub by_room : line ≡ kept_most → n ≤ kept_most → kept_most ≤ room → leb size ((room - kept_most) / 5) ≡ takes size line n room
  by_room e h k =
      cases (holds? (leb size ((room - kept_most) / 5)))
      (λ t. let l : size ≤ (room - kept_most) / 5 = leb-true _ _ t in t ∙ sym (all_there e h (omega arith)))
      (λ t. let l : (room - kept_most) / 5 < size = leb-false _ _ t in t ∙ sym (no_room (omega arith)))

  module _ (t : takes size line n room ≡ true) where
    pub line_long : line ≡ kept_most
    line_long =
        cases (holds? (eqb line kept_most)) (λ e. eqb-true _ _ e)
        (λ e. absurd (false≢true (sym (other_line (eqb-false _ _ e)) ∙ t)))

    pub few_kept : n ≤ kept_most
    few_kept =
        cases (holds? (leb n kept_most)) (λ e. leb-true _ _ e)
        (λ e. absurd (false≢true (sym (too_many (leb-false _ _ e)) ∙ t)))

    pub room_there : kept_most + 5 * size ≤ room
    room_there =
        cases (holds? (leb (kept_most + 5 * size) room)) (λ e. leb-true _ _ e)
        (λ e. absurd (false≢true (sym (no_room (leb-false _ _ e)) ∙ t)))

module _ (chunk line : List ℕ) (n : ℕ) (out : List ℕ) where
  -- a chunk that is refused leaves all as it was
  pub fed_refused : takes (length chunk) (length line) n (length out) ≡ false →
      (record { n = n; used = 0; taken = false } ≡ (feeding chunk line n out).fed)
      × ((line ≡ (feeding chunk line n out).line) × (out ≡ (feeding chunk line n out).out))
  unfolding feeding
  fed_refused t = rw t (refl, (refl, refl))

  -- one that is taken: of a line buffer m bytes are kept, and zeros stored behind them
  pub fed_taken : (held o : List ℕ) (m used : ℕ) → takes (length chunk) (length line) n (length out) ≡ true →
      record { out = o; used = used; kept = take m held } ≡ fed_to answer (take n line) chunk out 0 →
      length held ≡ kept_most → m ≤ kept_most →
      (record { n = m; used = used; taken = true } ≡ (feeding chunk line n out).fed)
      × ((take m held ++ replicate (length held - m) 0 ≡ (feeding chunk line n out).line) × (o ≡ (feeding chunk line n out).out))
  unfolding feeding
  fed_taken held o m used t e long h =
      let k : length (take m held) ≡ m = length-take-le m held (omega arith) in
      rw (t, sym e, k, long) (refl, (refl, refl))

  -- what is then kept is at the front of the line buffer
  pub fed_left : length line ≡ kept_most → n ≤ kept_most → kept_most + 5 * length chunk ≤ length out → (r : Fed) (l o : List ℕ) →
      (r ≡ (feeding chunk line n out).fed) × ((l ≡ (feeding chunk line n out).line) × (o ≡ (feeding chunk line n out).out)) →
      (record { out = o; used = r.used; kept = take r.n l } ≡ fed_to answer (take n line) chunk out 0) × (r.n ≤ kept_most)
  unfolding feeding fed_to
  fed_left long h k r l o e =
      let kept = take kept_most (begun (take n line) chunk) in
      let t = all_there (length chunk) (length line) n (length out) long h k in
      rw (e.0, e.1.0, e.1.1, t, take-append_seam kept (replicate (kept_most - length kept) 0))
      (refl, omega (arith, length-take kept_most (begun (take n line) chunk)))

-- the end of the input: nothing is kept, it is not there, it has no room, or it is answered
module _ (line : List ℕ) (n room : ℕ) where
  pub ending_none : n ≡ 0 → [] ≡ ending line n room
  unfolding ending
  ending_none e =
      rw (sym (last_none answer line n e))
      (cases (holds? (leb n (length line) && leb (n + 5) room)) (λ t. simp t) (λ t. simp t))

  pub ending_short : length line < n → [] ≡ ending line n room
  unfolding ending
  ending_short h = simp (lt-leb n (length line) h)

  pub ending_full : room < n + 5 → [] ≡ ending line n room
  unfolding ending
  ending_full h = simp (lt-leb (n + 5) room h, and-false)

  pub ending_whole : n ≤ length line → n + 5 ≤ room → answers answer (last (take n line)) ≡ ending line n room
  unfolding ending
  ending_whole h k = simp (le-leb n (length line) h, le-leb (n + 5) room k)

  pub ending_some : n ≤ length line → n + 5 ≤ room → 0 < n → answer (take n line) ≡ ending line n room
  ending_some h k s = last_some answer (take n line) (omega (arith, length-take-le n line h)) ∙ ending_whole h k
