-- `pieces::HeaderReader::gather` meets its contract: each turn takes one byte more, and the piece may end before the bytes awaited do.
-- Assumes nothing.
use Prim.Native.Nat.{ℕ, ◌+◌, ◌≤◌}
use native.Mathlib.Omega.{arith}
use mathlib.Core.List.{◌∷◌}
use mathlib.Core.Path.{◌≡◌, sym, ap, ◌∙◌}
use lib.ListN.{length, drop, get_or, set, length-set, drop_of_length-le}
use Rattle.pieces.specs.Steps.{gathered}
use Rattle.pieces.proofs.Growing.{reader, onward, onward_from, onward_before, onward_last, onward_end}
use Rattle.pieces.proofs.HeaderReader.gather.Goals as goal
use Rattle.pieces.proofs.HeaderReader.gather.Goals.{then-self-2, else-self-2}

pub loop-byte-preserved : goal.loop-byte-preserved
loop-byte-preserved c =
    let l = c.loop-byte in
    let r = l.self in
    let p = c.args.piece.now in
    let x = get_or p l.byte-index 0 in
    let b = set r.bytes r.count x in
    let left = drop (l.byte-index + 1) p in
    let whole : length b ≡ 37 = simp length-set l.invariant.0 in
    let wants = c.if-self.false in
    let room : r.count + 1 ≤ 37 = omega (arith, wants, l.invariant.2) in
    let rest = onward_from r p l.byte-index (omega arith) wants ∙ l.invariant.3 in
    elim c.if-self-2.branch [
      | then-self-2 w ↦
          rw w.self-is (
            whole,
            room,
            w.awaited_with.ensures.upper_bound,
            ap (λ (n : ℕ). onward (reader b (r.count + 1) n) left) w.awaited_with.ensures.value
                ∙ onward_last r.bytes r.count x left (omega (arith, room, l.invariant.0))
                ∙ ap (λ (n : ℕ). gathered (reader r.bytes r.count n) (x ∷ left)) w.if-self-2.true
                ∙ rest,
          )
      | else-self-2 w ↦
          rw w.self-is (
            whole,
            room,
            l.invariant.2,
            onward_before r.bytes r.count x left r.awaited (omega (arith, room, l.invariant.0))
                (omega (arith, wants, w.if-self-2.false))
                ∙ rest,
          )
    ]

pub returns-after-loop-byte-clause-value : goal.returns-after-loop-byte-clause-value
returns-after-loop-byte-clause-value c =
    let l = c.loop-byte in
    let r = l.self in
    let done = drop_of_length-le c.args.piece.now {i = l.byte-index} (omega arith) in
    sym (ap (onward r) done ∙ onward_end r.bytes r.count r.awaited (omega (arith, l.invariant.0, l.invariant.1))) ∙ l.invariant.3
