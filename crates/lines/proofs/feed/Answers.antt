-- `lines::feed` meets its contract: a chunk that is not taken leaves all as it was; of one that is, what is kept of the next line stays,
-- and zeros are stored behind it.
-- Assumes nothing.
use Rattle.std.proofs.Common.{ℕ, ◌-◌, ◌≡◌, List, [], length, take, drop, replicate, sym, ap, ◌∙◌, arith}
use borrow.Rule.Slice.PartMut.{post_of}
use mathlib.Core.List.{append-nil}
use lib.ListN.{length-drop, drop_of_length-le}
use lib.Seq.{length-take-le}
use Rattle.octets.specs.Buffer.{laid, fitting}
use Rattle.octets.proofs.Copying.{fitting_all}
use Rattle.octets.proofs.Stored.{front}
use Rattle.line_cutter.specs.Answers.{fed_to}
use Rattle.line_cutter.proofs.Answers.{left, fed_worked}
use Rattle.lines.specs.Answer.{answer}
use Rattle.lines.proofs.Chunks.{line_long, few_kept, room_there, fed_refused, fed_taken}
use Rattle.lines.proofs.feed.Goals as goal

pub slice_bounds-of-end : goal.slice_bounds-of-end
slice_bounds-of-end c =
    let taken = sym c.takes.ensures ∙ c.if-not-takes.false in
    omega (arith, few_kept _ _ _ _ taken, line_long _ _ _ _ taken)

pub slice_bounds-of-end-2 : goal.slice_bounds-of-end-2
slice_bounds-of-end-2 c =
    let taken = sym c.takes.ensures ∙ c.if-not-takes.false in
    sym (length-take-le _ _ (omega (arith, few_kept _ _ _ _ taken, line_long _ _ _ _ taken)))

pub of-kept-requires : goal.of-kept-requires
of-kept-requires c =
    let taken = sym c.takes.ensures ∙ c.if-not-takes.false in
    let few = few_kept _ _ _ _ taken in
    omega (arith, few, length-take-le c.args.n c.args.line.now (omega (arith, few, line_long _ _ _ _ taken)))

pub feed-used-requires : goal.feed-used-requires
feed-used-requires c = room_there _ _ _ _ (sym c.takes.ensures ∙ c.if-not-takes.false)

pub returns-then-not-takes : goal.returns-then-not-takes
returns-then-not-takes c =
    let a = c.args in
    let s = fed_refused a.chunk.now a.line.now a.n a.out.now (sym c.takes.ensures ∙ c.if-not-takes.true) in record {
      value = s.0;
      line_after = s.1.0;
      out_after = s.1.1;
      used_in_bounds = omega arith;
    }

pub returns : goal.returns
returns c =
    let a = c.args in
    let taken = sym c.takes.ensures ∙ c.if-not-takes.false in
    let long = line_long _ _ _ _ taken in
    -- what is kept of the next line
    let kept = c.feed-used.new.line in
    let bytes = c.bytes.result.now in
    let size : length bytes ≡ kept.n = ap length c.bytes.ensures ∙ length-take-le kept.n kept.bytes (omega (arith, kept.few, kept.long)) in
    let all : fitting a.line.now 0 bytes ≡ bytes = fitting_all a.line.now 0 bytes (omega (arith, size, kept.few, long)) in
    let end : c.copy-end.result ≡ kept.n = omega (arith, c.copy-end.ensures.value, ap length all, size) in
    let fed : record { out = c.feed-used.new.out; used = c.feed-used.result; kept = take kept.n kept.bytes } ≡ fed_to answer (take a.n a.line.now) a.chunk.now a.out.now 0 =
    ap left c.feed-used.ensures.after ∙ sym (fed_worked answer _ a.chunk.now a.out.now 0) ∙ ap (λ (l : List ℕ). fed_to answer l a.chunk.now a.out.now 0) c.of-kept.ensures in
    let s = fed_taken a.chunk.now a.line.now a.n a.out.now kept.bytes _ kept.n c.feed-used.result taken fed kept.long kept.few in
    let here : take c.copy-end.result c.copy-end.new.out ≡ take kept.n kept.bytes =
    ap (take c.copy-end.result) (c.copy-end.ensures.out_after ∙ ap (laid a.line.now 0) all)
    ∙ front a.line.now bytes c.copy-end.result (size ∙ sym end) (omega (arith, end, kept.few, long)) ∙ c.bytes.ensures in
    let after = c.copy-end.new.out in
    let zeros : c.fill.new.self ≡ replicate (length kept.bytes - kept.n) 0 =
    c.fill.ensures.after (λ y h. h)
    ∙ ap (λ (k : ℕ). replicate k 0) (omega (arith, length-take-le (length after - c.copy-end.result) (drop c.copy-end.result after) (omega (arith, length-drop c.copy-end.result after)), end, c.copy-end.auto.out, long, kept.long)) in
    let none : post_of c.copy-end.result (length after - c.copy-end.result) after ≡ [] =
    drop_of_length-le (drop c.copy-end.result after) (omega (arith, length-drop c.copy-end.result after)) in
    record {
      value = rw end s.0;
      line_after = rw (here, zeros, none, append-nil) s.1.0;
      out_after = s.1.1;
      used_in_bounds = c.feed-used.ensures.used_in_bounds;
    }
