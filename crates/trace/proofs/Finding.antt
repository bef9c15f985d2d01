-- A line that was found in a chunk is a step of the program.
-- Assumes nothing.
use Prim.Native.Nat.{ℕ, ◌+◌, ◌-◌, ◌≤◌, ◌<◌}
use native.Mathlib.Omega.{arith}
use mathlib.Core.List.{List}
use mathlib.Core.Path.{◌≡◌, sym, ap, ◌∙◌}
use borrow.Author.Tests.{lt-ltb}
use lib.ListN.{length, take, drop, length-drop}
use lib.Seq.{length-take-le}
use Rattle.octets.specs.Stored.{Stored}
use Rattle.octets.proofs.Stored.{same}
use Rattle.line_cutter.specs.Line.{line_feed, line_of}
use Rattle.line_cutter.proofs.Line.{before_free}
use Rattle.line_teller.specs.Quick.{Quick}
use Rattle.header.specs.Read.{read_header}
use Rattle.trace_line.specs.declared.Parts.{Parts}
use Rattle.trace_line.specs.declared.Saying.{Saying}
use Rattle.trace_line.specs.Saying.{of_header, saying}
use Rattle.trace_line.proofs.Telling.{Lying}
use Rattle.trace.specs.Plain.{Trace}
use Rattle.trace.specs.Steps.{step_on, says}
use Rattle.trace.specs.State.{step_said}
use Rattle.trace.specs.Next.{says_said}
use Rattle.trace.proofs.OneLine.{step_said_lem, says_said_lem}

-- a line that lies in its chunk as a whole is told from there
pub lies : (chunk : List ℕ) (at : ℕ) (r : Parts) (frame : List ℕ) (said : Saying) → Lying chunk at r frame →
    said ≡ of_header (read_header (take r.count frame)) r.size → (t z : Trace) (out o : List ℕ) (used next : ℕ) →
    z ≡ step_said t said → Stored out used (says_said t said) o next → next ≤ used + 16 → r.end < length chunk →
    Quick step_on says 16 t z chunk at out used o (record { at = r.end + 1; used = next })
lies chunk at r frame said k e t z out o used next moved stored few within =
    let x = take (r.end - at) (drop at chunk) in
    let f : said ≡ saying x = e ∙ k.said in
    let line : line_of (drop at chunk) ≡ x = ap (λ (l : List ℕ). line_of l) k.parted ∙ before_free line_feed x (drop (r.end + 1) chunk) k.free in
    let long : length x ≡ r.end - at = length-take-le (r.end - at) (drop at chunk) (omega (arith, length-drop at chunk, within)) in
    record {
      ends = lt-ltb _ _ (omega (arith, ap length line, long, length-drop at chunk, within, k.begins));
      place = omega (arith, ap length line, long, k.begins);
      state = moved ∙ ap (step_said t) f ∙ sym (step_said_lem t x) ∙ ap (step_on t) (sym line);
      stored = same (ap (says_said t) f ∙ sym (says_said_lem t x) ∙ ap (says t) (sym line)) stored;
      few = omega (arith, few);
    }
