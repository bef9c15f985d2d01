-- However the program's input is cut into chunks, what it writes is what the plain definition says of the lines of the whole.
-- Assumes nothing.
use Prim.Native.Nat.{ℕ}
use native.Mathlib.Omega.{arith}
use mathlib.Core.List.{List, [], ◌∷◌, ◌++◌, append_assoc}
use mathlib.Core.Path.{◌≡◌, refl, sym, ap, ◌∙◌}
use lib.ListN.{take}
use Rattle.line_cutter.specs.Line.{kept_most}
use Rattle.line_cutter.specs.Lines.{ended, begun, lines, run, joined, in_chunks}
use Rattle.line_cutter.specs.Telling.{told, told_in_chunks}
use Rattle.line_cutter.proofs.Lines.{however_cut}
use Rattle.line_cutter.proofs.Telling.{told_whole}
use Rattle.line_teller.specs.Written.{written}
use Rattle.trace.specs.Plain.{Trace}
use Rattle.trace.specs.Output.{summary, output}
use Rattle.trace.specs.Steps.{untold, step_on, says, closing, printed}
use Rattle.trace.specs.Sees.{step_sees, says_sees}
use Rattle.trace.proofs.Plainly.{output_told}

-- what is told on the way, and then the counts that this leads to
in_chunks_lem : (cs : List (List ℕ)) (t : Trace) (l : List ℕ) →
    printed t l cs ≡ told_in_chunks step_on says t l cs ++ summary (in_chunks step_on kept_most t l cs)
unfolding printed closing told_in_chunks in_chunks
in_chunks_lem [] t l = refl
in_chunks_lem (c ∷ cs) t l =
    let z = run step_on t (ended l c) in
    let k = take kept_most (begun l c) in
    ap (λ (s : List ℕ). told step_on says t (ended l c) ++ s) (in_chunks_lem cs z k)
    ∙ sym (append_assoc (told step_on says t (ended l c)) (told_in_chunks step_on says z k cs) (summary (in_chunks step_on kept_most z k cs)))

pub trace_printed : (cs : List (List ℕ)) → printed untold [] cs ≡ output (lines (joined cs))
trace_printed cs =
    in_chunks_lem cs untold []
    ∙ ap (λ (s : List ℕ). s ++ summary (in_chunks step_on kept_most untold [] cs)) (told_whole step_on says step_sees says_sees untold cs)
    ∙ ap (λ (t : Trace). told step_on says untold (lines (joined cs)) ++ summary t) (however_cut step_on kept_most (omega arith) step_sees untold cs)
    ∙ output_told (lines (joined cs))

-- the same of what its `Teller` says is written
pub trace_written : (cs : List (List ℕ)) → written step_on says summary untold cs ≡ output (lines (joined cs))
unfolding written
trace_written cs = sym (in_chunks_lem cs untold []) ∙ trace_printed cs
