-- `gateway::knobtangle_read_header` meets its contract: it is the code of what measuring tells, and below three bytes of refusal 1.
-- Assumes nothing.
use Prim.Native.Nat.{ℕ, ◌<◌}
use mathlib.Core.List.{List}
use mathlib.Core.Path.{◌≡◌, ap, ◌∙◌}
use borrow.Author.Tests.{lt-ltb}
use lib.ListN.{length}
use Rattle.header_bytes.specs.Reading.{measured}
use Rattle.gateway.proofs.knobtangle_read_header.Goals as goal
use Rattle.std.specs.Prelude.{Err}
use Rattle.octets.specs.Outcome.{code_of}
use Rattle.octets.specs.declared.Refusal.TheVariants.{Ended}

ended : (s : List ℕ) → length s < 3 → Err Ended ≡ measured s
unfolding measured
ended s h = rw (lt-ltb (length s) 3 h)

pub returns-then-frame-lt3 : goal.returns-then-frame-lt3
returns-then-frame-lt3 c = c.code.ensures ∙ ap code_of (ended c.args.frame.now c.if-frame-lt3.true)
