-- `trace::Tracing::new`: nothing is read yet.
-- Assumes nothing.
use Rattle.std.proofs.Common.{refl}
use Rattle.senders.specs.Table.{counted_in}
use Rattle.trace.proofs.Bounds.{within_untold}
use Rattle.trace.proofs.Whole.{trace_written}
use Rattle.trace.proofs.Tracing.new.Goals as goal

pub invariant_of-result-clause-rows : goal.invariant_of-result-clause-rows
invariant_of-result-clause-rows c = refl

pub invariant_of-result-clause-within : goal.invariant_of-result-clause-within
unfolding counted_in
invariant_of-result-clause-within c = within_untold

pub returns : goal.returns
unfolding counted_in
returns c = trace_written
