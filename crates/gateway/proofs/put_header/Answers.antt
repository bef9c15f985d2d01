-- `gateway::put_header` meets its contract: the bytes read are copied, and the listed bits are cleared in the copy.
-- Assumes nothing.
use mathlib.Core.Path.{sym, ◌∙◌}
use native.Mathlib.Omega.{arith}
use lib.Seq.{length-take-le}
use Rattle.header_bytes.specs.Cleared.{cleared_by}
use Rattle.gateway.proofs.HeaderRewriting.{header_accepted}
use Rattle.gateway.proofs.put_header.Goals as goal

pub slice_bounds-copy-end : goal.slice_bounds-copy-end
slice_bounds-copy-end c = sym (length-take-le _ _ (header_accepted _ _ _ c.requires).within)

pub control-requires : goal.control-requires
control-requires c = let q = header_accepted _ _ _ c.requires in omega (arith, q.within, q.three)

pub clear_header-requires : goal.clear_header-requires
clear_header-requires c =
    let q = header_accepted _ _ _ c.requires in record {
      in_bounds = omega (arith, q.three, q.fits);
      w_in_bounds = rw c.control.ensures (λ on. omega (arith, q.secured on, q.fits));
    }

pub returns : goal.returns
returns c =
    c.clear_header.ensures
    ∙ (λ i. cleared_by (c.control.ensures i) (c.copy.ensures.out_after i))
    ∙ (header_accepted _ _ _ c.requires).copied
