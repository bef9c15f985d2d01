-- `address::put_pan` meets its contract: by whether the PAN id is in the frame.
-- Assumes nothing.
use mathlib.Core.Path.{sym}
use native.Mathlib.Omega.{arith}
use Rattle.octets.proofs.Buffer.{laid_none}
use Rattle.address.proofs.put_pan.Goals as goal

pub returns-then-own : goal.returns-then-own
returns-then-own c =
    record {
      value = rw c.if-own.true (c.put.ensures.value);
      out_after = rw c.if-own.true (c.put.ensures.out_after);
    }

pub returns-else-own : goal.returns-else-own
returns-else-own c =
    record {
      value = rw c.if-own.false (omega arith);
      out_after = rw c.if-own.false (sym (laid_none _ _));
    }
