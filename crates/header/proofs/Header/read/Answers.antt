-- `header::Header::read` meets its contract: what measuring refuses is refused, and what it accepts is the record of the fields.
-- Assumes nothing.
use Rattle.std.proofs.lemmas.Result.{err_from_is_err_and}
use Rattle.header.proofs.Apart.{refused_read, accepted_read}
use Rattle.header.proofs.Header.read.Goals as goal

pub returns-in_err-length : goal.returns-in_err-length
returns-in_err-length c =
    let p = err_from_is_err_and c.from_residual.result c.from_residual.ensures.1 in
    rw (p.1, p.2) (refused_read _ _ c.in_err-length.ensures)

pub returns : goal.returns
returns c = rw c.header_in.ensures (accepted_read _ _ _ c.u16_at.ensures c.in_ok-length.ensures)
