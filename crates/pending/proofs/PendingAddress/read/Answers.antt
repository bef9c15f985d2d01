-- `pending::PendingAddress::read` meets its contract: its tests are the definition's, in turn.
-- Assumes nothing.
use native.Mathlib.Nat.{div-one}
use Rattle.octets.proofs.Part.{fewer, enough}
use Rattle.pending.specs.Addresses.{short_at, extended_at}
use Rattle.pending.specs.Pending.{pending_in, read_pending}
use Rattle.pending.proofs.PendingAddress.read.Goals as goal

pub returns-then-left-lt1 : goal.returns-then-left-lt1
unfolding read_pending
returns-then-left-lt1 c = simp (fewer c.left.ensures c.if-left-lt1.true, c.refused.ensures)

pub returns-then-left-length : goal.returns-then-left-length
unfolding read_pending
returns-then-left-length c =
    simp (
      div-one,
      enough c.left.ensures c.if-left-lt1.false,
      fewer c.left-2.ensures (rw c.u8_at-header.ensures at c.if-left-length.true),
      c.refused-then-left-length.ensures,
    )

pub returns : goal.returns
unfolding pending_in read_pending short_at extended_at
returns c =
    simp (
      div-one,
      enough c.left.ensures c.if-left-lt1.false,
      enough c.left-2.ensures (rw c.u8_at-header.ensures at c.if-left-length.false),
      c.addresses_at-extended_addresses.ensures,
      c.addresses_at-short_addresses.ensures,
      c.u8_at-header.ensures,
    )
