-- `address::address_at` meets its contract: each field is the definition's, the address behind its PAN id or where the slice ends.
-- Assumes nothing.
use Rattle.octets.proofs.Little.{number_behind}
use Rattle.address.specs.Layout.{pan_length, address_in}
use Rattle.address.proofs.address_at.Goals as goal

pub returns-in-Short : goal.returns-in-Short
unfolding address_in
returns-in-Short c =
    let a = c.args in
    rw (
      c.in-Short.is,
      c.pan_at-pan_id.ensures,
      c.u16_at-short.ensures,
      c.behind.ensures,
      c.pan_octets.ensures.value,
      number_behind a.s.now a.at (pan_length a.own) 2,
    )

pub returns-in-Extended : goal.returns-in-Extended
unfolding address_in
returns-in-Extended c =
    let a = c.args in
    rw (
      c.in-Extended.is,
      c.pan_at-pan_id-in-Extended.ensures,
      c.u64_at-extended.ensures,
      c.behind-in-Extended.ensures,
      c.pan_octets-in-Extended.ensures.value,
      number_behind a.s.now a.at (pan_length a.own) 8,
    )

pub returns-in-None : goal.returns-in-None
unfolding address_in
returns-in-None c = rw c.in-None.is
