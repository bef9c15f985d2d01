-- `key_identifier::key_at` meets its contract: each field is the definition's, the index behind the source or where the slice ends.
-- Assumes nothing.
use Rattle.octets.proofs.Little.{number_behind}
use Rattle.key_identifier.specs.Key.{key_in}
use Rattle.key_identifier.proofs.key_at.Goals as goal

pub returns-in-KeySource4 : goal.returns-in-KeySource4
unfolding key_in
returns-in-KeySource4 c =
    let a = c.args in
    rw (
      c.in-KeySource4.is,
      c.u32_at.ensures,
      c.u8_at-in-KeySource4.ensures,
      c.behind.ensures,
      number_behind a.s.now a.at 4 1,
    )

pub returns-in-KeySource8 : goal.returns-in-KeySource8
unfolding key_in
returns-in-KeySource8 c =
    let a = c.args in
    rw (
      c.in-KeySource8.is,
      c.u64_at.ensures,
      c.u8_at-in-KeySource8.ensures,
      c.behind-in-KeySource8.ensures,
      number_behind a.s.now a.at 8 1,
    )

pub returns-in-None : goal.returns-in-None
unfolding key_in
returns-in-None c = rw c.in-None.is

pub returns-in-KeyIndex : goal.returns-in-KeyIndex
unfolding key_in
returns-in-KeyIndex c = rw (c.in-KeyIndex.is, c.u8_at.ensures)
