-- `address::Address::broadcast` meets its contract: by the mode.
-- Assumes nothing.
use Rattle.address.proofs.Address.broadcast.Goals as goal

pub returns-in-Short : goal.returns-in-Short
returns-in-Short c = rw c.in-Short.is

pub returns-in-Extended : goal.returns-in-Extended
returns-in-Extended c = rw c.in-Extended.is
