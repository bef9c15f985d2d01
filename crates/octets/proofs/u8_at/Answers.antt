-- `octets::u8_at` meets its contract: the byte, or 0 past the end.
-- Assumes nothing.
use native.Mathlib.Omega.{arith}
use Rattle.std.proofs.lemmas.Grind.{common_steps}
use Rattle.octets.proofs.Little.{number_one}
use Rattle.octets.proofs.u8_at.Goals as goal

pub returns : goal.returns
returns c = grind (arith, common_steps, number_one)
