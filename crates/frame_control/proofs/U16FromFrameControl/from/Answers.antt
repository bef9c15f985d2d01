-- `frame_control::FrameControl::into` meets its contract.
-- Assumes nothing.
use native.Mathlib.Omega.{arith}
use Rattle.frame_control.specs.Control.{control_bits}
use Rattle.frame_control.proofs.U16FromFrameControl.from.Goals as goal

pub returns : goal.returns
unfolding control_bits
returns c = omega (arith, c)
