-- The list of a frame that is not rewritten, and of one that is.
-- Assumes nothing.
use Prim.Native.Nat.{ℕ}
use mathlib.Core.Bool.{Bool, true, false, not}
use mathlib.Core.List.{List, []}
use mathlib.Core.Path.{◌≡◌, ap}
use Rattle.std.specs.Prelude.{Ok, Err, is_ok}
use Rattle.octets.specs.Outcome.{Outcome}
use Rattle.beacon.specs.Beacon.{refuses}
use Rattle.alterations.specs.Listed.{listed}
use Rattle.alterations.specs.Rewriting.{rewrite_frame}
use Rattle.alterations.specs.Altered.{altered_in, altered}

pub refusing : (o : Outcome) (b : Bool) → is_ok o ≡ b → refuses o ≡ not b
refusing (Ok n) b e = ap not e
refusing (Err r) b e = ap not e

pub altered_none : (s : List ℕ) → refuses (rewrite_frame s) ≡ true → altered s ≡ []
unfolding altered
altered_none s t = simp t

pub altered_some : (s : List ℕ) → refuses (rewrite_frame s) ≡ false → altered s ≡ altered_in s (listed s)
unfolding altered
altered_some s f = simp f
