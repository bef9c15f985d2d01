-- What a number says of what comes next in the input.
use Rattle.std.specs.Prelude.{ℕ, cond, eqb}
use Rattle.line_io.specs.{declared.Next.Next}
use Rattle.line_io.specs.declared.Next.TheVariants.{More, Ended, Failed}

abbrev pub next_of : ℕ → Next
next_of n = cond (eqb n 0) More (cond (eqb n 1) Ended Failed)
