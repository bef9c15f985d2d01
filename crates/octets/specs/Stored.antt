-- A store into a buffer, and the place behind it.
use Rattle.std.specs.Prelude.{ℕ, ◌+◌, List, ◌≡◌, length}
use Rattle.octets.specs.{Buffer.laid}

-- o is the buffer l with b stored from a place on, and r is the place behind it
pub record Stored (l : List ℕ) (at : ℕ) (b o : List ℕ) (r : ℕ) : Type 0 where
  pub bytes : o ≡ laid l at b
  pub next : r ≡ at + length b
