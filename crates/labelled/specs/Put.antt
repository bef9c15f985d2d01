-- A store that takes as much as has room.
use Rattle.std.specs.Prelude.{ℕ, ◌+◌, ◌-◌, min, List, ◌≡◌, length}
use Rattle.octets.specs.{Buffer.laid}

-- o is the buffer l with b stored from a place on, as much of it as has room, and r is the place behind that
pub record Put (l : List ℕ) (at : ℕ) (b o : List ℕ) (r : ℕ) : Type 0 where
  pub bytes : o ≡ laid l at b
  pub next : r ≡ at + min (length b) (length l - at)
