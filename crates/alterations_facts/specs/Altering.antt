-- The engineer's rule: every bit that rewriting alters is named before it is written.
use Rattle.std.specs.Prelude.{ℕ, ◌≤◌, ◌<◌, true, not, ◌&&◌, List, [], ◌++◌, ◌≡◌, eqb, length, take, drop, Ok}
use Rattle.header.specs.Read.{read_header}
use Rattle.alterations.specs.{Listed.listed, Altered.altered, Altered.told, Altered.alterations, Altered.leaves_alone}
use Rattle.alterations_facts.specs.Named.{bit_at, named, is_listed, Rising}
use Rattle.alterations_facts.specs.Bridge.{bridge_after, driven}

-- what holds of a frame s of which m bytes are rewritten, and of any buffer with room for them
pub record Altering (s : List ℕ) (m : ℕ) (out : List ℕ) : Type 0 where
  pub within : m ≤ length s
  -- the list names a bit if it is set in the frame and is one of the listed bits of its parts
  pub names : (i b : ℕ) → b < 8 → named (altered s) i b ≡ (bit_at s i b && is_listed (listed s) i b)
  -- such a bit lies in the bytes that are rewritten
  pub set : (i b : ℕ) → b < 8 → named (altered s) i b ≡ true → (i < m) × (bit_at s i b ≡ true)
  -- in the order of the bytes, each once
  pub rising : Rising (altered s)
  -- the buffer then holds the frame's bits, but for these, which are 0, and for no others; later bytes stay
  pub exact : (i b : ℕ) → i < m → b < 8 →
      bit_at (bridge_after s (read_header s) out) i b ≡ (bit_at s i b && not (named (altered s) i b))
  pub kept : drop m (bridge_after s (read_header s) out) ≡ drop m out
  -- the list is empty exactly where rewriting gives the same bytes
  pub same : altered s ≡ [] → take m (bridge_after s (read_header s) out) ≡ take m s
  pub only : take m (bridge_after s (read_header s) out) ≡ take m s → altered s ≡ []
  -- and that is what the test tells
  pub alone : leaves_alone s ≡ eqb (length (altered s)) 0
  -- of the rewritten frame the list is empty
  pub settled : alterations (bridge_after s (read_header s) out) ≡ told (Ok m) []
  -- bytes added behind alter none of it
  pub behind : (more : List ℕ) → alterations (s ++ more) ≡ alterations s
  -- the C entries leave the same buffer
  pub entries : driven s out ≡ bridge_after s (read_header s) out
