-- Demand 3 for any part that can be read and written: what is promised of a value that was read, and of a value that is
-- written.
use Rattle.std.specs.Prelude.{ℕ, ◌+◌, ◌-◌, ◌≤◌, Bool, false, List, ◌++◌, ◌≡◌, length, take, drop, Ok}
use Rattle.octets.specs.{Buffer.laid, Buffer.after, Little.Bytes, Outcome.Outcome}

-- the definitions of one part: values X, reader's answers R
pub record Format (X R : Type 0) : Type 1 where
  -- what reading at a place answers, and the answer that accepts a value and a length
  pub read : List ℕ → ℕ → R
  pub accepts : X → ℕ → R
  -- what writing answers: refusal 8, the bytes and how many they are
  pub write : X → List ℕ → ℕ → Outcome
  pub too_large : X → Bool
  pub bytes : X → List ℕ
  pub size : X → ℕ
  -- the bytes that stand at a place, with the bits cleared that are not read
  pub cleared : List ℕ → ℕ → List ℕ
  -- a value as it is read back, its unused places empty
  pub read_back : X → X
  -- what holds of every value of the Rattle type: numbers within their width, seven places
  pub Typed : X → Type 0

-- from the bytes: at a place of s, x was read and n bytes were taken
pub record Rewritten {X R : Type 0} (F : Format X R) (s : List ℕ) (at : ℕ) (x : X) (n : ℕ) : Type 0 where
  -- never more than the input
  pub within : n ≤ length s - at
  -- x is written wherever there is room: as many bytes, those that were read but for the bits cleared
  pub accepted : (out : List ℕ) (to : ℕ) → n ≤ length out - to → F.write x out to ≡ Ok n
  pub long : length (F.bytes x) ≡ n
  pub written : F.bytes x ≡ F.cleared s at
  -- stored into a buffer, what lies before and behind them in it stays
  pub buffer : (out : List ℕ) (to : ℕ) → to + n ≤ length out →
      laid out to (F.bytes x) ≡ take to out ++ (F.bytes x ++ drop (to + n) out)
  -- read again, whatever stands before and behind, it is x and as long
  pub again : (p t : List ℕ) → F.read (p ++ (F.bytes x ++ t)) (length p) ≡ F.accepts x n
  -- and a second writing changes nothing
  pub settled : (p t : List ℕ) → Bytes p → Bytes t → F.cleared (p ++ (F.bytes x ++ t)) (length p) ≡ F.bytes x
  -- bytes behind alter nothing
  pub behind : (t : List ℕ) → F.read (s ++ t) at ≡ F.accepts x n

-- from the record: x is free of refusal 8
pub record Returned {X R : Type 0} (F : Format X R) (x : X) : Type 0 where
  pub long : length (F.bytes x) ≡ F.size x
  -- read back it is x with its unused places empty, which is written as x is: entries past a count are ignored
  pub back : (p t : List ℕ) → F.read (p ++ (F.bytes x ++ t)) (length p) ≡ F.accepts (F.read_back x) (F.size x)
  pub fits : F.too_large (F.read_back x) ≡ false
  pub settled : F.bytes (F.read_back x) ≡ F.bytes x

-- demand 3, from the bytes and from the record
abbrev pub FromBytes : {X R : Type 0} → Format X R → Type 0
FromBytes {X} F = (s : List ℕ) (at : ℕ) (x : X) (n : ℕ) → Bytes s → F.read s at ≡ F.accepts x n → Rewritten F s at x n

abbrev pub FromRecord : {X R : Type 0} → Format X R → Type 0
FromRecord {X} F = (x : X) → F.Typed x → F.too_large x ≡ false → Returned F x

-- and by way of a buffer with room, as the contracts have it: what was written is read back from there, also where nothing
-- stands behind it
abbrev pub FromBuffer : {X R : Type 0} → Format X R → Type 0
FromBuffer {X} F =
    (x : X) → F.Typed x → F.too_large x ≡ false → (out : List ℕ) (to : ℕ) → to + F.size x ≤ length out →
    F.read (after (F.write x out to) out to (F.bytes x)) to ≡ F.accepts (F.read_back x) (F.size x)
