-- Demand 3 for a header, in the definitions that the contracts of `Header::read_at` and `Header::write_at` cite: read,
-- written again with the counter that was read, read from there and written once more, with every byte of the buffer. The
-- same, but for the bytes that were read, of a record that a bridge has edited (document 02, request 4).
use Rattle.std.specs.Prelude.{ℕ, ◌+◌, ◌-◌, ◌≤◌, List, ◌++◌, ◌≡◌, length, take, drop, Ok}
use Rattle.octets.specs.Buffer.{after}
use Rattle.header_bytes.specs.Cleared.{header_cleared}
use Rattle.header.specs.{declared.Header.Header, Read.read_header, Write.write_header}
use Rattle.header_facts.specs.Rewritten.{lost, own_counter, rewritten}

-- what writing h at a place with its own counter leaves of a buffer, as the contract says it
abbrev pub header_after : Header → List ℕ → ℕ → List ℕ
header_after h out to = after (write_header h (own_counter h) (length out - to)) out to (rewritten h)

-- what holds of a record h that is written with its own counter, and of a buffer with room for it at a place
pub record InBuffer (h : Header) (out : List ℕ) (to : ℕ) : Type 0 where
  -- writing is accepted, with the length that the record keeps
  pub accepted : write_header h (own_counter h) (length out - to) ≡ Ok h.length
  -- the buffer then holds its bytes; earlier and later bytes stay
  pub stored : header_after h out to ≡ take to out ++ (rewritten h ++ drop (to + h.length) out)
  -- reading from that buffer gives the same record but for the two flags, and the same length
  pub again : read_header (drop to (header_after h out to)) ≡ Ok (lost h, h.length)
  -- writing that into it once more is accepted and changes nothing
  pub once_more : write_header (lost h) (own_counter (lost h)) (length (header_after h out to) - to) ≡ Ok h.length
  pub settled : header_after (lost h) (header_after h out to) to ≡ header_after h out to

-- what holds of a header h of n bytes that was read from s, and of any buffer with room for it at a place
pub record RoundTrip (s : List ℕ) (h : Header) (n : ℕ) (out : List ℕ) (to : ℕ) : Type 0 where
  -- it lies in the input
  pub within : n ≤ length s
  -- with room, writing it again is accepted, with as many bytes
  pub accepted : write_header h (own_counter h) (length out - to) ≡ Ok n
  pub long : length (header_cleared s) ≡ n
  -- the buffer then holds the bytes that were read, but for the listed bits cleared; earlier and later bytes stay
  pub stored : header_after h out to ≡ take to out ++ (header_cleared s ++ drop (to + n) out)
  -- reading from that buffer gives the same record but for the two flags, and the same length
  pub again : read_header (drop to (header_after h out to)) ≡ Ok (lost h, n)
  -- writing that into it once more is accepted and changes nothing
  pub once_more : write_header (lost h) (own_counter (lost h)) (length (header_after h out to) - to) ≡ Ok n
  pub settled : header_after (lost h) (header_after h out to) to ≡ header_after h out to
  -- bytes added behind the input alter none of this
  pub behind : (more : List ℕ) → read_header (s ++ more) ≡ Ok (h, n)
