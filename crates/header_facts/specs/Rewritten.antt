-- Demand 3 for a header, point by point: read, written again with the counter that was read, and read once more.
use Rattle.std.specs.Prelude.{ℕ, ◌+◌, ◌≤◌, false, List, ◌++◌, ◌≡◌, length, take, drop, Option, Result, Ok, Err}
use Rattle.octets.specs.{declared.Refusal.Refusal, Outcome.Outcome, Buffer.laid, Little.number}
use Rattle.header_bytes.specs.{Cleared.header_cleared, Rewriting.sourceless}
use Rattle.address.specs.declared.{Address.Address}
use Rattle.security.specs.declared.{AuxiliarySecurityHeader.AuxiliarySecurityHeader}
use Rattle.security.specs.Optional.{counter_of, counter_read}
use Rattle.header.specs.declared.{Header.Header}
use Rattle.header.specs.Record.{header_of, header_length}
use Rattle.header.specs.{Read.read_header, Write.write_header, Write.written_control, Write.header_bytes}

-- the record with the two flags that writing loses, `seq_no_suppress` and `ie_present`, false, and with the source and
-- security part given
abbrev pub quiet : Header → Option Address → Option AuxiliarySecurityHeader → Header
quiet h source security = header_of (written_control h) h.seq h.destination source security

abbrev pub lost : Header → Header
lost h = quiet h h.source h.auxiliary_security_header

-- the counter that was read, and the bytes that the record is written as with it
abbrev pub own_counter : Header → Option ℕ
own_counter h = counter_read h.auxiliary_security_header

abbrev pub rewritten : Header → List ℕ
rewritten h = header_bytes h (counter_of (own_counter h))

-- what reading and then writing so into room bytes answers
abbrev pub written_after : Result (Header × ℕ) Refusal → ℕ → Outcome
written_after (Ok p) room = write_header p.0 (own_counter p.0) room
written_after (Err r) room = Err r

-- what holds of a header h of n bytes that was read from s
pub record Rewritten (s : List ℕ) (h : Header) (n : ℕ) : Type 0 where
  -- it lies in the input, and its record keeps how many bytes it occupies, which are those of its parts
  pub within : n ≤ length s
  pub kept : h.length ≡ n
  pub parts : header_length h ≡ n
  -- with room, writing it again is accepted, unless it is compressed without a source
  pub accepted : (room : ℕ) → sourceless (number s 0 2) ≡ false → n ≤ room →
      write_header h (own_counter h) room ≡ Ok n
  -- it gives the bytes that were read, but for the listed bits cleared, and as many
  pub written : rewritten h ≡ header_cleared s
  pub long : length (rewritten h) ≡ n
  -- what lay before and behind them in the buffer stays
  pub buffer : (out : List ℕ) (to : ℕ) → to + n ≤ length out →
      laid out to (rewritten h) ≡ take to out ++ (rewritten h ++ drop (to + n) out)
  -- reading the result gives the same record but for the two flags, whatever follows
  pub again : (more : List ℕ) → read_header (rewritten h ++ more) ≡ Ok (lost h, n)
  -- writing that once more changes nothing
  pub settled : rewritten (lost h) ≡ rewritten h
  pub once_more : (room : ℕ) → sourceless (number s 0 2) ≡ false → n ≤ room →
      write_header (lost h) (own_counter h) room ≡ Ok n
  -- bytes added behind the input alter none of this
  pub behind : (more : List ℕ) → read_header (s ++ more) ≡ Ok (h, n)
