-- An accepted header occupies 3 to 37 bytes and never more than the input; an answer's number is at most 5, and 0 only
-- where it accepts.
-- Assumes nothing.
use Prim.Native.Nat.{ℕ, ◌≤◌}
use native.Mathlib.Omega.{arith}
use mathlib.Core.List.{List}
use mathlib.Core.Path.{◌≡◌}
use lib.ListN.{length}
use Rattle.octets.specs.Little.{number}
use Rattle.header_bytes.proofs.Sizes.{source_end_lem, header_end_lem}
use Rattle.header.specs.declared.Header.{Header}
use Rattle.header.specs.Read.{read_header, read_outcome}
use Rattle.header_bytes.proofs.Accepted.{measured_most}
use Rattle.header.proofs.Apart.{apart, read_measured}
use Rattle.std.specs.Prelude.{Ok}
use Rattle.octets.specs.Outcome.{number_of, length_of}

-- an accepted header's length
pub length_bounds : (s : List ℕ) (h : Header) (n : ℕ) → read_header s ≡ Ok (h, n) → (3 ≤ n) × (n ≤ 37) × (n ≤ length s)
length_bounds s h n e =
    let q = apart s h n e in
    let w = number s 0 2 in
    let source = source_end_lem w in
    let end = header_end_lem w s in
    (omega (arith, q.size, source.0, end.0), omega (arith, q.size, end.1), omega (arith, q.size, q.passed.whole))

-- the same of any answer
pub read_number_lem : (s : List ℕ) → number_of (read_outcome (read_header s)) ≤ 5
read_number_lem s = rw (read_measured s) (measured_most s).0

pub read_length : (s : List ℕ) → length_of (read_outcome (read_header s)) ≤ 37
read_length s = rw (read_measured s) (measured_most s).1
