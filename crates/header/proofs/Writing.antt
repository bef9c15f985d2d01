-- Laws of a header's bytes, which are as many as its record tells, and of an accepting writer.
-- Assumes nothing.
use Prim.Native.Nat.{ℕ, ◌≤◌}
use native.Mathlib.Omega.{arith}
use mathlib.Core.Bool.{Bool}
use mathlib.Core.List.{List}
use mathlib.Core.Path.{◌≡◌}
use borrow.Author.Tests.{ltb-false}
use lib.ListN.{length, length-append}
use Rattle.octets.proofs.Little.{split_length}
use Rattle.octets.specs.declared.Refusal.{Refusal}
use Rattle.octets.proofs.Order.{Fail, answered_passed}
use Rattle.address.proofs.Addresses.{address_length_lem}
use Rattle.security.proofs.Security.{optional_length_lem}
use Rattle.header_parts.specs.Parts.{write_tests, write_parts}
use Rattle.header.specs.declared.Header.{Header}
use Rattle.header.specs.Record.{header_length}
use Rattle.header.specs.Write.{write_header, fixed_bytes, header_bytes}
use Rattle.std.specs.Prelude.{Option, Ok}

pub fixed_length : (h : Header) → length (fixed_bytes h) ≡ 3
fixed_length h = simp (length-append, split_length)

pub header_length_lem : (h : Header) (counter : ℕ) → length (header_bytes h counter) ≡ header_length h
unfolding header_bytes
header_length_lem h counter = simp (length-append, split_length, address_length_lem, optional_length_lem) (omega arith)

-- the tests of writing a record
abbrev pub tests_of : Header → Option ℕ → ℕ → List (Bool × Refusal)
tests_of h counter room =
    write_tests h.length h.pan_id_compress h.destination h.source h.auxiliary_security_header counter room

-- where writing is accepted no test holds, and its length is the record's
pub written_passes : (h : Header) (counter : Option ℕ) (room n : ℕ) → write_header h counter room ≡ Ok n →
    Fail (tests_of h counter room) × (header_length h ≡ n)
unfolding write_parts
written_passes h counter room n e = answered_passed (tests_of h counter room) (header_length h) n e

-- so an accepted header has room
pub written_fits : (h : Header) (counter : Option ℕ) (room n : ℕ) → write_header h counter room ≡ Ok n →
    (header_length h ≤ room) × (header_length h ≡ n)
written_fits h counter room n e =
    let q = written_passes h counter room n e in
    (ltb-false room (header_length h) q.0.1.1.1.1.1.1.0, q.1)
