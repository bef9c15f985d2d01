-- Reading a header as a record and writing it again, with the counter that was read, answers and leaves what rewriting says of its bytes.
-- Assumes nothing.
use Prim.Native.Nat.{ℕ, ◌≤◌}
use native.Mathlib.Omega.{arith}
use mathlib.Core.Bool.{true, false}
use mathlib.Core.List.{List}
use mathlib.Core.Path.{◌≡◌, refl, sym, ap, ◌∙◌}
use borrow.Author.Tests.{ltb-false, le-ltb}
use lib.Dec.{ltb}
use lib.ListN.{length}
use Rattle.std.specs.Prelude.{Result, Ok, Err}
use Rattle.octets.specs.declared.Refusal.{Refusal}
use Rattle.octets.specs.Outcome.{refusal_number, number_of, answered}
use Rattle.octets.specs.Buffer.{after}
use Rattle.octets.specs.Little.{number, Bytes}
use Rattle.octets.proofs.Accepted.{refusal_some}
use Rattle.octets.proofs.Cases.{cases, holds?}
use Rattle.header_bytes.specs.Layout.{header_end}
use Rattle.header_bytes.specs.Cleared.{header_cleared}
use Rattle.header_bytes.specs.Rewriting.{sourceless, rewrite_header}
use Rattle.header_bytes.proofs.Passed.{Passed}
use Rattle.header_bytes.proofs.Rewrites.{room_tests, rewrite_refused, rewrite_read}
use Rattle.header_parts.specs.Parts.{write_parts}
use Rattle.header.specs.declared.Header.{Header}
use Rattle.header.specs.Record.{addresses_end, header_length}
use Rattle.header.specs.Read.{header_in, read_header, read_outcome}
use Rattle.header.specs.Write.{write_header}
use Rattle.header.proofs.Apart.{read_measured, apart}
use Rattle.header_facts.specs.Rewritten.{own_counter, rewritten, written_after}
use Rattle.header_facts.proofs.Fields.{length_told}
use Rattle.header_facts.proofs.Fit.{length_right, counter_there}
use Rattle.header_facts.proofs.Trip.{lacks, level_fits, header_rewritten}

-- writing's tests of a record that was read are those of its bytes
module _ (s : List ℕ) (b : Bytes s) (p : Passed s (number s 0 2)) where
  abbrev w : ℕ
  w = number s 0 2

  abbrev header : Header
  header = header_in s w

  tests : (room : ℕ) →
      write_header header (own_counter header) room ≡ answered (room_tests w (header_end s w) room) (header_end s w)
  unfolding write_parts
  tests room =
      let kept = length_right header refl in
      let level = level_fits s b p in
      let long = length_told s p in
      let missing = lacks s b p in
      let counter = counter_there header.auxiliary_security_header in
      cases (holds? (ltb room 3)) (λ t. simp (kept, level, t)) (λ three.
      cases (holds? (sourceless w)) (λ t. simp (kept, level, three, missing ∙ t, t)) (λ both.
      cases (holds? (ltb room (header_end s w)))
      (λ t.
      let short : ltb room (header_length header) ≡ true = ap (ltb room) long ∙ t in
      cases (holds? (ltb room (addresses_end header)))
      (λ a. simp (kept, level, three, missing ∙ both, both, a, t))
      (λ a. simp (kept, level, three, missing ∙ both, both, a, counter, short, t)))
      (λ f.
      let room_there : header_end s w ≤ room = ltb-false room (header_end s w) f in
      let whole : ltb room (header_length header) ≡ false = ap (ltb room) long ∙ f in
      let addresses : ltb room (addresses_end header) ≡ false = le-ltb room (addresses_end header) (omega (arith, long)) in
      simp (kept, level, three, missing ∙ both, both, addresses, counter, whole, f) (ap Ok long))))

-- what the record answers
pub record_written : (s : List ℕ) (h : Header) (n room : ℕ) → Bytes s → read_header s ≡ Ok (h, n) →
    write_header h (own_counter h) room ≡ rewrite_header s room
record_written s h n room b e =
    let q = apart s h n e in
    let bytes = rewrite_read s room (header_end s (number s 0 2)) (sym (read_measured s) ∙ ap read_outcome e ∙ ap Ok (sym q.size)) in
    ap (λ (h : Header). write_header h (own_counter h) room) (sym q.header) ∙ tests s b q.passed room ∙ sym bytes

after_read : (s : List ℕ) (r : Result (Header × ℕ) Refusal) (room : ℕ) → Bytes s → read_header s ≡ r →
    written_after r room ≡ rewrite_header s room
after_read s (Ok p) room b e = record_written s p.0 p.1 room b e
after_read s (Err r) room b e =
    let told = sym (read_measured s) ∙ ap read_outcome e in
    sym told
    ∙ rewrite_refused s room (λ z.
    let none : refusal_number r ≡ 0 = ap number_of (sym told) ∙ z in
    absurd (omega (arith, (refusal_some r).0, none)))

pub record_answers : (s : List ℕ) (room : ℕ) → Bytes s → written_after (read_header s) room ≡ rewrite_header s room
record_answers s room b = after_read s (read_header s) room b refl

-- and what it leaves of a buffer
pub record_leaves : (s : List ℕ) (h : Header) (n : ℕ) (out : List ℕ) → Bytes s → read_header s ≡ Ok (h, n) →
    after (write_header h (own_counter h) (length out)) out 0 (rewritten h)
    ≡ after (rewrite_header s (length out)) out 0 (header_cleared s)
record_leaves s h n out b e =
    λ i. after (record_written s h n (length out) b e i) out 0 ((header_rewritten s h n b e).written i)
