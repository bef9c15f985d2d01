-- An accepted header taken apart, and put together again: no test of reading holds of its bytes, and its record is that of its fields.
-- Assumes nothing.
use Prim.Native.Nat.{ℕ}
use mathlib.Core.List.{List}
use mathlib.Core.Path.{◌≡◌, refl, sym, ap, ◌∙◌}
use Rattle.octets.specs.Little.{number}
use Rattle.octets.specs.Outcome.{Outcome}
use Rattle.octets.proofs.Order.{answered_map, answered_none, answered_passed, answered_refused}
use Rattle.header_bytes.specs.Layout.{header_end}
use Rattle.header_bytes.specs.Reading.{read_tests, measured}
use Rattle.header_bytes.proofs.Passed.{Passed, passed, failed}
use Rattle.header.specs.declared.Header.{Header}
use Rattle.header.specs.Read.{header_in, read_by, read_header, read_outcome}
use Rattle.std.specs.Prelude.{Result, Ok, Err}
use Rattle.octets.specs.declared.Refusal.{Refusal}

-- reading's length or refusal is what the bytes alone tell
pub read_measured : (s : List ℕ) → read_outcome (read_header s) ≡ measured s
unfolding read_by measured
read_measured s =
    answered_map read_outcome (read_tests s (number s 0 2)) (header_in s (number s 0 2), header_end s (number s 0 2))
    (header_end s (number s 0 2)) (λ r. refl) refl

-- what measuring refuses is refused, and what it accepts is the record of the fields
pub refused_read : (s : List ℕ) (r : Refusal) → ◌≡◌ {A = Outcome} (Err r) (measured s) →
    ◌≡◌ {A = Result (Header × ℕ) Refusal} (Err r) (read_header s)
unfolding read_by measured
refused_read s r e = sym (answered_refused (read_tests s (number s 0 2)) (header_end s (number s 0 2)) _ (sym e))

pub accepted_read : (s : List ℕ) (w n : ℕ) → w ≡ number s 0 2 → ◌≡◌ {A = Outcome} (Ok n) (measured s) →
    ◌≡◌ {A = Result (Header × ℕ) Refusal} (Ok (header_in s w, n)) (read_header s)
unfolding read_by measured
accepted_read s w n f e =
    let whole = number s 0 2 in
    let q = answered_passed (read_tests s whole) (header_end s whole) n (sym e) in
    (λ i. Ok (header_in s (f i), sym q.1 i)) ∙ sym (answered_none (read_tests s whole) (header_in s whole, header_end s whole) q.0)

-- where no test holds, the record is read
pub together : (s : List ℕ) (w : ℕ) → Passed s w → read_by s w ≡ Ok (header_in s w, header_end s w)
unfolding read_by
together s w p = answered_none (read_tests s w) (header_in s w, header_end s w) (failed s w p)

-- what an accepted header says
pub record Found (s : List ℕ) (h : Header) (n : ℕ) : Type 0 where
  pub passed : Passed s (number s 0 2)
  pub header : header_in s (number s 0 2) ≡ h
  pub size : header_end s (number s 0 2) ≡ n

pub apart : (s : List ℕ) (h : Header) (n : ℕ) → read_header s ≡ Ok (h, n) → Found s h n
unfolding read_by
apart s h n e =
    let w = number s 0 2 in
    let q = answered_passed (read_tests s w) (header_in s w, header_end s w) (h, n) e in
    record { passed = passed s w q.0; header = ap (λ p. p.0) q.1; size = ap (λ p. p.1) q.1 }
