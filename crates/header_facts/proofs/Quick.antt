-- The quick reader and the reader that makes a record agree on every slice: whatever their contracts let them answer, it is the same number
-- and the same length.
-- Assumes nothing.
use Prim.Native.Nat.{ℕ}
use mathlib.Core.List.{List}
use mathlib.Core.Path.{◌≡◌, sym, ap, ◌∙◌}
use Rattle.std.specs.Prelude.{Result}
use Rattle.octets.specs.declared.Refusal.{Refusal}
use Rattle.octets.specs.Outcome.{Outcome, code_of}
use Rattle.header_bytes.specs.Reading.{measured}
use Rattle.header.specs.declared.Header.{Header}
use Rattle.header.specs.Read.{read_header, read_outcome}
use Rattle.header.proofs.Apart.{read_measured}

pub record Agree (outcome : Outcome) (code : ℕ) (read : Result (Header × ℕ) Refusal) : Type 0 where
  pub same : outcome ≡ read_outcome read
  pub one_number : code ≡ code_of (read_outcome read)

-- what `quick::measure_header`, `quick::header_code` and `Header::read` return of one slice
pub readers_agree : (s : List ℕ) (outcome : Outcome) (code : ℕ) (read : Result (Header × ℕ) Refusal) →
    outcome ≡ measured s → code ≡ code_of (measured s) → read ≡ read_header s →
    Agree outcome code read
readers_agree s outcome code read a b c =
    let told : measured s ≡ read_outcome read = sym (ap read_outcome c ∙ read_measured s) in
    record { same = a ∙ told; one_number = b ∙ ap code_of told }
