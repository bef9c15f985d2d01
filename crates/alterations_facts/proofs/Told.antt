-- What a bridge answers by the records is what alterations tells of the bytes.
-- Assumes nothing.
use Prim.Native.Nat.{ℕ, ◌+◌}
use native.Mathlib.Omega.{arith}
use mathlib.Core.Bool.{Bool, true, false, cond, ◌&&◌}
use mathlib.Core.List.{List}
use mathlib.Core.Path.{◌≡◌, refl, sym, ap, ◌∙◌}
use borrow.Author.Tests.{le-ltb}
use lib.Dec.{ltb}
use Rattle.octets.specs.{Little.number, Little.Bytes}
use Rattle.octets.proofs.Cases.{cases, holds?}
use Rattle.header_bytes.specs.{Layout.header_end, Reading.measured, Rewriting.sourceless}
use Rattle.header_bytes.proofs.{Accepted.read_accepted, Rewrites.rewrite_read}
use Rattle.header.specs.declared.Header.{Header}
use Rattle.header.specs.{Read.header_in, Read.read_header, Write.write_header}
use Rattle.header.proofs.Apart.{refused_read}
use Rattle.header_facts.specs.Rewritten.{own_counter}
use Rattle.header_facts.proofs.Records.{record_written}
use Rattle.beacon.specs.declared.BeaconRead.{BeaconRead}
use Rattle.beacon.specs.Beacon.{refuses, read_beacon, beacon_length_in}
use Rattle.beacon_facts.proofs.Beacon.{beacon_read}
use Rattle.alterations.specs.Listed.{holds_beacon}
use Rattle.alterations.specs.Rewriting.{rewrite_frame}
use Rattle.alterations.proofs.Answers.{header_refused, header_long, there_beacon}
use Rattle.alterations_facts.specs.Bridge.{bridged}
use Rattle.alterations_facts.proofs.Records.{told_read, holds_told, header_read}
use Rattle.std.specs.Prelude.{Ok, Err}
use Rattle.octets.specs.Outcome.{number_of, length_of, Outcome}
use Rattle.octets.specs.declared.Refusal.TheVariants.{MissingAddress}

-- a frame whose header is read
module _ (s : List ℕ) (y : Bytes s) (z : number_of (measured s) ≡ 0) where
  abbrev w : ℕ
  w = number s 0 2

  abbrev n : ℕ
  n = header_end s w

  abbrev h : Header
  h = header_in s w

  abbrev o : Outcome
  o = (read_beacon s n).outcome

  read : read_header s ≡ Ok (h, n)
  read = header_read s z

  -- writing its header finds a missing source or nothing
  abbrev written : Outcome
  written = cond (sourceless w) (Err MissingAddress) (Ok n)

  header_written : write_header h (own_counter h) n ≡ written
  header_written =
      let long = header_long s z in
      let three : ltb n 3 ≡ false = le-ltb n 3 (read_accepted s n long).three in
      let fits : ltb n n ≡ false = le-ltb n n (omega arith) in
      record_written s h n n y read ∙ rewrite_read s n n long ∙ simp (three, fits)

  abbrev answer : Bool → Outcome → Outcome
  answer on header = cond (on && refuses o) o (cond (refuses header) header (Ok (n + cond on (length_of o) 0)))

  size : (on : Bool) → (on && refuses o) ≡ false → n + cond on (length_of o) 0 ≡ n + cond on (beacon_length_in s n) 0
  size false e = refl
  size true e =
      ap (λ (r : BeaconRead). n + (length_of r.outcome)) (beacon_read s n (there_beacon true o e refl)).0

  pub bridged_read : rewrite_frame s ≡ bridged s (read_header s)
  unfolding rewrite_frame
  bridged_read =
      let here = ap refuses (header_long s z) in
      let records : answer (holds_beacon w) written ≡ bridged s (read_header s) =
      sym (ap (bridged s) read ∙ (λ i. answer (sym (holds_told s h (told_read s h n read)) i) (header_written i))) in
      cases (holds? (holds_beacon w && refuses o))
      (λ lost. simp (here, lost) refl)
      (λ there.
      cases (holds? (sourceless w))
      (λ t. simp (here, there, t) refl)
      (λ f. simp (here, there, f) (ap Ok (sym (size (holds_beacon w) there)))))
      ∙ records

-- The answer, of any frame.
by_measured : (s : List ℕ) (o : Outcome) → Bytes s → measured s ≡ o → rewrite_frame s ≡ bridged s (read_header s)
by_measured s (Ok n) y e = bridged_read s y (ap number_of e)
by_measured s (Err r) y e = sym (header_refused s r (sym e)) ∙ ap (bridged s) (refused_read s r (sym e))

pub answers : (s : List ℕ) → Bytes s → rewrite_frame s ≡ bridged s (read_header s)
answers s y = by_measured s (measured s) y refl
