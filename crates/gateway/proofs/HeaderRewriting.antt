-- Rewriting a header: what measuring tells is what rewriting answers, and its bytes copied and cleared are what rewriting leaves.
-- Assumes nothing.
use Prim.Native.Nat.{ℕ, ◌≤◌, ◌<◌}
use native.Mathlib.Omega.{arith}
use mathlib.Core.Bool.{true, false}
use mathlib.Core.List.{List}
use mathlib.Core.Path.{◌≡◌, sym, ap, ◌∙◌}
use borrow.Author.Tests.{lt-ltb, le-ltb}
use lib.ListN.{length, take, drop}
use Rattle.octets.specs.{Bits.bit, Buffer.laid, Buffer.fitting, Little.number}
use Rattle.octets.proofs.{Accepted.refusal_some, Buffer.laid_all, Copying.copied_front}
use Rattle.header_bytes.specs.{Layout.source_end, Reading.measured, Rewriting.sourceless, Rewriting.rewrite_header}
use Rattle.header_bytes.specs.Cleared.{cleared_by, header_cleared}
use Rattle.header_bytes.proofs.Accepted.{read_accepted}
use Rattle.header_bytes.proofs.Cleared.{header_cleared_length, header_cleared_append}
use Rattle.header_bytes.proofs.Rewrites.{room_tests, rewrite_refused, rewrite_read, rewrite_accepted}
use Rattle.std.specs.Prelude.{Ok, Err}
use Rattle.octets.specs.Outcome.{Outcome, number_of, answered}
use Rattle.octets.specs.declared.Refusal.{Refusal}
use Rattle.octets.specs.declared.Refusal.TheVariants.{Ended, MissingAddress}

-- what rewriting answers, by the answer of measuring and the frame control w
module _ (s : List ℕ) (room : ℕ) where
  pub header_refused_lem : (r : Refusal) → ◌≡◌ {A = Outcome} (Err r) (measured s) → ◌≡◌ {A = Outcome} (Err r) (rewrite_header s room)
  header_refused_lem r e = e ∙ rewrite_refused s room (λ z. omega (arith, (refusal_some r).0, ap number_of e ∙ z))

  module _ {n : ℕ} (e : ◌≡◌ {A = Outcome} (Ok n) (measured s)) where
    told : rewrite_header s room ≡ answered (room_tests (number s 0 2) n room) n
    told = rewrite_read s room n (sym e)

    pub header_there : 3 ≤ length s
    header_there = let q = read_accepted s n (sym e) in omega (arith, q.within, q.three)

    pub header_full : room < 3 → Err Ended ≡ rewrite_header s room
    header_full a = rw told (simp (lt-ltb room 3 a))

    module _ {w : ℕ} (v : w ≡ number s 0 2) (a : 3 ≤ room) where
      pub header_sourceless : sourceless w ≡ true → Err MissingAddress ≡ rewrite_header s room
      header_sourceless t = rw told (simp (le-ltb room 3 a, sym v, t))

      module _ (f : sourceless w ≡ false) where
        pub header_fuller : room < n → Err Ended ≡ rewrite_header s room
        header_fuller b = rw told (simp (le-ltb room 3 a, sym v, f, lt-ltb room n b))

        pub header_fits : n ≤ room → Ok n ≡ rewrite_header s room
        header_fits b = rw told (simp (le-ltb room 3 a, sym v, f, le-ltb room n b))

-- what holds where rewriting accepts n bytes of a header
pub record HeaderAccepted (s out : List ℕ) (n : ℕ) : Type 0 where
  pub within : n ≤ length s
  pub fits : n ≤ length out
  pub three : 3 ≤ n
  pub secured : bit (number s 0 2) 3 ≡ true → source_end (number s 0 2) < n
  -- its bytes copied, and the listed bits cleared in the copy
  pub copied : cleared_by (number s 0 2) (laid out 0 (fitting out 0 (take n s))) ≡ laid out 0 (header_cleared s)

pub header_accepted : (s out : List ℕ) (n : ℕ) → rewrite_header s (length out) ≡ Ok n → HeaderAccepted s out n
header_accepted s out n e =
    let q = rewrite_accepted s (length out) n e in
    let read = read_accepted s n q.read in
    record {
      within = read.within;
      fits = q.fits;
      three = read.three;
      secured = read.secured;
      copied =
          ap (cleared_by (number s 0 2)) (copied_front s out n read.within q.fits)
          ∙ header_cleared_append s (drop n out) n q.read
          ∙ sym (laid_all out (header_cleared s) n (header_cleared_length s n q.read) q.fits);
    }
