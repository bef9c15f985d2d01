-- Laws of pending addresses.
-- Assumes nothing.
use Prim.Native.Nat.{ℕ, ◌-◌, ◌≤◌}
use native.Mathlib.Omega.{arith}
use mathlib.Core.Bool.{false, cond}
use mathlib.Core.List.{List}
use mathlib.Core.Path.{◌≡◌}
use borrow.Author.Tests.{ltb-false}
use lib.ListN.{length}
use Rattle.octets.specs.Part.{ends}
use Rattle.octets.proofs.Cases.{cases, holds?, neither}
use Rattle.pending.specs.declared.PendingAddress.{PendingAddress}
use Rattle.pending.specs.Pending.{pending_in, pending_length_in, read_pending, pending_size, pending_too_large}
use Rattle.std.specs.Prelude.{Ok}
use Rattle.octets.specs.Outcome.{number_of}

-- each count is at most seven
pub fitting : (x : PendingAddress) → pending_too_large x ≡ false → (x.short_address_count ≤ 7) × (x.extended_address_count ≤ 7)
unfolding pending_too_large
fitting x e =
    let both = neither _ _ e in
    (ltb-false 7 x.short_address_count both.0, ltb-false 7 x.extended_address_count both.1)

-- and then its size is the whole length
pub plain_size : (x : PendingAddress) → pending_too_large x ≡ false → cond (pending_too_large x) 0 (pending_size x) ≡ pending_size x
plain_size x e = rw e

-- what is read was there
pub pending_read : (s : List ℕ) (at : ℕ) → number_of (read_pending s at).outcome ≡ 0 →
    (read_pending s at ≡ record { outcome = Ok (pending_length_in s at); pending_address = pending_in s at })
    × (pending_length_in s at ≤ length s - at)
unfolding read_pending
pending_read s at e =
    cases (holds? (ends s at 1)) (λ t. absurd (omega (arith, simp t at e))) (λ t.
    cases (holds? (ends s at (pending_length_in s at))) (λ u. absurd (omega (arith, simp (t, u) at e))) (λ u.
    (simp (t, u), ltb-false _ _ u)))
