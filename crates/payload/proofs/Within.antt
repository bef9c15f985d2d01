-- What stands in front of the payload lies within the frame.
-- Assumes nothing.
use Prim.Native.Nat.{ℕ, ◌-◌, ◌≤◌}
use native.Mathlib.Omega.{arith}
use mathlib.Core.List.{List}
use mathlib.Core.Path.{◌≡◌, refl, ap}
use lib.ListN.{length}
use Rattle.std.specs.Prelude.{Result, Ok, Err}
use Rattle.octets.specs.declared.Refusal.{Refusal}
use Rattle.octets.specs.Outcome.{Outcome, number_of, length_of}
use Rattle.octets.proofs.Accepted.{never, one_value}
use Rattle.octets.proofs.Cases.{cases, holds?}
use Rattle.header.specs.declared.Header.{Header}
use Rattle.header.specs.Read.{read_header}
use Rattle.header.proofs.Bounds.{length_bounds}
use Rattle.beacon.specs.Beacon.{read_beacon}
use Rattle.beacon_facts.proofs.Beacon as facts
use Rattle.payload.specs.Frame.{unsecured_beacon, behind_beacon, frame_after, read_frame}

pub beacon_within : (s : List ℕ) (at n : ℕ) → (read_beacon s at).outcome ≡ Ok n → n ≤ length s - at
beacon_within s at n e = omega (arith, facts.beacon_within s at (ap number_of e), ap length_of e)

-- where the payload begins
behind_within : (s : List ℕ) (at n : ℕ) (o : Outcome) → at ≤ length s → (read_beacon s at).outcome ≡ o → behind_beacon at o ≡ Ok n →
    n ≤ length s
behind_within s at n (Err r) h e f = absurd (never f)
behind_within s at n (Ok m) h e f = omega (arith, beacon_within s at m e, one_value f)

after_within : (s : List ℕ) (r : Result (Header × ℕ) Refusal) (n : ℕ) → read_header s ≡ r → (frame_after s r).outcome ≡ Ok n →
    n ≤ length s
after_within s (Err r) n e f = absurd (never f)
after_within s (Ok (h, k)) n e f =
    let within = (length_bounds s h k e).2 in
    cases (holds? (unsecured_beacon h))
    (λ t. behind_within s k n _ within refl (simp t at f))
    (λ t. let same : k ≡ n = one_value (simp t at f) in omega (arith, within, same))

pub frame_within : (s : List ℕ) (n : ℕ) → (read_frame s).outcome ≡ Ok n → n ≤ length s
unfolding read_frame
frame_within s n e = after_within s (read_header s) n refl e

-- a refused frame has length 0
refused_none : (o : Outcome) → (number_of o ≡ 0 → ⊥) → length_of o ≡ 0
refused_none (Ok n) f = absurd (f refl)
refused_none (Err r) f = refl

pub refused_length : (s : List ℕ) → (number_of (read_frame s).outcome ≡ 0 → ⊥) → length_of (read_frame s).outcome ≡ 0
refused_length s f = refused_none (read_frame s).outcome f
