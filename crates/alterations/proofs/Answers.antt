-- What rewriting a frame answers, by what measuring its header and its beacon tells.
-- Assumes nothing.
use Prim.Native.Nat.{ℕ, ◌+◌, ◌≤◌}
use native.Mathlib.Nat.{add-zero}
use native.Mathlib.Omega.{arith}
use mathlib.Core.Bool.{Bool, true, false, true≢false, cond, ◌&&◌}
use mathlib.Core.List.{List}
use mathlib.Core.Path.{◌≡◌, refl, sym, ap, ◌∙◌}
use lib.ListN.{length}
use Rattle.std.specs.Prelude.{Ok, Err}
use Rattle.octets.specs.declared.Refusal.{Refusal}
use Rattle.octets.specs.declared.Refusal.TheVariants.{MissingAddress}
use Rattle.octets.specs.{Little.number, Outcome.Outcome, Outcome.number_of, Outcome.length_of}
use Rattle.octets.proofs.{Accepted.never, Accepted.one_value}
use Rattle.octets.proofs.Cases.{cases, holds?}
use Rattle.header_bytes.specs.{Layout.header_end, Reading.measured, Rewriting.sourceless}
use Rattle.header_bytes.proofs.{Accepted.read_accepted, Passed.measured_passed}
use Rattle.beacon.specs.Beacon.{refuses, read_beacon, beacon_length_in}
use Rattle.beacon.proofs.Parts.{accepting}
use Rattle.beacon_facts.proofs.Beacon.{beacon_read, beacon_within}
use Rattle.alterations.specs.Listed.{holds_beacon}
use Rattle.alterations.specs.Rewriting.{rewrite_frame}

-- a beacon that is refused, and one that is not
lost_beacon : (on : Bool) (o : Outcome) (n : ℕ) → (on && refuses o) ≡ true → o ≡ Ok n → ⊥
lost_beacon true o n e f = true≢false (sym e ∙ ap refuses f)
lost_beacon false o n e f = true≢false (sym e)

pub there_beacon : (on : Bool) (o : Outcome) → (on && refuses o) ≡ false → on ≡ true → number_of o ≡ 0
there_beacon true o e on = accepting o e
there_beacon false o e on = absurd (true≢false (sym on))

pub header_refused : (s : List ℕ) (r : Refusal) → ◌≡◌ {A = Outcome} (Err r) (measured s) → ◌≡◌ {A = Outcome} (Err r) (rewrite_frame s)
unfolding rewrite_frame
header_refused s r e = rw (← e) refl

pub header_long : (s : List ℕ) → number_of (measured s) ≡ 0 → measured s ≡ Ok (header_end s (number s 0 2))
header_long s z = (measured_passed s z).1

-- by the length m that measuring accepts of a header, and its frame control w
module _ (s : List ℕ) {m w : ℕ} (e : ◌≡◌ {A = Outcome} (Ok m) (measured s)) (v : w ≡ number s 0 2) where
  abbrev n : ℕ
  n = header_end s w

  size : m ≡ n
  size = one_value (e ∙ header_long s (ap number_of (sym e))) ∙ ap (header_end s) (sym v)

  -- without a beacon
  module _ (alone : holds_beacon w ≡ false) where
    pub alone_sourceless : sourceless w ≡ true → Err MissingAddress ≡ rewrite_frame s
    unfolding rewrite_frame
    alone_sourceless t = simp (sym e, sym v, alone, t)

    pub alone_accepted : sourceless w ≡ false → Ok m ≡ rewrite_frame s
    unfolding rewrite_frame
    alone_accepted f = ap Ok size ∙ simp (sym e, sym v, alone, f) (ap Ok (sym (add-zero n)))

  -- with one, that is measured where the header ends
  module _ (both : holds_beacon w ≡ true) where
    place : (read_beacon s m).outcome ≡ (read_beacon s n).outcome
    place = ap (λ (n : ℕ). (read_beacon s n).outcome) size

    pub beacon_refused_lem : (r : Refusal) → ◌≡◌ {A = Outcome} (Err r) (read_beacon s m).outcome →
        ◌≡◌ {A = Outcome} (Err r) (rewrite_frame s)
    unfolding rewrite_frame
    beacon_refused_lem r b = let lost = sym (b ∙ place) in simp (sym e, sym v, both, lost)

    module _ {k : ℕ} (b : ◌≡◌ {A = Outcome} (Ok k) (read_beacon s m).outcome) where
      beacon : ◌≡◌ {A = Outcome} (Ok k) (read_beacon s n).outcome
      beacon = b ∙ place

      long : k ≡ beacon_length_in s n
      long = ap length_of beacon ∙ ap (λ r. length_of r.outcome) (beacon_read s n (ap number_of (sym beacon))).0

      pub both_sourceless : sourceless w ≡ true → Err MissingAddress ≡ rewrite_frame s
      unfolding rewrite_frame
      both_sourceless t = simp (sym e, sym v, both, sym beacon, t)

      pub both_accepted : sourceless w ≡ false → Ok (m + k) ≡ rewrite_frame s
      unfolding rewrite_frame
      both_accepted f = simp (sym e, sym v, both, sym beacon, f) (λ i. Ok (size i + long i))

      pub both_within : m + k ≤ length s
      both_within =
          omega (
            arith,
            size,
            ap length_of beacon,
            beacon_within s n (ap number_of (sym beacon)),
            (read_accepted s m (sym e)).within,
          )

-- what holds where m bytes of a frame are rewritten
pub record Accepted (s : List ℕ) (m : ℕ) : Type 0 where
  pub read : measured s ≡ Ok (header_end s (number s 0 2))
  pub source : sourceless (number s 0 2) ≡ false
  pub beacon : holds_beacon (number s 0 2) ≡ true → number_of (read_beacon s (header_end s (number s 0 2))).outcome ≡ 0
  pub long : m ≡ header_end s (number s 0 2) + cond (holds_beacon (number s 0 2)) (beacon_length_in s (header_end s (number s 0 2))) 0

pub frame_accepted : (s : List ℕ) (m : ℕ) → rewrite_frame s ≡ Ok m → Accepted s m
unfolding rewrite_frame
frame_accepted s m e =
    let w = number s 0 2 in
    let n = header_end s w in
    let o = (read_beacon s n).outcome in
    cases (holds? (refuses (measured s)))
    (λ t. absurd (true≢false (sym t ∙ ap refuses (simp t at e))))
    (λ read.
    cases (holds? (holds_beacon w && refuses o))
    (λ lost. absurd (lost_beacon (holds_beacon w) o m lost (simp (read, lost) at e)))
    (λ there.
    cases (holds? (sourceless w))
    (λ t. absurd (never (simp (read, there, t) at e)))
    (λ f.
    record {
      read = header_long s (accepting _ read);
      source = f;
      beacon = λ on. there_beacon (holds_beacon w) o there on;
      long = sym (one_value (simp (read, there, f) at e));
    })))

pub frame_accepts : (s : List ℕ) (m : ℕ) → Accepted s m → rewrite_frame s ≡ Ok m
frame_accepts s m a =
    let w = number s 0 2 in
    let n = header_end s w in
    cases (holds? (holds_beacon w))
    (λ t.
    let long : m ≡ n + beacon_length_in s n = simp t at a.long in
    let there = ap (λ r. r.outcome) (beacon_read s n (a.beacon t)).0 in
    sym (both_accepted s (sym a.read) refl t (sym there) a.source) ∙ ap Ok (sym long))
    (λ f.
    let long : m ≡ n + 0 = simp f at a.long in
    sym (alone_accepted s (sym a.read) refl f a.source) ∙ ap Ok (sym (add-zero n) ∙ sym long))
