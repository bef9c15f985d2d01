-- Demand 3 for a security header, from the laws of its parts.
-- Assumes nothing.
use Prim.Native.Nat.{ℕ, ◌+◌, ◌-◌, ◌≤◌}
use native.Mathlib.Omega.{arith}
use mathlib.Core.Bool.{false}
use mathlib.Core.List.{List, [], ◌++◌, append-nil}
use mathlib.Core.Logic.{◌⊎◌, inl, inr}
use mathlib.Core.Path.{◌≡◌, refl, sym, ap, ◌∙◌}
use borrow.Author.Tests.{le-ltb, ltb-false}
use lib.Dec.{ltb}
use lib.ListN.{length, take, drop, length-append}
use Rattle.octets.specs.Buffer.{laid}
use Rattle.octets.specs.Little.{Bytes}
use Rattle.octets.specs.Part.{ends}
use Rattle.octets.proofs.Buffer.{laid_parts}
use Rattle.octets.proofs.Cases.{cases, holds?}
use Rattle.security_control.specs.declared.KeyIdentifierMode.{KeyIdentifierMode}
use Rattle.security_control.specs.declared.KeyIdentifierMode.TheVariants as Mode
use Rattle.security.specs.declared.AuxiliarySecurityHeader.{AuxiliarySecurityHeader}
use Rattle.key_identifier.specs.Key.{mode_of_key, key_length}
use Rattle.security.specs.Security.{length_in, security_in, level_of, security_length}
use Rattle.security.specs.Answer.{read_security, write_security}
use Rattle.security.specs.RoundTrip.{security_cleared, security_rewritten, RoundTrip}
use Rattle.security.proofs.Security.{security_length_lem, security_bytes_lem, security_back, security_again, security_small, counter_small}
use Rattle.security.proofs.Security.{security_told_lem, length_again, length_more, security_more}
use Rattle.std.specs.Prelude.{Some, Ok}
use Rattle.octets.proofs.Accepted.{never, one_value}

-- an accepted security header lies whole in the input
pub accepted_whole : (s : List ℕ) (at : ℕ) (h : AuxiliarySecurityHeader) (n : ℕ) → read_security s at ≡ Ok (h, n) →
    (at + length_in s at ≤ length s) × (security_in s at ≡ h) × (length_in s at ≡ n)
unfolding read_security
accepted_whole s at h n e =
    cases (holds? (ends s at (length_in s at)))
    (λ t. absurd (never (simp t at e)))
    (λ f.
    let there : length_in s at ≤ length s - at = ltb-false (length s - at) (length_in s at) f in
    let p = one_value (simp f at e) in
    (omega arith, ap (λ r. r.0) p, ap (λ r. r.1) p))

-- bytes behind it alter nothing
whole_more : (s more : List ℕ) (at : ℕ) → at + length_in s at ≤ length s →
    read_security (s ++ more) at ≡ Ok (security_in s at, length_in s at)
unfolding read_security
whole_more s more at whole =
    let there : length_in s at ≤ length (s ++ more) - at = rw (length-append s more) (omega arith) in
    let enough : ends (s ++ more) at (length_in s at) ≡ false = le-ltb (length (s ++ more) - at) (length_in s at) there in
    simp (length_more s more at whole, enough, security_more s more at whole)

module _ (s : List ℕ) (at : ℕ) (b : Bytes s) (whole : at + length_in s at ≤ length s) where
  abbrev header : AuxiliarySecurityHeader
  header = security_in s at

  accepted : (out : List ℕ) (place : ℕ) → length_in s at ≤ length out - place →
      write_security header (Some header.frame_counter) out place ≡ Ok (length_in s at)
  unfolding write_security
  accepted out place room =
      let level : ltb 7 (level_of header) ≡ false = le-ltb 7 (level_of header) (omega (arith, (security_small s at b whole).0)) in
      let enough : ends out place (length_in s at) ≡ false = le-ltb (length out - place) (length_in s at) room in
      simp (level, length_again s at, enough)

  long : length (security_rewritten header) ≡ length_in s at
  long = security_length_lem header header.frame_counter ∙ length_again s at

  buffer : (out : List ℕ) (to : ℕ) → to + length_in s at ≤ length out →
      laid out to (security_rewritten header) ≡ take to out ++ (security_rewritten header ++ drop (to + length_in s at) out)
  buffer out to room = rw long at (laid_parts out to (security_rewritten header) (rw long room))

  again : (before after : List ℕ) → read_security (before ++ (security_rewritten header ++ after)) (length before) ≡ Ok (header, (length_in s at))
  again before after =
      security_back header header.frame_counter before after (length before) refl
      (security_small s at b whole) (counter_small s at b whole)
      ∙ (λ i. Ok ((security_told_lem s at b whole i), (length_again s at i)))

  settled : security_cleared (security_rewritten header) 0 ≡ security_rewritten header
  settled =
      let bytes = security_rewritten header in
      let read : read_security bytes 0 ≡ Ok (header, (length_in s at)) = rw append-nil at (again [] []) in
      let q = accepted_whole bytes 0 header (length_in s at) read in
      sym (security_again bytes 0 (security_bytes_lem header header.frame_counter) q.0) ∙ ap security_rewritten q.1

  trip : RoundTrip s at header (length_in s at)
  trip = record {
    within = omega arith;
    accepted = accepted;
    written = security_again s at b whole;
    long = long;
    buffer = buffer;
    again = again;
    settled = settled;
    behind = λ more. whole_more s more at whole;
  }

pub round_trip : (s : List ℕ) (at : ℕ) (h : AuxiliarySecurityHeader) (n : ℕ) → Bytes s → read_security s at ≡ Ok (h, n) → RoundTrip s at h n
round_trip s at h n b e =
    let q = accepted_whole s at h n e in
    rw (q.1, q.2) at (trip s at b q.0)

by_mode : (m : KeyIdentifierMode) → (5 + key_length m ≡ 5) ⊎ ((5 + key_length m ≡ 6) ⊎ ((5 + key_length m ≡ 10) ⊎ (5 + key_length m ≡ 14)))
by_mode Mode.None = inl refl
by_mode Mode.KeyIndex = inr (inl refl)
by_mode Mode.KeySource4 = inr (inr (inl refl))
by_mode Mode.KeySource8 = inr (inr (inr refl))

-- a security header takes 5, 6, 10 or 14 bytes
pub lengths : (h : AuxiliarySecurityHeader) →
    (security_length h ≡ 5) ⊎ ((security_length h ≡ 6) ⊎ ((security_length h ≡ 10) ⊎ (security_length h ≡ 14)))
lengths h = by_mode (mode_of_key h.key_identifier)
