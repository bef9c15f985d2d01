-- Laws of the security header: its length, what is read back from what was written, written again from what was read, and not altered by
-- what follows.
-- Assumes nothing.
use Prim.Native.Nat.{ℕ, suc, ◌+◌, ◌-◌, ◌%◌, ◌^◌, ◌≤◌, ◌<◌}
use native.Mathlib.Nat.{add-zero, mod-eq_of_lt}
use native.Mathlib.Omega.{arith}
use mathlib.Core.Bool.{false}
use mathlib.Core.List.{List, [], ◌∷◌, ◌++◌, append_assoc}
use mathlib.Core.Path.{◌≡◌, refl, sym, ap, ◌∙◌}
use borrow.Author.Tests.{le-ltb}
use lib.ListN.{length, get_or, take, drop, length-append, length-drop}
use lib.Seq.{take-add, drop-drop, get_or-drop}
use Rattle.octets.specs.Bits.{clear, clear_at}
use Rattle.octets.specs.Little.{split, number, Bytes}
use Rattle.octets.specs.Part.{ends}
use Rattle.octets.proofs.Little.{split_length, split_bytes, bytes_append, bytes_drop, number_one, number_back, number_again, number_more}
use Rattle.octets.proofs.Little.{number_small}
use Rattle.security_control.specs.declared.KeyIdentifierMode.{KeyIdentifierMode}
use Rattle.security_control.specs.declared.SecurityControl.{SecurityControl}
use Rattle.security_control.specs.Control.{security_control_of, security_control_in}
use Rattle.security_control.proofs.Control.{control_small, control_back, control_again}
use Rattle.security.specs.declared.AuxiliarySecurityHeader.{AuxiliarySecurityHeader}
use Rattle.security.specs.Optional.{optional_length, optional_bytes}
use Rattle.key_identifier.specs.Key.{mode_of_key, key_length, key_in, key_bytes}
use Rattle.security.specs.Security.{security_of, control_at, length_in, security_in, level_of, security_length, security_control_written}
use Rattle.security.specs.Security.{security_bytes, SmallSecurity}
use Rattle.security.specs.Answer.{read_security}
use Rattle.security.specs.RoundTrip.{security_told, security_cleared, security_rewritten}
use Rattle.key_identifier.proofs.Keys.{key_length_lem, key_bytes_lem, key_back, key_again, key_more, key_small, key_mode}
use Rattle.std.specs.Prelude.{Option, Some, None, Ok}

pub security_length_lem : (h : AuxiliarySecurityHeader) (counter : ℕ) → length (security_bytes h counter) ≡ security_length h
unfolding security_bytes
security_length_lem h counter = simp (length-append, split_length, key_length_lem) (omega arith)

pub optional_length_lem : (k : Option AuxiliarySecurityHeader) (counter : ℕ) → length (optional_bytes k counter) ≡ optional_length k
optional_length_lem None counter = refl
optional_length_lem (Some k) counter = security_length_lem k counter

pub security_bytes_lem : (h : AuxiliarySecurityHeader) (counter : ℕ) → Bytes (security_bytes h counter)
unfolding security_bytes
security_bytes_lem h counter =
    let key = h.key_identifier in
    bytes_append (split 1 (security_control_written h)) (split 4 counter ++ key_bytes key) (split_bytes 1 (security_control_written h))
    (bytes_append (split 4 counter) (key_bytes key) (split_bytes 4 counter) (key_bytes_lem key))

-- a record's bytes in a longer list: each part is read back
module _ (h : AuxiliarySecurityHeader) (counter : ℕ) (before after : List ℕ) (at : ℕ) (e : length before ≡ at) where
  abbrev whole : List ℕ
  whole = before ++ (security_bytes h counter ++ after)

  -- the list, parted behind the control and behind the counter
  behind_control : whole ≡ (before ++ split 1 (security_control_written h)) ++ (split 4 counter ++ (key_bytes h.key_identifier ++ after))
  unfolding security_bytes
  behind_control = simp append_assoc

  behind_counter : whole ≡ ((before ++ split 1 (security_control_written h)) ++ split 4 counter) ++ (key_bytes h.key_identifier ++ after)
  unfolding security_bytes
  behind_counter = simp append_assoc

  control_in_lem : number whole at 1 ≡ security_control_written h
  unfolding security_bytes
  control_in_lem =
      let rest : List ℕ = split 4 counter ++ key_bytes h.key_identifier in
      let small = control_small (security_control_of (level_of h) (mode_of_key h.key_identifier)) in
      rw (append_assoc (split 1 (security_control_written h)) rest after)
      (number_back before at 1 (security_control_written h) (rest ++ after) e (omega (arith, small)))

  control_read : level_of h < 8 → control_at whole at ≡ security_control_of (level_of h) (mode_of_key h.key_identifier)
  control_read l = ap security_control_in control_in_lem ∙ control_back (security_control_of (level_of h) (mode_of_key h.key_identifier)) l

  counter_in : counter < 256 ^ 4 → number whole (at + 1) 4 ≡ counter
  counter_in l =
      ap (λ (s : List ℕ). number s (at + 1) 4) behind_control
      ∙ number_back (before ++ split 1 (security_control_written h)) (at + 1) 4 counter (key_bytes h.key_identifier ++ after)
      (simp (length-append, split_length, e)) l

  key_read : SmallSecurity h → key_in (control_at whole at).key_id_mode whole (at + 5) ≡ h.key_identifier
  key_read l =
      let k : length ((before ++ split 1 (security_control_written h)) ++ split 4 counter) ≡ at + 5 =
      simp (length-append, split_length, e) (omega arith) in
      ap (λ (c : SecurityControl). key_in c.key_id_mode whole (at + 5)) (control_read l.0)
      ∙ ap (λ (s : List ℕ). key_in (mode_of_key h.key_identifier) s (at + 5)) behind_counter
      ∙ key_back h.key_identifier ((before ++ split 1 (security_control_written h)) ++ split 4 counter) after (at + 5) k l.1

  pub length_read : level_of h < 8 → length_in whole at ≡ security_length h
  length_read l = ap (λ (c : SecurityControl). 5 + key_length c.key_id_mode) (control_read l)

  -- a record that was written with a counter stands there as told
  pub security_in_lem : SmallSecurity h → counter < 256 ^ 4 → security_in whole at ≡ security_told h counter
  unfolding security_in
  security_in_lem l m = λ i. security_of (control_read l.0 i) (counter_in m i) (key_read l i)

  there : security_length h ≤ length whole - at
  there = simp (length-append, security_length_lem) (omega (arith, e))

  -- and is read so
  pub security_back : SmallSecurity h → counter < 256 ^ 4 → read_security whole at ≡ Ok ((security_told h counter), (security_length h))
  unfolding read_security
  security_back l m =
      let enough : ends whole at (security_length h) ≡ false = le-ltb (length whole - at) (security_length h) there in
      simp (length_read l.0, enough, security_in_lem l m)

-- a security header that was read from bytes: the parts of the bytes, the first with its bits cleared
spliced : (d : List ℕ) (k : ℕ) → Bytes d → 5 + k ≤ length d →
    split 1 (clear 5 3 (get_or d 0 0)) ++ (take 4 (drop 1 d) ++ take k (drop 5 d)) ≡ clear_at 0 5 3 (take (5 + k) d)
unfolding split
spliced [] k b h = absurd (omega arith)
spliced (x ∷ d) k b h =
    let e : 5 + k ≡ suc (4 + k) = omega arith in
    let small : clear 5 3 x % 256 ≡ clear 5 3 x = mod-eq_of_lt (omega (arith, b.0)) in
    rw (e, small) (ap (λ (l : List ℕ). clear 5 3 x ∷ l) (sym (take-add 4 k d)))

pub length_again : (s : List ℕ) (at : ℕ) → security_length (security_in s at) ≡ length_in s at
unfolding security_in
length_again s at = rw (key_mode (control_at s at).key_id_mode s (at + 5))

module _ (s : List ℕ) (at : ℕ) (b : Bytes s) (h : at + length_in s at ≤ length s) where
  abbrev mode : KeyIdentifierMode
  mode = (control_at s at).key_id_mode

  byte : number s at 1 < 256
  byte = number_small s at 1 b (omega arith)

  control_written : security_control_written (security_in s at) ≡ clear 5 3 (get_or (drop at s) 0 0)
  unfolding security_in
  control_written =
      let first : number s at 1 ≡ get_or (drop at s) 0 0 =
      number_one s at ∙ sym (get_or-drop at s 0 0 ∙ ap (λ (i : ℕ). get_or s i 0) (add-zero at)) in
      rw (key_mode mode s (at + 5)) (control_again (number s at 1) byte ∙ ap (clear 5 3) first)

  pub security_again : security_rewritten (security_in s at) ≡ security_cleared s at
  unfolding security_bytes security_in
  security_again =
      rw (
        control_written,
        number_again s (at + 1) 4 b (omega arith),
        key_again mode s (at + 5) b (omega arith),
        ← drop-drop 1 at s,
        ← drop-drop 5 at s,
      )
      (spliced (drop at s) (key_length mode) (bytes_drop at s b) (rw length-drop (omega arith)))

  pub security_small : SmallSecurity (security_in s at)
  unfolding security_in
  security_small = (omega arith, key_small mode s (at + 5) b (omega arith))

  pub counter_small : (security_in s at).frame_counter < 256 ^ 4
  unfolding security_in
  counter_small = number_small s (at + 1) 4 b (omega arith)

  -- what was read agrees with itself: telling it with its own counter changes nothing
  pub security_told_lem : security_told (security_in s at) (security_in s at).frame_counter ≡ security_in s at
  unfolding security_in
  security_told_lem = rw (key_mode mode s (at + 5))

-- bytes behind alter nothing
module _ (s t : List ℕ) (at : ℕ) (h : at + length_in s at ≤ length s) where
  control_more : control_at (s ++ t) at ≡ control_at s at
  control_more = ap security_control_in (number_more s t at 1 (omega arith))

  pub length_more : length_in (s ++ t) at ≡ length_in s at
  length_more = ap (λ (c : SecurityControl). 5 + key_length c.key_id_mode) control_more

  pub security_more : security_in (s ++ t) at ≡ security_in s at
  unfolding security_in
  security_more =
      let key =
      ap (λ (c : SecurityControl). key_in c.key_id_mode (s ++ t) (at + 5)) control_more
      ∙ key_more (control_at s at).key_id_mode s t (at + 5) (omega arith) in
      λ i. security_of (control_more i) (number_more s t (at + 1) 4 (omega arith) i) (key i)
