-- Laws of the key identifier: its length, what is read back from what was written, written again from what was read, not altered by what
-- follows, and within its width.
-- Assumes nothing.
use Prim.Native.Nat.{ℕ, ◌+◌, ◌-◌, ◌^◌, ◌≤◌, ◌<◌}
use native.Mathlib.Omega.{arith}
use mathlib.Core.Bool.{cond}
use mathlib.Core.List.{List, ◌++◌, append_assoc}
use mathlib.Core.Path.{◌≡◌, refl, sym}
use borrow.Author.Tests.{ltb-true}
use lib.Dec.{ltb}
use lib.ListN.{length, take, drop, length-append}
use lib.Seq.{take-add, drop-drop}
use Rattle.octets.specs.Little.{split, number, Bytes}
use Rattle.octets.proofs.Little.{split_length, split_bytes, bytes_append, number_past, number_back, number_again, number_more}
use Rattle.octets.proofs.Little.{number_small}
use Rattle.octets.proofs.Cases.{cases, holds?}
use Rattle.security_control.specs.declared.KeyIdentifierMode.{KeyIdentifierMode}
use Rattle.security_control.specs.declared.KeyIdentifierMode.TheVariants as Mode
use Rattle.key_identifier.specs.declared.KeySource.TheVariants.{Short, Long}
use Rattle.key_identifier.specs.Key.{source_mode, mode_of_key, key_length, key_in, source_length, source_bytes, key_bytes, SmallSource}
use Rattle.key_identifier.specs.Key.{SmallKey}
use Rattle.std.specs.Prelude.{Option, Some, None}
use Rattle.key_identifier.specs.declared.KeySource.{KeySource}
use Rattle.key_identifier.specs.declared.KeyIdentifier.{KeyIdentifier}

-- a key identifier is its source and one byte
pub source_key : (source : Option KeySource) → key_length (source_mode source) ≡ source_length source + 1
source_key None = refl
source_key (Some (Short k)) = refl
source_key (Some (Long k)) = refl

pub source_length_lem : (source : Option KeySource) → length (source_bytes source) ≡ source_length source
source_length_lem None = refl
source_length_lem (Some (Short k)) = split_length 4 k
source_length_lem (Some (Long k)) = split_length 8 k

pub key_length_lem : (k : Option KeyIdentifier) → length (key_bytes k) ≡ key_length (mode_of_key k)
unfolding key_bytes
key_length_lem None = refl
key_length_lem (Some k) = simp (length-append, source_length_lem, split_length, source_key)

source_bytes_lem : (source : Option KeySource) → Bytes (source_bytes source)
source_bytes_lem None = tt
source_bytes_lem (Some (Short k)) = split_bytes 4 k
source_bytes_lem (Some (Long k)) = split_bytes 8 k

pub key_bytes_lem : (k : Option KeyIdentifier) → Bytes (key_bytes k)
unfolding key_bytes
key_bytes_lem None = tt
key_bytes_lem (Some k) =
    bytes_append (source_bytes k.key_source) (split 1 k.key_index)
    (source_bytes_lem k.key_source) (split_bytes 1 k.key_index)

-- a number of n bytes and an index behind it, read back
module _ (before after : List ℕ) (at n v i : ℕ) (e : length before ≡ at) where
  first_back : v < 256 ^ n → number (before ++ ((split n v ++ split 1 i) ++ after)) at n ≡ v
  first_back h = rw (append_assoc (split n v) (split 1 i) after) (number_back before at n v (split 1 i ++ after) e h)

  index_back : i < 256 ^ 1 → number (before ++ ((split n v ++ split 1 i) ++ after)) (at + n) 1 ≡ i
  index_back h =
      let k : length (before ++ split n v) ≡ at + n = simp (length-append, split_length, e) in
      rw (append_assoc (split n v) (split 1 i) after, ← append_assoc before (split n v) (split 1 i ++ after))
      (number_back (before ++ split n v) (at + n) 1 i after k h)

present_back : (source : Option KeySource) (i : ℕ) (before after : List ℕ) (at : ℕ) → length before ≡ at → SmallSource source →
    i < 256 ^ 1 →
    key_in (source_mode source) (before ++ ((source_bytes source ++ split 1 i) ++ after)) at
    ≡ Some (record { key_source = source; key_index = i })
unfolding key_in
present_back None i before after at e h j = rw (number_back before at 1 i after e j)
present_back (Some (Short k)) i before after at e h j =
    rw (first_back before after at 4 k i e h, index_back before after at 4 k i e j)
present_back (Some (Long k)) i before after at e h j =
    rw (first_back before after at 8 k i e h, index_back before after at 8 k i e j)

absent_back : (s : List ℕ) (at : ℕ) → key_in Mode.None s at ≡ None
unfolding key_in
absent_back s at = refl

-- what was written is read as it was
pub key_back : (k : Option KeyIdentifier) (before after : List ℕ) (at : ℕ) → length before ≡ at → SmallKey k →
    key_in (mode_of_key k) (before ++ (key_bytes k ++ after)) at ≡ k
unfolding key_bytes
key_back None before after at e h = absent_back (before ++ after) at
key_back (Some k) before after at e h = present_back k.key_source k.key_index before after at e h.0 h.1

-- what was read is written as it was
number_and_index : (s : List ℕ) (at n : ℕ) → Bytes s → at + (n + 1) ≤ length s →
    split n (number s at n) ++ split 1 (number s (at + n) 1) ≡ take (n + 1) (drop at s)
number_and_index s at n b h =
    rw (number_again s at n b (omega arith), number_again s (at + n) 1 b (omega arith), ← drop-drop n at s) (sym (take-add n 1 (drop at s)))

pub key_again : (m : KeyIdentifierMode) (s : List ℕ) (at : ℕ) → Bytes s → at + key_length m ≤ length s →
    key_bytes (key_in m s at) ≡ take (key_length m) (drop at s)
unfolding key_in key_bytes
key_again Mode.None s at b h = refl
key_again Mode.KeyIndex s at b h = number_again s at 1 b h
key_again Mode.KeySource4 s at b h = number_and_index s at 4 b h
key_again Mode.KeySource8 s at b h = number_and_index s at 8 b h

-- a place n bytes on, or where the list ends, whichever comes first: past the end all places read alike
key_past : (m : KeyIdentifierMode) (s : List ℕ) (at next : ℕ) → length s ≤ at → length s ≤ next → key_in m s at ≡ key_in m s next
unfolding key_in
key_past Mode.None s at next h k = refl
key_past Mode.KeyIndex s at next h k = rw (number_past s at 1 h, number_past s next 1 k)
key_past Mode.KeySource4 s at next h k =
    rw (number_past s at 4 h, number_past s next 4 k, number_past s (at + 4) 1 (omega arith), number_past s (next + 4) 1 (omega arith))
key_past Mode.KeySource8 s at next h k =
    rw (number_past s at 8 h, number_past s next 8 k, number_past s (at + 8) 1 (omega arith), number_past s (next + 8) 1 (omega arith))

pub key_behind : (m : KeyIdentifierMode) (s : List ℕ) (at n : ℕ) →
    key_in m s (cond (ltb (length s - at) n) (length s) (at + n)) ≡ key_in m s (at + n)
key_behind m s at n =
    cases (holds? (ltb (length s - at) n))
    (λ t. let h : length s - at < n = ltb-true _ _ t in simp t (key_past m s (length s) (at + n) (omega arith) (omega arith)))
    (λ t. simp t)

-- bytes behind alter nothing
pub key_more : (m : KeyIdentifierMode) (s t : List ℕ) (at : ℕ) → at + key_length m ≤ length s → key_in m (s ++ t) at ≡ key_in m s at
unfolding key_in
key_more Mode.None s t at h = refl
key_more Mode.KeyIndex s t at h = rw (number_more s t at 1 h)
key_more Mode.KeySource4 s t at h = rw (number_more s t at 4 (omega arith), number_more s t (at + 4) 1 (omega arith))
key_more Mode.KeySource8 s t at h = rw (number_more s t at 8 (omega arith), number_more s t (at + 8) 1 (omega arith))

-- what was read fits its width, and has the mode that it was read by
pub key_small : (m : KeyIdentifierMode) (s : List ℕ) (at : ℕ) → Bytes s → at + key_length m ≤ length s → SmallKey (key_in m s at)
unfolding key_in
key_small Mode.None s at b h = tt
key_small Mode.KeyIndex s at b h = (tt, number_small s at 1 b h)
key_small Mode.KeySource4 s at b h = (number_small s at 4 b (omega arith), number_small s (at + 4) 1 b (omega arith))
key_small Mode.KeySource8 s at b h = (number_small s at 8 b (omega arith), number_small s (at + 8) 1 b (omega arith))

pub key_mode : (m : KeyIdentifierMode) (s : List ℕ) (at : ℕ) → mode_of_key (key_in m s at) ≡ m
unfolding key_in
key_mode Mode.None s at = refl
key_mode Mode.KeyIndex s at = refl
key_mode Mode.KeySource4 s at = refl
key_mode Mode.KeySource8 s at = refl
