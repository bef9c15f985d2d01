-- A header that was read, written again: the bytes that were read with the listed bits cleared.
-- Assumes nothing.
use Prim.Native.Nat.{ℕ, suc, ◌+◌, ◌-◌, ◌*◌, ◌/◌, ◌%◌, ◌^◌, ◌≤◌, ◌<◌}
use native.Mathlib.Nat.{div-one, mul-one, add-zero}
use native.Mathlib.Omega.{arith}
use mathlib.Core.Bool.{Bool, cond}
use mathlib.Core.List.{List, [], ◌∷◌, ◌++◌, append-nil}
use mathlib.Core.Path.{◌≡◌, sym, ap, ◌∙◌}
use lib.ListN.{length, get_or, take, drop}
use lib.Seq.{take-add, length-take-le}
use Rattle.octets.specs.Bits.{bits, bit, clear, clear_at}
use Rattle.octets.specs.Little.{split, number, Bytes}
use Rattle.octets.proofs.Bits.{clear_behind}
use Rattle.octets.proofs.Little.{bytes_at, number_one, number_join, number_small}
use Rattle.octets.proofs.Cases.{cases, holds?}
use Rattle.header_bytes.specs.Layout.{start, pan_size, address_size, security_size, destination_end, source_end}
use Rattle.header_bytes.specs.Cleared.{header_cleared}
use Rattle.header_bytes.proofs.Passed.{Passed}
use Rattle.frame_control.specs.Control.{control_of, control_bits, quiet_control}
use Rattle.frame_control.specs.Modes.{mode_in}
use Rattle.frame_control.proofs.Control.{control_quiet}
use Rattle.identifiers.specs.PanId.{pan}
use Rattle.address.specs.Address.{shared_pan}
use Rattle.address.specs.Layout.{address_bytes}
use Rattle.address.proofs.Addresses.{address_again}
use Rattle.security.specs.Optional.{optional_in, optional_bytes, counter_of, counter_read}
use Rattle.security.proofs.Security.{security_again}
use Rattle.header.specs.declared.Header.{Header}
use Rattle.header.specs.Read.{destination_in, header_in}
use Rattle.header.specs.Write.{written_control, fixed_bytes, addresses_bytes, header_bytes}
use Rattle.header_facts.specs.Rewritten.{rewritten}
use Rattle.header_facts.proofs.Fields.{own_to, own_from, known, to_mode, from_mode, owns_to_lem, owns_from_lem, destination_size, source_size}
use Rattle.header_facts.proofs.Fields.{part_present, part_whole, security_size_lem}

-- the two bytes of a frame control without its bits 7, 8 and 9
low_byte : (a b x y : ℕ) → a < 256 → x * 128 ≤ a → y ≤ b → ((a + 256 * b) - (x + 2 * y) * 128) % 256 ≡ a - x * 128
low_byte a b x y h k l = omega arith

high_byte : (a b x y : ℕ) → a < 256 → b < 256 → x * 128 ≤ a → y ≤ b → ((a + 256 * b) - (x + 2 * y) * 128) / 256 % 256 ≡ b - y
high_byte a b x y h i k l = omega arith

word_bytes : (a b : ℕ) → a < 256 → b < 256 → split 2 (clear 7 3 (a + 256 * b)) ≡ clear 7 1 a ∷ clear 0 2 b ∷ []
unfolding split
word_bytes a b h k =
    let high : (a + 256 * b) / 128 ≡ a / 128 + 2 * b = omega arith in
    let three : (a / 128 + 2 * b) % 8 ≡ a / 128 + 2 * (b % 4) = omega arith in
    let one : a / 128 % 2 ≡ a / 128 = omega arith in
    let two : clear 0 2 b ≡ b - b % 4 = rw (div-one, mul-one) in
    rw (
      high,
      three,
      one,
      two,
      low_byte a b (a / 128) (b % 4) h (omega arith) (omega arith),
      high_byte a b (a / 128) (b % 4) h k (omega arith) (omega arith),
    )

one_byte : (x : ℕ) → x < 256 → split 1 x ≡ x ∷ []
unfolding split
one_byte x h = let e : x % 256 ≡ x = omega arith in rw e

-- three bytes, two addresses and a security part of m bytes are the bytes from the beginning
spliced_absent : (s : List ℕ) (a b : ℕ) → 3 + a + b ≤ length s →
    (clear 7 1 (get_or s 0 0) ∷ clear 0 2 (get_or s 1 0) ∷ get_or s 2 0 ∷ []) ++ ((take a (drop 3 s) ++ take b (drop (3 + a) s)) ++ [])
    ≡ clear_at 1 0 2 (clear_at 0 7 1 (take (3 + a + b + 0) s))
spliced_absent [] a b h = absurd (omega arith)
spliced_absent (x ∷ []) a b h = absurd (omega arith)
spliced_absent (x ∷ y ∷ []) a b h = absurd (omega arith)
spliced_absent (x ∷ y ∷ z ∷ rest) a b h =
    let e : 3 + a + b + 0 ≡ suc (suc (suc (a + b))) = omega arith in
    let f : 3 + a ≡ suc (suc (suc a)) = omega arith in
    rw (e, f, append-nil (take a rest ++ take b (drop a rest)), take-add a b rest)

spliced_present : (s : List ℕ) (a b m : ℕ) → 3 + a + b + m ≤ length s →
    (clear 7 1 (get_or s 0 0) ∷ clear 0 2 (get_or s 1 0) ∷ get_or s 2 0 ∷ [])
    ++ ((take a (drop 3 s) ++ take b (drop (3 + a) s)) ++ clear_at 0 5 3 (take m (drop (3 + a + b) s)))
    ≡ clear_at (3 + a + b) 5 3 (clear_at 1 0 2 (clear_at 0 7 1 (take (3 + a + b + m) s)))
spliced_present [] a b m h = absurd (omega arith)
spliced_present (x ∷ []) a b m h = absurd (omega arith)
spliced_present (x ∷ y ∷ []) a b m h = absurd (omega arith)
spliced_present (x ∷ y ∷ z ∷ rest) a b m h =
    let e : 3 + a + b + m ≡ suc (suc (suc (a + b + m))) = omega arith in
    let f : 3 + a ≡ suc (suc (suc a)) = omega arith in
    let g : 3 + a + b ≡ suc (suc (suc (a + b))) = omega arith in
    let l : length (take (a + b) rest) ≡ a + b = length-take-le (a + b) rest (omega arith) in
    rw (e, g, f, ← take-add a b rest)
    (ap (λ (l : List ℕ). clear 7 1 x ∷ clear 0 2 y ∷ z ∷ l)
    (sym (rw (take-add (a + b) m rest) (clear_behind (take (a + b) rest) (take m (drop (a + b) rest)) (a + b) 5 3 l))))

module _ (s : List ℕ) (b : Bytes s) (p : Passed s (number s 0 2)) where
  abbrev w : ℕ
  w = number s 0 2

  abbrev header : Header
  header = header_in s w

  abbrev own_to_lem : Bool
  own_to_lem = own_to s p

  abbrev own_from_lem : Bool
  own_from_lem = own_from s p

  abbrev to : ℕ
  to = pan_size own_to_lem + address_size (bits w 10 2)

  abbrev from : ℕ
  from = pan_size own_from_lem + address_size (bits w 14 2)

  control_written : written_control header ≡ quiet_control (control_of w)
  control_written = rw (part_present (bit w 3) s (source_end w), to_mode s p, from_mode s p)

  word : w ≡ get_or s 0 0 + 256 * get_or s 1 0
  word = number_join s 0 1 1 ∙ (λ i. number_one s 0 i + 256 * number_one s 1 i)

  fixed_written : fixed_bytes header ≡ clear 7 1 (get_or s 0 0) ∷ clear 0 2 (get_or s 1 0) ∷ get_or s 2 0 ∷ []
  fixed_written =
      let small : w < 256 ^ 2 = number_small s 0 2 b (omega (arith, p.three)) in
      let both : split 2 (control_bits (written_control header)) ≡ clear 7 1 (get_or s 0 0) ∷ clear 0 2 (get_or s 1 0) ∷ [] =
      ap (split 2) (ap control_bits control_written ∙ control_quiet w (known s p) small ∙ ap (clear 7 3) word)
      ∙ word_bytes (get_or s 0 0) (get_or s 1 0) (bytes_at s 0 b) (bytes_at s 1 b) in
      let third : split 1 (number s 2 1) ≡ get_or s 2 0 ∷ [] = ap (split 1) (number_one s 2) ∙ one_byte (get_or s 2 0) (bytes_at s 2 b) in
      λ i. both i ++ third i

  destination_written : address_bytes own_to_lem header.destination ≡ take to (drop 3 s)
  destination_written =
      let size = destination_size s p in
      address_again own_to_lem (pan 0) (mode_in (bits w 10 2)) s (start (bit w 8)) b (omega (arith, p.addresses, size))
      ∙ ap (λ (n : ℕ). take n (drop 3 s)) size

  source_written : address_bytes own_from_lem header.source ≡ take from (drop (3 + to) s)
  source_written =
      let size = source_size s p in
      address_again own_from_lem (shared_pan (destination_in s w)) (mode_in (bits w 14 2)) s (destination_end w) b
      (omega (arith, p.addresses, size))
      ∙ ap (λ (n : ℕ). take n (drop (3 + to) s)) size

  addresses_written : addresses_bytes header ≡ take to (drop 3 s) ++ take from (drop (3 + to) s)
  addresses_written =
      (λ i. address_bytes (owns_to_lem s p i) header.destination ++ address_bytes (owns_from_lem s p i) header.source)
      ∙ (λ i. destination_written i ++ source_written i)

  -- with the security part, by cases
  abbrev secured_bytes : Bool → List ℕ
  secured_bytes on =
      let k = optional_in on s (source_end w) in
      optional_bytes k (counter_of (counter_read k))

  abbrev cleared_bytes : Bool → List ℕ
  cleared_bytes on =
      let l = take (cond on (source_end w + security_size (bits (number s (source_end w) 1) 3 2)) (source_end w)) s in
      cond on (clear_at (source_end w) 5 3 (clear_at 1 0 2 (clear_at 0 7 1 l))) (clear_at 1 0 2 (clear_at 0 7 1 l))

  parts : rewritten header
      ≡ (clear 7 1 (get_or s 0 0) ∷ clear 0 2 (get_or s 1 0) ∷ get_or s 2 0 ∷ [])
      ++ ((take to (drop 3 s) ++ take from (drop (3 + to) s)) ++ secured_bytes (bit w 3))
  unfolding header_bytes
  parts = λ i. fixed_written i ++ (addresses_written i ++ secured_bytes (bit w 3))

  whole : rewritten header ≡ cleared_bytes (bit w 3)
  whole =
      let addresses = p.addresses in
      let front : List ℕ = clear 7 1 (get_or s 0 0) ∷ clear 0 2 (get_or s 1 0) ∷ get_or s 2 0 ∷ [] in
      let middle : List ℕ = take to (drop 3 s) ++ take from (drop (3 + to) s) in
      cases (holds? (bit w 3))
      (λ on.
      let there = part_whole s p on in
      let size = security_size_lem s (source_end w) in
      parts
      ∙ ap (λ (on : Bool). front ++ (middle ++ secured_bytes on)) on
      ∙ ap (λ (l : List ℕ). front ++ (middle ++ l)) (security_again s (source_end w) b there)
      ∙ ap (λ (n : ℕ). front ++ (middle ++ clear_at 0 5 3 (take n (drop (source_end w) s)))) size
      ∙ spliced_present s to from (security_size (bits (number s (source_end w) 1) 3 2)) (omega (arith, size))
      ∙ ap cleared_bytes (sym on))
      (λ off.
      parts
      ∙ ap (λ (on : Bool). front ++ (middle ++ secured_bytes on)) off
      ∙ spliced_absent s to from (omega arith)
      ∙ ap (λ (n : ℕ). clear_at 1 0 2 (clear_at 0 7 1 (take n s))) (add-zero (source_end w))
      ∙ ap cleared_bytes (sym off))

  pub header_again_lem : rewritten header ≡ header_cleared s
  unfolding header_cleared
  header_again_lem = whole
