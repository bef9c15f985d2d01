-- Laws of a line of a trace and its four fields: what taking it apart finds at a place are its fields, and a line of four fields is found
-- as a whole.
-- Assumes nothing.
use Prim.Native.Nat.{ℕ, ◌+◌, ◌-◌, ◌*◌, ◌≤◌, ◌<◌}
use native.Mathlib.Omega.{arith}
use mathlib.Core.Bool.{true, false, ◌&&◌}
use Rattle.std.specs.Prelude.{Option, Some}
use mathlib.Core.List.{List, [], ◌∷◌, ◌++◌, append_assoc}
use mathlib.Core.Path.{◌≡◌, refl, sym, ap, ◌∙◌}
use borrow.Author.Tests.{lt-ltb, eq-eqb}
use lib.ListN.{length, get_or, take, drop, length-append, length-take, length-drop, take-append-drop}
use lib.Seq.{take_at, take_all, drop-drop, drop-append-add, get_or_at, get_or-drop}
use Rattle.octets.specs.Buffer.{laid}
use Rattle.octets.specs.Little.{Bytes}
use Rattle.octets.proofs.Cases.{cases, holds?, both}
use Rattle.octets.proofs.Lists.{take_again}
use Rattle.line_cutter.specs.Line.{line_most, before, is_at}
use Rattle.line_cutter.proofs.Line.{Free, free_append, free_first, before_free, before_take, there, split_there}
use Rattle.hexadecimal.specs.Hex.{worths, unhex, unhex_by, decoded, decoded_by}
use Rattle.hexadecimal.proofs.Hex.{Decoding, decoding, by_digits, unhex_length, unhex_take, whole_good}
use Rattle.decimal.specs.Decimal.{is_numeral, numeric, value_of, is_decimal, numerals}
use Rattle.decimal.proofs.Numerals.{decimal_numeric, numeral_differs, numeric_parts, numerals_all, numerals_front}
use Rattle.labelled.proofs.Answer.{feed_foreign, foreign_free}
use Rattle.labelled.proofs.Form.{frame_within}
use Rattle.trace_line.specs.declared.Parts.{Parts}
use Rattle.trace_line.specs.Parts.{has_decimal, decimal_value, decimal_end, antenna_end, size_place, bytes_place, has_fields, frame_in, parts_in}
use Rattle.trace_line.proofs.Parting.{field_within}

-- digits hold no byte that is no digit
free_numeric : (a : ℕ) (s : List ℕ) → is_numeral a ≡ false → numeric s ≡ true → Free a s
free_numeric a [] e h = tt
free_numeric a (c ∷ s) e h = let p = numeric_parts c s h in (numeral_differs a c e p.0, free_numeric a s e p.1)

pub free_decimal : (a : ℕ) (s : List ℕ) → is_numeral a ≡ false → is_decimal s ≡ true → Free a s
free_decimal a s e h = free_numeric a s e (decimal_numeric s h)

-- a decimal with its tab that is found at a place
module _ (s : List ℕ) (at : ℕ) (h : has_decimal s at ≡ true) where
  field_decimal : is_decimal (numerals (drop at s)) ≡ true
  unfolding has_decimal
  field_decimal = (both _ (is_at s (at + length (numerals (drop at s))) 9) h).0

  field_tab : is_at s (at + length (numerals (drop at s))) 9 ≡ true
  unfolding has_decimal
  field_tab = (both (is_decimal (numerals (drop at s))) _ h).1

  field_parted : drop at s ≡ numerals (drop at s) ++ (9 ∷ drop (decimal_end s at) s)
  field_parted =
      let n = length (numerals (drop at s)) in
      let t = there s (at + n) 9 field_tab in
      split_there s at n (at + n) 9 refl t.0 t.1 ∙ rw (numerals_front (drop at s))

-- a byte that parts what stands from a place on is there, and the rest is what stands from behind it on
module _ (s : List ℕ) (at : ℕ) (t u : List ℕ) (b : ℕ) (e : drop at s ≡ t ++ (b ∷ u)) where
  part_there : is_at s (at + length t) b ≡ true
  part_there =
      let l : at + length t < length s = omega (arith, ap length e, length-append t (b ∷ u), length-drop at s) in
      let g : get_or s (at + length t) 0 ≡ b = sym (get_or-drop at s (length t) 0) ∙ ap (λ (l : List ℕ). get_or l (length t) 0) e ∙ get_or_at t b u 0 (length t) refl in
      simp (lt-ltb _ _ l, eq-eqb _ _ g)

  part_behind : drop (at + length t + 1) s ≡ u
  part_behind =
      let k : at + length t + 1 ≡ at + (length t + 1) = omega arith in
      rw k (sym (drop-drop (length t + 1) at s) ∙ ap (drop (length t + 1)) e ∙ drop-append-add t (b ∷ u) 1)

-- a decimal and a tab are found
module _ (s : List ℕ) (at : ℕ) (t u : List ℕ) (d : is_decimal t ≡ true) (e : drop at s ≡ t ++ (9 ∷ u)) where
  digits_there : numerals (drop at s) ≡ t
  digits_there = ap numerals e ∙ numerals_all t u 9 (decimal_numeric t d) refl

  decimal_there : has_decimal s at ≡ true
  unfolding has_decimal
  decimal_there = rw digits_there (simp (d, part_there s at t u 9 e))

-- a line of a trace and its fields: tick and size decimals, no tab in the antenna, and digits that all stand for bytes
pub record Fielded (line tick antenna size digits : List ℕ) : Type 0 where
  pub parted : line ≡ tick ++ (9 ∷ (antenna ++ (9 ∷ (size ++ (9 ∷ digits)))))
  pub counted : is_decimal tick ≡ true
  pub free : Free 9 antenna
  pub sized : is_decimal size ≡ true
  pub whole : 2 * length (unhex digits) ≡ length digits

fields_length : (tick antenna size digits : List ℕ) →
    length (tick ++ (9 ∷ (antenna ++ (9 ∷ (size ++ (9 ∷ digits)))))) ≡ length tick + length antenna + length size + length digits + 3
fields_length tick antenna size digits =
    let a = length-append size (9 ∷ digits) in
    let b = length-append antenna (9 ∷ (size ++ (9 ∷ digits))) in
    omega (arith, length-append tick (9 ∷ (antenna ++ (9 ∷ (size ++ (9 ∷ digits))))), a, b)

-- it holds no line feed where the antenna holds none
joined_free : (s t : List ℕ) → Free 10 s → Free 10 t → Free 10 (s ++ (9 ∷ t))
joined_free s t f g = free_append 10 s (9 ∷ t) f (refl, g)

pub fields_free : (l tick antenna size digits : List ℕ) → Fielded l tick antenna size digits → Free 10 antenna → Free 10 l
fields_free l tick antenna size digits f free =
    let last = foreign_free 10 digits feed_foreign (whole_good digits f.whole).1 in
    rw f.parted
    (joined_free tick (antenna ++ (9 ∷ (size ++ (9 ∷ digits)))) (free_decimal 10 tick refl f.counted)
    (joined_free antenna (size ++ (9 ∷ digits)) free (joined_free size digits (free_decimal 10 size refl f.sized) last)))

-- what is found where the fields are there
module _ (s : List ℕ) (at stop : ℕ) where
  abbrev pub tick_in : List ℕ
  tick_in = numerals (drop at s)

  abbrev pub antenna_in : List ℕ
  antenna_in = before 9 stop (drop (decimal_end s at) s)

  abbrev pub size_in : List ℕ
  size_in = numerals (drop (size_place s at stop) s)

  module _ (h : has_fields s at stop ≡ true) where
    has_size : has_decimal s (size_place s at stop) ≡ true
    unfolding has_fields
    has_size = (both (has_decimal s at && is_at s (antenna_end s (decimal_end s at) stop) 9) _ h).1

    has_front : (has_decimal s at && is_at s (antenna_end s (decimal_end s at) stop) 9) ≡ true
    unfolding has_fields
    has_front = (both _ (has_decimal s (size_place s at stop)) h).0

    has_tick : has_decimal s at ≡ true
    has_tick = (both _ (is_at s (antenna_end s (decimal_end s at) stop) 9) has_front).0

    has_tab : is_at s (antenna_end s (decimal_end s at) stop) 9 ≡ true
    has_tab = (both (has_decimal s at) _ has_front).1

    -- the bytes begin behind three fields and their tabs, in the list
    bytes_begin : bytes_place s at stop ≡ at + length tick_in + length antenna_in + length size_in + 3
    bytes_begin = omega arith

    bytes_within : bytes_place s at stop ≤ length s
    bytes_within = field_within s (size_place s at stop) has_size

    antenna_parted : drop (decimal_end s at) s ≡ antenna_in ++ (9 ∷ drop (size_place s at stop) s)
    antenna_parted =
        let from = decimal_end s at in
        let t = there s (antenna_end s from stop) 9 has_tab in
        split_there s from (length antenna_in) (antenna_end s from stop) 9 refl t.0 t.1
        ∙ ap (λ (l : List ℕ). l ++ (9 ∷ drop (size_place s at stop) s)) (before_take 9 stop (drop from s))

    fields_parted : drop at s ≡ tick_in ++ (9 ∷ (antenna_in ++ (9 ∷ (size_in ++ (9 ∷ drop (bytes_place s at stop) s)))))
    fields_parted =
        field_parted s at has_tick
        ∙ ap (λ (l : List ℕ). tick_in ++ (9 ∷ l)) antenna_parted
        ∙ ap (λ (l : List ℕ). tick_in ++ (9 ∷ (antenna_in ++ (9 ∷ l)))) (field_parted s (size_place s at stop) has_size)

    module _ (table : List ℕ) (room : ℕ) where
      parts_there : parts_in table s at stop room ≡ Some (record {
        size = decimal_value s (size_place s at stop);
        count = length (decoded_by table s (bytes_place s at stop) room);
        end = bytes_place s at stop + 2 * length (decoded_by table s (bytes_place s at stop) room);
      })
      unfolding parts_in
      parts_there = simp h

      frame_there : frame_in table s at stop room ≡ decoded_by table s (bytes_place s at stop) room
      unfolding frame_in
      frame_there = simp h

-- by any table: there is room for the bytes that are found, and what is found lies in the list
module _ (table s : List ℕ) (at stop room : ℕ) (r : Parts) (e : Some r ≡ parts_in table s at stop room) where
  has_fields_lem : has_fields s at stop ≡ true
  unfolding parts_in
  has_fields_lem = cases (holds? (has_fields s at stop)) (λ h. h) (λ h. absurd (let k = simp h at e in cc))

  parts_here : r ≡ record {
    size = decimal_value s (size_place s at stop);
    count = length (decoded_by table s (bytes_place s at stop) room);
    end = bytes_place s at stop + 2 * length (decoded_by table s (bytes_place s at stop) room);
  }
  parts_here = let k = e ∙ parts_there s at stop has_fields_lem table room in cc

  size_here : r.size ≡ decimal_value s (size_place s at stop)
  size_here = ap (λ (p : Parts). p.size) parts_here

  count_here : r.count ≡ length (decoded_by table s (bytes_place s at stop) room)
  count_here = ap (λ (p : Parts). p.count) parts_here

  end_here : r.end ≡ bytes_place s at stop + 2 * r.count
  end_here = ap (λ (p : Parts). p.end) parts_here ∙ rw count_here

  pub count_few : r.count ≤ room
  count_few = omega (arith, count_here, length-take room (unhex_by table (drop (bytes_place s at stop) s)))

  pub count_within : 2 * r.count ≤ length s
  count_within = omega (arith, count_here, frame_within table s (bytes_place s at stop) room)

  pub parts_within : (at < r.end) × (r.end ≤ length s)
  parts_within =
      let h = has_fields_lem in
      let place = bytes_place s at stop in
      let begin = bytes_begin s at stop h in
      let few = frame_within table (drop place s) 0 room in
      (omega (arith, end_here, begin), omega (arith, end_here, count_here, few, bytes_within s at stop h, length-drop place s))

-- what the code that takes a line apart promises, by the values of hex digits and with room for 512 bytes
pub record Found (table s : List ℕ) (at stop : ℕ) (frame : List ℕ) (r : Option Parts) (after : List ℕ) : Type 0 where
  pub values : table ≡ worths 256
  pub bytes : Bytes s
  pub room : length frame ≡ 512
  pub parts : (r ≡ parts_in table s at stop (length frame)) × (after ≡ laid frame 0 (frame_in table s at stop (length frame)))

-- what is then found is a line of four fields, from its place up to its end
module _ (table s : List ℕ) (at stop : ℕ) (frame : List ℕ) (r : Parts) (after : List ℕ)
    (found : Found table s at stop frame (Some r) after) where
  have : has_fields s at stop ≡ true
  have = has_fields_lem table s at stop (length frame) r found.parts.0

  abbrev pub digits_in : List ℕ
  digits_in = take (2 * r.count) (drop (bytes_place s at stop) s)

  pub found_size : r.size ≡ value_of (size_in s at stop)
  found_size = size_here table s at stop (length frame) r found.parts.0

  found_decoding : Decoding s (bytes_place s at stop) 512 r.count after
  found_decoding =
      decoding table s frame after (bytes_place s at stop) r.count 512 found.values found.bytes found.room (
        count_here table s at stop (length frame) r found.parts.0,
        found.parts.1 ∙ ap (laid frame 0) (frame_there s at stop have table (length frame)),
      )

  pub found_bytes : unhex digits_in ≡ take r.count after
  found_bytes =
      let rest = drop (bytes_place s at stop) s in
      unhex_take r.count rest ∙ ap (λ (k : ℕ). take k (unhex rest)) found_decoding.count ∙ take_again 512 (unhex rest)
      ∙ sym found_decoding.bytes

  bytes_length : length (unhex digits_in) ≡ r.count
  bytes_length = ap length found_bytes ∙ ap length found_decoding.bytes ∙ sym found_decoding.count

  digits_whole : 2 * length (unhex digits_in) ≡ length digits_in
  digits_whole = omega (arith, bytes_length, unhex_length digits_in, length-take (2 * r.count) (drop (bytes_place s at stop) s))

  laid_out : take (r.end - at) (drop at s) ≡ tick_in s at stop ++ (9 ∷ (antenna_in s at stop ++ (9 ∷ (size_in s at stop ++ (9 ∷ digits_in)))))
  laid_out =
      let tick = tick_in s at stop in
      let antenna = antenna_in s at stop in
      let size = size_in s at stop in
      let rest = drop (bytes_place s at stop) s in
      let line = tick ++ (9 ∷ (antenna ++ (9 ∷ (size ++ (9 ∷ digits_in))))) in
      let last = drop (2 * r.count) rest in
      let parted : drop at s ≡ line ++ last =
      fields_parted s at stop have
      ∙ ap (λ (l : List ℕ). tick ++ (9 ∷ (antenna ++ (9 ∷ (size ++ (9 ∷ l)))))) (sym (take-append-drop (2 * r.count) rest))
      ∙ sym (simp append_assoc) in
      let end = end_here table s at stop (length frame) r found.parts.0 in
      ap (take (r.end - at)) parted
      ∙ take_at line last (r.end - at)
      (omega (arith, fields_length tick antenna size digits_in, end, bytes_begin s at stop have, bytes_length, digits_whole))

  pub found_fields : Fielded (take (r.end - at) (drop at s)) (tick_in s at stop) (antenna_in s at stop) (size_in s at stop) digits_in
  found_fields = record {
    parted = laid_out;
    counted = field_decimal s at (has_tick s at stop have);
    free = free_first 9 stop (drop (decimal_end s at) s);
    sized = field_decimal s (size_place s at stop) (has_size s at stop have);
    whole = digits_whole;
  }

-- a line of four fields that is not too long is found as a whole
module _ (table s : List ℕ) (at : ℕ) (tick antenna size digits : List ℕ) (f : Fielded (drop at s) tick antenna size digits) where
  abbrev antenna_place : ℕ
  antenna_place = at + length tick + 1

  abbrev size_begin : ℕ
  size_begin = antenna_place + length antenna + 1

  abbrev digits_place : ℕ
  digits_place = size_begin + length size + 1

  tick_there : numerals (drop at s) ≡ tick
  tick_there = digits_there s at tick _ f.counted f.parted

  behind_tick : drop antenna_place s ≡ antenna ++ (9 ∷ (size ++ (9 ∷ digits)))
  behind_tick = part_behind s at tick _ 9 f.parted

  antenna_end_lem : antenna_end s (decimal_end s at) 9 ≡ antenna_place + length antenna
  antenna_end_lem = rw (tick_there, behind_tick, before_free 9 antenna (size ++ (9 ∷ digits)) f.free)

  behind_antenna : drop size_begin s ≡ size ++ (9 ∷ digits)
  behind_antenna = part_behind s antenna_place antenna _ 9 behind_tick

  size_there : numerals (drop size_begin s) ≡ size
  size_there = digits_there s size_begin size digits f.sized behind_antenna

  behind_size : drop digits_place s ≡ digits
  behind_size = part_behind s size_begin size digits 9 behind_antenna

  digits_place_lem : bytes_place s at 9 ≡ digits_place
  digits_place_lem = ap (λ (k : ℕ). decimal_end s (k + 1)) antenna_end_lem ∙ ap (λ (t : List ℕ). size_begin + length t + 1) size_there

  fields_there : has_fields s at 9 ≡ true
  unfolding has_fields
  fields_there =
      let t = decimal_there s at tick _ f.counted f.parted in
      let k = rw (sym antenna_end_lem) at (part_there s antenna_place antenna _ 9 behind_tick) in
      let l = rw (sym antenna_end_lem) at (decimal_there s size_begin size digits f.sized behind_antenna) in
      simp (t, k, l)

  module _ (values : table ≡ worths 256) (bytes : Bytes s) (short : length (drop at s) ≤ line_most) where
    line_length : length (drop at s) ≡ length tick + length antenna + length size + length digits + 3
    line_length = ap length f.parted ∙ fields_length tick antenna size digits

    all_decoded : decoded_by table s (bytes_place s at 9) 512 ≡ unhex digits
    all_decoded =
        by_digits table s (bytes_place s at 9) 512 values bytes
        ∙ ap (λ (k : ℕ). decoded s k 512) digits_place_lem
        ∙ ap (λ (l : List ℕ). take 512 (unhex l)) behind_size
        ∙ take_all 512 (unhex digits) (omega (arith, f.whole, line_length, short))

    pub all_found : (r : Parts) × (parts_in table s at 9 512 ≡ Some r) × (r.end ≡ length s)
    all_found =
        let p = parts_there s at 9 fields_there table 512 in (
          _,
          p,
          omega (arith, digits_place_lem, ap length all_decoded, f.whole, line_length, length-drop at s),
        )
