-- Laws of a line that is taken apart: which of its fields are there, as the code finds them one after the other.
-- Assumes nothing.
use Prim.Native.Nat.{ℕ, ◌+◌, ◌*◌, ◌≤◌}
use native.Mathlib.Omega.{arith}
use mathlib.Core.Bool.{true, false, and-false}
use mathlib.Core.List.{List}
use mathlib.Core.Path.{◌≡◌, refl, sym, ap, ◌∙◌}
use Rattle.std.specs.Prelude.{Some, None}
use lib.ListN.{length, drop}
use Rattle.octets.specs.Buffer.{laid}
use Rattle.octets.proofs.Buffer.{laid_none}
use Rattle.octets.proofs.Cases.{cases, holds?, both}
use Rattle.line_cutter.specs.Line.{is_at}
use Rattle.line_cutter.proofs.Line.{there}
use Rattle.hexadecimal.specs.Hex.{decoded_by}
use Rattle.decimal.specs.declared.Decimal.{Decimal}
use Rattle.decimal.specs.Decimal.{value_of, is_decimal, numerals, decimal_in}
use Rattle.trace_line.specs.declared.Field.{Field}
use Rattle.trace_line.specs.Parts.{has_decimal, decimal_value, decimal_end, decimal_field, antenna_end, size_place, bytes_place, has_fields, frame_in, parts_in}

-- a decimal with its tab
module _ (s : List ℕ) (at : ℕ) (d : Decimal) (e : d ≡ decimal_in (drop at s) at) where
  read_end : d.end ≡ at + length (numerals (drop at s))
  unfolding decimal_in
  read_end = ap (λ (d : Decimal). d.end) e

  read_none : is_decimal (numerals (drop at s)) ≡ false → d.value ≡ None
  unfolding decimal_in
  read_none h = ap (λ (d : Decimal). d.value) e ∙ simp h

  read_some : is_decimal (numerals (drop at s)) ≡ true → d.value ≡ Some (value_of (numerals (drop at s)))
  unfolding decimal_in
  read_some h = ap (λ (d : Decimal). d.value) e ∙ simp h

  pub field_none : d.value ≡ None → None ≡ decimal_field s at
  unfolding decimal_field has_decimal
  field_none g =
      cases (holds? (is_decimal (numerals (drop at s)))) (λ h. absurd (let k = sym g ∙ read_some h in cc)) (λ h. simp h)

  pub field_open : is_at s d.end 9 ≡ false → None ≡ decimal_field s at
  unfolding decimal_field has_decimal
  field_open t = let k = rw read_end at t in simp (k, and-false)

  pub field_good : (v : ℕ) → d.value ≡ Some v → is_at s d.end 9 ≡ true → Some (record { value = v; end = d.end + 1 }) ≡ decimal_field s at
  unfolding decimal_field has_decimal
  field_good v g t =
      cases (holds? (is_decimal (numerals (drop at s))))
      (λ h.
      let k = rw read_end at t in
      let w : v ≡ value_of (numerals (drop at s)) = let m = sym g ∙ read_some h in cc in
      rw (w, read_end) (simp (h, k)))
      (λ h. absurd (let k = sym g ∙ read_none h in cc))

-- what is found of it
pub no_field : (s : List ℕ) (at : ℕ) → None ≡ decimal_field s at → has_decimal s at ≡ false
unfolding decimal_field
no_field s at e = cases (holds? (has_decimal s at)) (λ h. absurd (let k = simp h at e in cc)) (λ h. h)

module _ (s : List ℕ) (at : ℕ) (f : Field) (e : Some f ≡ decimal_field s at) where
  pub field_there : has_decimal s at ≡ true
  unfolding decimal_field
  field_there = cases (holds? (has_decimal s at)) (λ h. h) (λ h. absurd (let k = simp h at e in cc))

  field_is : f ≡ record { value = decimal_value s at; end = decimal_end s at }
  unfolding decimal_field
  field_is = let k = simp field_there at e in cc

  pub field_value : f.value ≡ decimal_value s at
  field_value = ap (λ (f : Field). f.value) field_is

  pub field_end : f.end ≡ decimal_end s at
  field_end = ap (λ (f : Field). f.end) field_is

pub field_within : (s : List ℕ) (at : ℕ) → has_decimal s at ≡ true → decimal_end s at ≤ length s
unfolding has_decimal
field_within s at h =
    let n = at + length (numerals (drop at s)) in
    omega (arith, (there s n 9 (both (is_decimal (numerals (drop at s))) (is_at s n 9) h).1).0)

-- the fields in front of the bytes: each as it is found, and all
module _ (s : List ℕ) (at stop : ℕ) where
  pub lacks_tick : None ≡ decimal_field s at → has_fields s at stop ≡ false
  unfolding has_fields
  lacks_tick e = simp (no_field s at e)

  module _ (tick : Field) (e : Some tick ≡ decimal_field s at) (tab : ℕ) (f : tab ≡ antenna_end s tick.end stop) where
    tab_at : tab ≡ antenna_end s (decimal_end s at) stop
    tab_at = f ∙ ap (λ (k : ℕ). antenna_end s k stop) (field_end s at tick e)

    pub lacks_tab : is_at s tab 9 ≡ false → has_fields s at stop ≡ false
    unfolding has_fields
    lacks_tab t = let k = rw tab_at at t in simp (k, and-false)

    pub lacks_size : None ≡ decimal_field s (tab + 1) → has_fields s at stop ≡ false
    unfolding has_fields
    lacks_size g = let k = rw tab_at at (no_field s (tab + 1) g) in simp (k, and-false)

    module _ (size : Field) (g : Some size ≡ decimal_field s (tab + 1)) where
      pub has_all : is_at s tab 9 ≡ true → has_fields s at stop ≡ true
      unfolding has_fields
      has_all t =
          let h = field_there s at tick e in
          let k = rw tab_at at t in
          let l = rw tab_at at (field_there s (tab + 1) size g) in
          simp (h, k, l)

      pub size_value : size.value ≡ decimal_value s (size_place s at stop)
      size_value = field_value s (tab + 1) size g ∙ ap (λ (k : ℕ). decimal_value s (k + 1)) tab_at

      pub size_end : size.end ≡ bytes_place s at stop
      size_end = field_end s (tab + 1) size g ∙ ap (λ (k : ℕ). decimal_end s (k + 1)) tab_at

-- what is then found
module _ (table s : List ℕ) (at stop : ℕ) (frame : List ℕ) where
  pub parts_none : has_fields s at stop ≡ false →
      (None ≡ parts_in table s at stop (length frame)) × (frame ≡ laid frame 0 (frame_in table s at stop (length frame)))
  unfolding parts_in frame_in
  parts_none h = simp h (refl, sym (laid_none frame 0))

  pub parts_all : (size : Field) (n : ℕ) (after : List ℕ) → has_fields s at stop ≡ true → size.value ≡ decimal_value s (size_place s at stop) → size.end ≡ bytes_place s at stop → n ≡ length (decoded_by table s size.end (length frame)) →
      after ≡ laid frame 0 (decoded_by table s size.end (length frame)) →
      (Some (record { size = size.value; count = n; end = size.end + 2 * n }) ≡ parts_in table s at stop (length frame))
      × (after ≡ laid frame 0 (frame_in table s at stop (length frame)))
  unfolding parts_in frame_in
  parts_all size n after h v q c a =
      let f : ℕ → List ℕ = λ k. decoded_by table s k (length frame) in
      let m : n ≡ length (f (bytes_place s at stop)) = c ∙ ap (λ (k : ℕ). length (f k)) q in
      (simp h (rw (v, q, m)), simp h (a ∙ ap (λ (k : ℕ). laid frame 0 (f k)) q))
