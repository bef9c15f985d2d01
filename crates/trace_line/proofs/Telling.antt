-- Laws of what a line of a trace says: what taking it apart finds tells it, of a line by itself, and of one that lies in a list with a line
-- feed behind it. The bytes past the 1,025th tell nothing more.
-- Assumes nothing.
use Prim.Native.Nat.{ℕ, suc, ◌+◌, ◌-◌, ◌≤◌, ◌<◌}
use native.Mathlib.Omega.{arith}
use mathlib.Core.Bool.{true, false, not, or-true}
use Rattle.std.specs.Prelude.{Option, Some}
use mathlib.Core.List.{List, ◌∷◌, ◌++◌}
use mathlib.Core.Path.{◌≡◌, refl, sym, ap, ◌∙◌, subst}
use borrow.Author.Tests.{ltb-true, ltb-false, lt-ltb, le-ltb, eqb-true, not-false}
use lib.Dec.{ltb, eqb}
use lib.ListN.{length, take, drop, length-take}
use lib.Seq.{length-take-le, take_all, drop-append-add}
use Rattle.octets.proofs.Cases.{cases, holds?, neither}
use Rattle.line_cutter.specs.Line.{line_most, kept_most, is_at}
use Rattle.line_cutter.proofs.Line.{Free, before_free, before_take, before_stop, before_part_at, free_first, free_second, there, split_there}
use Rattle.hexadecimal.specs.Hex.{odd, foreign, unhex}
use Rattle.hexadecimal.proofs.Hex.{unhex_whole, whole_good}
use Rattle.decimal.specs.Decimal.{is_decimal, value_of}
use Rattle.header.specs.Read.{read_header}
use Rattle.labelled.specs.Answer.{tabs, label as field, digits as behindField}
use Rattle.labelled.proofs.Answer.{tab_foreign, foreign_free, tabs_free, tabs_at}
use Rattle.trace_line.specs.declared.Parts.{Parts}
use Rattle.trace_line.specs.declared.Saying.TheVariants.{Unread}
use Rattle.trace_line.specs.Parts.{parts_in}
use Rattle.trace_line.specs.Saying.{tick_of, size_of, bytes_of, malformed, of_header, saying}
use Rattle.trace_line.proofs.Fields.{Fielded, Found, free_decimal, fields_free, parts_within, found_size, found_bytes, found_fields, all_found}

-- a field and what stands behind its tab
module _ (s t : List ℕ) (f : Free 9 s) where
  field_front : field (s ++ (9 ∷ t)) ≡ s
  field_front = before_free 9 s t f

  field_behind : behindField (s ++ (9 ∷ t)) ≡ t
  field_behind = rw field_front (drop-append-add s (9 ∷ t) 1)

-- a line of four fields says what its frame and its size say
module _ (l tick antenna size digits : List ℕ) (f : Fielded l tick antenna size digits) where
  no_tab : Free 9 tick
  no_tab = free_decimal 9 tick refl f.counted

  tabless : Free 9 size
  tabless = free_decimal 9 size refl f.sized

  tick_of_lem : tick_of l ≡ tick
  tick_of_lem = ap field f.parted ∙ field_front tick _ no_tab

  behind_one : behindField l ≡ antenna ++ (9 ∷ (size ++ (9 ∷ digits)))
  behind_one = ap behindField f.parted ∙ field_behind tick _ no_tab

  behind_two : behindField (behindField l) ≡ size ++ (9 ∷ digits)
  behind_two = ap behindField behind_one ∙ field_behind antenna _ f.free

  size_of_lem : size_of l ≡ size
  size_of_lem = ap field behind_two ∙ field_front size digits tabless

  bytes_of_lem : bytes_of l ≡ digits
  bytes_of_lem = ap behindField behind_two ∙ field_behind size digits tabless

  three_tabs : tabs l ≡ 3
  three_tabs =
      ap tabs f.parted ∙ tabs_at tick _ no_tab
      ∙ ap suc (tabs_at antenna _ f.free ∙ ap suc (tabs_at size digits tabless
      ∙ ap suc (tabs_free digits (foreign_free 9 digits tab_foreign (whole_good digits f.whole).1))))

  well_formed : length l ≤ line_most → malformed l ≡ false
  well_formed h =
      let g = whole_good digits f.whole in
      rw (three_tabs, bytes_of_lem, size_of_lem, tick_of_lem) (simp (le-ltb _ _ h, g.0, g.1, f.counted, f.sized))

  pub fields_said : length l ≤ line_most → saying l ≡ of_header (read_header (unhex digits)) (value_of size)
  unfolding saying
  fields_said h = simp (well_formed h) (rw (bytes_of_lem, size_of_lem))

-- a line that is not malformed has four fields
tab_first : (l : List ℕ) (n : ℕ) → tabs l ≡ suc n → (l ≡ field l ++ (9 ∷ behindField l)) × (tabs (behindField l) ≡ n)
tab_first l n e =
    cases (holds? (ltb (length (field l)) (length l)))
    (λ t.
    let h : length (field l) < length l = ltb-true _ _ t in
    let p : l ≡ field l ++ (9 ∷ behindField l) =
    before_part_at 9 9 l h ∙ ap (λ (b : ℕ). field l ++ (b ∷ behindField l)) (before_stop 9 l h) in
    let q : suc (tabs (behindField l)) ≡ suc n = sym (tabs_at (field l) (behindField l) (free_first 9 9 l)) ∙ ap tabs (sym p) ∙ e in
    (p, omega arith))
    (λ t.
    let whole : field l ≡ l = sym (before_take 9 9 l) ∙ take_all (length (field l)) l (ltb-false _ _ t) in
    let none : tabs l ≡ 0 = tabs_free l (subst (Free 9) whole (free_first 9 9 l)) in
    absurd (omega arith))

formed : (l : List ℕ) → malformed l ≡ false → Fielded l (tick_of l) (field (behindField l)) (size_of l) (bytes_of l)
formed l h =
    let f = neither _ (not (is_decimal (size_of l))) h in
    let e = neither _ (not (is_decimal (tick_of l))) f.0 in
    let d = neither _ (foreign (bytes_of l)) e.0 in
    let c = neither _ (odd (bytes_of l)) d.0 in
    let b = neither (not (eqb (tabs l) 3)) (ltb line_most (length l)) c.0 in
    let one = tab_first l 2 (eqb-true (tabs l) 3 (not-false (eqb (tabs l) 3) b.0)) in
    let two = tab_first (behindField l) 1 one.1 in
    let three = tab_first (behindField (behindField l)) 0 two.1 in
    record {
      parted = one.0
          ∙ ap (λ (t : List ℕ). field l ++ (9 ∷ t)) two.0
          ∙ ap (λ (t : List ℕ). field l ++ (9 ∷ (field (behindField l) ++ (9 ∷ t)))) three.0;
      counted = not-false _ e.1;
      free = free_first 9 9 (behindField l);
      sized = not-false _ f.1;
      whole = unhex_whole (bytes_of l) c.1 d.1;
    }

-- a malformed line, and one that is too long
malformed_said : (l : List ℕ) → malformed l ≡ true → Unread ≡ saying l
unfolding saying
malformed_said l h = simp h

pub long_other : (l : List ℕ) → line_most < length l → Unread ≡ saying l
long_other l h = malformed_said l (simp (lt-ltb _ _ h, or-true))

-- the bytes past the 1,025th tell nothing more
pub saying_front : (l : List ℕ) → saying (take kept_most l) ≡ saying l
saying_front l =
    cases (holds? (ltb (length l) kept_most))
    (λ t. let h : length l ≤ kept_most = omega (arith, ltb-true (length l) kept_most t) in ap saying (take_all kept_most l h))
    (λ t.
    let h : kept_most ≤ length l = ltb-false _ _ t in
    let k : length (take kept_most l) ≡ kept_most = length-take-le kept_most l h in
    sym (long_other (take kept_most l) (omega arith)) ∙ long_other l (omega arith))

-- what is found from a place on, up to where it ends, is a line that says what is found
module _ (table s : List ℕ) (at stop : ℕ) (frame : List ℕ) (r : Parts) (after : List ℕ)
    (found : Found table s at stop frame (Some r) after) where
  part_said : r.end - at ≤ line_most → of_header (read_header (take r.count after)) r.size ≡ saying (take (r.end - at) (drop at s))
  part_said h =
      let f = found_fields table s at stop frame r after found in
      let k : length (take (r.end - at) (drop at s)) ≤ line_most = omega (arith, h, length-take (r.end - at) (drop at s)) in
      rw (found_size table s at stop frame r after found, sym (found_bytes table s at stop frame r after found)) (sym (fields_said _ _ _ _ _ f k))

-- a line by itself
module _ (table l frame after : List ℕ) (short : length l ≤ line_most) where
  pub whole_said : (r : Parts) → Found table l 0 9 frame (Some r) after → r.end ≡ length l →
      of_header (read_header (take r.count after)) r.size ≡ saying l
  whole_said r found end =
      part_said table l 0 9 frame r after found (omega (arith, end, short)) ∙ ap saying (take_all (r.end - 0) l (omega (arith, end)))

  pub whole_other : (o : Option Parts) → Found table l 0 9 frame o after → ((r : Parts) → o ≡ Some r → r.end ≡ length l → ⊥) → Unread ≡ saying l
  whole_other o found other =
      cases (holds? (malformed l)) (malformed_said l)
      (λ h.
      let f = formed l h in
      let a = all_found table l 0 _ _ _ _ f found.values found.bytes short in
      let e : o ≡ parts_in table l 0 9 512 = found.parts.0 ∙ ap (parts_in table l 0 9) found.room in
      absurd (other a.0 (e ∙ a.1) a.2))

-- a line that lies in a list from a place on, with a line feed behind it
pub record Lying (s : List ℕ) (at : ℕ) (r : Parts) (frame : List ℕ) : Type 0 where
  pub begins : at < r.end
  pub parted : drop at s ≡ take (r.end - at) (drop at s) ++ (10 ∷ drop (r.end + 1) s)
  pub free : Free 10 (take (r.end - at) (drop at s))
  pub said : of_header (read_header (take r.count frame)) r.size ≡ saying (take (r.end - at) (drop at s))

pub quick_said : (table s : List ℕ) (at : ℕ) (frame : List ℕ) (r : Parts) (after : List ℕ) → Found table s at 10 frame (Some r) after →
    is_at s r.end 10 ≡ true → r.end - at ≤ line_most → Lying s at r after
quick_said table s at frame r after found feed short =
    let t = there s r.end 10 feed in
    let begins = (parts_within table s at 10 (length frame) r found.parts.0).0 in
    record {
      begins = begins;
      parted = split_there s at (r.end - at) r.end 10 (omega (arith, begins)) t.0 t.1;
      free = fields_free _ _ _ _ _ (found_fields table s at 10 frame r after found) (free_second 9 10 _);
      said = part_said table s at 10 frame r after found short;
    }
