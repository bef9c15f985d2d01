-- Laws of what is handed over of a chunk.
-- Assumes nothing.
use Prim.Native.Nat.{ℕ, ◌≤◌, min}
use mathlib.Core.Bool.{Bool, true}
use mathlib.Core.List.{List}
use mathlib.Core.Path.{◌≡◌, refl, sym, ap, ◌∙◌}
use lib.ListN.{length, take, drop}
use Rattle.std.specs.Prelude.{Some, None, cond}
use Rattle.std.proofs.lemmas.List.{take_min}
use Rattle.octets.specs.Buffer.{laid, fitting}
use Rattle.line_cutter.specs.declared.Taken.{Taken}
use Rattle.line_cutter.specs.Line.{line_of, line_ends, taken}
use Rattle.line_cutter.proofs.Line.{taken_small}
use Rattle.line_by_line.specs.declared.Turn.{Turn}
use Rattle.line_by_line.specs.Held.{unused, held, found, line_after}

module _ (t : Turn) (n : ℕ) (chunk line : List ℕ) where
  -- what is cut from as much of the chunk as there is
  pub held_cut : (end : ℕ) (k : Taken) (line' : List ℕ) → end ≡ min t.end (length chunk) →
      (k ≡ taken (drop t.at (take end chunk)) t.at line n)
      × (line' ≡ laid line n (fitting line n (line_of (drop t.at (take end chunk))))) →
      (k ≡ taken (unused t chunk) t.at line n) × (line' ≡ line_after t n chunk line)
  held_cut end k line' e c =
      let f : take end chunk ≡ take t.end chunk = ap (λ (n : ℕ). take n chunk) e ∙ take_min t.end chunk in
      rw f at c

  -- no more is kept of a line than has room
  pub held_small : n ≤ length line → (taken (unused t chunk) t.at line n).n ≤ length line
  held_small h = (taken_small (take t.end chunk) t.at line n (taken (unused t chunk) t.at line n) refl h).0

-- a line that ends in what is still to be used is found
pub held_found : (t : Turn) (chunk line : List ℕ) → line_ends (unused t chunk) ≡ true →
    (taken (unused t chunk) t.at line 0).ended ≡ true
unfolding taken
held_found t chunk line e = e

-- and handed over
pub held_ended : (t : Turn) (chunk line : List ℕ) → (taken (unused t chunk) t.at line 0).ended ≡ true →
    found t (taken (unused t chunk) t.at line 0) ≡ held t chunk line
unfolding held
held_ended t chunk line e =
    let k = taken (unused t chunk) t.at line 0 in
    let f : Bool → Turn =
    λ b. record { found = cond b (Some k.n) None; used = t.used; at = k.at; end = t.end; next = t.next } in
    ap f (sym e)

-- so a line that has ended is handed over by a run that stands where it stood
pub held_handed : (t ready : Turn) (chunk line : List ℕ) (k : Taken) (line' : List ℕ) → ready ≡ t →
    (k ≡ taken (unused ready chunk) ready.at line 0) × (line' ≡ line_after ready 0 chunk line) → k.ended ≡ true →
    (found ready k ≡ held t chunk line) × (line' ≡ line_after t 0 chunk line)
held_handed t ready chunk line k line' q c e =
    let d = rw q at c in
    let s : (taken (unused t chunk) t.at line 0).ended ≡ true = ap (λ (k : Taken). k.ended) (sym d.0) ∙ e in
    let f : found ready k ≡ found t (taken (unused t chunk) t.at line 0) =
    ap (λ (r : Turn). found r k) q ∙ ap (λ (k : Taken). found t k) d.0 in
    (f ∙ held_ended t chunk line s, d.1)
