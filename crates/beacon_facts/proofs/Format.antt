-- Demand 3 of a part follows from a few laws of it: what was read fits and is written as it stood, and what was written is read back.
-- Assumes nothing.
use Prim.Native.Nat.{ℕ, ◌+◌, ◌-◌, ◌≤◌}
use native.Mathlib.Omega.{arith}
use mathlib.Core.Bool.{false}
use mathlib.Core.List.{List, ◌++◌}
use mathlib.Core.Path.{◌≡◌, sym, ap, ◌∙◌}
use borrow.Author.Tests.{le-ltb}
use lib.ListN.{length, take, drop}
use lib.Seq.{length-take-le}
use Rattle.octets.specs.Little.{Bytes}
use Rattle.octets.proofs.Buffer.{laid_parts}
use Rattle.octets.proofs.Little.{bytes_append}
use Rattle.octets.specs.Value.{write_value}
use Rattle.beacon_facts.specs.Format.{Format, Rewritten, Returned, FromBuffer}

-- what is known of a value that was read
pub record Taken {X R : Type 0} (F : Format X R) (s : List ℕ) (at : ℕ) (x : X) (n : ℕ) : Type 0 where
  pub typed : F.Typed x
  pub fits : F.too_large x ≡ false
  pub same : F.read_back x ≡ x
  pub size : F.size x ≡ n
  pub within : n ≤ length s - at
  pub written : F.bytes x ≡ F.cleared s at
  pub behind : (t : List ℕ) → F.read (s ++ t) at ≡ F.accepts x n

-- eight before one
abbrev pub Writes : {X R : Type 0} → Format X R → Type 0
Writes {X} F = (x : X) (out : List ℕ) (at : ℕ) → F.write x out at ≡ write_value (F.too_large x) out at (F.size x)

pub record Laws {X R : Type 0} (F : Format X R) : Type 0 where
  pub writes : Writes F
  pub taken : (s : List ℕ) (at : ℕ) (x : X) (n : ℕ) → Bytes s → F.read s at ≡ F.accepts x n → Taken F s at x n
  pub bytes : (x : X) → Bytes (F.bytes x)
  pub returned : (x : X) → F.Typed x → F.too_large x ≡ false → Returned F x

module _ {X R : Type 0} (F : Format X R) (laws : Laws F) where
  again : (s : List ℕ) (at : ℕ) (x : X) (n : ℕ) → Taken F s at x n → (p t : List ℕ) →
      F.read (p ++ (F.bytes x ++ t)) (length p) ≡ F.accepts x n
  again s at x n k p t = rw (k.same, k.size) at ((laws.returned x k.typed k.fits).back p t)

  pub rewritten : (s : List ℕ) (at : ℕ) (x : X) (n : ℕ) → Bytes s → F.read s at ≡ F.accepts x n → Rewritten F s at x n
  rewritten s at x n b e =
      let k = laws.taken s at x n b e in
      let long : length (F.bytes x) ≡ n = (laws.returned x k.typed k.fits).long ∙ k.size in
      record {
        within = k.within;
        accepted = λ out to room. rw (laws.writes x out to, k.fits, k.size, le-ltb (length out - to) n room);
        long = long;
        written = k.written;
        buffer = λ out to room.
            laid_parts out to (F.bytes x) (omega (arith, long))
            ∙ ap (λ (j : ℕ). take to out ++ (F.bytes x ++ drop (to + j) out)) long;
        again = again s at x n k;
        settled = λ p t bp bt.
            sym (laws.taken (p ++ (F.bytes x ++ t)) (length p) x n
            (bytes_append p (F.bytes x ++ t) bp (bytes_append (F.bytes x) t (laws.bytes x) bt)) (again s at x n k p t)).written;
        behind = k.behind;
      }

  pub stored : FromBuffer F
  stored x typed fits out to room =
      let returned = laws.returned x typed fits in
      let place : length (take to out) ≡ to = length-take-le to out (omega arith) in
      rw (laws.writes x out to, fits, le-ltb (length out - to) (F.size x) (omega arith))
      (rw (laid_parts out to (F.bytes x) (omega (arith, returned.long)))
      (rw place at (returned.back (take to out) (drop (to + length (F.bytes x)) out))))
