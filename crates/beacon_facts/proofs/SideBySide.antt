-- Entries side by side, each of w bytes, as an array of seven holds them: written again as they stood, read back from what was written, and
-- not altered by what follows.
-- Assumes nothing.
use Prim.Native.Nat.{ℕ, zero, suc, ◌+◌, ◌*◌, ◌≤◌, ◌<◌}
use native.Mathlib.Nat.{mul-zero, mul-suc, mul-add}
use native.Mathlib.Omega.{arith}
use mathlib.Core.List.{List, [], ◌∷◌, ◌++◌, append_assoc, flat_map}
use mathlib.Core.Path.{◌≡◌, sym, ap, ◌∙◌}
use lib.ListN.{length, get_or, take, drop, take-append-drop}
use lib.Seq.{take-add, drop-drop, take-take}
use Rattle.octets.specs.Little.{Bytes}
use Rattle.octets.proofs.Lists.{flat_append}
use Rattle.octets.proofs.Little.{bytes_append}
use Rattle.seven_places.specs.Seven.{seven}
use Rattle.seven_places.proofs.Seven.{span, in_use, rest_next, each_length}
use Rattle.beacon_facts.proofs.Places.{past_length}

module _ {A : Type 0} where
  -- written again as they stood
  module _ (bytes : A → List ℕ) (w : ℕ) (s : List ℕ) (at n : ℕ) (entry : ℕ → A)
      (stood : (k : ℕ) → k < n → bytes (entry k) ≡ take w (drop (at + w * k) s)) where
    span_again : (i m : ℕ) → i + m ≤ n → flat_map bytes (span entry i m) ≡ take (w * m) (drop (at + w * i) s)
    unfolding flat_map
    span_again i zero h = rw (mul-zero w)
    span_again i (suc m) h =
        let next : at + w * (i + 1) ≡ at + w * i + w = rw mul-add (omega arith) in
        let more : w * suc m ≡ w + w * m = rw mul-suc (omega arith) in
        rw (
          stood i (omega arith),
          span_again (i + 1) m (omega arith),
          more,
          take-add w (w * m) (drop (at + w * i) s),
          drop-drop w (at + w * i) s,
          next,
        )

    pub entries_again : (empty : A) → n ≤ 7 → flat_map bytes (take n (seven entry empty n)) ≡ take (w * n) (drop at s)
    entries_again empty h =
        let start : at + w * 0 ≡ at = rw (mul-zero w) (omega arith) in
        rw (in_use entry empty n h, span_again 0 n (omega arith), start)

  -- read back from what was written
  module _ (bytes : A → List ℕ) (w : ℕ) (long : (x : A) → length (bytes x) ≡ w) (l : List A) (n : ℕ) (few : n ≤ length l) (k : ℕ)
      (h : k < n) (d : A) where
    parted : flat_map bytes (take n l) ≡ flat_map bytes (take k l) ++ (bytes (get_or l k d) ++ flat_map bytes (drop (k + 1) (take n l)))
    unfolding flat_map
    parted =
        ap (flat_map bytes) (sym (take-append-drop k (take n l)))
        ∙ flat_append bytes (take k (take n l)) (drop k (take n l))
        ∙ rw (take-take k n l (omega arith), rest_next l n k d few h)

    -- entry k stands behind the ones before it
    pub entry_place : (p t : List ℕ) → p ++ (flat_map bytes (take n l) ++ t)
        ≡ (p ++ flat_map bytes (take k l)) ++ (bytes (get_or l k d) ++ (flat_map bytes (drop (k + 1) (take n l)) ++ t))
    entry_place p t = rw parted (simp append_assoc)

    pub entry_at : (p : List ℕ) (at : ℕ) → length p ≡ at → length (p ++ flat_map bytes (take k l)) ≡ at + w * k
    entry_at p at e = past_length p (flat_map bytes (take k l)) at (w * k) e (each_length bytes w long l k (omega arith))

  pub each_bytes : (bytes : A → List ℕ) → ((x : A) → Bytes (bytes x)) → (l : List A) → Bytes (flat_map bytes l)
  unfolding flat_map
  each_bytes bytes b [] = tt
  each_bytes bytes b (x ∷ l) = bytes_append (bytes x) (flat_map bytes l) (b x) (each_bytes bytes b l)
