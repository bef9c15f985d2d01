-- A list of altered bytes, each seen as the pair of its place and its mask, in an array of six.
use Rattle.std.specs.Prelude.{ℕ, ◌-◌, ◌≤◌, ◌≡◌, List, [], ◌∷◌, ◌++◌, map, replicate, take, drop, length}
use Rattle.std.proofs.Common.{refl, sym, ap, subst, ◌∙◌}
use Rattle.std.proofs.lemmas.List.{length-map, length-take-le, take-append-drop}
use Rattle.alterations.specs.declared.AlteredByte.{AlteredByte}

abbrev pub pair : AlteredByte → ℕ × ℕ
pair b = (b.place, b.mask)

abbrev pub altered_byte : ℕ × ℕ → AlteredByte
altered_byte b = record { place = b.0; mask = b.1 }

-- zeros behind it
abbrev pub zeros : ℕ → List AlteredByte
zeros n = replicate n (altered_byte (0, 0))

abbrev pub in_six : List (ℕ × ℕ) → List AlteredByte
in_six l = map altered_byte l ++ zeros (6 - length l)

-- such an array and the count in it are known by the list
same_map : (l : List AlteredByte) → map altered_byte (map pair l) ≡ l
same_map [] = refl
same_map (b ∷ l) = ap (λ (l : List AlteredByte). b ∷ l) (same_map l)

pub same_count : (l : List AlteredByte) (k : ℕ) → length l ≡ 6 → k ≤ 6 → length (map pair (take k l)) ≡ k
same_count l k e h = length-map (take k l) pair ∙ length-take-le k l (subst (λ (n : ℕ). k ≤ n) (sym e) h)

pub same_bytes : (l : List AlteredByte) (k : ℕ) → length l ≡ 6 → k ≤ 6 → drop k l ≡ zeros (6 - k) →
    in_six (map pair (take k l)) ≡ l
same_bytes l k e h z =
    (λ i. same_map (take k l) i ++ zeros (6 - same_count l k e h i))
    ∙ ap (λ (r : List AlteredByte). take k l ++ r) (sym z)
    ∙ take-append-drop k l
