-- How many bytes of a frame the reader of its header needs to see, by the bytes s that it has seen (document 02,
-- request 1). Three to begin with, which are enough where reading refuses with 2 to 5. Then up to the security control,
-- where there is one, since it tells how long its part is, and then the whole header.
use Rattle.std.specs.Prelude.{ℕ, ◌+◌, Bool, ◌&&◌, List, [], ◌∷◌, ltb, leb, length}
use Rattle.octets.specs.{Order.first, Bits.bit, Little.number, Outcome.number_of}
use Rattle.header_bytes.specs.{Layout.source_end, Layout.header_end, Reading.measured}

-- the frame control w announces a security control, which is not among the first n bytes
abbrev pub control_unseen : ℕ → ℕ → Bool
control_unseen n w = bit w 3 && leb n (source_end w)

abbrev pub needed_by : List ℕ → ℕ → ℕ
needed_by s w =
    first ((ltb (length s) 3, 3) ∷ (ltb 1 (number_of (measured s)), 3) ∷ (control_unseen (length s) w, source_end w + 1) ∷ [])
    (header_end s w)

unfoldable pub needed : List ℕ → ℕ
needed s = needed_by s (number s 0 2)
