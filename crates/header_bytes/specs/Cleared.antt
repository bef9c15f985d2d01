-- The bits that writing a header clears (document 01, "Bits that writing clears"): frame-control bits 7, 8 and 9, which
-- are bit 7 of byte 0 and bits 0 and 1 of byte 1, and security control bits 5, 6 and 7. No others.
use Rattle.std.specs.Prelude.{ℕ, cond, List, take}
use Rattle.octets.specs.{Bits.bit, Bits.clear_at, Little.number}
use Rattle.header_bytes.specs.Layout.{source_end, header_end}

-- those of bytes l that begin with a header of the frame control w
abbrev pub cleared_by : ℕ → List ℕ → List ℕ
cleared_by w l =
    cond (bit w 3)
    (clear_at (source_end w) 5 3 (clear_at 1 0 2 (clear_at 0 7 1 l)))
    (clear_at 1 0 2 (clear_at 0 7 1 l))

-- the bytes of the header at the beginning of s, with those bits cleared
unfoldable pub header_cleared : List ℕ → List ℕ
header_cleared s = cleared_by (number s 0 2) (take (header_end s (number s 0 2)) s)
