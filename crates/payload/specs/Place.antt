-- Where in memory a part of a slice begins. A reference points (`ref_ptr`) at a block of memory and an offset in it; the
-- bytes alone (`now`) do not tell of two stretches with the same bytes which one is meant, nor of two empty ones.
use Rattle.std.specs.Borrow.{Bor}
use Rattle.std.specs.Prelude.{ℕ, ◌+◌, List, ◌≡◌}

-- part begins n bytes behind the beginning of s, in the same block
abbrev pub begins : (part s : Bor (List ℕ)) → ℕ → Type 0
begins part s n = (part.ref_ptr.0 ≡ s.ref_ptr.0) × (part.ref_ptr.1 ≡ s.ref_ptr.1 + n)
