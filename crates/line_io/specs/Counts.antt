-- How many bytes a read has put at the beginning of a chunk.
use Rattle.std.specs.Prelude.{◌≡◌, ℕ, ◌≤◌, List, length, take}

-- xs has n bytes and more, and so its front of n bytes has just as many, which a caller that cuts it off need not prove
abbrev pub IsPrefixLen : ℕ → List ℕ → Type 0
IsPrefixLen n xs = (n ≤ length xs) × (n ≡ length (take n xs))
