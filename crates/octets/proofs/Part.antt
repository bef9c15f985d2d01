-- A test of a definition, from what the code's own test showed of an equal number.
-- Assumes nothing.
use Prim.Native.Nat.{ℕ, ◌≤◌, ◌<◌}
use mathlib.Core.Bool.{true, false}
use mathlib.Core.Path.{◌≡◌}
use borrow.Author.Tests.{lt-ltb, le-ltb}
use lib.Dec.{ltb}

pub fewer : {l m n : ℕ} → l ≡ m → l < n → ltb m n ≡ true
fewer {m = m} {n = n} e h = lt-ltb m n (rw e at h)

pub enough : {l m n : ℕ} → l ≡ m → n ≤ l → ltb m n ≡ false
enough {m = m} {n = n} e h = le-ltb m n (rw e at h)
