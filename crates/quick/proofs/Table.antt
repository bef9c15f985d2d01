-- The table's rule at the index of a frame control is the frame control's entry: the index has all bits that an entry looks at.
-- Assumes nothing.
use Prim.Native.Nat.{ℕ, ◌+◌, ◌*◌, ◌/◌, ◌%◌, ◌<◌}
use native.Mathlib.Omega.{arith}
use mathlib.Core.Path.{◌≡◌, refl}
use Rattle.octets.specs.Bits.{bits}
use Rattle.quick.specs.Table.{entry_of, index_of, table_at}

-- the parts of an index, put together and taken apart
apart : (x y z : ℕ) → x < 64 → y < 2 → z < 2 →
    let i = x * 4 + y * 2 + z in
    (bits i 2 6 ≡ x) × (bits i 1 1 ≡ y) × (bits i 0 1 ≡ z)
apart x y z h k l = (omega arith, omega arith, omega arith)

-- those of the frame control that has its bits
placed : (x y z : ℕ) → x < 64 → y < 2 → z < 2 →
    let w = x * 1024 + y * 8 + z * 64 in
    (bits w 10 2 ≡ x % 4) × (bits w 12 2 ≡ x / 4 % 4) × (bits w 14 2 ≡ x / 16 % 4) × (bits w 3 1 ≡ y) × (bits w 6 1 ≡ z)
placed x y z h k l = (omega arith, omega arith, omega arith, omega arith, omega arith)

-- bits 10 to 15 of a frame control
within : (w : ℕ) → (bits w 10 6 % 4 ≡ bits w 10 2) × (bits w 10 6 / 4 % 4 ≡ bits w 12 2) × (bits w 10 6 / 16 % 4 ≡ bits w 14 2)
within w = (omega arith, omega arith, omega arith)

pub at_index : (w : ℕ) → table_at (index_of w) ≡ entry_of w
at_index w =
    let q = apart (bits w 10 6) (bits w 3 1) (bits w 6 1) (omega arith) (omega arith) (omega arith) in
    let p = placed (bits w 10 6) (bits w 3 1) (bits w 6 1) (omega arith) (omega arith) (omega arith) in
    let r = within w in
    rw (q.0, q.1, q.2) (rw (p.0, p.1, p.2, p.3, p.4) (rw (r.0, r.1, r.2) refl))
