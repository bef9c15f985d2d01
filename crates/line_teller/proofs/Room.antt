-- Room for what is written for the lines of a chunk: a line and m bytes more for each have room in m for each byte.
-- Assumes nothing.
use Rattle.std.proofs.Common.{ℕ, zero, suc, ◌+◌, ◌-◌, ◌*◌, ◌≤◌, ◌<◌, ◌≡◌, arith, ap, ◌∙◌}
use Rattle.std.proofs.Math.Nat.{mul-suc, mul-add}

many : (m k : ℕ) → 0 < m → k ≤ m * k
many m zero h = omega arith
many m (suc k) h = rw (mul-suc m k) (omega (arith, many m k h, h))

both : (m k : ℕ) → 0 < m → 0 < k → m + k ≤ m * k + 1
both m zero h g = absurd (omega (arith, g))
both m (suc k) h g = rw (mul-suc m k) (omega (arith, many m k h))

pub room_on : (m at next size : ℕ) → 0 < m → at < next → next ≤ size →
    m * (size - next) + m + (next - at) ≤ m * (size - at) + 1
room_on m at next size h later within =
    let e : size - at ≡ (size - next) + (next - at) = omega arith in
    let f : m * (size - at) ≡ m * (size - next) + m * (next - at) = ap (λ (k : ℕ). m * k) e ∙ mul-add m (size - next) (next - at) in
    omega (arith, f, both m (next - at) h (omega (arith, later)))
