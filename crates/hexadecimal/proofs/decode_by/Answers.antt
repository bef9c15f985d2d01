-- `hexadecimal::decode_by` meets its contract. The invariant: what is left to decode, stored from where the loop stands, gives what is wanted.
-- Assumes nothing.
use Prim.Native.Nat.{ℕ, ◌+◌, ◌*◌, ◌<◌}
use native.Mathlib.Omega.{arith}
use mathlib.Core.List.{List, []}
use mathlib.Core.Path.{◌≡◌, refl, sym, ap, ◌∙◌}
use lib.ListN.{length, get_or, length-set}
use Rattle.octets.specs.Buffer.{laid}
use Rattle.octets.proofs.Buffer.{laid_none, laid_cons}
use Rattle.hexadecimal.proofs.Hex.{by_other, rest_all, rest_pair, rest_none, rest_end}
use Rattle.hexadecimal.proofs.decode_by.Goals as goal

-- nothing is left to decode
done : (out₀ out left returns : List ℕ) (n : ℕ) → laid out n left ≡ laid out₀ 0 returns → n + length left ≡ length returns → left ≡ [] →
    (n ≡ length returns) × (out ≡ laid out₀ 0 returns)
done out₀ out left returns n e f z = (omega (arith, ap length z), sym (laid_none out n) ∙ (rw z at e))

pub loop-n-init : goal.loop-n-init
loop-n-init c =
    let a = c.args in
    let e = rest_all a.values.now a.s.now a.at (length a.out.now) in
    (omega arith, omega arith, refl, ap (laid a.out.now 0) e, omega (arith, ap length e))

pub loop-n-preserved : goal.loop-n-preserved
loop-n-preserved c =
    let l = c.loop-n in
    let a = c.args in
    let e = rest_pair a.values.now a.s.now a.at (length a.out.now) l.n _ (omega arith) (omega arith)
    c.pair_of-pair.ensures c.if-pair-gt255.false in (
      l.invariant.0,
      l.invariant.1,
      simp length-set l.invariant.2,
      laid_cons l.out l.n _ _ ∙ ap (laid l.out l.n) (sym e) ∙ l.invariant.3,
      omega (arith, ap length e, l.invariant.4),
    )

pub returns-then-pair-gt255 : goal.returns-then-pair-gt255
returns-then-pair-gt255 c =
    let l = c.loop-n in
    let a = c.args in
    let both = done _ _ _ _ _ l.invariant.3 l.invariant.4
    (rest_none _ _ _ _ l.n
    (by_other a.values.now a.s.now (a.at + 2 * l.n) _ (omega arith) c.pair_of-pair.ensures c.if-pair-gt255.true)) in record {
      value = both.0;
      out_after = both.1;
    }

pub returns : goal.returns
returns c =
    let l = c.loop-n in
    let a = c.args in
    let at_end : l.n ≡ c.most-end.result = omega arith in
    let both = done _ _ _ _ _ l.invariant.3 l.invariant.4
    (rest_end a.values.now a.s.now a.at (length a.out.now) l.n (at_end ∙ c.most-end.ensures)) in record {
      value = sym at_end ∙ both.0;
      out_after = both.1;
    }

pub overflow_cast-high : goal.overflow_cast-high
overflow_cast-high c =
    -- the two bytes at hand are bytes
    let high_byte : (let a = c.args in get_or a.s.now (a.at + 2 * c.loop-n.n) 0 < 256) =
    let a = c.args in
    omega (arith, c.type_inv.s (a.at + 2 * c.loop-n.n)) in
    omega (arith, high_byte)

pub offset_bounds-values-s : goal.offset_bounds-values-s
offset_bounds-values-s c =
    let high_byte : (let a = c.args in get_or a.s.now (a.at + 2 * c.loop-n.n) 0 < 256) =
    let a = c.args in
    omega (arith, c.type_inv.s (a.at + 2 * c.loop-n.n)) in
    omega (arith, high_byte)

pub overflow_cast-low : goal.overflow_cast-low
overflow_cast-low c =
    let low_byte : (let a = c.args in get_or a.s.now (a.at + 2 * c.loop-n.n + 1) 0 < 256) =
    let a = c.args in
    omega (arith, c.type_inv.s (a.at + 2 * c.loop-n.n + 1)) in
    omega (arith, low_byte)

pub offset_bounds-values-s-in-loop-n : goal.offset_bounds-values-s-in-loop-n
offset_bounds-values-s-in-loop-n c =
    let low_byte : (let a = c.args in get_or a.s.now (a.at + 2 * c.loop-n.n + 1) 0 < 256) =
    let a = c.args in
    omega (arith, c.type_inv.s (a.at + 2 * c.loop-n.n + 1)) in
    omega (arith, low_byte)
