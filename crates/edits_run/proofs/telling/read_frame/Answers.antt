-- `edits_run::telling::read_frame` is safe: a frame has no more bytes than its buffer.
-- Assumes nothing.
use Rattle.std.proofs.Common.{◌≡◌, ℕ, ◌≤◌, List, length, drop, sym, arith, length-take, length-take-le}
use Rattle.hexadecimal.specs.Hex.{unhex_by, decoded_by}
use Rattle.edits_run.proofs.telling.read_frame.Goals as goal

few : (n : ℕ) (table s : List ℕ) → n ≡ length (decoded_by table s 0 512) → n ≤ 512
few n table s e = omega (arith, e, length-take 512 (unhex_by table (drop 0 s)))

pub overflow_mul-count : goal.overflow_mul-count
overflow_mul-count c =
    omega (arith, few c.decode_by-count.result c.args.values.now c.args.digits.now c.decode_by-count.ensures.value)

pub slice_bounds-frame-end : goal.slice_bounds-frame-end
slice_bounds-frame-end c =
    omega (arith, few c.decode_by-count.result c.args.values.now c.args.digits.now c.decode_by-count.ensures.value)

pub slice_bounds-read-end : goal.slice_bounds-read-end
slice_bounds-read-end c =
    let held = few c.decode_by-count.result c.args.values.now c.args.digits.now c.decode_by-count.ensures.value in
    sym (length-take-le _ _ (omega (arith, held)))
