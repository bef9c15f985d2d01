-- `line_teller::Kept::of` meets its contract: there is room for all of the bytes.
-- Assumes nothing.
use Rattle.std.proofs.Common.{◌≡◌, length, take, ap, ◌∙◌, arith}
use Rattle.octets.specs.Buffer.{laid, fitting}
use Rattle.octets.proofs.Copying.{fitting_all}
use Rattle.octets.proofs.Stored.{front}
use Rattle.line_teller.proofs.kept.Kept.of.Goals as goal

pub returns : goal.returns
returns c =
    let bytes = c.args.bytes.now in
    let kept = c.new-kept.result in
    let n = c.copy.result in
    let all : fitting kept.bytes 0 bytes ≡ bytes = fitting_all kept.bytes 0 bytes (omega (arith, kept.long, c.requires)) in
    let whole : length bytes ≡ n = omega (arith, c.copy.ensures.value, ap length all) in
    ap (take n) (c.copy.ensures.out_after ∙ ap (laid kept.bytes 0) all) ∙ front kept.bytes bytes n whole (omega (arith, whole, kept.long, c.requires))
