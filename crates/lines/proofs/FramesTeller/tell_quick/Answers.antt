-- `lines::Frames` tells a line from where it lies: what its tests show is what makes a line that is whole and not bad.
-- Assumes nothing.
use Rattle.std.proofs.Common.{ℕ, ◌+◌, ◌-◌, ◌*◌, ◌≡◌, List, ◌++◌, true, take, drop, sym, ap, ◌∙◌}
use Rattle.hexadecimal.proofs.Hex.{Decoding, decoding}
use Rattle.lines.specs.Answer.{said}
use Rattle.line_cutter.specs.Line.{is_at}
use Rattle.lines.proofs.Quick.{quick_told}
use Rattle.octets.proofs.Little.{bytes_known}
use Rattle.octets.proofs.Stored.{same}
use Rattle.lines.proofs.FramesTeller.tell_quick.Goals as goal

pub returns-clause-told : goal.returns-clause-told
returns-clause-told c =
    let a = c.args in
    let tab = c.find-tab.result in
    let n = c.decode_by-n.result in
    -- a tab ends the label, and a line feed the digits, whose bytes stand at the frame's beginning
    let tab_there : is_at a.chunk.now tab 9 ≡ true = sym c.is_at.ensures ∙ c.if-not-is_at.false in
    let feed_there : is_at a.chunk.now (tab + 1 + 2 * n) 10 ≡ true = sym c.is_at-2.ensures ∙ c.if-not-is_at-2.false in
    let digits : Decoding a.chunk.now (tab + 1) 512 n c.decode_by-n.new.out =
    decoding _ a.chunk.now _ _ (tab + 1) _ 512 a.self.now.by_worth (bytes_known a.chunk.now c.type_inv.chunk) a.self.now.whole
    (c.decode_by-n.ensures.value, c.decode_by-n.ensures.out_after) in
    quick_told a.chunk.now a.at tab n c.find-tab.ensures tab_there digits.count feed_there c.if-end-at-gt-LINE_MOST.false
    a.out.now _ a.used c.put_good-next.result c.put_good-next.ensures.upper_bound
    (same (ap (λ (u : List ℕ). take (tab - a.at) (drop a.at a.chunk.now) ++ said u) digits.bytes) c.put_good-next.ensures.stored)
