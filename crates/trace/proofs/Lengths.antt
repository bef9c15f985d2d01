-- How long the parts of the output are: a message at most 16 bytes, what stands at the end at most 4,096.
-- Assumes nothing.
use Prim.Native.Nat.{ℕ, zero, suc, ◌*◌, ◌/◌, ◌≤◌, ◌<◌}
use native.Mathlib.Omega.{arith}
use mathlib.Core.List.{List, [], ◌∷◌, flat_map}
use mathlib.Core.Path.{◌≡◌, refl}
use lib.Dec.{eqb}
use lib.ListN.{length, length-append}
use Rattle.octets.proofs.Cases.{cases, holds?}
use Rattle.senders.specs.declared.Counted.{Counted}
use Rattle.labelled.specs.Hexed.{hex_by}
use Rattle.labelled.proofs.Decimal.{decimal_few}
use Rattle.trace.specs.Plain.{Trace, lines_most}
use Rattle.trace.specs.Within.{Small, AllSmall, Within}
use Rattle.trace.specs.Output.{message, sender_line, other_lines, summary}

-- `line`, seven digits and two at most
pub message_most : (n answer : ℕ) → n ≤ lines_most → answer < 100 → length (message n answer) ≤ 16
unfolding message
message_most n answer h l =
    let number = decimal_few 6 n (omega arith) in
    let told = decimal_few 1 answer l in
    cases (holds? (eqb answer 0)) (λ t. simp t (omega arith))
    (λ t. simp (t, length-append) (omega arith))

-- so many digits as are asked for
hex_many : (k n : ℕ) → length (hex_by k n) ≡ k
unfolding hex_by
hex_many zero n = refl
hex_many (suc k) n = rw (length-append (hex_by k (n / 16))) (omega (arith, hex_many k (n / 16)))

sender_most : (lines : ℕ) (c : Counted) → lines ≤ lines_most → Small lines c → length (sender_line c) ≤ 55
unfolding sender_line
sender_most lines c h s =
    let frames = decimal_few 6 c.frames (omega arith) in
    let repeats = decimal_few 6 c.repeats (omega arith) in
    let missing = decimal_few 8 c.missing (omega arith) in
    let octets = s.octets in
    simp (length-append, hex_many) (omega arith)

senders_most_lem : (lines : ℕ) (cs : List Counted) → lines ≤ lines_most → AllSmall lines cs → length (flat_map sender_line cs) ≤ 55 * length cs
unfolding flat_map
senders_most_lem lines [] h s = omega arith
senders_most_lem lines (c ∷ cs) h s =
    rw (length-append (sender_line c)) (omega (arith, sender_most lines c h s.0, senders_most_lem lines cs h s.1))

others_most : (t : Trace) → Within t → length (other_lines t) ≤ 71
unfolding other_lines
others_most t w =
    let refused = decimal_few 6 t.refused (omega arith) in
    let sourceless = decimal_few 6 t.sourceless (omega arith) in
    let unread = decimal_few 19 t.unread (omega arith) in
    let crowded = decimal_few 6 t.crowded (omega arith) in
    simp length-append (omega arith)

pub summary_most : (t : Trace) → Within t → length (summary t) ≤ 4096
unfolding summary
summary_most t w =
    let room = w.room in
    let senders = senders_most_lem t.lines t.senders w.lines w.senders in
    let others = others_most t w in
    rw (length-append (flat_map sender_line t.senders)) (omega arith)
