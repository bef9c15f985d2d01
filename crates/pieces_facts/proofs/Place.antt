-- A piece in its place among all pieces of a frame, by where the last byte needed lies: in front of it, within it or behind it.
-- Assumes nothing.
use Prim.Native.Nat.{ℕ, ◌+◌, ◌≤◌, ◌<◌}
use native.Mathlib.Omega.{arith}
use mathlib.Core.List.{List, ◌∷◌, ◌++◌, append_assoc, flat_map}
use mathlib.Core.Path.{◌≡◌, sym, ap, ◌∙◌}
use lib.ListN.{length, length-append}
use Rattle.octets.proofs.Lists.{flat_append}
use Rattle.header.specs.Read.{read_header}
use Rattle.pieces.specs.declared.HeaderReader.{HeaderReader}
use Rattle.pieces.specs.Needed.{needed}
use Rattle.pieces.specs.Answer.{told}
use Rattle.pieces.specs.Reader.{new_reader}
use Rattle.pieces.proofs.Prefix.{needed_settled, needed_grows}
use Rattle.pieces_facts.specs.Calls.{piece, behind, pieces, joined}
use Rattle.pieces_facts.specs.Whole.{InPlace}
use Rattle.pieces_facts.proofs.Enough.{needed_missing, enough}
use Rattle.pieces_facts.proofs.Kept.{handed_over}
use Rattle.pieces_facts.proofs.Standing.{stands_over, taken_more, taken_told, taken_used, stands}

module _ (ps : List (List ℕ)) (p : List ℕ) (qs : List (List ℕ)) where
  abbrev front : List ℕ
  front = joined ps

  abbrev with : List ℕ
  with = front ++ p

  abbrev all : List ℕ
  all = joined (ps ++ (p ∷ qs))

  abbrev reader : HeaderReader
  reader = behind new_reader (pieces ps)

  -- the bytes of all pieces: those in front of it, its own, and those behind
  behind_front : all ≡ front ++ (p ++ joined qs)
  unfolding flat_map
  behind_front = flat_append (λ (l : List ℕ). l) ps (p ∷ qs)

  behind_with : all ≡ with ++ joined qs
  behind_with = behind_front ∙ sym (append_assoc front p (joined qs))

  long : length with ≡ length front + length p
  long = length-append front p

  -- Of the bytes up to a place one is missing where the last byte needed lies behind it. Else number and answer are those of all bytes.
  front_missing : length front < needed all → length front < needed front
  front_missing h = needed_missing front (p ++ joined qs) (omega (arith, ap needed behind_front))

  with_missing : length with < needed all → length with < needed with
  with_missing h = needed_missing with (joined qs) (omega (arith, ap needed behind_with))

  with_least : needed with ≤ needed all
  with_least = omega (arith, ap needed behind_with, needed_grows with (joined qs))

  with_settled : needed with ≤ length with → needed all ≡ needed with
  with_settled there = ap needed behind_with ∙ needed_settled with (joined qs) there

  with_read : needed with ≤ length with → read_header with ≡ read_header all
  with_read there = sym ((enough with).decided there (joined qs)) ∙ ap read_header (sym behind_with)

  pub in_place : InPlace ps p qs
  in_place =
      let st = stands ps in
      record {
        before = λ h.
            let waits = front_missing (omega arith) in
            let missing = with_missing (omega (arith, long)) in
            (taken_more reader front st p waits missing, omega (arith, long, taken_used reader front st p waits));
        last = λ missing reaches.
            let waits = front_missing missing in
            let there : needed with ≤ length with = omega (arith, long, with_least) in (
              taken_told reader front st p waits there ∙ ap told (with_read there),
              omega (arith, with_settled there, taken_used reader front st p waits),
            );
        after = λ h. handed_over reader (piece p) (stands_over reader front st (omega (arith, needed_grows front p, with_least)));
      }
