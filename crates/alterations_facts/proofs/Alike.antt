-- Two frames that are alike, in what tells where their parts lie, have the same bits listed and are rewritten with the same answer.
-- Assumes nothing.
use Prim.Native.Nat.{ℕ, ◌+◌}
use mathlib.Core.Bool.{true, cond, not, ◌&&◌}
use mathlib.Core.List.{List, [], ◌∷◌, ◌++◌}
use mathlib.Core.Path.{◌≡◌, sym, ap, ◌∙◌}
use lib.Dec.{eqb}
use Rattle.octets.specs.{Bits.bits, Bits.bit, Little.number}
use Rattle.octets.proofs.Cases.{cases, holds?}
use Rattle.header_bytes.specs.Layout.{own_destination, own_source, pan_size, address_size, source_end, header_end}
use Rattle.header_bytes.specs.{Reading.measured}
use Rattle.header_bytes.proofs.Accepted.{read_accepted}
use Rattle.header.specs.declared.Header.{Header}
use Rattle.header.specs.Read.{read_header, read_outcome}
use Rattle.header.proofs.Apart.{read_measured}
use Rattle.time_slots.specs.TimeSlots.{slots_length, slot_count_in, time_slots_in}
use Rattle.beacon.specs.declared.BeaconRead.{BeaconRead}
use Rattle.beacon.specs.Beacon.{beacon_in, beacon_length_in, read_beacon}
use Rattle.beacon_facts.proofs.Beacon.{beacon_read}
use Rattle.alterations.specs.Listed.{header_bits, direction_bits, beacon_bits, holds_beacon, listed}
use Rattle.alterations.proofs.Answers.{Accepted}
use Rattle.alterations_facts.proofs.Records.{Told, told_read, Same}
use Rattle.std.specs.Prelude.{Ok}
use Rattle.octets.specs.Outcome.{number_of, length_of}

pub record Alike (s t : List ℕ) : Type 0 where
  pub type : bits (number t 0 2) 0 3 ≡ bits (number s 0 2) 0 3
  pub security : bit (number t 0 2) 3 ≡ bit (number s 0 2) 3
  pub compress : bit (number t 0 2) 6 ≡ bit (number s 0 2) 6
  pub to : bits (number t 0 2) 10 2 ≡ bits (number s 0 2) 10 2
  pub from : bits (number t 0 2) 14 2 ≡ bits (number s 0 2) 14 2
  pub read : measured t ≡ measured s
  pub beacon : holds_beacon (number s 0 2) ≡ true →
      read_beacon t (header_end s (number s 0 2)) ≡ read_beacon s (header_end s (number s 0 2))

-- frames whose headers are read with the same length as records that tell the same
pub alike_read : (s t : List ℕ) (h g : Header) (n : ℕ) → read_header s ≡ Ok (h, n) → read_header t ≡ Ok (g, n) → Same h g →
    (holds_beacon (number s 0 2) ≡ true → read_beacon t (header_end s (number s 0 2)) ≡ read_beacon s (header_end s (number s 0 2))) →
    Alike s t
alike_read s t h g n e f same beacon =
    let one : Told s h = told_read s h n e in
    let two : Told t g = told_read t g n f in
    record {
      type = two.type ∙ same.type ∙ sym one.type;
      security = two.security ∙ same.security ∙ sym one.security;
      compress = two.compress ∙ same.compress ∙ sym one.compress;
      to = two.to ∙ same.to ∙ sym one.to;
      from = two.from ∙ same.from ∙ sym one.from;
      read = sym (read_measured t) ∙ ap read_outcome f ∙ sym (ap read_outcome e) ∙ read_measured s;
      beacon = beacon;
    }

-- two beacons at a place that read as one have the same count of slots
beacon_counts : (s t : List ℕ) (at : ℕ) → number_of (read_beacon s at).outcome ≡ 0 → read_beacon t at ≡ read_beacon s at →
    (slot_count_in t (at + 2) ≡ slot_count_in s (at + 2)) × (beacon_length_in t at ≡ beacon_length_in s at)
unfolding beacon_in time_slots_in
beacon_counts s t at z e =
    let first = (beacon_read s at z).0 in
    let second = (beacon_read t at (ap (λ (r : BeaconRead). number_of r.outcome) e ∙ z)).0 in
    let same = sym second ∙ e ∙ first in (
      ap (λ (r : BeaconRead). r.beacon.guaranteed_time_slot_info.slot_count) same,
      ap (λ (r : BeaconRead). length_of r.outcome) same,
    )

module _ (s t : List ℕ) (m : ℕ) (a : Accepted s m) (k : Alike s t) where
  abbrev w : ℕ
  w = number s 0 2

  abbrev v : ℕ
  v = number t 0 2

  abbrev n : ℕ
  n = header_end s w

  holds : holds_beacon v ≡ holds_beacon w
  holds = λ i. eqb (k.type i) 0 && not (k.security i)

  source : source_end v ≡ source_end w
  source =
      λ i. 3 + (pan_size (own_destination (k.to i) (k.from i) (k.compress i)) + address_size (k.to i))
      + (pan_size (own_source (k.to i) (k.from i) (k.compress i)) + address_size (k.from i))

  end : header_end t v ≡ n
  end = sym (read_accepted t n (k.read ∙ a.read)).end

  counts : holds_beacon w ≡ true → (slot_count_in t (n + 2) ≡ slot_count_in s (n + 2)) × (beacon_length_in t n ≡ beacon_length_in s n)
  counts on = beacon_counts s t n (a.beacon on) (k.beacon on)

  beacon_alike : holds_beacon w ≡ true → beacon_bits t n ≡ beacon_bits s n
  beacon_alike on =
      ap (λ (c : ℕ). (n + 1, 5 ∷ []) ∷ (n + 2, 3 ∷ 4 ∷ 5 ∷ 6 ∷ []) ∷
      (direction_bits c (n + 3) ++ ((n + 2 + (1 + slots_length c), 3 ∷ 7 ∷ []) ∷ []))) (counts on).0

  pub listed_alike : listed t ≡ listed s
  listed_alike =
      let header : header_bits v ≡ header_bits w =
      λ i. (0, 7 ∷ []) ∷ (1, 0 ∷ 1 ∷ []) ∷ cond (k.security i) ((source i, 5 ∷ 6 ∷ 7 ∷ []) ∷ []) [] in
      (λ i. header i ++ cond (holds i) (beacon_bits t (end i)) [])
      ∙ cases (holds? (holds_beacon w))
      (λ on. ap (λ (l : List (ℕ × List ℕ)). header_bits w ++ cond (holds_beacon w) l []) (beacon_alike on))
      (λ off. simp off)

  pub accepted_alike : Accepted t m
  accepted_alike =
      record {
        read = k.read ∙ a.read ∙ ap Ok (sym end);
        source = (λ i. k.compress i && eqb (k.from i) 0) ∙ a.source;
        beacon = λ on.
            ap (λ (at : ℕ). number_of (read_beacon t at).outcome) end
            ∙ ap (λ (r : BeaconRead). number_of r.outcome) (k.beacon (sym holds ∙ on))
            ∙ a.beacon (sym holds ∙ on);
        long = a.long
            ∙ cases (holds? (holds_beacon w))
            (λ on. ap (λ (l : ℕ). n + cond (holds_beacon w) l 0) (sym (counts on).1))
            (λ off. simp off)
            ∙ (λ i. sym end i + cond (sym holds i) (beacon_length_in t (sym end i)) 0);
      }
