-- Laws of an address in a frame: its length, what is read back from what was written, written again from what was read, not altered by what
-- follows, and within its width.
-- Assumes nothing.
use Prim.Native.Nat.{ℕ, ◌+◌, ◌^◌, ◌≤◌, ◌<◌}
use native.Mathlib.Omega.{arith}
use mathlib.Core.Bool.{Bool, true, false, cond}
use mathlib.Core.List.{List, ◌++◌, append_assoc}
use mathlib.Core.Path.{◌≡◌, refl, sym, ap}
use lib.ListN.{length, take, drop, length-append}
use lib.Seq.{take-add, drop-drop}
use Rattle.octets.specs.Little.{split, number, Bytes}
use Rattle.octets.proofs.Little.{split_length, number_back, number_again, number_more, number_small}
use Rattle.frame_control.specs.declared.AddressMode.{AddressMode}
use Rattle.frame_control.specs.declared.AddressMode.TheVariants as Mode
use Rattle.identifiers.specs.declared.PanId.{PanId}
use Rattle.identifiers.specs.PanId.{pan}
use Rattle.address.specs.declared.Address.TheVariants.{Short, Extended}
use Rattle.address.specs.Address.{mode_of, shared_pan}
use Rattle.address.specs.Layout.{pan_length, mode_length, address_length, pan_in, address_in, pan_bytes, address_bytes, sharing, SmallPan}
use Rattle.address.specs.Layout.{SmallAddress}
use Rattle.std.specs.Prelude.{Option, Some, None}
use Rattle.address.specs.declared.Address.{Address}

pub pan_length_lem : (own : Bool) (p : PanId) → length (pan_bytes own p) ≡ pan_length own
pan_length_lem true p = split_length 2 p.0
pan_length_lem false p = refl

pub address_length_lem : (own : Bool) (a : Option Address) → length (address_bytes own a) ≡ address_length own a
unfolding address_bytes
address_length_lem own None = refl
address_length_lem own (Some (Short p a)) = simp (length-append, pan_length_lem, split_length)
address_length_lem own (Some (Extended p a)) = simp (length-append, pan_length_lem, split_length)

-- a PAN id and a number of n bytes behind it, in a longer list
abbrev pair : Bool → PanId → ℕ → ℕ → List ℕ
pair own p n v = pan_bytes own p ++ split n v

-- both read back
pan_back : (own : Bool) (shared p : PanId) (before after : List ℕ) (at n v : ℕ) → length before ≡ at → SmallPan p →
    pan_in own shared (before ++ (pair own p n v ++ after)) at ≡ cond own p shared
pan_back true shared p before after at n v e h =
    ap pan (rw (append_assoc (split 2 p.0) (split n v) after) (number_back before at 2 p.0 (split n v ++ after) e h))
pan_back false shared p before after at n v e h = refl

behind_back : (own : Bool) (p : PanId) (before after : List ℕ) (at n v : ℕ) → length before ≡ at → v < 256 ^ n →
    number (before ++ (pair own p n v ++ after)) (at + pan_length own) n ≡ v
behind_back own p before after at n v e h =
    let k : length (before ++ pan_bytes own p) ≡ at + pan_length own = simp (length-append, pan_length_lem, e) in
    rw (append_assoc (pan_bytes own p) (split n v) after, ← append_assoc before (pan_bytes own p) (split n v ++ after))
    (number_back (before ++ pan_bytes own p) (at + pan_length own) n v after k h)

-- what was written is read as it was, but for a PAN id that was left out
pub address_back : (own : Bool) (shared : PanId) (a : Option Address) (before after : List ℕ) (at : ℕ) → length before ≡ at →
    SmallAddress a →
    address_in own shared (mode_of a) (before ++ (address_bytes own a ++ after)) at ≡ sharing own shared a
unfolding address_in address_bytes
address_back own shared None before after at e h = refl
address_back own shared (Some (Short p a)) before after at e h =
    rw (pan_back own shared p before after at 2 a.0 e h.0, behind_back own p before after at 2 a.0 e h.1)
address_back own shared (Some (Extended p a)) before after at e h =
    rw (pan_back own shared p before after at 8 a.0 e h.0, behind_back own p before after at 8 a.0 e h.1)

-- what was read is written as it was
pan_again : (own : Bool) (shared : PanId) (s : List ℕ) (at : ℕ) → Bytes s → at + pan_length own ≤ length s →
    pan_bytes own (pan_in own shared s at) ≡ take (pan_length own) (drop at s)
pan_again true shared s at b h = number_again s at 2 b h
pan_again false shared s at b h = refl

pair_again : (own : Bool) (shared : PanId) (n : ℕ) (s : List ℕ) (at : ℕ) → Bytes s → at + (pan_length own + n) ≤ length s →
    pair own (pan_in own shared s at) n (number s (at + pan_length own) n) ≡ take (pan_length own + n) (drop at s)
pair_again own shared n s at b h =
    rw (pan_again own shared s at b (omega arith), number_again s (at + pan_length own) n b (omega arith), ← drop-drop (pan_length own) at s)
    (sym (take-add (pan_length own) n (drop at s)))

pub address_again : (own : Bool) (shared : PanId) (m : AddressMode) (s : List ℕ) (at : ℕ) → Bytes s → at + mode_length own m ≤ length s →
    address_bytes own (address_in own shared m s at) ≡ take (mode_length own m) (drop at s)
unfolding address_in address_bytes
address_again own shared Mode.None s at b h = refl
address_again own shared Mode.Short s at b h = pair_again own shared 2 s at b h
address_again own shared Mode.Extended s at b h = pair_again own shared 8 s at b h

-- bytes behind alter nothing
pan_more : (own : Bool) (shared : PanId) (s t : List ℕ) (at : ℕ) → at + pan_length own ≤ length s →
    pan_in own shared (s ++ t) at ≡ pan_in own shared s at
pan_more true shared s t at h = ap pan (number_more s t at 2 h)
pan_more false shared s t at h = refl

pub address_more : (own : Bool) (shared : PanId) (m : AddressMode) (s t : List ℕ) (at : ℕ) → at + mode_length own m ≤ length s →
    address_in own shared m (s ++ t) at ≡ address_in own shared m s at
unfolding address_in
address_more own shared Mode.None s t at h = refl
address_more own shared Mode.Short s t at h =
    rw (pan_more own shared s t at (omega arith), number_more s t (at + pan_length own) 2 (omega arith))
address_more own shared Mode.Extended s t at h =
    rw (pan_more own shared s t at (omega arith), number_more s t (at + pan_length own) 8 (omega arith))

-- what was read fits its width, has the mode that it was read by, and its PAN id is the shared one where that was left out
pan_small : (own : Bool) (shared : PanId) (s : List ℕ) (at : ℕ) → Bytes s → SmallPan shared → at + pan_length own ≤ length s →
    SmallPan (pan_in own shared s at)
pan_small true shared s at b p h = number_small s at 2 b h
pan_small false shared s at b p h = p

pub address_small : (own : Bool) (shared : PanId) (m : AddressMode) (s : List ℕ) (at : ℕ) → Bytes s → SmallPan shared →
    at + mode_length own m ≤ length s →
    SmallAddress (address_in own shared m s at)
unfolding address_in
address_small own shared Mode.None s at b p h = tt
address_small own shared Mode.Short s at b p h =
    (pan_small own shared s at b p (omega arith), number_small s (at + pan_length own) 2 b (omega arith))
address_small own shared Mode.Extended s at b p h =
    (pan_small own shared s at b p (omega arith), number_small s (at + pan_length own) 8 b (omega arith))

pub shared_small : (a : Option Address) → SmallAddress a → SmallPan (shared_pan a)
shared_small None h = omega arith
shared_small (Some (Short p a)) h = h.0
shared_small (Some (Extended p a)) h = h.0

pub address_mode : (own : Bool) (shared : PanId) (m : AddressMode) (s : List ℕ) (at : ℕ) → mode_of (address_in own shared m s at) ≡ m
unfolding address_in
address_mode own shared Mode.None s at = refl
address_mode own shared Mode.Short s at = refl
address_mode own shared Mode.Extended s at = refl

pub address_shares : (own : Bool) (shared : PanId) (m : AddressMode) (s : List ℕ) (at : ℕ) →
    sharing own shared (address_in own shared m s at) ≡ address_in own shared m s at
unfolding address_in
address_shares own shared Mode.None s at = refl
address_shares true shared Mode.Short s at = refl
address_shares false shared Mode.Short s at = refl
address_shares true shared Mode.Extended s at = refl
address_shares false shared Mode.Extended s at = refl
