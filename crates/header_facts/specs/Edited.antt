-- The bridge's edits (document 02, request 4): what each leaves of a record, field by field, when 12 is given, and what
-- is read of an edited record that was written.
use Rattle.std.specs.Prelude.{ℕ, ◌+◌, ◌^◌, ◌≤◌, ◌<◌, Bool, true, false, List, [], ◌∷◌, ◌++◌, ◌≡◌, length}
use Rattle.std.specs.Prelude.{Option, Some, None, Ok}
use Rattle.address.specs.declared.{Address.Address}
use Rattle.address.specs.{Address.pan_of, Layout.SmallAddress}
use Rattle.security.specs.Optional.{counter_of}
use Rattle.header.specs.{declared.Header.Header, Record.header_length, Read.read_header}
use Rattle.header.specs.{Write.lacks_address, Write.write_header, Write.header_bytes}
use Rattle.header.specs.Edit.{destination_replaced, source_replaced, source_removed, compression_off, compression_on}
use Rattle.header.specs.Edit.{edit_number, edit_record}
use Rattle.header_facts.specs.Rewritten.{quiet, lost, own_counter, rewritten}
use Rattle.header_facts.specs.RoundTrip.{InBuffer}
use Rattle.header_facts.specs.Told.{part_told, header_told}

-- g is h with compression and addresses exchanged for those given: each other field is as it was, and the kept length
-- is the sum of g's parts
pub record Edited (h : Header) (compress : Bool) (to from : Option Address) (g : Header) : Type 0 where
  pub frame_type : g.frame_type ≡ h.frame_type
  pub frame_pending : g.frame_pending ≡ h.frame_pending
  pub ack_request : g.ack_request ≡ h.ack_request
  pub pan_id_compress : g.pan_id_compress ≡ compress
  pub seq_no_suppress : g.seq_no_suppress ≡ h.seq_no_suppress
  pub ie_present : g.ie_present ≡ h.ie_present
  pub version : g.version ≡ h.version
  pub seq : g.seq ≡ h.seq
  pub destination : g.destination ≡ to
  pub source : g.source ≡ from
  pub security : g.auxiliary_security_header ≡ h.auxiliary_security_header
  pub kept : g.length ≡ header_length g

-- what holds of the edits of any record, whatever length it keeps
pub record Edits (h : Header) : Type 0 where
  pub destination_replaced_lem : (a : Address) → Edited h false (Some a) h.source (destination_replaced h a)
  pub source_replaced_lem : (a : Address) → Edited h false h.destination (Some a) (source_replaced h a)
  pub source_removed_lem : Edited h false h.destination None (source_removed h)
  pub compression_off_lem : Edited h false h.destination h.source (compression_off h)
  -- 0 where both addresses are there with equal PAN ids, and 12 exactly where they are not, with the record as it was
  pub compression_on_lem : (a b : Address) → h.destination ≡ Some a → h.source ≡ Some b → pan_of a ≡ pan_of b →
      (edit_number (compression_on h) ≡ 0)
      × Edited h true h.destination h.source (edit_record (compression_on h))
  pub unshared :
      ((a b : Address) → h.destination ≡ Some a → h.source ≡ Some b → pan_of a ≡ pan_of b → ⊥) →
      (edit_number (compression_on h) ≡ 12) × (edit_record (compression_on h) ≡ h)

-- the edits as one kind: the record afterwards, and the number that each gives
pub data Edit : Type 0 where
  replace_destination : Address → Edit
  replace_source : Address → Edit
  remove_source : Edit
  switch_off : Edit
  switch_on : Edit

abbrev pub edited_by : Edit → Header → Header
edited_by (replace_destination a) h = destination_replaced h a
edited_by (replace_source a) h = source_replaced h a
edited_by remove_source h = source_removed h
edited_by switch_off h = compression_off h
edited_by switch_on h = edit_record (compression_on h)

abbrev pub number_of : Edit → Header → ℕ
number_of (replace_destination a) h = 0
number_of (replace_source a) h = 0
number_of remove_source h = 0
number_of switch_off h = 0
number_of switch_on h = edit_number (compression_on h)

-- one after the other
unfoldable pub edited_by_all : List Edit → Header → Header
edited_by_all [] h = h
edited_by_all (edit ∷ edits) h = edited_by_all edits (edited_by edit h)

-- each number of an edit's address within its width, as in every address that a program can hold
abbrev pub SmallEdit : Edit → Type 0
SmallEdit (replace_destination a) = SmallAddress (Some a)
SmallEdit (replace_source a) = SmallAddress (Some a)
SmallEdit remove_source = Unit
SmallEdit switch_off = Unit
SmallEdit switch_on = Unit

abbrev pub SmallEdits : List Edit → Type 0
SmallEdits [] = Unit
SmallEdits (edit ∷ edits) = SmallEdit edit × SmallEdits edits

-- what holds of any record that a program can hold, after an edit
pub record AfterEdit (h : Header) (edit : Edit) : Type 0 where
  -- accepted, it keeps the sum of its parts; refused, what it kept
  pub kept : number_of edit h ≡ 0 → (edited_by edit h).length ≡ header_length (edited_by edit h)
  -- accepted, it lacks no address that compression asks for: writing does not give 6
  pub whole : number_of edit h ≡ 0 → lacks_address (edited_by edit h) ≡ false
  -- where writing accepts it, with any counter, it is read as told, whatever follows
  pub back : (counter : Option ℕ) (room n : ℕ) (more : List ℕ) → counter_of counter < 256 ^ 4 →
      write_header (edited_by edit h) counter room ≡ Ok n →
      read_header (header_bytes (edited_by edit h) (counter_of counter) ++ more)
      ≡ Ok (header_told (edited_by edit h) (counter_of counter), n)
  -- and behind an accepted edit that is the record itself, but for both flags, the counter and the key mode: no PAN id
  -- is lost
  pub told : number_of edit h ≡ 0 → (counter : ℕ) →
      header_told (edited_by edit h) counter
      ≡ quiet (edited_by edit h) (edited_by edit h).source
      (part_told (edited_by edit h).auxiliary_security_header counter)

-- what holds of a header h that was read, edited to g by any edits, accepted and refused ones, and written with the
-- counter that was read
pub record Bridged (h g : Header) : Type 0 where
  -- the kept length is the sum of the parts, and so many bytes are written
  pub kept : g.length ≡ header_length g
  pub long : length (rewritten g) ≡ g.length
  pub least : 3 ≤ g.length
  pub most : g.length ≤ 37
  -- the counter is the one that was read
  pub counter : own_counter g ≡ own_counter h
  -- compressed with an address missing, it is the header that was read
  pub lacking : lacks_address g ≡ true → g ≡ h
  -- else writing is accepted, with room
  pub accepted : (room : ℕ) → lacks_address g ≡ false → g.length ≤ room →
      write_header g (own_counter g) room ≡ Ok g.length
  -- reading what was written gives that record but for the two flags, whatever follows
  pub again : (more : List ℕ) → read_header (rewritten g ++ more) ≡ Ok (lost g, g.length)
  -- the same with every byte of a buffer
  pub in_buffer : (out : List ℕ) (to : ℕ) → lacks_address g ≡ false → to + g.length ≤ length out → InBuffer g out to
