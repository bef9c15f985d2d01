-- The bridge's edits (document 02, request 4). Replacing or removing an address switches compression off, and replacing
-- a missing one adds it; the kept length is that of the parts as they would then lie in the frame.
use Rattle.std.specs.Prelude.{ℕ, true, false, cond, Some, None, Result, Ok, Err}
use Rattle.address.specs.declared.{Address.Address}
use Rattle.address_pair.specs.Pair.{pair_shares}
use Rattle.header.specs.declared.{Header.Header, Unshared.Unshared}
use Rattle.header.specs.Record.{edited}

abbrev pub destination_replaced : Header → Address → Header
destination_replaced h address = edited h false (Some address) h.source

abbrev pub source_replaced : Header → Address → Header
source_replaced h address = edited h false h.destination (Some address)

-- also where there is no source
abbrev pub source_removed : Header → Header
source_removed h = edited h false h.destination None

abbrev pub compression_off : Header → Header
compression_off h = edited h false h.destination h.source

-- 12 unless both addresses are there with equal PAN ids: the record is then as it was, compression and length too
abbrev pub compression_on : Header → Result Header Unshared
compression_on h =
    cond (pair_shares h.destination h.source) (Ok (edited h true h.destination h.source)) (Err (record { 0 = h }))

-- the refusal's number, and the record afterwards
abbrev pub edit_number : Result Header Unshared → ℕ
edit_number (Ok h) = 0
edit_number (Err u) = 12

abbrev pub edit_record : Result Header Unshared → Header
edit_record (Ok h) = h
edit_record (Err u) = u.0
