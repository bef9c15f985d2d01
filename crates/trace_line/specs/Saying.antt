-- What a line of a trace says, given without its line feed: document 02, request 3, "one frame a line: tick, antenna,
-- header size as `get_octet_size` gives it, bytes in hex, parted by tabs".
use Rattle.std.specs.Prelude.{ℕ, ◌≤◌, ◌<◌, Bool, cond, not, ◌||◌, List, ltb, eqb, length}
use Rattle.std.specs.Prelude.{Option, Some, None, Result, Ok, Err}
use Rattle.octets.specs.declared.Refusal.{Refusal}
use Rattle.address.specs.declared.{Address.Address}
use Rattle.address.specs.declared.Address.TheVariants.{Short, Extended}
use Rattle.header.specs.{declared.Header.Header, Record.octet_size, Read.read_header}
use Rattle.line_cutter.specs.{Line.line_most}
use Rattle.hexadecimal.specs.{Hex.odd, Hex.foreign, Hex.unhex}
use Rattle.decimal.specs.Decimal.{is_decimal, value_of}
use Rattle.labelled.specs.Answer.{tabs, label as field, digits as behindField}
use Rattle.senders.specs.declared.{Sender.Sender}
use Rattle.trace_line.specs.declared.{Saying.Saying}
use Rattle.trace_line.specs.declared.Saying.TheVariants.{Unread, Refused, Sourceless, Heard}

-- the fields of a line. Tick and antenna change no count, and the antenna is any text without a tab.
abbrev pub tick_of : List ℕ → List ℕ
tick_of l = field l

abbrev pub size_of : List ℕ → List ℕ
size_of l = field (behindField (behindField l))

abbrev pub bytes_of : List ℕ → List ℕ
bytes_of l = behindField (behindField (behindField l))

-- "10, a line without exactly three tabs, above 1,024 bytes, with hex the line program calls bad or a tick or size that
-- isn't a decimal below 2^64"
abbrev pub malformed : List ℕ → Bool
malformed l =
    not (eqb (tabs l) 3)
    || ltb line_most (length l)
    || odd (bytes_of l)
    || foreign (bytes_of l)
    || not (is_decimal (tick_of l))
    || not (is_decimal (size_of l))

-- "A sender is a source address with its PAN id": the one that the record has, under compression the destination's
abbrev pub sender_of : Address → Sender
sender_of (Short p a) = record { octets = 2; pan_id = p.0; address = a.0 }
sender_of (Extended p a) = record { octets = 8; pan_id = p.0; address = a.0 }

-- a frame of a source, or of none
abbrev pub of_source : Option Address → ℕ → Saying
of_source None number = Sourceless
of_source (Some a) number = Heard (sender_of a) number

-- a frame whose line names a size: "a size that disagrees with an accepted frame" is 10, also where the frame names no
-- source
abbrev pub of_header : Result (Header × ℕ) Refusal → ℕ → Saying
of_header (Err r) size = Refused
of_header (Ok (h, n)) size = cond (eqb size (octet_size h)) (of_source h.source h.seq) Unread

unfoldable pub saying : List ℕ → Saying
saying l = cond (malformed l) Unread (of_header (read_header (unhex (bytes_of l))) (value_of (size_of l)))

-- what is heard is as small as a frame has it
abbrev pub Spoken : Saying → Type 0
Spoken Unread = Unit
Spoken Refused = Unit
Spoken Sourceless = Unit
Spoken (Heard who number) = (who.octets ≤ 8) × (number < 256)
