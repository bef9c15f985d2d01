-- A line of a trace taken apart from a place of a list on, as far as it is of its form, by a table of what bytes count
-- for in a pair of hex digits, whatever the table has. Where it is of its form, what follows its last pair of digits
-- tells whether the line ends there.
use Rattle.std.specs.Prelude.{ℕ, ◌+◌, ◌*◌, Bool, cond, ◌&&◌, Option, Some, None, List, [], length, drop}
use Rattle.line_cutter.specs.Line.{tab_byte, before, is_at}
use Rattle.hexadecimal.specs.{Hex.decoded_by}
use Rattle.decimal.specs.{Decimal.value_of, Decimal.is_decimal, Decimal.numerals}
use Rattle.trace_line.specs.{declared.Parts.Parts, declared.Field.Field}

-- the digits at a place are a decimal, and a tab stands behind them
unfoldable pub has_decimal : List ℕ → ℕ → Bool
has_decimal s at = is_decimal (numerals (drop at s)) && is_at s (at + length (numerals (drop at s))) tab_byte

-- what they make, and the place behind the tab
abbrev pub decimal_value : List ℕ → ℕ → ℕ
decimal_value s at = value_of (numerals (drop at s))

abbrev pub decimal_end : List ℕ → ℕ → ℕ
decimal_end s at = at + length (numerals (drop at s)) + 1

-- a decimal and the tab behind it, where they are there
unfoldable pub decimal_field : List ℕ → ℕ → Option Field
decimal_field s at = cond (has_decimal s at) (Some (record { value = decimal_value s at; end = decimal_end s at })) None

-- where the antenna ends that begins at a place: at a tab, at a byte stop, or where s ends
abbrev pub antenna_end : List ℕ → ℕ → ℕ → ℕ
antenna_end s at stop = at + length (before tab_byte stop (drop at s))

-- the place of the size, and of the bytes
abbrev pub size_place : List ℕ → ℕ → ℕ → ℕ
size_place s at stop = antenna_end s (decimal_end s at) stop + 1

abbrev pub bytes_place : List ℕ → ℕ → ℕ → ℕ
bytes_place s at stop = decimal_end s (size_place s at stop)

-- tick, antenna and size are there, each with its tab
unfoldable pub has_fields : List ℕ → ℕ → ℕ → Bool
has_fields s at stop =
    has_decimal s at
    && is_at s (antenna_end s (decimal_end s at) stop) tab_byte
    && has_decimal s (size_place s at stop)

-- the bytes that the digits behind them make, as many as have room
unfoldable pub frame_in : List ℕ → List ℕ → ℕ → ℕ → ℕ → List ℕ
frame_in table s at stop room = cond (has_fields s at stop) (decoded_by table s (bytes_place s at stop) room) []

-- what is found, where they are there: the size, how many bytes, and the place behind their digits
unfoldable pub parts_in : List ℕ → List ℕ → ℕ → ℕ → ℕ → Option Parts
parts_in table s at stop room =
    let n = length (decoded_by table s (bytes_place s at stop) room) in
    cond (has_fields s at stop)
    (Some (record {
      size = decimal_value s (size_place s at stop);
      count = n;
      end = bytes_place s at stop + 2 * n;
    }))
    None
