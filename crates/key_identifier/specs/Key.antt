-- The key identifier, document 01, "Header layout" (IEEE 802.15.4-2011, 7.4.3): by key mode 0 nothing, 1 index (1), 2
-- source (4) and index (1), 3 source (8) and index (1).
use Rattle.std.specs.Prelude.{ℕ, ◌+◌, ◌^◌, ◌<◌, List, [], ◌++◌, Option, Some, None}
use Rattle.octets.specs.Little.{number, split}
use Rattle.security_control.specs.declared.{KeyIdentifierMode.KeyIdentifierMode}
use Rattle.key_identifier.specs.declared.KeySource.TheVariants.{Short, Long}
use Rattle.key_identifier.specs.declared.KeySource.{KeySource}
use Rattle.key_identifier.specs.declared.KeyIdentifier.{KeyIdentifier}

-- the mode that announces a source, or none, and an index
abbrev pub source_mode : Option KeySource → KeyIdentifierMode
source_mode None = KeyIdentifierMode.KeyIndex
source_mode (Some (Short k)) = KeyIdentifierMode.KeySource4
source_mode (Some (Long k)) = KeyIdentifierMode.KeySource8

-- the mode that announces a key identifier
abbrev pub mode_of_key : Option KeyIdentifier → KeyIdentifierMode
mode_of_key None = KeyIdentifierMode.None
mode_of_key (Some k) = source_mode k.key_source

-- how many bytes a key identifier of a mode takes
abbrev pub key_length : KeyIdentifierMode → ℕ
key_length KeyIdentifierMode.None = 0
key_length KeyIdentifierMode.KeyIndex = 1
key_length KeyIdentifierMode.KeySource4 = 5
key_length KeyIdentifierMode.KeySource8 = 9

abbrev pub key_of : Option KeySource → ℕ → Option KeyIdentifier
key_of source index = Some (record { key_source = source; key_index = index })

-- the key identifier of a mode at a place
unfoldable pub key_in : KeyIdentifierMode → List ℕ → ℕ → Option KeyIdentifier
key_in KeyIdentifierMode.None s at = None
key_in KeyIdentifierMode.KeyIndex s at = key_of None (number s at 1)
key_in KeyIdentifierMode.KeySource4 s at =
    key_of (Some (Short (number s at 4))) (number s (at + 4) 1)
key_in KeyIdentifierMode.KeySource8 s at =
    key_of (Some (Long (number s at 8))) (number s (at + 8) 1)

abbrev pub source_length : Option KeySource → ℕ
source_length None = 0
source_length (Some (Short k)) = 4
source_length (Some (Long k)) = 8

abbrev pub source_bytes : Option KeySource → List ℕ
source_bytes None = []
source_bytes (Some (Short k)) = split 4 k
source_bytes (Some (Long k)) = split 8 k

-- the bytes of a key identifier
unfoldable pub key_bytes : Option KeyIdentifier → List ℕ
key_bytes None = []
key_bytes (Some k) = source_bytes k.key_source ++ split 1 k.key_index

-- each number within its width
abbrev pub SmallSource : Option KeySource → Type 0
SmallSource None = Unit
SmallSource (Some (Short k)) = k < 256 ^ 4
SmallSource (Some (Long k)) = k < 256 ^ 8

abbrev pub SmallKey : Option KeyIdentifier → Type 0
SmallKey None = Unit
SmallKey (Some k) = SmallSource k.key_source × (k.key_index < 256 ^ 1)
