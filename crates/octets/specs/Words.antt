-- Two of the library's words that definitions are made of, under one name. Each means what the library says.
pub use mathlib.Core.List.{flat_map}
pub use Rattle.std.proofs.lemmas.List.Edits.{sets}
