-- What crates below say, handed on to those above.
pub use Rattle.laws_sent.specs.DictionaryLaws.{AreFileColumns}
pub use Rattle.ipc_reader.specs.Kept.{HeldParts, HoldsFile}
pub use Rattle.ipc_reader.specs.declared.kept.KeptDictionaries.TheVariants.{Held}
