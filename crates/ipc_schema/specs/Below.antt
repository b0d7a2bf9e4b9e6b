-- What crates below say, handed on to those above.
pub use Rattle.schema_writer.specs.Defaults.{IsNumbered}
pub use Rattle.schema_writer.specs.Serialized.{belong_to, IsOfMessage}
pub use Rattle.schema_writer.specs.Texts.{PairsAscend, ReadsBackAs}
unfoldable pub use Rattle.schema_writer.specs.Serialized.{serialized, written}
pub use Rattle.schema_writer.specs.Defaults as Defaults
pub use Rattle.schema_writer.specs.Tables.{all_fit, fits_below}
