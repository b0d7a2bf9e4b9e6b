-- What crates below say, handed on to those above.
pub use Rattle.schema_writer.proofs.Texts.{map_ascends}
pub use Rattle.schema_writer.proofs.Saying.{representable_is}
