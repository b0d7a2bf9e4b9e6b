-- What crates below say, handed on to those above.
pub use Rattle.arrow_buffers.specs.Rows.{part}
