-- What crates below prove, handed on to those above.
pub use Rattle.arrow_buffers.proofs.Parts.{length-from_on, length-part}
