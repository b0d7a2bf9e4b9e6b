-- What crates below say, handed on to those above.
pub use Rattle.ipc_write_arrays.specs.Below.{offset_bytes}
