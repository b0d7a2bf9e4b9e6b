-- What crates below say, handed on to those above.
pub use Rattle.ipc_schema.specs.Views.{message_of}
