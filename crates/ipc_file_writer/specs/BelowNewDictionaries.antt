-- What crates below say under names that others have, handed on.
pub use Rattle.ipc_messages.specs.Below.{message_of}
