-- What crates below say, handed on to those above.
pub use Rattle.ipc_append.specs.Below.{FeedKept}
