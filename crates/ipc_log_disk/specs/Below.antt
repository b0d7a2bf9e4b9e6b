-- What crates below say, handed on to those above.
pub use Rattle.ipc_disk.specs.Disks.{IsWithin, WritesAt, overwritten}
pub use Rattle.ipc_disk.specs.Tails.{IsOfDisk}
