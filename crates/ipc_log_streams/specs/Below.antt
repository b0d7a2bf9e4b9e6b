-- What crates below say, handed on to those above.
pub use Rattle.ipc_tablelog.specs.Below.{WasSaid}
pub use Rattle.ipc_record_log.specs.Logs.{invalid_log}
pub use Rattle.laws_logs.specs.Tables.{MeansFront, MeansLog, with_batches}
pub use Rattle.ipc_concat.specs.Concat.{AddsPart, AllStand, AreJoined, ConcatCause, Concatenates, EachKept, IsOfPut, IsSmallRefusal, OneRose}
pub use Rattle.ipc_concat.specs.Tables.{MeanTables, told}
pub use Rattle.ipc_concat.specs.Opening.{AreOpen, StopsOpening, StopsStart}
pub use Rattle.ipc_concat.specs.Stopping.{IsFront, StopsBehind}
