use Rattle.std.proofs.Common.{length}
use Rattle.ipc_log_disk.proofs.Moments.{same_torn}
use Rattle.ipc_log_disk.proofs.file.FileLogDiskLogDisk.write_at.Goals as goal

pub returns-clause-since : goal.returns-clause-since
returns-clause-since g c = λ x any. record { whole = x; was = tt; torn = same_torn c.args.at (length c.args.bytes.now) x }
