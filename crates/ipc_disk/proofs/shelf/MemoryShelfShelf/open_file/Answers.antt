use Rattle.std.proofs.Common.{rules, IfOk}
use Rattle.ipc_disk.specs.Shelves.{entry_of}
use Rattle.ipc_disk.proofs.Shelves.{Opens, file_never}
use Rattle.ipc_disk.proofs.shelf.MemoryShelfShelf.open_file.Goals as goal

pub returns-clause-never_file : goal.returns-clause-never_file
returns-clause-never_file c =
    let opens : IfOk c.map_err.result (Opens (entry_of c.args.self.now.entries c.args.name.now)) = search rules in
    λ never. file_never _ _ _ never.entries opens
