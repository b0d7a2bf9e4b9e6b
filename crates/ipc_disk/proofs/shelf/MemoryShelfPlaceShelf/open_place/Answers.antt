use Rattle.std.proofs.Common.{rules, IfOk}
use Rattle.ipc_disk.specs.Shelves.{entry_of}
use Rattle.ipc_disk.proofs.Shelves.{OpensPlace, place_never}
use Rattle.ipc_disk.proofs.shelf.MemoryShelfPlaceShelf.open_place.Goals as goal

pub returns-clause-never_place : goal.returns-clause-never_place
returns-clause-never_place c =
    let opens : IfOk c.map_err.result (OpensPlace (entry_of c.args.self.now.entries c.args.name.now)) = search rules in
    λ never. place_never _ _ _ never.entries opens
