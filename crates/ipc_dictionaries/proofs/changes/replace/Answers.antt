use Rattle.std.proofs.Common.{ap, to_z, of_z, w64}
use Rattle.arrow_arrays.specs.PartsOf.{forest_of}
use Rattle.ipc_dictionaries.specs.Changes.{parts_in}
use Rattle.ipc_dictionaries.specs.Tracker.{held_in}
use Rattle.ipc_dictionaries.proofs.ChangeSteps.{held_put, pushed}
use Rattle.ipc_dictionaries.proofs.changes.replace.Goals as goal

pub returns-clause-restores : goal.returns-clause-restores
returns-clause-restores c = λ before r.
    let m = c.args.dictionaries.now in
    let n = c.insert.new.self in
    let key = to_z w64 (of_z w64 c.args.id) in
    let put = held_put m n key c.in_ok-copies.copies c.args.parts.now c.in_ok-parts.ensures.updates.0 c.in_ok-copies.ensures in
    pushed c.args.changes.now.items c.reserve.new.self.items c.push.new.self.items (record { id = key; parts = c.in_ok-parts.parts }) (held_in m) (held_in n) before (forest_of c.args.parts.now) c.in_ok-reserve.ensures.items c.in-Ok.ensures.items put (ap parts_in c.in_ok-parts.ensures.old) r
