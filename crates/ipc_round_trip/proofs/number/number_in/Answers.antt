use Rattle.ipc_round_trip.proofs.number.number_in.Goals as goal

pub unreachable-requires : goal.unreachable-requires
unreachable-requires c =
    let t = c.know_numbers.ensures c.requires.kind in
    c.in_default.not-Int64 t.0 t.1
