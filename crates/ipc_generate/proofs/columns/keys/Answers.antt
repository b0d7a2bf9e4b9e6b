use Rattle.std.proofs.Common.{map, ap, ◌∙◌, arith}
use Rattle.std.proofs.lemmas.List.{take_all}
use Rattle.ipc_generate.specs.Arrays.{key_of}
use Rattle.ipc_generate.proofs.EachRow.{keys_fit}
use Rattle.ipc_generate.proofs.columns.keys.Goals as goal

pub keyed-requires-clause-keys : goal.keyed-requires-clause-keys
keyed-requires-clause-keys c =
    keys_fit c.args.states.now c.as_slice.result.now
    (c.as_slice.ensures.value ∙ c.loop-x.invariant ∙ ap (map key_of) (take_all c.loop-x.x-index c.args.states.now (omega arith)))
