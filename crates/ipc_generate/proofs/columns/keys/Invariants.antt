use Rattle.std.proofs.Common.{◌≡◌, map, take}
use Rattle.ipc_generate.specs.Arrays.{key_of}
use Rattle.ipc_generate.proofs.columns.keys.Given as goal

abbrev pub invariant-loop-x : goal.invariant-loop-x
invariant-loop-x l = l.keys.items ≡ map key_of (take l.x-index l.states)
