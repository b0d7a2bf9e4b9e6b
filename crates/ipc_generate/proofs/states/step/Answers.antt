use Rattle.std.proofs.Common.{◌*◌}
use Rattle.std.proofs.Math.Nat.{mod-add-mod}
use Rattle.ipc_generate.proofs.states.step.Goals as goal

pub returns : goal.returns
returns c = mod-add-mod (c.args.x * 6364136223846793005) 18446744073709551616 1442695040888963407
