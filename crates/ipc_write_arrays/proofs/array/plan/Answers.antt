use Rattle.arrow_arrays.specs.PartsOf.{parts_of}
use Rattle.ipc_write_arrays.proofs.RoundTrip.{means_under}
use Rattle.ipc_write_arrays.proofs.array.plan.Goals as goal

pub returns-in-Ok-clause-means : goal.returns-in-Ok-clause-means
returns-in-Ok-clause-means c = λ k d alike held. means_under c.args.is_little_endian k d (parts_of c.args.array.now) alike held c.in-Ok.ensures.sound c.in-Ok.ensures.fit c.requires.order
