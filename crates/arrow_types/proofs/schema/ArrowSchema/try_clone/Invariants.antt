use Rattle.std.proofs.Common.{◌≡◌, ◌++◌}
use Rattle.arrow_types.specs.Schemas.{keyed}
use Rattle.arrow_types.proofs.schema.ArrowSchema.try_clone.Given as goal

abbrev pub invariant-loop-key : goal.invariant-loop-key
invariant-loop-key l = l.copy ++ keyed l.key-iterator ≡ l.self
