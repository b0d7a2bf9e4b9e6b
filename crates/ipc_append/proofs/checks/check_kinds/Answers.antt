use Rattle.std.proofs.Common.{None}
use Rattle.arrow_spec.specs.Features.{chosen_floats}
use Rattle.ipc_append.proofs.Appending.{kinds_told}
use Rattle.ipc_streams.specs.Below.{meta_view}
use Rattle.ipc_append.proofs.checks.check_kinds.Goals as goal

pub returns : goal.returns
returns c = kinds_told c.check_columns.result (chosen_floats None (meta_view c.args.metadata.now).schema.fields 0) (c.check_columns.ensures.exact None tt) c.check_columns.ensures.cause
