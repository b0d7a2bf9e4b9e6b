use Rattle.std.proofs.Common.{sym, ◌∙◌}
use Rattle.arrow_spec.specs.declared.error.IpcError.TheVariants.{Unsupported}
use Rattle.arrow_spec.specs.Features.{floats_in}
use Rattle.arrow_types.specs.Schemas.{fields_in}
use Rattle.ipc_messages.proofs.Beginning.{compressed, features_free, floats_refused}
use Rattle.ipc_messages.proofs.schema.check_features.Goals as goal

pub returns-then-is_some : goal.returns-then-is_some
returns-then-is_some c = compressed c.args.options.now (floats_in (fields_in c.args.schema.now)) (sym c.if-is_some.true ∙ c.is_some.ensures)

pub returns-in-Some : goal.returns-in-Some
returns-in-Some c = floats_refused c.args.options.now (floats_in (fields_in c.args.schema.now)) (Unsupported c.in-Some.feature) (sym c.if-is_some.false ∙ c.is_some.ensures) c.in-Some.ensures

pub returns-in-None : goal.returns-in-None
returns-in-None c = features_free c.args.options.now (floats_in (fields_in c.args.schema.now)) (sym c.if-is_some.false ∙ c.is_some.ensures) c.in-None.ensures
