use Rattle.std.proofs.Common.{inl, refl}
use Rattle.arrow_spec.specs.declared.error.IpcError.TheVariants.{Memory}
use Rattle.ipc_dictionaries.proofs.PartSteps.{handed}
use Rattle.ipc_messages.specs.Fields.{given_ids}
use Rattle.ipc_messages.specs.Schemas.{Begins}
use Rattle.ipc_messages.proofs.Beginning.{no_start}
use Rattle.ipc_messages.proofs.schema.stream_start.Goals as goal

pub returns-in_err-fields : goal.returns-in_err-fields
returns-in_err-fields c =
    handed (λ r. Begins r c.args.options.now c.args.schema.now (given_ids c.args.given) c.args.pairs.now) c.from_residual.result Memory c.from_residual.ensures.1 (inl refl)

pub returns-in_err-message : goal.returns-in_err-message
returns-in_err-message c =
    let e = c.in_err-message.field-0.0 in
    handed (λ r. Begins r c.args.options.now c.args.schema.now (given_ids c.args.given) c.args.pairs.now) c.from_residual-in_err-message.result e c.from_residual-in_err-message.ensures.1
    (no_start e c.args.options.now c.args.schema.now (given_ids c.args.given) c.args.pairs.now c.in_ok-fields.fields.items c.in_ok-fields.ensures c.in_err-message.ensures.gives)

pub returns-in_err-schema : goal.returns-in_err-schema
returns-in_err-schema c =
    handed (λ r. Begins r c.args.options.now c.args.schema.now (given_ids c.args.given) c.args.pairs.now) c.from_residual-in_err-schema.result Memory c.from_residual-in_err-schema.ensures.1 (inl refl)

pub returns : goal.returns
returns c = record {
  schema = c.in_ok-schema.ensures;
  ids = c.in_ok-fields.ensures;
  text = c.in_ok-message.ensures.gives;
  may = c.in_ok-message.ensures.may;
}
