use Rattle.std.proofs.Common.{◌≡◌, subst, sym, true}
use Rattle.std.specs.Rc.{rc_value}
use Rattle.arrow_types.specs.Schemas.{fields_in}
use Rattle.ipc_append.specs.Columns.{are_of}
use Rattle.ipc_append.proofs.Handed.{refused}
use Rattle.ipc_to_file.proofs.Tables.{made_of, refused_of, same_kinds}
use Rattle.ipc_to_file.proofs.stream.united.Goals as goal

pub unify-requires : goal.unify-requires
unify-requires c = record { kinds = subst (λ s. are_of (fields_in s) c.args.stream.batches.items ≡ true) (sym c.deref.ensures) c.args.stream.kinds }

pub invariant_of-result : goal.invariant_of-result
invariant_of-result c = record { kinds = same_kinds (fields_in (rc_value c.args.stream.metadata.schema)) _ _ c.in_ok-batches.ensures.same c.args.stream.kinds }

pub returns-clause-made : goal.returns-clause-made
returns-clause-made c = made_of c.args.stream _ _ _ c.deref.ensures c.in_ok-batches.ensures.unified c.in_ok-batches.ensures.same c.in_ok-batches.ensures.over c.in_ok-batches.ensures.fits

pub returns-in_err-batches-clause-refused : goal.returns-in_err-batches-clause-refused
returns-in_err-batches-clause-refused c = refused _ c.from_residual.result _ c.from_residual.ensures.1 (refused_of c.args.stream _ _ c.deref.ensures c.in_err-batches.ensures.refused)
