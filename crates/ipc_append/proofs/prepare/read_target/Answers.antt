use Rattle.std.proofs.Common.{inl, rules}
use Rattle.ipc_append.proofs.Handed.{refused}
use Rattle.ipc_append.proofs.PrepareSteps.{has_others_of, takes_of}
use Rattle.ipc_append.proofs.prepare.read_target.Goals as goal

pub returns-in_err-file-clause-refused : goal.returns-in_err-file-clause-refused
returns-in_err-file-clause-refused g c = refused _ c.from_residual.result c.in_err-file.field-0.0 c.from_residual.ensures.1 (inl (record { cause = c.in_err-file.ensures.cause; refused = c.in_err-file.ensures.refused }))

pub returns-then-not-have_same_fields-clause-refused : goal.returns-then-not-have_same_fields-clause-refused
returns-then-not-have_same_fields-clause-refused g c = has_others_of _ c.in_ok-file.file c.args.stream.now _ _ (record { says = c.in_ok-file.ensures.says; size = c.in_ok-file.ensures.size; read = c.in_ok-file.ensures.read }) _ _ (search rules) (search rules) c.if-not-have_same_fields.ensures.same

pub returns-clause-takes : goal.returns-clause-takes
returns-clause-takes g c = takes_of _ c.in_ok-file.file c.args.stream.now (record { says = c.in_ok-file.ensures.says; size = c.in_ok-file.ensures.size; read = c.in_ok-file.ensures.read }) _ _ (search rules) (search rules) c.if-not-have_same_fields.ensures.same c.if-not-have_same_fields.ensures.kinds
