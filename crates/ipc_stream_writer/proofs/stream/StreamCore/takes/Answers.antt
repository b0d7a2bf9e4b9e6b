use Rattle.std.proofs.Common.{subst, sym}
use Rattle.ipc_fields.specs.IpcFields.{ids_of}
use Rattle.ipc_messages.specs.Batches.{Suits}
use Rattle.ipc_messages.specs.Fields.{given_ids}
use Rattle.ipc_stream_writer.proofs.stream.StreamCore.takes.Goals as goal

pub returns : goal.returns
returns c =
    let given = given_ids c.args.ipc_fields in
    let s = c.args.self.now.schema in
    let b = c.args.batch.now in (
      λ h. subst (λ xs. Suits s (ids_of xs) b given) c.as_slice.ensures.value (c.is_of_schema.ensures.0 h),
      λ k. c.is_of_schema.ensures.1 (subst (λ xs. Suits s (ids_of xs) b given) (sym c.as_slice.ensures.value) k),
    )
