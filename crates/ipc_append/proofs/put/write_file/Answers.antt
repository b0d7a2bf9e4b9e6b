use Rattle.std.proofs.Common.{◌∙◌, inl}
use Rattle.ipc_append.proofs.PutSteps.{ends_or_not, handed_ends}
use Rattle.ipc_append.proofs.put.write_file.Goals as goal

pub returns-in_err-write_chunks-clause-ends : goal.returns-in_err-write_chunks-clause-ends
returns-in_err-write_chunks-clause-ends g c =
    let e = c.in_err-write_chunks.field-0.0 in
    handed_ends _ _ e _ _ _ c.from_residual.ensures.1 (inl c.in_err-write_chunks.ensures.gives.0, c.in_err-write_chunks.ensures.gives.1)

pub returns-clause-ends : goal.returns-clause-ends
returns-clause-ends g c = ends_or_not _ _ _ _ _ _ _ _ _ c.args.writer.now.core _ c.args.chunks.now c.in_ok-write_chunks.ensures.gives _ c.finish.result c.requires.started c.requires.may_end c.finish.ensures.finishes

pub returns-clause-same_references : goal.returns-clause-same_references
returns-clause-same_references g c = c.finish.ensures.same_references ∙ c.in_ok-write_chunks.ensures.same_references
