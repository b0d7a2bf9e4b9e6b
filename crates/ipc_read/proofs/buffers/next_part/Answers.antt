use Rattle.std.proofs.Common.{sym, ◌∙◌, ap, subst}
use Rattle.arrow_spec.specs.Readings.{Refuses}
use Rattle.ipc_read.specs.Sources.{part_of}
use Rattle.ipc_read.proofs.Refusals.{err_from}
use Rattle.ipc_read.proofs.Parts.{range_lacks, range_same, range_stands}
use Rattle.ipc_read.proofs.buffers.next_part.Goals as goal

pub returns-in_err-buffer-clause-gives : goal.returns-in_err-buffer-clause-gives
returns-in_err-buffer-clause-gives c = λ m i l h.
    let k = c.in_err-buffer.ensures.takes m.buffers i l in
    err_from _ _ c.in_err-buffer.field-0.0 _ _ _ c.from_residual.ensures.0 c.from_residual.ensures.1 (λ f e. e) (range_lacks m i c.in_err-buffer.field-0.0 k.1 k.0)

pub returns-in_err-part-clause-gives : goal.returns-in_err-part-clause-gives
returns-in_err-part-clause-gives c = λ m i l h.
    let q = c.in_ok-buffer.ensures.takes m.buffers i l in
    err_from _ _ c.in_err-part.field-0.0 _ _ _ c.from_residual-in_err-part.ensures.0 c.from_residual-in_err-part.ensures.1 (λ f e. e)
    (subst (λ es. Refuses c.in_err-part.field-0.0 es) (sym (range_same m i c.args.body.length c.in_ok-buffer.buffer q.0 h)) c.in_err-part.ensures.gives.err)

pub returns-clause-gives : goal.returns-clause-gives
returns-clause-gives c = λ m i l h.
    let q = c.in_ok-buffer.ensures.takes m.buffers i l in
    let k = c.in_ok-part.ensures.gives.ok in
    record { ok = (range_same m i c.args.body.length c.in_ok-buffer.buffer q.0 h ∙ k.0, k.1 ∙ ap (part_of c.args.body) (sym (range_stands m i c.in_ok-buffer.buffer q.0))); err = tt }
