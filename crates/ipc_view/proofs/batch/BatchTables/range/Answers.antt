use Rattle.std.proofs.Common.{refl, sym, ◌∙◌, subst}
use Rattle.arrow_spec.specs.Readings.{Refuses}
use Rattle.ipc_view.specs.Built.{batch_of}
use Rattle.ipc_view.proofs.Answered.{err_from}
use Rattle.ipc_read.proofs.Parts.{range_same}
use Rattle.ipc_view.proofs.Ranged.{range_none, range_shows}
use Rattle.view_types.proofs.Ranged.{part_length}
use Rattle.ipc_view.proofs.batch.BatchTables.range.Goals as goal

pub returns-in_default-clause-gives : goal.returns-in_default-clause-gives
returns-in_default-clause-gives c = record { ok = tt; err = range_none (batch_of c.args.self.now) c.args.i (sym c.buffer.ensures ∙ c.in_default.is) }

pub returns-in_err-part-clause-gives : goal.returns-in_err-part-clause-gives
returns-in_err-part-clause-gives c =
    let there = sym c.buffer.ensures ∙ c.in-Some.is in
    let t = c.args.self.now in
    err_from c.from_residual.result c.in_err-part.field-0.0 _ _ c.from_residual.ensures.0 c.from_residual.ensures.1
    (subst (λ es. Refuses c.in_err-part.field-0.0 es) (sym (range_same (batch_of t) c.args.i t.body.length c.in-Some.buffer there (part_length t.input.now t.body t.lies))) c.in_err-part.ensures.gives.err)

pub returns-clause-gives : goal.returns-clause-gives
returns-clause-gives c =
    let there = sym c.buffer.ensures ∙ c.in-Some.is in
    let t = c.args.self.now in
    let g = c.in_ok-part.ensures.gives.ok in
    let s = range_shows t.input.now t.body (batch_of t) c.args.i c.in-Some.buffer c.in_ok-part.part refl t.lies there g.1.0 g.1.1 in
    record { ok = (range_same (batch_of t) c.args.i t.body.length c.in-Some.buffer there (part_length t.input.now t.body t.lies) ∙ g.0, (s.bytes, s.lies, s.stated)); err = tt }
