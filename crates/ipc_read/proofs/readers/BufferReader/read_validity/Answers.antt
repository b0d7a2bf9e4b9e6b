use Rattle.std.proofs.Common.{Some, ap, sym, ◌∙◌, subst}
use Rattle.arrow_spec.specs.Readings.{Refuses}
use Rattle.ipc_read.specs.Queues.{short_of}
use Rattle.ipc_read.proofs.Refusals.{err_from, refuses_right, both_none, lacks_none}
use Rattle.ipc_read.proofs.Parts.{unread, reads}
use Rattle.ipc_read.proofs.readers.BufferReader.read_validity.Goals as goal

pub returns-then-not-reads_validity-clause-gives : goal.returns-then-not-reads_validity-clause-gives
returns-then-not-reads_validity-clause-gives g c = λ m p l n t.
    let u = unread m p c.args.rows c.args.node n (sym c.reads_validity.ensures ∙ c.if-not-reads_validity.true) in
    record { ok = (both_none (short_of m.buffers p.buffer) _ (c.in_ok-pass_buffer.ensures.gives m p.buffer l).ok.0 u.faults, sym u.value); err = tt }

pub returns-in_err-bits-clause-gives : goal.returns-in_err-bits-clause-gives
returns-in_err-bits-clause-gives g c = λ m p l n t.
    let u = reads m p c.args.rows c.args.node n (sym c.reads_validity.ensures ∙ c.if-not-reads_validity.false) in
    let r = subst (λ es. Refuses c.in_err-bits.field-0.0 es) (sym u.faults) (c.in_err-bits.ensures.gives m p.buffer l t).err in
    err_from _ _ c.in_err-bits.field-0.0 _ _ _ c.from_residual-in_err-bits.ensures.0 c.from_residual-in_err-bits.ensures.1 (λ f e. e) (refuses_right (short_of m.buffers p.buffer) _ c.in_err-bits.field-0.0 r)

pub returns-clause-gives : goal.returns-clause-gives
returns-clause-gives g c = λ m p l n t.
    let u = reads m p c.args.rows c.args.node n (sym c.reads_validity.ensures ∙ c.if-not-reads_validity.false) in
    let k = (c.in_ok-bits.ensures.gives m p.buffer l t).ok in
    let q = c.in_ok-bits.ensures.takes m p.buffer l in
    record { ok = (both_none (short_of m.buffers p.buffer) _ (lacks_none m.buffers p.buffer q.within) (u.faults ∙ k.0), ap Some k.1 ∙ sym u.value); err = tt }
