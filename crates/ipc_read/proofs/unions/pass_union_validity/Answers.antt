use Rattle.std.proofs.Common.{◌≡◌, sym, refl, ◌∙◌, arith, subst, true, false}
use Rattle.arrow_spec.specs.Counts.{has_union_validity}
use Rattle.arrow_spec.specs.Readings.{Refuses}
use Rattle.ipc_read.specs.Queues.{Left}
use Rattle.ipc_read.proofs.Refusals.{err_from, refuses_left, both_none}
use Rattle.ipc_read.proofs.Shortened.{taken_more}
use Rattle.ipc_read.proofs.UnionParts.{with_validity, without_validity, no_validity_faults, validity_faults_are, nulls_none, nulls_refused, one_validity}
use Rattle.ipc_read.proofs.unions.pass_union_validity.Goals as goal

pub returns-then-not-has_union_validity-clause-takes : goal.returns-then-not-has_union_validity-clause-takes
returns-then-not-has_union_validity-clause-takes c = λ m p e l.
    let h : has_union_validity c.args.version ≡ false = sym c.has_union_validity.ensures ∙ c.if-not-has_union_validity.true in
    subst (λ i. Left m.buffers i c.args.buffers.now.items) (sym (without_validity m c.args.version p e h)) l

pub returns-then-not-has_union_validity-clause-gives : goal.returns-then-not-has_union_validity-clause-gives
returns-then-not-has_union_validity-clause-gives c = λ m p e l g.
    let h : has_union_validity c.args.version ≡ false = sym c.has_union_validity.ensures ∙ c.if-not-has_union_validity.true in
    record { ok = (no_validity_faults m p c.args.rows (without_validity m c.args.version p e h), refl); err = tt }

pub returns-in_err-pass_buffer-clause-gives : goal.returns-in_err-pass_buffer-clause-gives
returns-in_err-pass_buffer-clause-gives c = λ m p e l g.
    let h : has_union_validity c.args.version ≡ true = sym c.has_union_validity.ensures ∙ c.if-not-has_union_validity.false in
    err_from _ _ c.in_err-pass_buffer.field-0.0 _ _ _ c.from_residual.ensures.0 c.from_residual.ensures.1 (λ x e. e)
    (subst (λ es. Refuses c.in_err-pass_buffer.field-0.0 es) (sym (validity_faults_are m p c.args.rows (with_validity m c.args.version p e h))) (refuses_left _ _ _ (c.in_err-pass_buffer.ensures.gives m p.buffer l).err))

pub returns-in_err-pass_buffer-clause-shortened : goal.returns-in_err-pass_buffer-clause-shortened
returns-in_err-pass_buffer-clause-shortened c =
    let h : has_union_validity c.args.version ≡ true = sym c.has_union_validity.ensures ∙ c.if-not-has_union_validity.false in
    taken_more c.in_err-pass_buffer.ensures.shortened (omega (arith, one_validity c.args.version h))

pub returns-then-reads_validity-clause-gives : goal.returns-then-reads_validity-clause-gives
returns-then-reads_validity-clause-gives c = λ m p e l g.
    let h : has_union_validity c.args.version ≡ true = sym c.has_union_validity.ensures ∙ c.if-not-has_union_validity.false in
    record { ok = tt; err = nulls_refused m p c.args.rows c.args.node (with_validity m c.args.version p e h) g (sym c.reads_validity.ensures ∙ c.if-reads_validity.true) }

pub returns-then-reads_validity-clause-shortened : goal.returns-then-reads_validity-clause-shortened
returns-then-reads_validity-clause-shortened c =
    let h : has_union_validity c.args.version ≡ true = sym c.has_union_validity.ensures ∙ c.if-not-has_union_validity.false in
    taken_more c.pass_buffer.ensures.shortened (omega (arith, one_validity c.args.version h))

pub returns-clause-takes : goal.returns-clause-takes
returns-clause-takes c = λ m p e l.
    let h : has_union_validity c.args.version ≡ true = sym c.has_union_validity.ensures ∙ c.if-not-has_union_validity.false in
    subst (λ i. Left m.buffers i c.pass_buffer.new.buffers.items) (sym (with_validity m c.args.version p e h)) (c.in_ok-pass_buffer.ensures.takes m p.buffer l)

pub returns-clause-gives : goal.returns-clause-gives
returns-clause-gives c = λ m p e l g.
    let h : has_union_validity c.args.version ≡ true = sym c.has_union_validity.ensures ∙ c.if-not-has_union_validity.false in
    let none = (c.in_ok-pass_buffer.ensures.gives m p.buffer l).ok.0 in
    record { ok = (validity_faults_are m p c.args.rows (with_validity m c.args.version p e h) ∙ both_none _ _ none (nulls_none m p c.args.rows c.args.node g (sym c.reads_validity.ensures ∙ c.if-reads_validity.false)), refl); err = tt }

pub returns-clause-shortened : goal.returns-clause-shortened
returns-clause-shortened c =
    let h : has_union_validity c.args.version ≡ true = sym c.has_union_validity.ensures ∙ c.if-not-has_union_validity.false in
    taken_more c.pass_buffer.ensures.shortened (omega (arith, one_validity c.args.version h))
