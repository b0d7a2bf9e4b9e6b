use Rattle.std.proofs.Common.{◌∙◌, ap, sym, subst}
use Rattle.arrow_spec.specs.Arrays.{bit}
use Rattle.arrow_spec.specs.Readings.{Refuses}
use Rattle.ipc_view.specs.Built.{batch_of, place_of}
use Rattle.ipc_view.proofs.Answered.{err_from}
use Rattle.ipc_view.proofs.Validity.{Unread, no_rows, read, unread}
use Rattle.ipc_view.proofs.batch.BatchTables.validity.Goals.{then-rows-eq0-via-then-rows-eq0, then-rows-eq0-via-else-rows-eq0+then-not-counts_nulls}
use Rattle.ipc_view.proofs.batch.BatchTables.validity.Goals as goal

pub returns-then-rows-eq0-clause-gives : goal.returns-then-rows-eq0-clause-gives
returns-then-rows-eq0-clause-gives c =
    let m = batch_of c.args.self.now in
    let p = place_of c.args.place in
    let u : Unread m p c.args.rows = elim c.then-rows-eq0.branch [
      | then-rows-eq0-via-then-rows-eq0 w ↦ subst (λ n. Unread m p n) (sym w.if-rows-eq0.true) (no_rows m p)
      | then-rows-eq0-via-else-rows-eq0+then-not-counts_nulls w ↦ unread m p c.args.rows c.args.node c.requires (sym w.counts_nulls.ensures ∙ w.if-not-counts_nulls.true)
    ] in
    record { ok = (u.faults, (u.all_valid, tt)); err = tt }

pub returns-in_err-bits-clause-gives : goal.returns-in_err-bits-clause-gives
returns-in_err-bits-clause-gives c =
    let r = read (batch_of c.args.self.now) (place_of c.args.place) c.args.rows c.args.node c.requires (sym c.counts_nulls.ensures ∙ c.if-not-counts_nulls.false) c.if-rows-eq0.false in
    err_from c.from_residual.result c.in_err-bits.field-0.0 _ _ c.from_residual.ensures.0 c.from_residual.ensures.1
    (subst (λ es. Refuses c.in_err-bits.field-0.0 es) (sym r.faults) c.in_err-bits.ensures.gives.err)

pub returns-clause-gives : goal.returns-clause-gives
returns-clause-gives c =
    let r = read (batch_of c.args.self.now) (place_of c.args.place) c.args.rows c.args.node c.requires (sym c.counts_nulls.ensures ∙ c.if-not-counts_nulls.false) c.if-rows-eq0.false in
    let g = c.in_ok-bits.ensures.gives.ok in
    record { ok = (r.faults ∙ g.0, ((λ row h. ap (λ b. bit b row) g.1.0 ∙ r.bits row), g.1.1)); err = tt }
