use Rattle.ipc_read.specs.Held.{column_kind}
use Rattle.ipc_view.specs.Built.{batch_of, place_of}
use Rattle.ipc_view.proofs.Answered.{err_from}
use Rattle.ipc_view.proofs.SeenColumns.{array_refused, column_fits, counts_refused, top_refused}
use Rattle.ipc_view.proofs.batch.BatchTables.column.Goals as goal

pub returns-in_err-check_top-clause-seen : goal.returns-in_err-check_top-clause-seen
returns-in_err-check_top-clause-seen c = λ d shows. err_from c.from_residual.result c.in_err-check_top.field-0.0 _ _ c.from_residual.ensures.0 c.from_residual.ensures.1
    (top_refused (batch_of c.args.self.now) d (column_kind c.args.dtype.now c.args.id c.args.fields.now) (place_of c.args.place) c.args.rows c.in_err-check_top.field-0.0 c.in_err-check_top.ensures.gives.err)

pub returns-in_err-view-clause-seen : goal.returns-in_err-view-clause-seen
returns-in_err-view-clause-seen c = λ d shows. err_from c.from_residual-in_err-view.result c.in_err-view.field-0.0 _ _ c.from_residual-in_err-view.ensures.0 c.from_residual-in_err-view.ensures.1
    (array_refused (batch_of c.args.self.now) d (column_kind c.args.dtype.now c.args.id c.args.fields.now) (place_of c.args.place) c.args.rows c.in_err-view.field-0.0 (c.in_err-view.ensures.seen d shows).err)

pub returns-in_err-check_counts-clause-seen : goal.returns-in_err-check_counts-clause-seen
returns-in_err-check_counts-clause-seen c = λ d shows. err_from c.from_residual-in_err-check_counts.result c.in_err-check_counts.field-0.0 _ _ c.from_residual-in_err-check_counts.ensures.0 c.from_residual-in_err-check_counts.ensures.1
    (counts_refused (batch_of c.args.self.now) d (column_kind c.args.dtype.now c.args.id c.args.fields.now) (place_of c.args.place) (place_of c.in_ok-view.next) c.args.rows c.in_err-check_counts.field-0.0 (c.in_ok-view.ensures.seen d shows).ok.1.next c.in_err-check_counts.ensures.gives.err)

pub returns-clause-seen : goal.returns-clause-seen
returns-clause-seen c = λ d shows.
    let s = (c.in_ok-view.ensures.seen d shows).ok in
    record {
      ok = (column_fits (batch_of c.args.self.now) d (column_kind c.args.dtype.now c.args.id c.args.fields.now) (place_of c.args.place) (place_of c.in_ok-view.next) c.args.rows s.1.next c.in_ok-check_top.ensures.gives.ok.0 s.0 c.in_ok-check_counts.ensures.gives.ok.0, s.1);
      err = tt;
    }
