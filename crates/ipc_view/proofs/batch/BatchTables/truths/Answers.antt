use Rattle.std.proofs.Common.{◌+◌, refl}
use Rattle.arrow_spec.specs.Faults.{bitmap_faults, validity_faults}
use Rattle.ipc_read.proofs.Refusals.{both_none, refuses_left, refuses_right}
use Rattle.view_types.specs.declared.layout.Layout.TheVariants.{Boolean}
use Rattle.view_types.specs.Views.{none}
use Rattle.ipc_view.specs.Built.{batch_of, place_of}
use Rattle.ipc_view.proofs.Answered.{err_from}
use Rattle.ipc_view.proofs.Strings.{whole_parts}
use Rattle.ipc_view.proofs.batch.BatchTables.truths.Goals as goal

pub returns-in_err-validity-clause-gives : goal.returns-in_err-validity-clause-gives
returns-in_err-validity-clause-gives c =
    let m = batch_of c.args.self.now in
    let p = place_of c.args.place in
    err_from c.from_residual.result c.in_err-validity.field-0.0 _ _ c.from_residual.ensures.0 c.from_residual.ensures.1
    (refuses_left (validity_faults m p c.args.rows) (bitmap_faults m (p.buffer + 1) c.args.rows) c.in_err-validity.field-0.0 c.in_err-validity.ensures.gives.err)

pub returns-in_err-first-clause-gives : goal.returns-in_err-first-clause-gives
returns-in_err-first-clause-gives c =
    let m = batch_of c.args.self.now in
    let p = place_of c.args.place in
    err_from c.from_residual-in_err-first.result c.in_err-first.field-0.0 _ _ c.from_residual-in_err-first.ensures.0 c.from_residual-in_err-first.ensures.1
    (refuses_right (validity_faults m p c.args.rows) (bitmap_faults m (p.buffer + 1) c.args.rows) c.in_err-first.field-0.0 c.in_err-first.ensures.gives.err)

pub returns-clause-gives : goal.returns-clause-gives
returns-clause-gives c =
    let m = batch_of c.args.self.now in
    let p = place_of c.args.place in
    let v = c.in_ok-validity.ensures.gives.ok in
    let f = c.in_ok-first.ensures.gives.ok in
    record {
      ok = (
        both_none (validity_faults m p c.args.rows) (bitmap_faults m (p.buffer + 1) c.args.rows) v.0 f.0,
        record {
          all_rows = refl;
          layout_is = refl;
          order = refl;
          bits = λ some. v.1.0;
          buffers = f.1.0;
          sound = whole_parts _ Boolean none refl v.1.1 (record { lies = f.1.1.0; room = f.1.1.1 });
        },
      );
      err = tt;
    }
