use Rattle.std.proofs.Common.{◌≡◌, ◌+◌, ◌*◌, ◌≤◌, [], sym, suc, refl, subst}
use Rattle.arrow_spec.specs.Readings.{Refuses}
use Rattle.arrow_spec.specs.Faults.{numbers_faults, validity_faults}
use Rattle.ipc_read.proofs.Refusals.{both_none, refuses_left, refuses_right}
use Rattle.view_types.specs.declared.layout.Layout.TheVariants.{Lists}
use Rattle.view_types.specs.Views.{offset_bytes}
use Rattle.ipc_view.specs.Built.{batch_of, place_of}
use Rattle.ipc_view.specs.Lists.{ShowsLists}
use Rattle.ipc_view.specs.Nested.{nested_top}
use Rattle.ipc_view.proofs.Answered.{err_from}
use Rattle.ipc_view.proofs.Strings.{offsets_as_stated}
use Rattle.ipc_view.proofs.batch.BatchTables.list_ranges.Goals as goal

pub returns-in_err-validity-clause-gives : goal.returns-in_err-validity-clause-gives
returns-in_err-validity-clause-gives c =
    let m = batch_of c.args.self.now in
    let p = place_of c.args.place in
    err_from c.from_residual.result c.in_err-validity.field-0.0 _ _ c.from_residual.ensures.0 c.from_residual.ensures.1
    (refuses_left (validity_faults m p c.args.rows) (numbers_faults m (p.buffer + 1) (offset_bytes c.args.is_large) (suc c.args.rows)) c.in_err-validity.field-0.0 c.in_err-validity.ensures.gives.err)

pub returns-in_err-first-clause-gives : goal.returns-in_err-first-clause-gives
returns-in_err-first-clause-gives c =
    let m = batch_of c.args.self.now in
    let p = place_of c.args.place in
    err_from c.from_residual-in_err-first.result c.in_err-first.field-0.0 _ _ c.from_residual-in_err-first.ensures.0 c.from_residual-in_err-first.ensures.1
    (refuses_right (validity_faults m p c.args.rows) (numbers_faults m (p.buffer + 1) (offset_bytes c.args.is_large) (suc c.args.rows)) c.in_err-first.field-0.0
    (subst (λ es. Refuses c.in_err-first.field-0.0 es) (offsets_as_stated m (p.buffer + 1) _ (offset_bytes c.args.is_large) c.args.rows c.offset_size.ensures) c.in_err-first.ensures.gives.err))

pub returns-clause-gives : goal.returns-clause-gives
returns-clause-gives c =
    let m = batch_of c.args.self.now in
    let p = place_of c.args.place in
    let v = c.in_ok-validity.ensures.gives.ok in
    let f = c.in_ok-first.ensures.gives.ok in
    let shows : ShowsLists m c.args.is_large p c.args.rows (nested_top c.args.self.now.input.now c.args.self.now.is_big_endian (Lists c.args.is_large) c.args.rows c.in_ok-validity.validity c.in_ok-first.first) = record {
      all_rows = refl;
      layout_is = refl;
      order = refl;
      bits = v.1.0;
      offsets = f.1.0;
      has_bits = v.1.1;
      offsets_lie = f.1.1;
      room = subst (λ w. w * (c.args.rows + 1) ≤ c.in_ok-first.first.length) c.offset_size.ensures f.1.2;
    } in
    record {
      ok = (
        both_none (validity_faults m p c.args.rows) (numbers_faults m (p.buffer + 1) (offset_bytes c.args.is_large) (suc c.args.rows)) v.0 (subst (λ es. es ≡ []) (offsets_as_stated m (p.buffer + 1) _ (offset_bytes c.args.is_large) c.args.rows c.offset_size.ensures) f.0),
        subst (ShowsLists m c.args.is_large p c.args.rows) (sym c.nested_parts.ensures) shows,
      );
      err = tt;
    }
