use Rattle.std.proofs.Common.{◌≡◌, Err, sym, ◌∙◌, ap, arith, subst, refl, true, false}
use Rattle.arrow_spec.specs.Columns.{is_chosen}
use Rattle.arrow_spec.specs.Features.{float_faults}
use Rattle.arrow_spec.specs.Readings.{Refuses}
use Rattle.arrow_types.specs.KindOf.{child_of}
use Rattle.ipc_read.specs.Batches.{is_column_kind}
use Rattle.ipc_read_laws.specs.Projection.{columns_of}
use Rattle.ipc_read.proofs.Passing.{is_err, answers_err}
use Rattle.ipc_read.proofs.ColumnKinds.{columns_next, column_carried, held_next, floats_next, floats_refused, floats_end, held_end, columns_behind, floats_passed, held_passed, chosen_kind}
use Rattle.ipc_read.proofs.tables.check_kinds.Goals as goal
use Rattle.ipc_read.proofs.tables.check_kinds.Goals.{then-is_chosen+in_ok-check_kind, else-is_chosen}

pub check_kind-requires : goal.check_kind-requires
check_kind-requires c =
    let f = c.field_at-field.ensures in
    let asked = columns_of c.args.projection in
    record { column = ap is_column_kind (sym f.kind) ∙ chosen_kind asked c.loop-i.i (child_of c.field_at-field.result.now).kind (sym c.is_chosen.ensures ∙ c.if-is_chosen.true) (columns_next asked c.args.schema.now c.loop-i.i _ f.at c.loop-i.invariant.columns).0 }

pub returns-in_err-check_kind-clause-exact : goal.returns-in_err-check_kind-clause-exact
returns-in_err-check_kind-clause-exact c =
    let e : c.from_residual.result ≡ Err c.in_err-check_kind.field-0.0 = is_err _ _ _ c.from_residual.ensures.0 c.from_residual.ensures.1 (λ f h. h) in
    let f = c.field_at-field.ensures in
    let asked = columns_of c.args.projection in
    let r = subst (λ k. Refuses c.in_err-check_kind.field-0.0 (float_faults k)) (sym f.kind) c.in_err-check_kind.ensures.exact.err in
    answers_err _ c.from_residual.result c.in_err-check_kind.field-0.0 _ _ e (subst (λ es. Refuses c.in_err-check_kind.field-0.0 es) (sym c.loop-i.invariant.floats) (floats_refused asked c.args.schema.now c.loop-i.i _ c.in_err-check_kind.field-0.0 f.at (sym c.is_chosen.ensures ∙ c.if-is_chosen.true) r))

pub returns : goal.returns
returns c =
    let asked = columns_of c.args.projection in
    record {
      exact = record { ok = (c.loop-i.invariant.floats ∙ floats_end asked c.args.schema.now c.loop-i.i (omega arith), refl); err = tt };
      held = c.loop-i.invariant.held ∙ held_end asked c.args.schema.now c.loop-i.i (omega arith);
      cause = tt;
    }

pub loop-i-preserved : goal.loop-i-preserved
loop-i-preserved c =
    let asked = columns_of c.args.projection in
    elim c.if-is_chosen.branch [
      | then-is_chosen+in_ok-check_kind w ↦
          let f = w.field_at-field.ensures in
          let is : is_chosen asked c.loop-i.i ≡ true = sym c.is_chosen.ensures ∙ w.if-is_chosen.true in
          let n = columns_next asked c.args.schema.now c.loop-i.i _ f.at c.loop-i.invariant.columns in
          let z = ap float_faults f.kind ∙ w.in_ok-check_kind.ensures.exact.ok.0 in
          record {
            within = omega arith;
            floats = c.loop-i.invariant.floats ∙ floats_next asked c.args.schema.now c.loop-i.i _ f.at (rw is z);
            columns = n.1;
            held = c.loop-i.invariant.held ∙ held_next asked c.args.schema.now c.loop-i.i _ f.at (rw is (column_carried (child_of w.field_at-field.result.now).kind (chosen_kind asked c.loop-i.i (child_of w.field_at-field.result.now).kind is n.0) z));
          }
      | else-is_chosen w ↦
          let is : is_chosen asked c.loop-i.i ≡ false = sym c.is_chosen.ensures ∙ w.if-is_chosen.false in
          record {
            within = omega arith;
            floats = c.loop-i.invariant.floats ∙ floats_passed asked c.args.schema.now c.loop-i.i is;
            columns = columns_behind asked c.args.schema.now c.loop-i.i c.loop-i.invariant.columns;
            held = c.loop-i.invariant.held ∙ held_passed asked c.args.schema.now c.loop-i.i is;
          }
    ]
