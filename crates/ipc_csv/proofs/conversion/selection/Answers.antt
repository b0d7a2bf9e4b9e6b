use Rattle.std.proofs.Common.{◌≡◌, Ok, Err, IfErr, length, refl, sym, subst}
use Rattle.std.specs.Rc.{rc_value}
use Rattle.arrow_spec.specs.Files.{columns_right}
use Rattle.laws_walk.specs.Below.{columns_of, numbers_in}
use Rattle.laws_walk.proofs.Below.{is_err, right_of_file}
use Rattle.ipc_csv.specs.Printing.{NotSelected}
use Rattle.ipc_csv.proofs.Asked.{selected_of, wrong_columns_of}
use Rattle.ipc_csv.proofs.conversion.selection.Goals as goal

pub check_columns-requires-clause-made : goal.check_columns-requires-clause-made
check_columns-requires-clause-made c =
    let file = c.args.file.now in
    ∣ (columns_of c.args.columns, selected_of file (numbers_in c.in_ok-numbers.numbers) (columns_of c.args.columns) c.deref.result.now c.in_ok-projection.projection _ c.deref.ensures c.in_ok-numbers.ensures.same c.in_ok-projection.ensures.projected c.as_ref.ensures.value) ∣₁

pub returns-in_err-numbers-clause-refused : goal.returns-in_err-numbers-clause-refused
returns-in_err-numbers-clause-refused c =
    let e : c.from_residual.result ≡ Err c.in_err-numbers.field-0.0 = is_err _ _ _ c.from_residual.ensures.0 c.from_residual.ensures.1 (λ f h. h) in
    subst (λ z. IfErr z (λ e. NotSelected e c.args.file.now (columns_of c.args.columns))) (sym e) (NotSelected.no_memory c.in_err-numbers.ensures.err)

pub returns-in_err-projection-clause-refused : goal.returns-in_err-projection-clause-refused
returns-in_err-projection-clause-refused c =
    let e : c.from_residual-in_err-projection.result ≡ Err c.in_err-projection.field-0.0 = is_err _ _ _ c.from_residual-in_err-projection.ensures.0 c.from_residual-in_err-projection.ensures.1 (λ f h. h) in
    subst (λ z. IfErr z (λ e. NotSelected e c.args.file.now (columns_of c.args.columns))) (sym e) (wrong_columns_of c.in_err-projection.field-0.0 c.args.file.now (numbers_in c.in_ok-numbers.numbers) (columns_of c.args.columns) c.deref.result.now c.deref.ensures c.in_ok-numbers.ensures.same c.in_err-projection.ensures.err)

pub returns-in_err-check_columns-clause-refused : goal.returns-in_err-check_columns-clause-refused
returns-in_err-check_columns-clause-refused c =
    let e : c.from_residual-in_err-check_columns.result ≡ Err c.in_err-check_columns.field-0.0 = is_err _ _ _ c.from_residual-in_err-check_columns.ensures.0 c.from_residual-in_err-check_columns.ensures.1 (λ f h. h) in
    let file = c.args.file.now in
    let columns = columns_of c.args.columns in
    let same = c.in_ok-numbers.ensures.same in
    let may = selected_of file (numbers_in c.in_ok-numbers.numbers) columns c.deref.result.now c.in_ok-projection.projection _ c.deref.ensures same c.in_ok-projection.ensures.projected c.as_ref.ensures.value in
    let right = right_of_file file columns (rc_value file.schema) refl (subst (λ z. columns_right z (length (rc_value file.schema)) ≡ Ok tt) same (subst (λ z. columns_right (numbers_in c.in_ok-numbers.numbers) (length z) ≡ Ok tt) c.deref.ensures c.in_ok-projection.ensures.right)) in
    subst (λ z. IfErr z (λ e. NotSelected e file columns)) (sym e) (NotSelected.never_read right c.in_err-check_columns.ensures.cause (c.in_err-check_columns.ensures.exact columns may).err)

pub returns-clause-selected : goal.returns-clause-selected
returns-clause-selected c =
    let file = c.args.file.now in
    let columns = columns_of c.args.columns in
    let same = c.in_ok-numbers.ensures.same in
    let may = selected_of file (numbers_in c.in_ok-numbers.numbers) columns c.deref.result.now c.in_ok-projection.projection _ c.deref.ensures same c.in_ok-projection.ensures.projected c.as_ref.ensures.value in
    record {
      may = selected_of file (numbers_in c.in_ok-numbers.numbers) columns c.deref.result.now c.in_ok-projection.projection c.in_ok-projection.projection c.deref.ensures same c.in_ok-projection.ensures.projected refl;
      right = right_of_file file columns (rc_value file.schema) refl (subst (λ z. columns_right z (length (rc_value file.schema)) ≡ Ok tt) same (subst (λ z. columns_right (numbers_in c.in_ok-numbers.numbers) (length z) ≡ Ok tt) c.deref.ensures c.in_ok-projection.ensures.right));
      readable = (c.in_ok-check_columns.ensures.exact columns may).ok.0;
    }
