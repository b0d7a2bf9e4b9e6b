use Rattle.std.proofs.Common.{◌≡◌, ◌∙◌, ◌⊎◌, ◌≤◌, ◌<◌, [], ◌∷◌, ap, false, length, List, ℕ, Ok, Err, Option, refl, subst, sym, true}
use Rattle.std.specs.Rc.{rc_value}
use Rattle.arrow_spec.specs.declared.error.IpcError.TheVariants.{Memory}
use Rattle.arrow_spec.specs.Files.{columns_right}
use Rattle.arrow_types.specs.Schemas.{Keyed, fields_in}
use Rattle.ipc_files.proofs.Errors.{is_err}
use Rattle.ipc_files.proofs.ReadFiles.{of_err}
use Rattle.ipc_projection.specs.Projections.{MayProject, numbers_in}
use Rattle.row_filters.specs.Filters.{is_tested}
use Rattle.ipc_scan.proofs.Scanners.{all_right, outside, unread, untested, wrong}
use Rattle.ipc_scan.proofs.scanner.Scanner.new.Goals as goal

pub returns-then-filter-len-clause-err : goal.returns-then-filter-len-clause-err
returns-then-filter-len-clause-err c =
    outside c.args.filter (numbers_in c.args.columns) c.args.file (subst (λ n. n ≤ c.args.filter.column) (c.len.ensures.count ∙ ap length c.deref.ensures) c.if-filter-len.true)

pub returns-in_err-chosen-clause-err : goal.returns-in_err-chosen-clause-err
returns-in_err-chosen-clause-err c =
    let err = c.in_err-chosen.field-0.0 in
    let e : c.from_residual-in_err-chosen.result ≡ Err err = is_err _ _ _ c.from_residual-in_err-chosen.ensures.0 c.from_residual-in_err-chosen.ensures.1 (λ f h. h) in
    let less : c.args.filter.column < length (rc_value c.args.file.schema) = subst (λ n. c.args.filter.column < n) (c.len.ensures.count ∙ ap length c.deref.ensures) c.if-filter-len.false in
    let told : (err ≡ Memory) ⊎ (columns_right (numbers_in c.args.columns) (length (rc_value c.args.file.schema)) ≡ Err (err ∷ []))
    = subst (λ (s : List Keyed). (err ≡ Memory) ⊎ (columns_right (numbers_in c.args.columns) (length s) ≡ Err (err ∷ []))) c.deref-2.ensures
    (subst (λ (ns : Option (List ℕ)). (err ≡ Memory) ⊎ (columns_right ns (length c.deref-2.result.now) ≡ Err (err ∷ []))) c.in_ok-copied.ensures.same c.in_err-chosen.ensures.err) in
    of_err c.from_residual-in_err-chosen.result err _ e (wrong c.args.filter (numbers_in c.args.columns) c.args.file err less told)

pub returns-then-not-is_tested-clause-err : goal.returns-then-not-is_tested-clause-err
returns-then-not-is_tested-clause-err c =
    let s = rc_value c.args.file.schema in
    let less : c.args.filter.column < length s = subst (λ n. c.args.filter.column < n) (c.len.ensures.count ∙ ap length c.deref.ensures) c.if-filter-len.false in
    let right : columns_right (numbers_in c.args.columns) (length s) ≡ Ok tt = sym (ap (λ (ns : Option (List ℕ)). columns_right ns (length s)) c.in_ok-copied.ensures.same) ∙ sym (ap (λ (t : List Keyed). columns_right (numbers_in c.in_ok-copied.field-0) (length t)) c.deref-2.ensures) ∙ c.in_ok-chosen.ensures.right in
    let clear : is_tested (fields_in s) c.args.filter.column ≡ false = ap (λ (t : List Keyed). is_tested (fields_in t) c.args.filter.column) (sym c.deref-3.ensures) ∙ sym c.is_tested.ensures ∙ c.if-not-is_tested.true in
    untested c.args.filter (numbers_in c.args.columns) c.args.file less right clear

pub returns-in_err-check_columns-clause-err : goal.returns-in_err-check_columns-clause-err
returns-in_err-check_columns-clause-err c =
    let s = rc_value c.args.file.schema in
    let err = c.in_err-check_columns.field-0.0 in
    let e : c.from_residual-in_err-check_columns.result ≡ Err err = is_err _ _ _ c.from_residual-in_err-check_columns.ensures.0 c.from_residual-in_err-check_columns.ensures.1 (λ f h. h) in
    let less : c.args.filter.column < length s = subst (λ n. c.args.filter.column < n) (c.len.ensures.count ∙ ap length c.deref.ensures) c.if-filter-len.false in
    let right : columns_right (numbers_in c.args.columns) (length s) ≡ Ok tt = sym (ap (λ (ns : Option (List ℕ)). columns_right ns (length s)) c.in_ok-copied.ensures.same) ∙ sym (ap (λ (t : List Keyed). columns_right (numbers_in c.in_ok-copied.field-0) (length t)) c.deref-2.ensures) ∙ c.in_ok-chosen.ensures.right in
    let test : is_tested (fields_in s) c.args.filter.column ≡ true = ap (λ (t : List Keyed). is_tested (fields_in t) c.args.filter.column) (sym c.deref-3.ensures) ∙ sym c.is_tested.ensures ∙ c.if-not-is_tested.false in
    let may : MayProject s (numbers_in c.args.columns) c.in_ok-chosen.chosen = subst (λ (ns : Option (List ℕ)). MayProject s ns c.in_ok-chosen.chosen) c.in_ok-copied.ensures.same (subst (λ (t : List Keyed). MayProject t (numbers_in c.in_ok-copied.field-0) c.in_ok-chosen.chosen) c.deref-2.ensures c.in_ok-chosen.ensures.projected) in
    let here = subst (MayProject s (numbers_in c.args.columns)) (sym c.as_ref.ensures.value) may in
    of_err c.from_residual-in_err-check_columns.result err _ e (unread c.args.filter (numbers_in c.args.columns) c.args.file err less right test c.in_err-check_columns.ensures.cause (c.in_err-check_columns.ensures.exact (numbers_in c.args.columns) here).err)

pub returns-clause-scanner : goal.returns-clause-scanner
returns-clause-scanner c =
    let s = rc_value c.args.file.schema in
    let less : c.args.filter.column < length s = subst (λ n. c.args.filter.column < n) (c.len.ensures.count ∙ ap length c.deref.ensures) c.if-filter-len.false in
    let test : is_tested (fields_in s) c.args.filter.column ≡ true = ap (λ (t : List Keyed). is_tested (fields_in t) c.args.filter.column) (sym c.deref-3.ensures) ∙ sym c.is_tested.ensures ∙ c.if-not-is_tested.false in
    let may : MayProject s (numbers_in c.args.columns) c.in_ok-chosen.chosen = subst (λ (ns : Option (List ℕ)). MayProject s ns c.in_ok-chosen.chosen) c.in_ok-copied.ensures.same (subst (λ (t : List Keyed). MayProject t (numbers_in c.in_ok-copied.field-0) c.in_ok-chosen.chosen) c.deref-2.ensures c.in_ok-chosen.ensures.projected) in
    let here = subst (MayProject s (numbers_in c.args.columns)) (sym c.as_ref.ensures.value) may in
    record {
      metadata = c.in_ok-new.ensures.metadata;
      filter = refl;
      projects = c.in_ok-new.ensures.projected;
      chosen = may;
      right = all_right c.args.filter (numbers_in c.args.columns) c.args.file less c.in_ok-new.ensures.right test (c.in_ok-check_columns.ensures.exact (numbers_in c.args.columns) here).ok.0;
      read = c.requires;
      block = c.in_ok-new.ensures.block;
      left = c.in_ok-new.ensures.left;
      dictionaries = c.in_ok-new.ensures.dictionaries;
    }
