use Rattle.std.proofs.Common.{◌≡◌, ◌∙◌, ◌≤◌, ap, length, map, rules, subst, sym, true}
use Rattle.std.specs.Rc.{rc_value}
use Rattle.arrow_arrays.specs.Batches.{Batch, have_rows}
use Rattle.arrow_arrays.specs.PartsOf.{all_parts_of}
use Rattle.array_filter.specs.Rows.{marked_from}
use Rattle.array_filter.specs.Taken.{rows_taken}
use Rattle.ipc_scan.proofs.KeptRows.{batch_kept, kept_fine, kinds_kept}
use Rattle.ipc_scan.proofs.keep.keep_rows.Goals as goal

pub keep_each-requires : goal.keep_each-requires
keep_each-requires c =
    let marks = c.args.marks.now in
    let rows : have_rows (length marks) c.args.batch.arrays ≡ true = subst (λ n. have_rows n c.args.batch.arrays ≡ true) (sym c.requires) c.height-height.ensures.each in
    subst (λ ps. have_rows (length marks) ps ≡ true) (sym (ap all_parts_of c.as_slice.ensures.value ∙ c.into_arrays_and_metadata-arrays.ensures.arrays)) rows

pub new-requires : goal.new-requires
new-requires c =
    let marks = c.args.marks.now in
    let rows : have_rows (length marks) c.args.batch.arrays ≡ true = subst (λ n. have_rows n c.args.batch.arrays ≡ true) (sym c.requires) c.height-height.ensures.each in
    let schema : rc_value c.in_ok-schema.schema ≡ c.args.batch.schema = search rules in
    let are : all_parts_of c.in_ok-kept.kept.items ≡ map (rows_taken (marked_from 0 marks)) c.args.batch.arrays
    = c.in_ok-kept.ensures ∙ ap (map (rows_taken (marked_from 0 marks))) (ap all_parts_of c.as_slice.ensures.value ∙ c.into_arrays_and_metadata-arrays.ensures.arrays) in
    kept_fine marks c.marked_count.result (rc_value c.in_ok-schema.schema) c.args.batch.arrays (all_parts_of c.in_ok-kept.kept.items) c.marked_count.ensures
    (ap length schema ∙ sym c.width-width.ensures.fields ∙ c.width-width.ensures.columns) are c.height-height.ensures.sound rows

pub with_optional_metadata-requires : goal.with_optional_metadata-requires
with_optional_metadata-requires c = subst (λ pairs. length pairs ≤ 1048576) (sym c.into_arrays_and_metadata-arrays.ensures.custom) c.into_arrays_and_metadata-arrays.ensures.few

pub returns-clause-keeps : goal.returns-clause-keeps
returns-clause-keeps c =
    let marks = c.args.marks.now in
    let y = c.with_optional_metadata.result in
    let arrays : y.arrays ≡ map (rows_taken (marked_from 0 marks)) c.args.batch.arrays
    = ap (λ (b : Batch). b.arrays) c.with_optional_metadata.ensures ∙ ap (λ (b : Batch). b.arrays) c.new.ensures
    ∙ c.in_ok-kept.ensures ∙ ap (map (rows_taken (marked_from 0 marks))) (ap all_parts_of c.as_slice.ensures.value ∙ c.into_arrays_and_metadata-arrays.ensures.arrays) in
    batch_kept marks c.args.batch y c.requires c.height-height.ensures.sound c.height-height.ensures.each (ap (λ (b : Batch). b.height) c.with_optional_metadata.ensures ∙ ap (λ (b : Batch). b.height) c.new.ensures ∙ c.marked_count.ensures) arrays
    (ap (λ (b : Batch). b.custom) c.with_optional_metadata.ensures ∙ c.into_arrays_and_metadata-arrays.ensures.custom)

pub returns-clause-kinds : goal.returns-clause-kinds
returns-clause-kinds c =
    let marks = c.args.marks.now in
    let y = c.with_optional_metadata.result in
    let arrays : y.arrays ≡ map (rows_taken (marked_from 0 marks)) c.args.batch.arrays
    = ap (λ (b : Batch). b.arrays) c.with_optional_metadata.ensures ∙ ap (λ (b : Batch). b.arrays) c.new.ensures
    ∙ c.in_ok-kept.ensures ∙ ap (map (rows_taken (marked_from 0 marks))) (ap all_parts_of c.as_slice.ensures.value ∙ c.into_arrays_and_metadata-arrays.ensures.arrays) in
    kinds_kept marks c.args.batch.arrays y.arrays arrays
