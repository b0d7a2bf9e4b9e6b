use Rattle.std.proofs.Common.{◌≡◌, [], None, Ok, map, not, sym, ◌∙◌, subst}
use Rattle.arrow_spec.specs.Columns.{columns_at}
use Rattle.arrow_spec.specs.Counts.{first_place}
use Rattle.arrow_spec.specs.Features.{chosen_floats}
use Rattle.arrow_spec.specs.Flat.{order_by}
use Rattle.arrow_spec.specs.Readings.{Refuses, refusals}
use Rattle.arrow_types.specs.Schemas.{fields_in}
use Rattle.ipc_fields.specs.IpcFields.{ids_of}
use Rattle.ipc_schema.specs.Views.{header_of}
use Rattle.ipc_read.specs.Batches.{schema_fields}
use Rattle.ipc_read.proofs.BatchTables.{reading_is, reading_refused}
use Rattle.ipc_read.proofs.ColumnIds.{chosen_floats_with}
use Rattle.view_types.specs.Views.{cells_in, part_in}
use Rattle.ipc_view.specs.Batches.{table_seen}
use Rattle.ipc_view.proofs.Answered.{gives_from}
use Rattle.ipc_view.proofs.Batches.{columns_mean, columns_refused, lent_batch, schema_shown}
use Rattle.ipc_view.proofs.record_batch.view_record_batch.Goals as goal

pub returns-in_err-check_kinds-clause-gives : goal.returns-in_err-check_kinds-clause-gives
returns-in_err-check_kinds-clause-gives c = λ d shows.
    let ipc = c.args.ipc_schema.now in
    gives_from table_seen c.from_residual.result c.in_err-check_kinds.field-0.0 _ c.from_residual.ensures.0 c.from_residual.ensures.1
    (reading_refused None None ipc.is_little_endian (schema_fields c.args.schema.now ipc.fields.items) d c.args.size c.args.version (header_of c.args.header.now) (part_in c.args.input.now c.args.body) c.in_err-check_kinds.field-0.0
    (subst (λ es. Refuses c.in_err-check_kinds.field-0.0 es) (sym (chosen_floats_with None (fields_in c.args.schema.now) (ids_of ipc.fields.items) 0)) c.in_err-check_kinds.ensures.exact.err))

pub returns-in_err-rows-clause-gives : goal.returns-in_err-rows-clause-gives
returns-in_err-rows-clause-gives c = λ d shows.
    let ipc = c.args.ipc_schema.now in
    let fs = schema_fields c.args.schema.now ipc.fields.items in
    let body = part_in c.args.input.now c.args.body in
    let same = reading_is None None ipc.is_little_endian fs d c.args.size c.args.version (header_of c.args.header.now) body (chosen_floats_with None (fields_in c.args.schema.now) (ids_of ipc.fields.items) 0 ∙ c.in_ok-check_kinds.ensures.exact.ok.0) in
    gives_from table_seen c.from_residual-in_err-rows.result c.in_err-rows.field-0.0 _ c.from_residual-in_err-rows.ensures.0 c.from_residual-in_err-rows.ensures.1
    (subst (λ r. Refuses c.in_err-rows.field-0.0 (refusals r)) (sym same) (c.in_err-rows.ensures.err None None (order_by ipc.is_little_endian) fs d c.args.version body))

pub columns-requires : goal.columns-requires
columns-requires c = record { shown = schema_shown 0 c.args.schema.now c.in_ok-check_kinds.ensures.held }

pub returns-in_err-columns-clause-gives : goal.returns-in_err-columns-clause-gives
returns-in_err-columns-clause-gives c = λ d shows.
    let ipc = c.args.ipc_schema.now in
    let m = lent_batch (not ipc.is_little_endian) c.args.version c.as_slice.result.now c.as_slice-2.result.now c.as_slice-3.result.now (part_in c.args.input.now c.args.body) in
    let fs = schema_fields c.args.schema.now ipc.fields.items in
    let fine : chosen_floats None fs 0 ≡ [] = chosen_floats_with None (fields_in c.args.schema.now) (ids_of ipc.fields.items) 0 ∙ c.in_ok-check_kinds.ensures.exact.ok.0 in
    gives_from table_seen c.from_residual-in_err-columns.result c.in_err-columns.field-0.0 _ c.from_residual-in_err-columns.ensures.0 c.from_residual-in_err-columns.ensures.1
    (columns_refused ipc.is_little_endian fs d c.args.size c.in_ok-rows.rows c.args.version (header_of c.args.header.now) _ _ _ (part_in c.args.input.now c.args.body) c.in_err-columns.field-0.0
    c.as_slice.ensures.value c.as_slice-2.ensures.value c.as_slice-3.ensures.value fine c.in_ok-rows.ensures.rows
    (subst (λ xs. Refuses c.in_err-columns.field-0.0 (refusals (columns_at m d None (schema_fields c.args.schema.now xs) 0 first_place c.in_ok-rows.rows c.in_ok-rows.rows))) c.as_slice-4.ensures.value (c.in_err-columns.ensures.seen d shows)))

pub returns-clause-gives : goal.returns-clause-gives
returns-clause-gives c = λ d shows.
    let ipc = c.args.ipc_schema.now in
    let m = lent_batch (not ipc.is_little_endian) c.args.version c.as_slice.result.now c.as_slice-2.result.now c.as_slice-3.result.now (part_in c.args.input.now c.args.body) in
    let fs = schema_fields c.args.schema.now ipc.fields.items in
    let fine : chosen_floats None fs 0 ≡ [] = chosen_floats_with None (fields_in c.args.schema.now) (ids_of ipc.fields.items) 0 ∙ c.in_ok-check_kinds.ensures.exact.ok.0 in
    columns_mean ipc.is_little_endian fs d c.args.size c.in_ok-rows.rows c.args.version (header_of c.args.header.now) _ _ _ (part_in c.args.input.now c.args.body) (map cells_in c.in_ok-columns.columns.items)
    c.as_slice.ensures.value c.as_slice-2.ensures.value c.as_slice-3.ensures.value fine c.in_ok-rows.ensures.rows
    (subst (λ xs. columns_at m d None (schema_fields c.args.schema.now xs) 0 first_place c.in_ok-rows.rows c.in_ok-rows.rows ≡ Ok (map cells_in c.in_ok-columns.columns.items)) c.as_slice-4.ensures.value (c.in_ok-columns.ensures.seen d shows))
