use Rattle.std.proofs.Common.{◌≡◌, Ok, Err, sym, ap, ◌∙◌, arith, subst, map}
use Rattle.arrow_spec.specs.Readings.{Refuses, Gives, refusals}
use Rattle.arrow_spec.specs.Counts.{first_place, magnitude}
use Rattle.arrow_spec.specs.Arrays.{Dictionaries}
use Rattle.arrow_types.specs.Schemas.{fields_in}
use Rattle.arrow_arrays.specs.Parts.{cells_in}
use Rattle.arrow_arrays.specs.PartsOf.{all_parts_of}
use Rattle.ipc_schema.specs.Views.{header_of}
use Rattle.ipc_read.specs.Batches.{batch_reading, batch_fetched, chosen_read, table_in, schema_fields}
use Rattle.ipc_read_laws.specs.Projection.{columns_of, are_columns}
use Rattle.arrow_spec.specs.Files.{record_batch_of, share}
use Rattle.ipc_read.specs.Sources.{bytes_in}
use Rattle.arrow_spec.specs.Flat.{order_by}
use Rattle.ipc_read.proofs.Passing.{is_err}
use Rattle.ipc_fields.specs.IpcFields.{ids_of}
use Rattle.ipc_read_laws.specs.Held.{HoldsCells}
use Rattle.ipc_read.specs.Held.{held_in}
use Rattle.ipc_read.proofs.ColumnIds.{chosen_floats_with}
use Rattle.ipc_read.proofs.Columns.{fetched_is}
use Rattle.ipc_read.proofs.LeftFields.{width_by}
use Rattle.ipc_read.proofs.BatchTables.{batch_refused, batch_well, reading_refused, reading_is, if_some, gives_err, some_held, all_at_first, known_some}
use Rattle.ipc_read.proofs.readers.ColumnReader.read_arrays.Goals as goal

pub returns-in_err-check_kinds-clause-gives : goal.returns-in_err-check_kinds-clause-gives
returns-in_err-check_kinds-clause-gives g c =
    let e : c.from_residual.result ≡ Err c.in_err-check_kinds.field-0.0 = is_err _ _ _ c.from_residual.ensures.0 c.from_residual.ensures.1 (λ f h. h) in
    let asked = columns_of c.args.projection in
    let is_little = c.args.self.now.buffers.is_little_endian in
    let fs = schema_fields c.args.schema.now c.args.fields.now in
    let tables = header_of c.args.header.now in
    some_held (g.S.Source.content c.args.self.now.buffers.source.now) (λ r. table_in r.0 (all_parts_of r.1.items)) c.from_residual.result c.in_err-check_kinds.field-0.0 (held_in c.args.dictionaries.now) (λ d b. batch_reading asked c.args.limit is_little fs d c.args.size c.args.self.now.version tables (bytes_in c.args.self.now.buffers.body b)) e
    (λ d b. reading_refused asked c.args.limit is_little fs d c.args.size c.args.self.now.version tables (bytes_in c.args.self.now.buffers.body b) _ (subst (λ es. Refuses c.in_err-check_kinds.field-0.0 es) (sym (chosen_floats_with asked (fields_in c.args.schema.now) (ids_of c.args.fields.now) 0)) c.in_err-check_kinds.ensures.exact.err))

pub returns-in_err-rows-clause-gives : goal.returns-in_err-rows-clause-gives
returns-in_err-rows-clause-gives g c =
    let e : c.from_residual-in_err-rows.result ≡ Err c.in_err-rows.field-0.0 = is_err _ _ _ c.from_residual-in_err-rows.ensures.0 c.from_residual-in_err-rows.ensures.1 (λ f h. h) in
    let asked = columns_of c.args.projection in
    let is_little = c.args.self.now.buffers.is_little_endian in
    let fs = schema_fields c.args.schema.now c.args.fields.now in
    let tables = header_of c.args.header.now in
    some_held (g.S.Source.content c.args.self.now.buffers.source.now) (λ r. table_in r.0 (all_parts_of r.1.items)) c.from_residual-in_err-rows.result c.in_err-rows.field-0.0 (held_in c.args.dictionaries.now) (λ d b. batch_reading asked c.args.limit is_little fs d c.args.size c.args.self.now.version tables (bytes_in c.args.self.now.buffers.body b)) e (λ d b.
    let same = reading_is asked c.args.limit is_little fs d c.args.size c.args.self.now.version tables (bytes_in c.args.self.now.buffers.body b) (chosen_floats_with asked (fields_in c.args.schema.now) (ids_of c.args.fields.now) 0 ∙ c.in_ok-check_kinds.ensures.exact.ok.0) in
    subst (λ r. Refuses c.in_err-rows.field-0.0 (refusals r)) (sym same) (c.in_err-rows.ensures.err asked c.args.limit (order_by is_little) fs d c.args.self.now.version (bytes_in c.args.self.now.buffers.body b)))

pub returns-in_err-arrays-clause-gives : goal.returns-in_err-arrays-clause-gives
returns-in_err-arrays-clause-gives g c =
    let e : c.from_residual-in_err-arrays.result ≡ Err c.in_err-arrays.field-0.0 = is_err _ _ _ c.from_residual-in_err-arrays.ensures.0 c.from_residual-in_err-arrays.ensures.1 (λ f h. h) in
    if_some (g.S.Source.content c.args.self.now.buffers.source.now) (λ b. (d : Dictionaries) → HoldsCells d (held_in c.args.dictionaries.now) → Gives (λ r. table_in r.0 (all_parts_of r.1.items)) c.from_residual-in_err-arrays.result (batch_reading (columns_of c.args.projection) c.args.limit c.args.self.now.buffers.is_little_endian (schema_fields c.args.schema.now c.args.fields.now) d c.args.size c.args.self.now.version (header_of c.args.header.now) (bytes_in c.args.self.now.buffers.body b))) (λ b h d holds.
    let asked = columns_of c.args.projection in
    let is_little = c.args.self.now.buffers.is_little_endian in
    let fs = schema_fields c.args.schema.now c.args.fields.now in
    let tables = header_of c.args.header.now in
    let bytes = bytes_in c.args.self.now.buffers.body b in
    let same = reading_is asked c.args.limit is_little fs d c.args.size c.args.self.now.version tables bytes (chosen_floats_with asked (fields_in c.args.schema.now) (ids_of c.args.fields.now) 0 ∙ c.in_ok-check_kinds.ensures.exact.ok.0) in
    let k = c.in_err-arrays.ensures.gives (record_batch_of (order_by is_little) c.args.self.now.version tables bytes) d (all_at_first is_little c.args.self.now.version tables bytes _ _ _ c.requires.queues) (known_some _ c.args.self.now.buffers.body is_little c.args.self.now.version tables b h) holds in
    gives_err _ c.from_residual-in_err-arrays.result c.in_err-arrays.field-0.0 _ e (subst (λ r. Refuses c.in_err-arrays.field-0.0 (refusals r)) (sym same) (batch_refused asked c.args.limit is_little fs d c.args.size c.in_ok-rows.rows _ c.args.self.now.version tables bytes c.in_err-arrays.field-0.0 c.first_rows-few.ensures c.in_ok-rows.ensures.rows k)))

pub returns-clause-gives : goal.returns-clause-gives
returns-clause-gives g c =
    if_some (g.S.Source.content c.args.self.now.buffers.source.now) (λ b. (d : Dictionaries) → HoldsCells d (held_in c.args.dictionaries.now) → batch_reading (columns_of c.args.projection) c.args.limit c.args.self.now.buffers.is_little_endian (schema_fields c.args.schema.now c.args.fields.now) d c.args.size c.args.self.now.version (header_of c.args.header.now) (bytes_in c.args.self.now.buffers.body b) ≡ Ok (table_in c.first_rows-few.result (all_parts_of c.in_ok-arrays.arrays.items))) (λ b h d holds.
    let asked = columns_of c.args.projection in
    let is_little = c.args.self.now.buffers.is_little_endian in
    let fs = schema_fields c.args.schema.now c.args.fields.now in
    let tables = header_of c.args.header.now in
    let bytes = bytes_in c.args.self.now.buffers.body b in
    let same = reading_is asked c.args.limit is_little fs d c.args.size c.args.self.now.version tables bytes (chosen_floats_with asked (fields_in c.args.schema.now) (ids_of c.args.fields.now) 0 ∙ c.in_ok-check_kinds.ensures.exact.ok.0) in
    let k = c.in_ok-arrays.ensures.gives (record_batch_of (order_by is_little) c.args.self.now.version tables bytes) d (all_at_first is_little c.args.self.now.version tables bytes _ _ _ c.requires.queues) (known_some _ c.args.self.now.buffers.body is_little c.args.self.now.version tables b h) holds in
    let range = ap (are_columns asked) (width_by (λ p. p.1) c.args.schema.now c.args.fields.now) ∙ c.requires.range in
    same ∙ batch_well asked c.args.limit is_little fs d c.args.size c.in_ok-rows.rows _ c.args.self.now.version tables bytes (map cells_in (all_parts_of c.in_ok-arrays.arrays.items)) c.first_rows-few.ensures c.requires.rising range c.in_ok-rows.ensures.rows k)

pub returns-clause-parts : goal.returns-clause-parts
returns-clause-parts g c =
    if_some (g.S.Source.content c.args.self.now.buffers.source.now) (λ b. (d : Dictionaries) → HoldsCells d (held_in c.args.dictionaries.now) → all_parts_of c.in_ok-arrays.arrays.items ≡ chosen_read (record_batch_of (order_by c.args.self.now.buffers.is_little_endian) c.args.self.now.version (header_of c.args.header.now) (bytes_in c.args.self.now.buffers.body b)) (held_in c.args.dictionaries.now) (columns_of c.args.projection) (schema_fields c.args.schema.now c.args.fields.now) 0 first_place c.first_rows-few.result) (λ b h d holds.
    let is_little = c.args.self.now.buffers.is_little_endian in
    let tables = header_of c.args.header.now in
    let bytes = bytes_in c.args.self.now.buffers.body b in
    c.in_ok-arrays.ensures.parts (record_batch_of (order_by is_little) c.args.self.now.version tables bytes) d (all_at_first is_little c.args.self.now.version tables bytes _ _ _ c.requires.queues) (known_some _ c.args.self.now.buffers.body is_little c.args.self.now.version tables b h) holds)

pub returns-clause-height : goal.returns-clause-height
returns-clause-height g c = c.first_rows-few.ensures ∙ ap (share c.args.limit) (sym (ap magnitude c.in_ok-rows.ensures.rows.count))

pub returns-in_err-arrays-clause-fetched : goal.returns-in_err-arrays-clause-fetched
returns-in_err-arrays-clause-fetched g c = λ bytes.
    let asked = columns_of c.args.projection in
    let fs = schema_fields c.args.schema.now c.args.fields.now in
    let m = record_batch_of (order_by c.args.self.now.buffers.is_little_endian) c.args.self.now.version (header_of c.args.header.now) bytes in
    let k = c.read_columns.ensures.fetched m (all_at_first c.args.self.now.buffers.is_little_endian c.args.self.now.version (header_of c.args.header.now) bytes _ _ _ c.requires.queues) in
    let n = fetched_is m asked fs _ ∙ ap (batch_fetched m asked fs) (c.first_rows-few.ensures ∙ ap (share c.args.limit) (sym (ap magnitude c.in_ok-rows.ensures.rows.count))) in
    omega (arith, k, n)

pub returns-clause-fetched : goal.returns-clause-fetched
returns-clause-fetched g c = λ bytes.
    let asked = columns_of c.args.projection in
    let fs = schema_fields c.args.schema.now c.args.fields.now in
    let m = record_batch_of (order_by c.args.self.now.buffers.is_little_endian) c.args.self.now.version (header_of c.args.header.now) bytes in
    let k = c.read_columns.ensures.fetched m (all_at_first c.args.self.now.buffers.is_little_endian c.args.self.now.version (header_of c.args.header.now) bytes _ _ _ c.requires.queues) in
    let n = fetched_is m asked fs _ ∙ ap (batch_fetched m asked fs) (c.first_rows-few.ensures ∙ ap (share c.args.limit) (sym (ap magnitude c.in_ok-rows.ensures.rows.count))) in
    omega (arith, k, n)
