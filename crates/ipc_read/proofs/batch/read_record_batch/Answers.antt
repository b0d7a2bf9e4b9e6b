use Rattle.std.proofs.Common.{◌≡◌, Ok, Err, IfSome, length, map, sym, ap, ◌∙◌, rules, subst}
use Rattle.std.proofs.lemmas.List.{length-map}
use Rattle.std.specs.Rc.{rc_value}
use Rattle.arrow_spec.specs.Arrays.{Dictionaries}
use Rattle.arrow_spec.specs.Readings.{Gives}
use Rattle.arrow_spec.specs.Counts.{first_place, magnitude}
use Rattle.ipc_read_laws.specs.Held.{HoldsCells, HasFields}
use Rattle.ipc_read.specs.Held.{held_in}
use Rattle.arrow_arrays.specs.Parts.{kind_in}
use Rattle.arrow_arrays.specs.PartsOf.{parts_of, all_parts_of}
use Rattle.ipc_schema.specs.Views.{header_of}
use Rattle.ipc_read.specs.Batches.{batch_reading, batch_fetched, chosen_read, table_of, kinds_of, schema_fields}
use Rattle.ipc_read_laws.specs.Projection.{columns_of, chosen}
use Rattle.arrow_spec.specs.Flat.{order_by}
use Rattle.arrow_spec.specs.Files.{record_batch_of, share}
use Rattle.ipc_read.specs.Sources.{bytes_in}
use Rattle.ipc_read.proofs.Passing.{is_err}
use Rattle.ipc_read.proofs.BatchTables.{some_refused, some_given, some_same, some_held, batch_fine}
use Rattle.ipc_read.proofs.Refusals.{memory_refuses}
use Rattle.ipc_read.proofs.ReaderSteps.{fetched_on}
use Rattle.ipc_read.proofs.batch.read_record_batch.Goals as goal

pub read_arrays-requires-clause-kinds : goal.read_arrays-requires-clause-kinds
read_arrays-requires-clause-kinds g c =
    subst (λ fs. HasFields (held_in c.args.dictionaries.now) (schema_fields c.deref.result.now fs)) (sym c.as_slice.ensures.value)
    (subst (λ s. HasFields (held_in c.args.dictionaries.now) (schema_fields s c.args.ipc_schema.now.fields.items)) (sym c.deref.ensures) c.requires.kinds)

pub returns-in_err-columns-clause-gives : goal.returns-in_err-columns-clause-gives
returns-in_err-columns-clause-gives g c =
    let e : c.from_residual-in_err-columns.result ≡ Err c.in_err-columns.field-0.0 = is_err _ _ _ c.from_residual-in_err-columns.ensures.0 c.from_residual-in_err-columns.ensures.1 (λ f h. h) in
    subst (λ fs. IfSome (g.S.Source.content c.args.source.now) (λ b. (d : Dictionaries) → HoldsCells d (held_in c.args.dictionaries.now) → Gives table_of c.from_residual-in_err-columns.result (batch_reading (columns_of c.args.projection) c.args.limit c.args.ipc_schema.now.is_little_endian (schema_fields (rc_value c.args.schema.now) fs) d c.args.size c.args.version (header_of c.args.header.now) (bytes_in c.args.body b)))) c.as_slice.ensures.value
    (some_refused _ table_of c.from_residual-in_err-columns.result c.in_err-columns.field-0.0 (held_in c.args.dictionaries.now) (λ s d b. batch_reading (columns_of c.args.projection) c.args.limit c.args.ipc_schema.now.is_little_endian (schema_fields s c.as_slice.result.now) d c.args.size c.args.version (header_of c.args.header.now) (bytes_in c.args.body b)) c.deref.result.now (rc_value c.args.schema.now) e c.deref.ensures c.in_err-columns.ensures.gives)

pub returns-in_err-columns-clause-fetched : goal.returns-in_err-columns-clause-fetched
returns-in_err-columns-clause-fetched g c = λ bytes.
    let k = c.read_arrays.ensures.fetched bytes in
    let n = ap (λ s. batch_fetched (record_batch_of (order_by c.args.ipc_schema.now.is_little_endian) c.args.version (header_of c.args.header.now) bytes) (columns_of c.args.projection) (schema_fields s c.as_slice.result.now) (share c.args.limit (magnitude c.args.header.now.length))) c.deref.ensures
    ∙ ap (λ fs. batch_fetched (record_batch_of (order_by c.args.ipc_schema.now.is_little_endian) c.args.version (header_of c.args.header.now) bytes) (columns_of c.args.projection) (schema_fields (rc_value c.args.schema.now) fs) (share c.args.limit (magnitude c.args.header.now.length))) c.as_slice.ensures.value in
    fetched_on _ _ _ _ _ (search rules) k n

pub new-requires : goal.new-requires
new-requires g c =
    let n = c.in_ok-columns.ensures.count ∙ ap (λ s. length (chosen (columns_of c.args.projection) 0 s)) c.deref.ensures in
    batch_fine c.in_ok-columns.columns.0 _ (all_parts_of c.in_ok-columns.columns.1.items) (ap length c.in_ok-schema.ensures.schema ∙ sym n ∙ sym (length-map c.in_ok-columns.columns.1.items parts_of)) c.in_ok-columns.ensures.shape

pub returns-clause-gives : goal.returns-clause-gives
returns-clause-gives g c =
    subst (λ fs. IfSome (g.S.Source.content c.args.source.now) (λ b. (d : Dictionaries) → HoldsCells d (held_in c.args.dictionaries.now) → batch_reading (columns_of c.args.projection) c.args.limit c.args.ipc_schema.now.is_little_endian (schema_fields (rc_value c.args.schema.now) fs) d c.args.size c.args.version (header_of c.args.header.now) (bytes_in c.args.body b) ≡ Ok (table_of c.new.result))) c.as_slice.ensures.value
    (some_given _ (held_in c.args.dictionaries.now) (λ s d b. batch_reading (columns_of c.args.projection) c.args.limit c.args.ipc_schema.now.is_little_endian (schema_fields s c.as_slice.result.now) d c.args.size c.args.version (header_of c.args.header.now) (bytes_in c.args.body b)) c.deref.result.now (rc_value c.args.schema.now) _ _ c.deref.ensures (sym (ap table_of c.new.ensures)) c.in_ok-columns.ensures.gives)

pub returns-clause-parts : goal.returns-clause-parts
returns-clause-parts g c =
    subst (λ fs. IfSome (g.S.Source.content c.args.source.now) (λ b. (d : Dictionaries) → HoldsCells d (held_in c.args.dictionaries.now) → c.new.result.arrays ≡ chosen_read (record_batch_of (order_by c.args.ipc_schema.now.is_little_endian) c.args.version (header_of c.args.header.now) (bytes_in c.args.body b)) (held_in c.args.dictionaries.now) (columns_of c.args.projection) (schema_fields (rc_value c.args.schema.now) fs) 0 first_place c.new.result.height)) c.as_slice.ensures.value
    (some_same _ (held_in c.args.dictionaries.now) (λ n s b. chosen_read (record_batch_of (order_by c.args.ipc_schema.now.is_little_endian) c.args.version (header_of c.args.header.now) (bytes_in c.args.body b)) (held_in c.args.dictionaries.now) (columns_of c.args.projection) (schema_fields s c.as_slice.result.now) 0 first_place n) c.deref.result.now (rc_value c.args.schema.now) _ _ _ _ c.deref.ensures (sym (ap (λ x. x.height) c.new.ensures)) (sym (ap (λ x. x.arrays) c.new.ensures)) c.in_ok-columns.ensures.parts)

pub returns-clause-fetched : goal.returns-clause-fetched
returns-clause-fetched g c = λ bytes.
    let k = c.read_arrays.ensures.fetched bytes in
    let n = ap (λ s. batch_fetched (record_batch_of (order_by c.args.ipc_schema.now.is_little_endian) c.args.version (header_of c.args.header.now) bytes) (columns_of c.args.projection) (schema_fields s c.as_slice.result.now) (share c.args.limit (magnitude c.args.header.now.length))) c.deref.ensures
    ∙ ap (λ fs. batch_fetched (record_batch_of (order_by c.args.ipc_schema.now.is_little_endian) c.args.version (header_of c.args.header.now) bytes) (columns_of c.args.projection) (schema_fields (rc_value c.args.schema.now) fs) (share c.args.limit (magnitude c.args.header.now.length))) c.as_slice.ensures.value in
    fetched_on _ _ _ _ _ (search rules) k n

pub returns-in_err-queues-clause-gives : goal.returns-in_err-queues-clause-gives
returns-in_err-queues-clause-gives g c =
    let e : c.from_residual.result ≡ Err c.in_err-queues.field-0.0 = is_err _ _ _ c.from_residual.ensures.0 c.from_residual.ensures.1 (λ f h. h) in
    some_held (g.S.Source.content c.args.source.now) table_of c.from_residual.result c.in_err-queues.field-0.0 (held_in c.args.dictionaries.now) (λ d b. batch_reading (columns_of c.args.projection) c.args.limit c.args.ipc_schema.now.is_little_endian (schema_fields (rc_value c.args.schema.now) c.args.ipc_schema.now.fields.items) d c.args.size c.args.version (header_of c.args.header.now) (bytes_in c.args.body b)) e (λ d b. memory_refuses _ _ c.in_err-queues.ensures.err)

pub returns-clause-kinds : goal.returns-clause-kinds
returns-clause-kinds g c = ap (λ x. map kind_in x.arrays) c.new.ensures ∙ c.in_ok-columns.ensures.kinds ∙ ap (λ s. chosen (columns_of c.args.projection) 0 (kinds_of s)) c.deref.ensures
