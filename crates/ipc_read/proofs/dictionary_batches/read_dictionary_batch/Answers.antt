use Rattle.std.proofs.Common.{◌≡◌, ◌||◌, not, is_some, Err, None, Some, Ok, ℤ, true, false, length, map, refl, sym, ap, ◌∙◌, subst, to_z, of_z, w64, [], ◌∷◌}
use Rattle.std.specs.BTreeMap.{get}
use Rattle.std.specs.Ordering.{int_cmp}
use Rattle.std.specs.Rc.{rc_value}
use Rattle.std.proofs.lemmas.Int.{to_z-of_z}
use Rattle.std.proofs.lemmas.List.{length-map}
use Rattle.arrow_spec.specs.Counts.{magnitude}
use Rattle.arrow_spec.specs.Files.{record_batch_of, first_column}
use Rattle.arrow_spec.specs.Flat.{order_by}
use Rattle.arrow_spec.specs.Kinds.{is_same_kind, same}
use Rattle.arrow_spec.specs.Readings.{Refuses, refusals}
use Rattle.arrow_types.specs.KindOf.{kind_of}
use Rattle.arrow_arrays.specs.Parts.{kind_in, cells_in}
use Rattle.arrow_arrays.specs.PartsOf.{parts_of, all_parts_of}
use Rattle.ipc_fields.specs.IpcFields.{ids_of}
use Rattle.ipc_fields.specs.Uses.{use_in}
use Rattle.ipc_fields.proofs.SameKinds.{same_itself}
use Rattle.ipc_schema.specs.Views.{header_of}
use Rattle.ipc_read_laws.specs.PlainKinds.{plain_kind}
use Rattle.ipc_read_laws.proofs.PlainTypes.{plain_of, plain_with}
use Rattle.ipc_read.specs.Batches.{batch_reading, kinds_of, schema_fields, table_of}
use Rattle.ipc_read.specs.DictionaryBatches.{message_of, one_column, parts_before, dictionary_reading}
use Rattle.ipc_read_laws.specs.Held.{values_of_id}
use Rattle.ipc_read.specs.Held.{held_in}
use Rattle.ipc_read.specs.Sources.{bytes_in}
use Rattle.ipc_read.proofs.Chosen.{all_chosen}
use Rattle.ipc_read.proofs.DictionaryReads.{free_as, kind_held, values_column, values_kinds, one_is, only_part, no_place, message_refused, message_held, adds_refused, adds_batch, adds_held, use_refused, use_found, fetched_as, if_held, part_held}
use Rattle.ipc_read.proofs.Passing.{is_err}
use Rattle.ipc_read.proofs.Refusals.{memory_refuses}
use Rattle.ipc_read.proofs.dictionary_batches.read_dictionary_batch.Goals as goal

pub returns-in_err-values-clause-adds : goal.returns-in_err-values-clause-adds
returns-in_err-values-clause-adds g c =
    let r : c.from_residual.result ≡ Err c.in_err-values.field-0.0 = is_err _ _ _ c.from_residual.ensures.0 c.from_residual.ensures.1 (λ f h. h) in
    let e : to_z w64 (of_z w64 c.args.id) ≡ c.args.id = to_z-of_z w64 c.args.id c.ranges.id in
    adds_refused (g.S.Source.content c.args.source.now) c.from_residual.result c.in_err-values.field-0.0 (held_in c.args.dictionaries.now) (held_in c.args.dictionaries.now) (λ d b. dictionary_reading (rc_value c.args.schema.now) (ids_of c.args.ipc_schema.now.fields.items) c.args.ipc_schema.now.is_little_endian d c.args.size (message_of c.args.id c.args.is_delta (header_of c.args.header.now)) c.args.version (bytes_in c.args.body b) c.args.may_replace) r
    (λ d b holds. use_refused (rc_value c.args.schema.now) c.deref.result.now c.args.ipc_schema.now.fields.items c.as_slice.result.now (to_z w64 (of_z w64 c.args.id)) c.args.ipc_schema.now.is_little_endian d c.args.size (message_of c.args.id c.args.is_delta (header_of c.args.header.now)) c.args.version (bytes_in c.args.body b) c.args.may_replace c.in_err-values.field-0.0 c.deref.ensures c.as_slice.ensures.value e c.in_err-values.ensures.err)

pub returns-then-not-may_hold-clause-adds : goal.returns-then-not-may_hold-clause-adds
returns-then-not-may_hold-clause-adds g c =
    let i : ℤ = to_z w64 (of_z w64 c.args.id) in
    let e : i ≡ c.args.id = to_z-of_z w64 c.args.id c.ranges.id in
    let m = c.args.dictionaries.now in
    let u = use_found (rc_value c.args.schema.now) c.deref.result.now c.args.ipc_schema.now.fields.items c.as_slice.result.now i c.args.id (use_in c.in_ok-values.values).values c.deref.ensures c.as_slice.ensures.value e c.in_ok-values.ensures.found in
    let w : (c.args.is_delta || c.args.may_replace || not (is_some (get int_cmp m c.args.id))) ≡ false = ap (λ z. c.args.is_delta || c.args.may_replace || not (is_some (get int_cmp m z))) (sym e) ∙ sym c.may_hold.ensures ∙ c.if-not-may_hold.true in
    adds_refused (g.S.Source.content c.args.source.now) (Err _) _ (held_in m) (held_in m) (λ d b. dictionary_reading (rc_value c.args.schema.now) (ids_of c.args.ipc_schema.now.fields.items) c.args.ipc_schema.now.is_little_endian d c.args.size (message_of c.args.id c.args.is_delta (header_of c.args.header.now)) c.args.version (bytes_in c.args.body b) c.args.may_replace) refl
    (λ d b holds. no_place (rc_value c.args.schema.now) (ids_of c.args.ipc_schema.now.fields.items) c.args.ipc_schema.now.is_little_endian d c.args.size (message_of c.args.id c.args.is_delta (header_of c.args.header.now)) c.args.version (bytes_in c.args.body b) c.args.may_replace (use_in c.in_ok-values.values).values u (sym (free_as d m c.args.id c.args.is_delta c.args.may_replace holds) ∙ w))

pub returns-in_err-columns-clause-adds : goal.returns-in_err-columns-clause-adds
returns-in_err-columns-clause-adds g c =
    let r : c.from_residual-in_err-columns.result ≡ Err c.in_err-columns.field-0.0 = is_err _ _ _ c.from_residual-in_err-columns.ensures.0 c.from_residual-in_err-columns.ensures.1 (λ f h. h) in
    adds_refused (g.S.Source.content c.args.source.now) c.from_residual-in_err-columns.result c.in_err-columns.field-0.0 (held_in c.args.dictionaries.now) (held_in c.args.dictionaries.now) (λ d b. dictionary_reading (rc_value c.args.schema.now) (ids_of c.args.ipc_schema.now.fields.items) c.args.ipc_schema.now.is_little_endian d c.args.size (message_of c.args.id c.args.is_delta (header_of c.args.header.now)) c.args.version (bytes_in c.args.body b) c.args.may_replace) r
    (λ d b holds. memory_refuses c.in_err-columns.field-0.0 _ c.in_err-columns.ensures.memory)

pub read_record_batch-requires-clause-columns : goal.read_record_batch-requires-clause-columns
read_record_batch-requires-clause-columns g c =
    let e : to_z w64 (of_z w64 c.args.id) ≡ c.args.id = to_z-of_z w64 c.args.id c.ranges.id in
    let v = c.in_ok-values.values in
    let u = use_found (rc_value c.args.schema.now) c.deref.result.now c.args.ipc_schema.now.fields.items c.as_slice.result.now (to_z w64 (of_z w64 c.args.id)) c.args.id (use_in v).values c.deref.ensures c.as_slice.ensures.value e c.in_ok-values.ensures.found in
    values_column (rc_value c.in_ok-columns.columns.0) (values_of_id (schema_fields (rc_value c.args.schema.now) c.args.ipc_schema.now.fields.items) c.args.id) (kind_of v.values) (use_in v).values (ids_of v.fields.items) c.in_ok-columns.ensures.values u refl c.requires.columns

pub read_record_batch-requires-clause-kinds : goal.read_record_batch-requires-clause-kinds
read_record_batch-requires-clause-kinds g c =
    let e : to_z w64 (of_z w64 c.args.id) ≡ c.args.id = to_z-of_z w64 c.args.id c.ranges.id in
    let v = c.in_ok-values.values in
    let u = use_found (rc_value c.args.schema.now) c.deref.result.now c.args.ipc_schema.now.fields.items c.as_slice.result.now (to_z w64 (of_z w64 c.args.id)) c.args.id (use_in v).values c.deref.ensures c.as_slice.ensures.value e c.in_ok-values.ensures.found in
    values_kinds (held_in c.args.dictionaries.now) (values_of_id (schema_fields (rc_value c.args.schema.now) c.args.ipc_schema.now.fields.items) c.args.id) (use_in v).values _ u c.in_ok-columns.ensures.kind c.requires.kinds

pub returns-in_err-batch-clause-adds : goal.returns-in_err-batch-clause-adds
returns-in_err-batch-clause-adds g c =
    let r : c.from_residual-in_err-batch.result ≡ Err c.in_err-batch.field-0.0 = is_err _ _ _ c.from_residual-in_err-batch.ensures.0 c.from_residual-in_err-batch.ensures.1 (λ f h. h) in
    let i : ℤ = to_z w64 (of_z w64 c.args.id) in
    let e : i ≡ c.args.id = to_z-of_z w64 c.args.id c.ranges.id in
    let m = c.args.dictionaries.now in
    let v = c.in_ok-values.values in
    let k = (use_in v).values in
    let il = c.args.ipc_schema.now.is_little_endian in
    let x = message_of c.args.id c.args.is_delta (header_of c.args.header.now) in
    let u = use_found (rc_value c.args.schema.now) c.deref.result.now c.args.ipc_schema.now.fields.items c.as_slice.result.now i c.args.id k c.deref.ensures c.as_slice.ensures.value e c.in_ok-values.ensures.found in
    let w : (c.args.is_delta || c.args.may_replace || not (is_some (get int_cmp m c.args.id))) ≡ true = ap (λ z. c.args.is_delta || c.args.may_replace || not (is_some (get int_cmp m z))) (sym e) ∙ sym c.may_hold.ensures ∙ c.if-not-may_hold.false in
    adds_batch (g.S.Source.content c.args.source.now) c.from_residual-in_err-batch.result c.in_err-batch.field-0.0 (held_in m) (held_in m) (λ d b. batch_reading None None c.in_ok-columns.columns.1.is_little_endian (schema_fields (rc_value c.in_ok-columns.columns.0) c.in_ok-columns.columns.1.fields.items) d c.args.size c.args.version x.values (bytes_in c.args.body b)) (λ d b. dictionary_reading (rc_value c.args.schema.now) (ids_of c.args.ipc_schema.now.fields.items) il d c.args.size x c.args.version (bytes_in c.args.body b) c.args.may_replace) r c.in_err-batch.ensures.gives
    (λ d b holds h. message_refused (rc_value c.args.schema.now) (ids_of c.args.ipc_schema.now.fields.items) il d c.args.size x c.args.version (bytes_in c.args.body b) c.args.may_replace k c.in_err-batch.field-0.0 u (sym (free_as d m c.args.id c.args.is_delta c.args.may_replace holds) ∙ w)
    (subst (λ o. Refuses c.in_err-batch.field-0.0 (refusals (batch_reading None None o (one_column k) d c.args.size c.args.version x.values (bytes_in c.args.body b)))) c.in_ok-columns.ensures.order
    (subst (λ fs. Refuses c.in_err-batch.field-0.0 (refusals (batch_reading None None c.in_ok-columns.columns.1.is_little_endian fs d c.args.size c.args.version x.values (bytes_in c.args.body b)))) c.in_ok-columns.ensures.kind h)))

pub returns-in_err-batch-clause-fetched : goal.returns-in_err-batch-clause-fetched
returns-in_err-batch-clause-fetched g c = λ bytes.
    let e : to_z w64 (of_z w64 c.args.id) ≡ c.args.id = to_z-of_z w64 c.args.id c.ranges.id in
    let k = (use_in c.in_ok-values.values).values in
    let u = use_found (rc_value c.args.schema.now) c.deref.result.now c.args.ipc_schema.now.fields.items c.as_slice.result.now (to_z w64 (of_z w64 c.args.id)) c.args.id k c.deref.ensures c.as_slice.ensures.value e c.in_ok-values.ensures.found in
    fetched_as _ _ (λ o. record_batch_of (order_by o) c.args.version (header_of c.args.header.now) bytes) c.args.ipc_schema.now.is_little_endian c.in_ok-columns.columns.1.is_little_endian _ k _ (magnitude c.args.header.now.length) u c.in_ok-columns.ensures.order c.in_ok-columns.ensures.kind (c.read_record_batch.ensures.fetched bytes)

pub only_array-part-requires : goal.only_array-part-requires
only_array-part-requires g c =
    let a = c.in_ok-batch.batch.arrays in
    let ks : map kind_in a ≡ kind_of c.in_ok-values.values.values ∷ [] = c.in_ok-batch.ensures.kinds ∙ all_chosen 0 (kinds_of (rc_value c.in_ok-columns.columns.0)) ∙ c.in_ok-columns.ensures.values in
    record { one = sym (length-map c.into_arrays.result.items parts_of) ∙ ap length c.into_arrays.ensures ∙ sym (length-map a kind_in) ∙ ap length ks }

pub returns-clause-adds : goal.returns-clause-adds
returns-clause-adds g c =
    let i : ℤ = to_z w64 (of_z w64 c.args.id) in
    let e : i ≡ c.args.id = to_z-of_z w64 c.args.id c.ranges.id in
    let m = c.args.dictionaries.now in
    let n = c.hold.new.dictionaries in
    let p = parts_of c.only_array-part.result in
    let v = c.in_ok-values.values in
    let k = (use_in v).values in
    let il = c.args.ipc_schema.now.is_little_endian in
    let x = message_of c.args.id c.args.is_delta (header_of c.args.header.now) in
    let u = use_found (rc_value c.args.schema.now) c.deref.result.now c.args.ipc_schema.now.fields.items c.as_slice.result.now i c.args.id k c.deref.ensures c.as_slice.ensures.value e c.in_ok-values.ensures.found in
    let w : (c.args.is_delta || c.args.may_replace || not (is_some (get int_cmp m c.args.id))) ≡ true = ap (λ z. c.args.is_delta || c.args.may_replace || not (is_some (get int_cmp m z))) (sym e) ∙ sym c.may_hold.ensures ∙ c.if-not-may_hold.false in
    let a : c.in_ok-batch.batch.arrays ≡ p ∷ [] = sym c.into_arrays.ensures ∙ only_part (all_parts_of c.into_arrays.result.items) p c.only_array-part.ensures in
    let cells : first_column (table_of c.in_ok-batch.batch).columns ≡ cells_in p = ap (λ ps. first_column (map cells_in ps)) a in
    adds_held (g.S.Source.content c.args.source.now) c.hold.result (held_in m) (held_in n) (λ d b. batch_reading None None c.in_ok-columns.columns.1.is_little_endian (schema_fields (rc_value c.in_ok-columns.columns.0) c.in_ok-columns.columns.1.fields.items) d c.args.size c.args.version x.values (bytes_in c.args.body b)) (table_of c.in_ok-batch.batch) (λ d b. dictionary_reading (rc_value c.args.schema.now) (ids_of c.args.ipc_schema.now.fields.items) il d c.args.size x c.args.version (bytes_in c.args.body b) c.args.may_replace) (held_in n i ≡ Some (parts_before c.args.is_delta (held_in m i) p)) c.hold.ensures.memory c.hold.ensures.here c.in_ok-batch.ensures.gives
    (λ d b holds h here. message_held (rc_value c.args.schema.now) (ids_of c.args.ipc_schema.now.fields.items) il d (held_in m) (held_in n) c.args.size x c.args.version (bytes_in c.args.body b) c.args.may_replace k (table_of c.in_ok-batch.batch) p u (sym (free_as d m c.args.id c.args.is_delta c.args.may_replace holds) ∙ w)
    (subst (λ o. batch_reading None None o (one_column k) d c.args.size c.args.version x.values (bytes_in c.args.body b) ≡ Ok (table_of c.in_ok-batch.batch)) c.in_ok-columns.ensures.order
    (subst (λ fs. batch_reading None None c.in_ok-columns.columns.1.is_little_endian fs d c.args.size c.args.version x.values (bytes_in c.args.body b) ≡ Ok (table_of c.in_ok-batch.batch)) c.in_ok-columns.ensures.kind h)) cells
    (subst (λ z. held_in n z ≡ Some (parts_before c.args.is_delta (held_in m z) p)) e here) (subst (λ z. (q : ℤ) → same z q ≡ false → held_in n q ≡ held_in m q) e c.hold.ensures.others) holds)

pub returns-clause-kind : goal.returns-clause-kind
returns-clause-kind g c = λ before.
    let i : ℤ = to_z w64 (of_z w64 c.args.id) in
    let e : i ≡ c.args.id = to_z-of_z w64 c.args.id c.ranges.id in
    let m = c.args.dictionaries.now in
    let n = c.hold.new.dictionaries in
    let p = parts_of c.only_array-part.result in
    let v = c.in_ok-values.values in
    let k = (use_in v).values in
    let l = kind_of v.values in
    let fs = schema_fields (rc_value c.args.schema.now) c.args.ipc_schema.now.fields.items in
    let u = use_found (rc_value c.args.schema.now) c.deref.result.now c.args.ipc_schema.now.fields.items c.as_slice.result.now i c.args.id k c.deref.ensures c.as_slice.ensures.value e c.in_ok-values.ensures.found in
    let a : c.in_ok-batch.batch.arrays ≡ p ∷ [] = sym c.into_arrays.ensures ∙ only_part (all_parts_of c.into_arrays.result.items) p c.only_array-part.ensures in
    let ks : kind_in p ∷ [] ≡ l ∷ [] = sym (ap (map kind_in) a) ∙ c.in_ok-batch.ensures.kinds ∙ all_chosen 0 (kinds_of (rc_value c.in_ok-columns.columns.0)) ∙ c.in_ok-columns.ensures.values in
    let one : kind_in p ≡ l = one_is (kind_in p) l ks in
    let s : is_same_kind (plain_kind k) (kind_in p) ≡ true = ap (λ y. is_same_kind y (kind_in p)) (plain_with l None (ids_of v.fields.items) ∙ plain_of v.values) ∙ ap (is_same_kind l) one ∙ same_itself l in
    if_held c.hold.result _ _ c.hold.ensures.here (λ here. kind_held fs (held_in m) (held_in n) c.args.id c.args.is_delta k p u s (subst (λ z. held_in n z ≡ Some (parts_before c.args.is_delta (held_in m z) p)) e here) before)

pub returns-clause-part : goal.returns-clause-part
returns-clause-part g c =
    let i : ℤ = to_z w64 (of_z w64 c.args.id) in
    let e : i ≡ c.args.id = to_z-of_z w64 c.args.id c.ranges.id in
    let m = c.args.dictionaries.now in
    let n = c.hold.new.dictionaries in
    let p = parts_of c.only_array-part.result in
    let k = (use_in c.in_ok-values.values).values in
    let u = use_found (rc_value c.args.schema.now) c.deref.result.now c.args.ipc_schema.now.fields.items c.as_slice.result.now i c.args.id k c.deref.ensures c.as_slice.ensures.value e c.in_ok-values.ensures.found in
    let a : c.in_ok-batch.batch.arrays ≡ p ∷ [] = sym c.into_arrays.ensures ∙ only_part (all_parts_of c.into_arrays.result.items) p c.only_array-part.ensures in
    part_held (g.S.Source.content c.args.source.now) c.hold.result (held_in m) (held_in n) c.args.id c.args.is_delta c.args.ipc_schema.now.is_little_endian c.in_ok-columns.columns.1.is_little_endian (λ o b. record_batch_of (order_by o) c.args.version (header_of c.args.header.now) (bytes_in c.args.body b)) _ k p c.in_ok-batch.batch.arrays (schema_fields (rc_value c.in_ok-columns.columns.0) c.in_ok-columns.columns.1.fields.items) (magnitude c.args.header.now.length) c.in_ok-batch.batch.height
    u c.in_ok-columns.ensures.order c.in_ok-columns.ensures.kind c.in_ok-batch.ensures.height a c.in_ok-batch.ensures.parts (if_held c.hold.result _ _ c.hold.ensures.here (λ here. subst (λ z. held_in n z ≡ Some (parts_before c.args.is_delta (held_in m z) p)) e here))

pub returns-clause-others : goal.returns-clause-others
returns-clause-others g c =
    let e : to_z w64 (of_z w64 c.args.id) ≡ c.args.id = to_z-of_z w64 c.args.id c.ranges.id in
    subst (λ z. (q : ℤ) → same z q ≡ false → held_in c.hold.new.dictionaries q ≡ held_in c.args.dictionaries.now q) e c.hold.ensures.others

pub returns-clause-fetched : goal.returns-clause-fetched
returns-clause-fetched g c = λ bytes.
    let e : to_z w64 (of_z w64 c.args.id) ≡ c.args.id = to_z-of_z w64 c.args.id c.ranges.id in
    let k = (use_in c.in_ok-values.values).values in
    let u = use_found (rc_value c.args.schema.now) c.deref.result.now c.args.ipc_schema.now.fields.items c.as_slice.result.now (to_z w64 (of_z w64 c.args.id)) c.args.id k c.deref.ensures c.as_slice.ensures.value e c.in_ok-values.ensures.found in
    fetched_as _ _ (λ o. record_batch_of (order_by o) c.args.version (header_of c.args.header.now) bytes) c.args.ipc_schema.now.is_little_endian c.in_ok-columns.columns.1.is_little_endian _ k _ (magnitude c.args.header.now.length) u c.in_ok-columns.ensures.order c.in_ok-columns.ensures.kind (c.read_record_batch.ensures.fetched bytes)
