use Rattle.std.proofs.Common.{◌≡◌, ◌||◌, not, is_some, None, Some, Ok, ℤ, true, false, length, map, refl, sym, ap, ◌∙◌, subst, to_z, of_z, w64}
use Rattle.std.specs.BTreeMap.{get}
use Rattle.std.specs.Ordering.{int_cmp}
use Rattle.std.proofs.lemmas.Int.{to_z-of_z}
use Rattle.arrow_spec.specs.Files.{first_column}
use Rattle.arrow_spec.specs.Kinds.{same}
use Rattle.arrow_spec.specs.Readings.{Refuses, refusals}
use Rattle.arrow_types.specs.KindOf.{kind_of}
use Rattle.ipc_fields.specs.IpcFields.{ids_of}
use Rattle.ipc_fields.specs.Uses.{use_in}
use Rattle.ipc_schema.specs.Views.{header_of}
use Rattle.ipc_read_laws.specs.Held.{values_of_id}
use Rattle.ipc_read.specs.Batches.{batch_reading, kinds_of, schema_fields}
use Rattle.ipc_read.specs.DictionaryBatches.{message_of, one_column}
use Rattle.ipc_read.proofs.DictionaryReads.{message_refused, no_place, use_found, use_refused, values_column}
use Rattle.ipc_read.proofs.Refusals.{memory_refuses}
use Rattle.view_types.specs.Views.{cells_in, part_in, views}
use Rattle.ipc_view.specs.Batches.{table_seen, views_before}
use Rattle.ipc_view.specs.Dictionaries.{shown_in}
use Rattle.ipc_view.specs.Lent.{AreLentOf}
use Rattle.ipc_view.proofs.DictionaryViews.{adds_err, adds_held, free_as, message_shown}
use Rattle.ipc_view.proofs.LentViews.{holds_lent}
use Rattle.ipc_view.proofs.dictionary_batches.view_dictionary_batch.Goals as goal

pub returns-in_err-values-clause-adds : goal.returns-in_err-values-clause-adds
returns-in_err-values-clause-adds c = λ d shows.
    let ipc = c.args.ipc_schema.now in
    let e : to_z w64 (of_z w64 c.args.id) ≡ c.args.id = to_z-of_z w64 c.args.id c.ranges.id in
    adds_err c.from_residual.result c.in_err-values.field-0.0 d _ _ c.from_residual.ensures.0 c.from_residual.ensures.1
    (use_refused c.args.schema.now c.args.schema.now ipc.fields.items c.as_slice.result.now (to_z w64 (of_z w64 c.args.id)) ipc.is_little_endian d c.args.size (message_of c.args.id c.args.is_delta (header_of c.args.header.now)) c.args.version (part_in c.args.input.now c.args.body) false c.in_err-values.field-0.0 refl c.as_slice.ensures.value e c.in_err-values.ensures.err)

pub returns-then-not-may_hold-clause-adds : goal.returns-then-not-may_hold-clause-adds
returns-then-not-may_hold-clause-adds c = λ d shows.
    let ipc = c.args.ipc_schema.now in
    let i : ℤ = to_z w64 (of_z w64 c.args.id) in
    let e : i ≡ c.args.id = to_z-of_z w64 c.args.id c.ranges.id in
    let m = c.args.dictionaries.now in
    let u = use_found c.args.schema.now c.args.schema.now ipc.fields.items c.as_slice.result.now i c.args.id (use_in c.in_ok-values.values).values refl c.as_slice.ensures.value e c.in_ok-values.ensures.found in
    let w : (c.args.is_delta || not (is_some (get int_cmp m c.args.id))) ≡ false = ap (λ z. c.args.is_delta || not (is_some (get int_cmp m z))) (sym e) ∙ sym c.may_hold.ensures ∙ c.if-not-may_hold.true in
    record {
      ok = tt;
      err = no_place c.args.schema.now (ids_of ipc.fields.items) ipc.is_little_endian d c.args.size (message_of c.args.id c.args.is_delta (header_of c.args.header.now)) c.args.version (part_in c.args.input.now c.args.body) false (use_in c.in_ok-values.values).values u (sym (free_as d m c.args.id c.args.is_delta shows) ∙ w);
    }

pub returns-in_err-columns-clause-adds : goal.returns-in_err-columns-clause-adds
returns-in_err-columns-clause-adds c = λ d shows. adds_err c.from_residual-in_err-columns.result c.in_err-columns.field-0.0 d _ _ c.from_residual-in_err-columns.ensures.0 c.from_residual-in_err-columns.ensures.1 (memory_refuses c.in_err-columns.field-0.0 _ c.in_err-columns.ensures.memory)

pub view_record_batch-requires-clause-columns : goal.view_record_batch-requires-clause-columns
view_record_batch-requires-clause-columns c =
    let ipc = c.args.ipc_schema.now in
    let e : to_z w64 (of_z w64 c.args.id) ≡ c.args.id = to_z-of_z w64 c.args.id c.ranges.id in
    let v = c.in_ok-values.values in
    let u = use_found c.args.schema.now c.args.schema.now ipc.fields.items c.as_slice.result.now (to_z w64 (of_z w64 c.args.id)) c.args.id (use_in v).values refl c.as_slice.ensures.value e c.in_ok-values.ensures.found in
    values_column c.deref.result.now (values_of_id (schema_fields c.args.schema.now ipc.fields.items) c.args.id) (kind_of v.values) (use_in v).values (ids_of v.fields.items) (ap kinds_of c.deref.ensures ∙ c.in_ok-columns.ensures.values) u refl c.requires.columns

pub returns-in_err-batch-clause-adds : goal.returns-in_err-batch-clause-adds
returns-in_err-batch-clause-adds c = λ d shows.
    let ipc = c.args.ipc_schema.now in
    let i : ℤ = to_z w64 (of_z w64 c.args.id) in
    let e : i ≡ c.args.id = to_z-of_z w64 c.args.id c.ranges.id in
    let m = c.args.dictionaries.now in
    let v = c.in_ok-values.values in
    let k = (use_in v).values in
    let il = ipc.is_little_endian in
    let body = part_in c.args.input.now c.args.body in
    let x = message_of c.args.id c.args.is_delta (header_of c.args.header.now) in
    let u = use_found c.args.schema.now c.args.schema.now ipc.fields.items c.as_slice.result.now i c.args.id k refl c.as_slice.ensures.value e c.in_ok-values.ensures.found in
    let w : (c.args.is_delta || not (is_some (get int_cmp m c.args.id))) ≡ true = ap (λ z. c.args.is_delta || not (is_some (get int_cmp m z))) (sym e) ∙ sym c.may_hold.ensures ∙ c.if-not-may_hold.false in
    let h = c.in_err-batch.ensures.gives d shows in
    adds_err c.from_residual-in_err-batch.result c.in_err-batch.field-0.0 d _ _ c.from_residual-in_err-batch.ensures.0 c.from_residual-in_err-batch.ensures.1
    (message_refused c.args.schema.now (ids_of ipc.fields.items) il d c.args.size x c.args.version body false k c.in_err-batch.field-0.0 u (sym (free_as d m c.args.id c.args.is_delta shows) ∙ w)
    (subst (λ o. Refuses c.in_err-batch.field-0.0 (refusals (batch_reading None None o (one_column k) d c.args.size c.args.version x.values body))) c.in_ok-columns.ensures.order
    (subst (λ fs. Refuses c.in_err-batch.field-0.0 (refusals (batch_reading None None c.in_ok-columns.columns.1.is_little_endian fs d c.args.size c.args.version x.values body))) (ap (λ s. schema_fields s c.in_ok-columns.columns.1.fields.items) c.deref.ensures ∙ c.in_ok-columns.ensures.kind) h)))

pub only_view-requires : goal.only_view-requires
only_view-requires c = record { one = c.in_ok-batch.ensures.count ∙ ap length c.deref.ensures ∙ c.in_ok-columns.ensures.count.0 }

pub returns-clause-adds : goal.returns-clause-adds
returns-clause-adds c = λ d shows.
    let ipc = c.args.ipc_schema.now in
    let i : ℤ = to_z w64 (of_z w64 c.args.id) in
    let e : i ≡ c.args.id = to_z-of_z w64 c.args.id c.ranges.id in
    let m = c.args.dictionaries.now in
    let n = c.hold.new.dictionaries in
    let p = c.only_view.result in
    let v = c.in_ok-values.values in
    let k = (use_in v).values in
    let il = ipc.is_little_endian in
    let body = part_in c.args.input.now c.args.body in
    let x = message_of c.args.id c.args.is_delta (header_of c.args.header.now) in
    let u = use_found c.args.schema.now c.args.schema.now ipc.fields.items c.as_slice.result.now i c.args.id k refl c.as_slice.ensures.value e c.in_ok-values.ensures.found in
    let w : (c.args.is_delta || not (is_some (get int_cmp m c.args.id))) ≡ true = ap (λ z. c.args.is_delta || not (is_some (get int_cmp m z))) (sym e) ∙ sym c.may_hold.ensures ∙ c.if-not-may_hold.false in
    let t = table_seen c.in_ok-batch.batch in
    let cells : first_column t.columns ≡ cells_in p = ap (λ vs. first_column (map cells_in vs)) c.only_view.ensures in
    let h = c.in_ok-batch.ensures.gives d shows in
    adds_held c.hold.result d (shown_in n) _ (shown_in n i ≡ Some (views_before c.args.is_delta (shown_in m i) p)) c.hold.ensures.memory c.hold.ensures.here (λ here.
    message_shown c.args.schema.now (ids_of ipc.fields.items) il d (shown_in m) (shown_in n) c.args.size x c.args.version body k t p u (sym (free_as d m c.args.id c.args.is_delta shows) ∙ w)
    (subst (λ o. batch_reading None None o (one_column k) d c.args.size c.args.version x.values body ≡ Ok t) c.in_ok-columns.ensures.order
    (subst (λ fs. batch_reading None None c.in_ok-columns.columns.1.is_little_endian fs d c.args.size c.args.version x.values body ≡ Ok t) (ap (λ s. schema_fields s c.in_ok-columns.columns.1.fields.items) c.deref.ensures ∙ c.in_ok-columns.ensures.kind) h)) cells
    (subst (λ z. shown_in n z ≡ Some (views_before c.args.is_delta (shown_in m z) p)) e here) (subst (λ z. (q : ℤ) → same z q ≡ false → shown_in n q ≡ shown_in m q) e c.hold.ensures.others) shows)

pub returns-in_err-values-clause-lent : goal.returns-in_err-values-clause-lent
returns-in_err-values-clause-lent c = λ holds. holds

pub returns-then-not-may_hold-clause-lent : goal.returns-then-not-may_hold-clause-lent
returns-then-not-may_hold-clause-lent c = λ holds. holds

pub returns-in_err-columns-clause-lent : goal.returns-in_err-columns-clause-lent
returns-in_err-columns-clause-lent c = λ holds. holds

pub returns-in_err-batch-clause-lent : goal.returns-in_err-batch-clause-lent
returns-in_err-batch-clause-lent c = λ holds. holds

pub returns-clause-lent : goal.returns-clause-lent
returns-clause-lent c = λ holds.
    let input = c.args.input.now in
    let i : ℤ = to_z w64 (of_z w64 c.args.id) in
    let lent = subst (λ vs. AreLentOf input (views vs)) c.only_view.ensures (c.in_ok-batch.ensures.lent holds) in
    holds_lent input (shown_in c.args.dictionaries.now) (shown_in c.hold.new.dictionaries) i c.args.is_delta c.only_view.result c.hold.result holds lent.0 c.hold.ensures.here c.hold.ensures.others c.hold.ensures.refused
