use Rattle.std.proofs.Common.{◌≡◌, ◌+◌, ◌++◌, ◌∷◌, [], suc, length, drop, map, rules, true, false, Err, sym, ap, ◌∙◌, arith, subst, refl}
use Rattle.std.proofs.lemmas.List.{map-append, length-append}
use Rattle.arrow_spec.specs.Readings.{Refuses}
use Rattle.arrow_spec.specs.Counts.{first_place}
use Rattle.arrow_spec.specs.Columns.{is_chosen}
use Rattle.arrow_spec.specs.Faults.{place_in}
use Rattle.arrow_arrays.specs.Parts.{kind_in}
use Rattle.arrow_arrays.specs.PartsOf.{parts_of, all_parts_of}
use Rattle.arrow_arrays.specs.Batches.{have_rows}
use Rattle.ipc_read_laws.specs.Held.{AllHeldIn, HasKind}
use Rattle.ipc_read.specs.Queues.{AllAt}
use Rattle.ipc_read.specs.Batches.{chosen_fetched, kinds_of, schema_fields}
use Rattle.ipc_read.specs.Held.{held_in, column_kind}
use Rattle.ipc_read_laws.specs.Projection.{columns_of, chosen}
use Rattle.ipc_read.proofs.Passing.{is_err}
use Rattle.ipc_read.proofs.Places.{first_place_in}
use Rattle.ipc_read.proofs.BatchTables.{gives_err}
use Rattle.ipc_read.proofs.HeldKinds.{field_held, rest_held}
use Rattle.ipc_read.proofs.LeftFields.{dropped, next_in, child_as, child_at, width_by}
use Rattle.ipc_read.proofs.ReaderSteps.{known_on, readable_on, batch_on, queues_then}
use Rattle.ipc_read.proofs.Columns.{AreDone, none_done, all_cells, all_parts, rows_next, field_held as field_carried, column_stands, passed_stands, passed_after, passed_counts, column_refused, column_done, passed_refused, passed_done, chosen_fetched_next, passed_fetched_next, count_next, passed_count, count_end, kinds_next, kinds_passed, kinds_end}
use Rattle.ipc_read.proofs.readers.ColumnReader.read_columns.Goals as goal

pub read_column-requires-clause-held : goal.read_column-requires-clause-held
read_column-requires-clause-held g c = field_carried (columns_of c.args.projection) c.args.schema.now c.loop-i.i c.field_at-field.result.now c.field_at-field.ensures (sym c.is_chosen.ensures ∙ c.if-not-is_chosen.false) c.requires.held

pub read_column-requires-clause-kinds : goal.read_column-requires-clause-kinds
read_column-requires-clause-kinds g c = field_held HasKind (held_in c.args.dictionaries.now) (schema_fields c.args.schema.now c.args.fields.now) c.loop-i.i (child_as c.field_at-field.result.now (column_kind c.field_at-field.result.now.dtype c.id_at.result c.fields_at.result.now)) (column_stands c.args.schema.now c.args.fields.now c.loop-i.i c.field_at-field.result.now c.id_at.result c.fields_at.result.now c.field_at-field.ensures c.id_at.ensures.id c.fields_at.ensures) c.loop-i.invariant.kinds_left

pub read_column-requires-clause-readable : goal.read_column-requires-clause-readable
read_column-requires-clause-readable g c = readable_on c.loop-i.invariant.keeps.buffers c.requires.readable

-- ── a column that is passed over ──

pub returns-in_err-pass_column-clause-gives : goal.returns-in_err-pass_column-clause-gives
returns-in_err-pass_column-clause-gives g c = λ m d a known holds.
    let e : c.from_residual.result ≡ Err c.in_err-pass_column.field-0.0 = is_err _ _ _ c.from_residual.ensures.0 c.from_residual.ensures.1 (λ f h. h) in
    let asked = columns_of c.args.projection in
    let q = place_in m (schema_fields c.args.schema.now c.args.fields.now) c.loop-i.i first_place in
    let k = c.in_err-pass_column.ensures.exact m q (batch_on c.loop-i.invariant.keeps a.version (c.loop-i.invariant.queues m a)) in
    gives_err _ c.from_residual.result c.in_err-pass_column.field-0.0 _ e (passed_refused m d (held_in c.args.dictionaries.now) asked (schema_fields c.args.schema.now c.args.fields.now) c.loop-i.i c.args.rows c.args.few _ (child_at c.field_at-field.result.now c.args.fields.now c.loop-i.i) c.in_err-pass_column.field-0.0 (passed_stands c.args.schema.now c.args.fields.now c.loop-i.i c.field_at-field.result.now c.field_at-field.ensures) (sym c.is_chosen.ensures ∙ c.if-not-is_chosen.true) (c.loop-i.invariant.done m d a known holds)
    (subst (λ es. Refuses c.in_err-pass_column.field-0.0 es) (passed_counts m c.args.fields.now c.loop-i.i c.field_at-field.result.now q) k.err))

pub returns-in_err-pass_column-clause-fetched : goal.returns-in_err-pass_column-clause-fetched
returns-in_err-pass_column-clause-fetched g c = λ m a.
    let here = c.pass_column.ensures.fetched in
    let before = c.loop-i.invariant.fetched m a in
    omega (arith, here, before)

pub loop-i-preserved-then-not-is_chosen : goal.loop-i-preserved-then-not-is_chosen
loop-i-preserved-then-not-is_chosen g c =
    let asked = columns_of c.args.projection in
    let is : is_chosen asked c.loop-i.i ≡ false = sym c.is_chosen.ensures ∙ c.if-not-is_chosen.true in
    let s = c.args.schema.now in
    let fs = schema_fields c.args.schema.now c.args.fields.now in
    let h = held_in c.args.dictionaries.now in
    let f = c.field_at-field.result.now in
    let i = c.loop-i.i in
    let x = child_at f c.args.fields.now i in
    let e = passed_stands s c.args.fields.now i f c.field_at-field.ensures in
    let n : suc i ≡ i + 1 = omega arith in
    record {
      queues = λ m a.
          let q = place_in m fs i first_place in
          subst (λ q. AllAt m q c.pass_column.new.self.nodes.now.items c.pass_column.new.self.buffers.queue.now.items c.pass_column.new.self.variadic.now.items) (passed_after m c.args.fields.now i f q ∙ sym (next_in m fs i x first_place e) ∙ ap (λ j. place_in m fs j first_place) n) (c.in_ok-pass_column.ensures.takes m _ (batch_on c.loop-i.invariant.keeps a.version (c.loop-i.invariant.queues m a)));
      done = λ m d a known holds.
          let q = place_in m fs i first_place in
          let k = c.in_ok-pass_column.ensures.exact m q (batch_on c.loop-i.invariant.keeps a.version (c.loop-i.invariant.queues m a)) in
          subst (λ j. AreDone m d h asked fs j c.args.rows c.args.few (all_parts_of c.loop-i.arrays.items)) n (passed_done m d h asked fs i c.args.rows c.args.few _ x e is (c.loop-i.invariant.done m d a known holds) (sym (passed_counts m c.args.fields.now i f q) ∙ k.ok.0));
      kinds_left = subst (λ j. AllHeldIn HasKind h (dropped j fs)) n (rest_held HasKind h fs i x e c.loop-i.invariant.kinds_left);
      shape = c.loop-i.invariant.shape;
      count = passed_count asked s i _ f c.field_at-field.ensures is c.loop-i.invariant.count;
      kinds_are = kinds_passed asked s i _ f c.field_at-field.ensures is c.loop-i.invariant.kinds_are;
      within = omega arith;
      keeps = queues_then c.loop-i.invariant.keeps c.pass_column.ensures.keeps;
      faults_stay = c.in_ok-pass_column.ensures.faults_stay ∙ c.loop-i.invariant.faults_stay;
      fetched = λ m a.
          let here = c.pass_column.ensures.fetched in
          let rest = passed_fetched_next m asked fs i c.args.few x e is in
          let before = c.loop-i.invariant.fetched m a in
          omega (arith, here, rest, before);
    }

-- ── a column that is read ──

pub returns-in_err-array-clause-gives : goal.returns-in_err-array-clause-gives
returns-in_err-array-clause-gives g c = λ m d a known holds.
    let e : c.from_residual-in_err-array.result ≡ Err c.in_err-array.field-0.0 = is_err _ _ _ c.from_residual-in_err-array.ensures.0 c.from_residual-in_err-array.ensures.1 (λ f h. h) in
    let asked = columns_of c.args.projection in
    let now = known_on c.loop-i.invariant.keeps.buffers known in
    let k = c.in_err-array.ensures.parts m d (place_in m (schema_fields c.args.schema.now c.args.fields.now) c.loop-i.i first_place) (batch_on c.loop-i.invariant.keeps a.version (c.loop-i.invariant.queues m a)) now holds in
    gives_err _ c.from_residual-in_err-array.result c.in_err-array.field-0.0 _ e (column_refused m d (held_in c.args.dictionaries.now) asked (schema_fields c.args.schema.now c.args.fields.now) c.loop-i.i c.args.rows c.args.few _ (child_as c.field_at-field.result.now (column_kind c.field_at-field.result.now.dtype c.id_at.result c.fields_at.result.now)) c.in_err-array.field-0.0 (column_stands c.args.schema.now c.args.fields.now c.loop-i.i c.field_at-field.result.now c.id_at.result c.fields_at.result.now c.field_at-field.ensures c.id_at.ensures.id c.fields_at.ensures) (sym c.is_chosen.ensures ∙ c.if-not-is_chosen.false) (c.loop-i.invariant.done m d a known holds) k.err)

pub returns-in_err-array-clause-fetched : goal.returns-in_err-array-clause-fetched
returns-in_err-array-clause-fetched g c = λ m a.
    let here = c.read_column.ensures.fetched m (place_in m (schema_fields c.args.schema.now c.args.fields.now) c.loop-i.i first_place) (batch_on c.loop-i.invariant.keeps a.version (c.loop-i.invariant.queues m a)) in
    let rest = chosen_fetched_next m (columns_of c.args.projection) (schema_fields c.args.schema.now c.args.fields.now) c.loop-i.i c.args.few (child_as c.field_at-field.result.now (column_kind c.field_at-field.result.now.dtype c.id_at.result c.fields_at.result.now)) (column_stands c.args.schema.now c.args.fields.now c.loop-i.i c.field_at-field.result.now c.id_at.result c.fields_at.result.now c.field_at-field.ensures c.id_at.ensures.id c.fields_at.ensures) (sym c.is_chosen.ensures ∙ c.if-not-is_chosen.false) in
    let before = c.loop-i.invariant.fetched m a in
    omega (arith, here, rest, before)

pub returns-in_err-push-clause-fetched : goal.returns-in_err-push-clause-fetched
returns-in_err-push-clause-fetched g c = λ m a.
    let here = c.read_column.ensures.fetched m (place_in m (schema_fields c.args.schema.now c.args.fields.now) c.loop-i.i first_place) (batch_on c.loop-i.invariant.keeps a.version (c.loop-i.invariant.queues m a)) in
    let rest = chosen_fetched_next m (columns_of c.args.projection) (schema_fields c.args.schema.now c.args.fields.now) c.loop-i.i c.args.few (child_as c.field_at-field.result.now (column_kind c.field_at-field.result.now.dtype c.id_at.result c.fields_at.result.now)) (column_stands c.args.schema.now c.args.fields.now c.loop-i.i c.field_at-field.result.now c.id_at.result c.fields_at.result.now c.field_at-field.ensures c.id_at.ensures.id c.fields_at.ensures) (sym c.is_chosen.ensures ∙ c.if-not-is_chosen.false) in
    let before = c.loop-i.invariant.fetched m a in
    omega (arith, here, rest, before)

pub loop-i-preserved : goal.loop-i-preserved
loop-i-preserved g c =
    let asked = columns_of c.args.projection in
    let is : is_chosen asked c.loop-i.i ≡ true = sym c.is_chosen.ensures ∙ c.if-not-is_chosen.false in
    let s = c.args.schema.now in
    let fs = schema_fields c.args.schema.now c.args.fields.now in
    let h = held_in c.args.dictionaries.now in
    let f = c.field_at-field.result.now in
    let i = c.loop-i.i in
    let x = child_as f (column_kind f.dtype c.id_at.result c.fields_at.result.now) in
    let e = column_stands s c.args.fields.now i f c.id_at.result c.fields_at.result.now c.field_at-field.ensures c.id_at.ensures.id c.fields_at.ensures in
    let n : suc i ≡ i + 1 = omega arith in
    let p : c.push.new.self.items ≡ c.loop-i.arrays.items ++ c.in_ok-array.array ∷ [] = search rules in
    let z : all_parts_of c.push.new.self.items ≡ all_parts_of c.loop-i.arrays.items ++ parts_of c.in_ok-array.array ∷ [] = ap all_parts_of p ∙ map-append parts_of c.loop-i.arrays.items (c.in_ok-array.array ∷ []) in
    let l : length c.push.new.self.items ≡ length c.loop-i.arrays.items + 1 = ap length p ∙ length-append c.loop-i.arrays.items (c.in_ok-array.array ∷ []) in
    record {
      queues = λ m a. subst (λ q. AllAt m q c.read_column.new.self.nodes.now.items c.read_column.new.self.buffers.queue.now.items c.read_column.new.self.variadic.now.items) (sym (next_in m fs i x first_place e) ∙ ap (λ j. place_in m fs j first_place) n) (c.in_ok-array.ensures.takes m _ (batch_on c.loop-i.invariant.keeps a.version (c.loop-i.invariant.queues m a)));
      done = λ m d a known holds.
          let now = known_on c.loop-i.invariant.keeps.buffers known in
          let on = batch_on c.loop-i.invariant.keeps a.version (c.loop-i.invariant.queues m a) in
          let k = c.in_ok-array.ensures.parts m d (place_in m fs i first_place) on now holds in
          let y = c.in_ok-array.ensures.cells m d (place_in m fs i first_place) on now holds in
          subst (λ ps. AreDone m d h asked fs (i + 1) c.args.rows c.args.few ps) (sym z) (subst (λ j. AreDone m d h asked fs j c.args.rows c.args.few (all_parts_of c.loop-i.arrays.items ++ parts_of c.in_ok-array.array ∷ [])) n (column_done m d h asked fs i c.args.rows c.args.few _ x _ e is (c.loop-i.invariant.done m d a known holds) k.ok.0 y.ok.1 k.ok.1));
      kinds_left = subst (λ j. AllHeldIn HasKind h (dropped j fs)) n (rest_held HasKind h fs i x e c.loop-i.invariant.kinds_left);
      shape = subst (λ ps. have_rows c.args.few ps ≡ true) (sym z) (rows_next c.args.few (all_parts_of c.loop-i.arrays.items) (parts_of c.in_ok-array.array) c.loop-i.invariant.shape c.in_ok-array.ensures.shape.1);
      count = count_next asked s i _ _ f c.field_at-field.ensures is l c.loop-i.invariant.count;
      kinds_are = ap (λ ps. map kind_in ps ++ chosen asked (i + 1) (kinds_of (drop (i + 1) s))) z ∙ kinds_next asked s i _ _ f c.field_at-field.ensures is c.in_ok-array.ensures.shape.0 c.loop-i.invariant.kinds_are;
      within = omega arith;
      keeps = queues_then c.loop-i.invariant.keeps c.read_column.ensures.keeps;
      faults_stay = c.in_ok-array.ensures.faults_stay ∙ c.loop-i.invariant.faults_stay;
      fetched = λ m a.
          let here = c.read_column.ensures.fetched m (place_in m fs i first_place) (batch_on c.loop-i.invariant.keeps a.version (c.loop-i.invariant.queues m a)) in
          let rest = chosen_fetched_next m asked fs i c.args.few x e is in
          let before = c.loop-i.invariant.fetched m a in
          omega (arith, here, rest, before);
    }

-- ── all ──

pub loop-i-init : goal.loop-i-init
loop-i-init g c =
    let asked = columns_of c.args.projection in
    let fs = schema_fields c.args.schema.now c.args.fields.now in
    let h = held_in c.args.dictionaries.now in
    let z : all_parts_of c.new-arrays.result.items ≡ [] = ap all_parts_of c.new-arrays.ensures.items in
    record {
      queues = λ m a. subst (λ q. AllAt m q c.args.self.now.nodes.now.items c.args.self.now.buffers.queue.now.items c.args.self.now.variadic.now.items) (sym (first_place_in m fs first_place)) a.all;
      done = λ m d a known holds. subst (λ ps. AreDone m d h asked fs 0 c.args.rows c.args.few ps) (sym z) (none_done m d h asked fs c.args.rows c.args.few);
      kinds_left = c.requires.kinds;
      shape = subst (λ ps. have_rows c.args.few ps ≡ true) (sym z) refl;
      count = let n = ap length c.new-arrays.ensures.items in omega (arith, n);
      kinds_are = ap (λ ps. map kind_in ps ++ chosen asked 0 (kinds_of c.args.schema.now)) z;
      within = omega arith;
      keeps = search rules;
      faults_stay = refl;
      fetched = λ m a. let e = ap (λ q. chosen_fetched m asked fs 0 q c.args.few) (first_place_in m fs first_place) in omega (arith, e);
    }

pub returns-clause-gives : goal.returns-clause-gives
returns-clause-gives g c = λ m d a known holds.
    let w = width_by (λ p. p.1) c.args.schema.now c.args.fields.now in
    all_cells m d (held_in c.args.dictionaries.now) (columns_of c.args.projection) (schema_fields c.args.schema.now c.args.fields.now) c.loop-i.i c.args.rows c.args.few _ (omega (arith, w)) (c.loop-i.invariant.done m d a known holds)

pub returns-clause-parts : goal.returns-clause-parts
returns-clause-parts g c = λ m d a known holds.
    let w = width_by (λ p. p.1) c.args.schema.now c.args.fields.now in
    all_parts m d (held_in c.args.dictionaries.now) (columns_of c.args.projection) (schema_fields c.args.schema.now c.args.fields.now) c.loop-i.i c.args.rows c.args.few _ (omega (arith, w)) (c.loop-i.invariant.done m d a known holds)

pub returns-clause-count : goal.returns-clause-count
returns-clause-count g c = count_end (columns_of c.args.projection) c.args.schema.now c.loop-i.i _ (omega arith) c.loop-i.invariant.count

pub returns-clause-kinds : goal.returns-clause-kinds
returns-clause-kinds g c = kinds_end (columns_of c.args.projection) c.args.schema.now c.loop-i.i _ (omega arith) c.loop-i.invariant.kinds_are

pub returns-clause-fetched : goal.returns-clause-fetched
returns-clause-fetched g c = λ m a. let before = c.loop-i.invariant.fetched m a in omega (arith, before)
