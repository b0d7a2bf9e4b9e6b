use Rattle.std.proofs.Common.{◌≡◌, ◌+◌, ◌-◌, ◌*◌, suc, ap, sym, ◌∙◌, map, length, inl, refl, subst, Ok, Err, arith, ◌∷◌, ◌++◌, [], ◌≤◌}
use Rattle.ipc_fields.specs.Causes.{Decodes}
use Rattle.arrow_types.specs.KindOf.{child_of}
use Rattle.ipc_fields.specs.IpcFields.{tree_of}
use Rattle.schema_reader.specs.ReadViews.{head_in, children_in, before_in, entry_in, child_with}
use Rattle.schema_reader.proofs.Fields.{none_below, entry_deep, entry_level, head_refused, below_refused, entry_read, entries_begun, entries_more, entries_stopped, entries_done, shapes_more}
use Rattle.ipc_fields.proofs.Steps.{refused_with, is_err}
use Rattle.schema_reader.proofs.Entries.{length_from, length-one, first_part}
use Rattle.schema_reader.specs.Parts.{entry_at, entries_at, entry_by}
use Rattle.schema_reader.specs.declared.head.Counted.{Counted}
use Rattle.std.proofs.lemmas.List.{map-append}
use Rattle.schema_reader.proofs.field.+read.Goals as goal

pub read_below-returns-in-None-clause-gives : goal.read_below-returns-in-None-clause-gives
read_below-returns-in-None-clause-gives t c = λ b h. rw (c.in-None.is, c.new.ensures.items) (none_below c.args.levels b (before_in c.args.before))

pub read_field-returns-then-levels-eq0-clause-gives : goal.read_field-returns-then-levels-eq0-clause-gives
read_field-returns-then-levels-eq0-clause-gives t c = rw (entry_deep c.args.levels c.args.fields.now.bytes (c.args.fields.now.vector.first + 4 * c.args.i) (before_in c.args.before) c.if-levels-eq0.true) (inl refl)

pub read_field-returns-in_err-head-clause-gives : goal.read_field-returns-in_err-head-clause-gives
read_field-returns-in_err-head-clause-gives t c =
    let b = c.args.fields.now.bytes in
    let at = c.args.fields.now.vector.first + 4 * c.args.i in
    let level : c.args.levels ≡ suc (c.args.levels - 1) = omega arith in
    let e : c.from_residual.result ≡ Err c.in_err-head.field-0.0 = is_err _ _ _ c.from_residual.ensures.0 c.from_residual.ensures.1 (λ f h. h) in
    refused_with entry_in c.from_residual.result _ c.in_err-head.field-0.0 e (rw (entry_level c.args.levels (c.args.levels - 1) b at (before_in c.args.before) level) (head_refused (c.args.levels - 1) b at (before_in c.args.before) c.in_err-head.field-0.0 c.in_err-head.ensures.gives))

pub read_field-returns-in_err-children-clause-gives : goal.read_field-returns-in_err-children-clause-gives
read_field-returns-in_err-children-clause-gives t c =
    let b = c.args.fields.now.bytes in
    let at = c.args.fields.now.vector.first + 4 * c.args.i in
    let level : c.args.levels ≡ suc (c.args.levels - 1) = omega arith in
    let e : c.from_residual-in_err-children.result ≡ Err c.in_err-children.field-0.0 = is_err _ _ _ c.from_residual-in_err-children.ensures.0 c.from_residual-in_err-children.ensures.1 (λ f h. h) in
    refused_with entry_in c.from_residual-in_err-children.result _ c.in_err-children.field-0.0 e (rw (entry_level c.args.levels (c.args.levels - 1) b at (before_in c.args.before) level) (below_refused (c.args.levels - 1) b at (before_in c.args.before) (head_in c.in_ok-head.head) c.in_err-children.field-0.0 c.in_ok-head.ensures.gives (c.in_err-children.ensures.gives b (first_part b c.in_ok-head.head.form.children c.in_ok-head.ensures.bytes))))

pub read_field-returns-clause-gives : goal.read_field-returns-clause-gives
read_field-returns-clause-gives t c =
    let b = c.args.fields.now.bytes in
    let at = c.args.fields.now.vector.first + 4 * c.args.i in
    let k = c.args.levels - 1 in
    let level : c.args.levels ≡ suc k = omega arith in
    let h = head_in c.in_ok-head.head in
    let below = children_in c.in_ok-children.children in
    let read : entries_at k b h.children h.before ≡ Ok below = c.in_ok-children.ensures.gives b (first_part b c.in_ok-head.head.form.children c.in_ok-head.ensures.bytes) in
    let whole : entry_at c.args.levels b at (before_in c.args.before) ≡ entry_by h below = entry_level c.args.levels k b at (before_in c.args.before) level ∙ entry_read k b at (before_in c.args.before) h below c.in_ok-head.ensures.gives read in
    subst (Decodes entry_in c.make_entry.result) (sym whole) c.make_entry.ensures.gives

pub read_fields-loop-i-init : goal.read_fields-loop-i-init
read_fields-loop-i-init t c = record {
  gives = entries_begun c.args.levels c.args.fields.now.bytes c.args.fields.now.vector (map child_of c.new.result.items) (map tree_of c.new-2.result.items) (before_in c.args.before) (ap (map child_of) c.new.ensures.items);
  count = ap length c.new.ensures.items;
  both = ap length c.new-2.ensures.items;
  shapes = rw (c.new.ensures.items, c.new-2.ensures.items) refl;
  few = c.requires.pairs;
}

pub read_fields-returns-in_err-entry-clause-gives : goal.read_fields-returns-in_err-entry-clause-gives
read_fields-returns-in_err-entry-clause-gives t c =
    let l = c.loop-i in
    let e : c.from_residual.result ≡ Err c.in_err-entry.field-0.0 = is_err _ _ _ c.from_residual.ensures.0 c.from_residual.ensures.1 (λ f h. h) in
    refused_with children_in c.from_residual.result _ c.in_err-entry.field-0.0 e (entries_stopped c.args.levels c.args.fields.now.bytes c.args.fields.now.vector l.i (map child_of l.read.fields.items) (map tree_of l.read.ipc_fields.items) (before_in l.read.before) _ c.in_err-entry.field-0.0 (omega arith) l.invariant.gives c.in_err-entry.ensures.gives)

pub read_fields-loop-i-preserved : goal.read_fields-loop-i-preserved
read_fields-loop-i-preserved t c =
    let l = c.loop-i in
    let v = l.invariant in
    let p = c.in_ok-push_entry.ensures in
    let entry = c.in_ok-entry.entry in
    let same : length (map child_of l.read.fields.items) ≡ length (map tree_of l.read.ipc_fields.items) = length_from child_of l.read.fields.items ∙ v.count ∙ sym v.both ∙ sym (length_from tree_of l.read.ipc_fields.items) in
    let fields : map child_of c.push_entry.new.children.fields.items ≡ map child_of l.read.fields.items ++ child_of entry.field ∷ [] = ap (map child_of) p.fields ∙ map-append child_of l.read.fields.items (entry.field ∷ []) in
    let trees : map tree_of c.push_entry.new.children.ipc_fields.items ≡ map tree_of l.read.ipc_fields.items ++ tree_of entry.ipc_field ∷ [] = ap (map tree_of) p.ipc_fields ∙ map-append tree_of l.read.ipc_fields.items (entry.ipc_field ∷ []) in
    let got : entry_at c.args.levels c.args.fields.now.bytes (c.args.fields.now.vector.first + 4 * l.i) (before_in l.read.before) ≡ Ok (child_with (child_of entry.field) (tree_of entry.ipc_field), before_in c.push_entry.new.children.before) = c.in_ok-entry.ensures.gives ∙ ap (λ b. Ok (child_with (child_of entry.field) (tree_of entry.ipc_field), before_in b)) (sym p.before) in
    record {
      gives = entries_more c.args.levels c.args.fields.now.bytes c.args.fields.now.vector l.i (map child_of l.read.fields.items) _ (map tree_of l.read.ipc_fields.items) _ (before_in l.read.before) (before_in c.push_entry.new.children.before) (child_of entry.field) (tree_of entry.ipc_field) _ (omega arith) same v.gives got fields trees;
      count = ap length p.fields ∙ length-one l.read.fields.items entry.field ∙ ap (λ n. n + 1) v.count;
      both = ap length p.ipc_fields ∙ length-one l.read.ipc_fields.items entry.ipc_field ∙ ap (λ n. n + 1) v.both;
      shapes = shapes_more (map child_of l.read.fields.items) _ (map tree_of l.read.ipc_fields.items) _ (child_of entry.field) (tree_of entry.ipc_field) same v.shapes c.in_ok-entry.ensures.shape fields trees;
      few = subst (λ (b : Counted). b.pairs ≤ 1048576) (sym p.before) c.in_ok-entry.ensures.few;
    }

pub read_fields-returns-clause-gives : goal.read_fields-returns-clause-gives
read_fields-returns-clause-gives t c =
    let l = c.loop-i in
    let v = l.invariant in
    let same : length (map child_of l.read.fields.items) ≡ length (map tree_of l.read.ipc_fields.items) = length_from child_of l.read.fields.items ∙ v.count ∙ sym v.both ∙ sym (length_from tree_of l.read.ipc_fields.items) in
    entries_done c.args.levels c.args.fields.now.bytes c.args.fields.now.vector l.i (map child_of l.read.fields.items) (map tree_of l.read.ipc_fields.items) (before_in l.read.before) _ (omega arith) same v.gives
