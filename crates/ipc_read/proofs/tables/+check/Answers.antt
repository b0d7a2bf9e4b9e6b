use Rattle.std.proofs.Common.{◌≡◌, ◌+◌, ◌<◌, ◌≤◌, refl, sym, ◌∙◌, arith, rules, subst, length}
use Rattle.arrow_spec.specs.Readings.{Refuses}
use Rattle.arrow_types.specs.KindOf.{kind_of, fields_of}
use Rattle.ipc_read.proofs.Refusals.{err_from}
use Rattle.ipc_read.proofs.Passing.{answers_same}
use Rattle.ipc_read.proofs.Nested.{kind_size, fields_size, counted_tree, list_tree, union_tree, dictionary_tree, child_size}
use Rattle.ipc_read.proofs.ColumnKinds.{column_plain, column_list, list_floats, column_counted, counted_floats, column_union, union_floats, column_values, values_floats, child_column, next_floats, child_floats, no_floats}
use Rattle.ipc_read.proofs.tables.+check.Goals as goal

pub check_kind-check_children-requires : goal.check_kind-check_children-requires
check_kind-check_children-requires t c =
    let k = c.in-Some.ensures.columns in
    let z : kind_size (kind_of c.args.dtype.now) ≡ 1 + fields_size (fields_of c.in-Some.children.now) = omega (arith, counted_tree (kind_of c.args.dtype.now) _ (fields_of c.in-Some.children.now) k) in
    (search (rules, z), column_counted (kind_of c.args.dtype.now) _ _ k c.requires.column)

pub check_kind-check_kind-requires : goal.check_kind-check_kind-requires
check_kind-check_kind-requires t c =
    let k = c.in-Some-list_child.ensures.child in
    let z : kind_size (kind_of c.args.dtype.now) ≡ 1 + kind_size (kind_of c.in-Some-list_child.child.now.dtype) = omega (arith, list_tree (kind_of c.args.dtype.now) _ c.in-Some-list_child.child.now k) in
    (search (rules, z), column_list (kind_of c.args.dtype.now) _ c.in-Some-list_child.child.now k c.requires.column)

pub check_kind-returns-in-Some-list_child-clause-exact : goal.check_kind-returns-in-Some-list_child-clause-exact
check_kind-returns-in-Some-list_child-clause-exact t c = answers_same _ c.check_kind.result _ _ _ (sym (list_floats (kind_of c.args.dtype.now) _ c.in-Some-list_child.child.now c.in-Some-list_child.ensures.child)) c.check_kind.ensures.exact

pub check_kind-check_plain-requires : goal.check_kind-check_plain-requires
check_kind-check_plain-requires t c = record { plain = column_plain (kind_of c.args.dtype.now) c.requires.column c.in-None.ensures.none c.in-None-list_child.ensures.none c.in-None-union_fields.ensures.none c.in-None-dictionary_types.ensures.none }

pub check_kind-check_kind-requires-in-Some-dictionary_types : goal.check_kind-check_kind-requires-in-Some-dictionary_types
check_kind-check_kind-requires-in-Some-dictionary_types t c =
    let k = c.in-Some-dictionary_types.ensures.dictionary in
    let z : kind_size (kind_of c.args.dtype.now) ≡ 1 + kind_size (kind_of c.in-Some-dictionary_types.values.now) = omega (arith, dictionary_tree (kind_of c.args.dtype.now) _ (kind_of c.in-Some-dictionary_types.values.now) k) in
    (search (rules, z), column_values (kind_of c.args.dtype.now) _ _ k c.requires.column)

pub check_kind-returns-in-Some-dictionary_types-clause-exact : goal.check_kind-returns-in-Some-dictionary_types-clause-exact
check_kind-returns-in-Some-dictionary_types-clause-exact t c = answers_same _ c.check_kind-in-Some-dictionary_types.result _ _ _ (sym (values_floats (kind_of c.args.dtype.now) _ _ c.in-Some-dictionary_types.ensures.dictionary)) c.check_kind-in-Some-dictionary_types.ensures.exact

pub check_kind-check_children-requires-in-Some-union_fields : goal.check_kind-check_children-requires-in-Some-union_fields
check_kind-check_children-requires-in-Some-union_fields t c =
    let k = c.in-Some-union_fields.ensures.union in
    let z : kind_size (kind_of c.args.dtype.now) ≡ 1 + fields_size (fields_of c.in-Some-union_fields.children.now) = omega (arith, union_tree (kind_of c.args.dtype.now) _ (fields_of c.in-Some-union_fields.children.now) k) in
    (search (rules, z), column_union (kind_of c.args.dtype.now) _ _ k c.requires.column)

pub check_kind-returns-in-Some-union_fields-clause-exact : goal.check_kind-returns-in-Some-union_fields-clause-exact
check_kind-returns-in-Some-union_fields-clause-exact t c = answers_same _ c.check_children-in-Some-union_fields.result _ _ _ (sym (union_floats (kind_of c.args.dtype.now) _ _ c.in-Some-union_fields.ensures.union)) c.check_children-in-Some-union_fields.ensures.exact

pub check_kind-returns-in-Some-clause-exact : goal.check_kind-returns-in-Some-clause-exact
check_kind-returns-in-Some-clause-exact t c = answers_same _ c.check_children.result _ _ _ (sym (counted_floats (kind_of c.args.dtype.now) _ _ c.in-Some.ensures.columns)) c.check_children.ensures.exact

pub check_children-check_kind-requires : goal.check_children-check_kind-requires
check_children-check_kind-requires t c =
    let below : c.loop-child.child-index < length c.args.children.now = omega arith in
    let z : kind_size (kind_of c.child-item.result.dtype) ≤ fields_size (fields_of c.args.children.now) = child_size c.args.children.now c.loop-child.child-index c.child-item.result below c.child-item.is in
    (search (rules, z), child_column c.args.children.now c.loop-child.child-index c.child-item.result below c.child-item.is c.requires.columns)

pub check_children-returns-in_err-check_kind-clause-exact : goal.check_children-returns-in_err-check_kind-clause-exact
check_children-returns-in_err-check_kind-clause-exact t c =
    err_from _ _ c.in_err-check_kind.field-0.0 _ _ _ c.from_residual.ensures.0 c.from_residual.ensures.1 (λ x e. e)
    (subst (λ es. Refuses c.in_err-check_kind.field-0.0 es) (sym c.loop-child.invariant) (child_floats c.args.children.now c.loop-child.child-index c.child-item.result c.in_err-check_kind.field-0.0 (omega arith) c.child-item.is c.in_err-check_kind.ensures.exact.err))

pub check_children-loop-child-preserved : goal.check_children-loop-child-preserved
check_children-loop-child-preserved t c = c.loop-child.invariant ∙ next_floats c.args.children.now c.loop-child.child-index c.child-item.result (omega arith) c.child-item.is c.in_ok-check_kind.ensures.exact.ok.0

pub check_children-returns-clause-exact : goal.check_children-returns-clause-exact
check_children-returns-clause-exact t c = record { ok = (c.loop-child.invariant ∙ no_floats c.args.children.now c.loop-child.child-index (omega arith), refl); err = tt }
