use Rattle.std.proofs.Common.{◌≡◌, ◌↔◌, IsTrue, to_z, of_z, w64, ◌+◌, ◌<◌, ◌≤◌, None, suc, length, sym, ◌∙◌, arith, rules, subst}
use Rattle.std.proofs.lemmas.Int.{to_z-of_z}
use Rattle.arrow_types.specs.declared.data_type.Field.{Field}
use Rattle.arrow_types.specs.KindOf.{kind_of, child_of, fields_of}
use Rattle.ipc_fields.specs.IpcFields.{ids_of, kind_with}
use Rattle.ipc_fields.specs.Uses.{id_under}
use Rattle.ipc_read_laws.specs.Held.{HasKind, HasKinds}
use Rattle.ipc_read.specs.Held.{held_in, column_kind, column_fields, ordered_in}
use Rattle.ipc_read_laws.proofs.PlainTypes.{plain_with}
use Rattle.ipc_read.proofs.ColumnIds.{counted_with, union_with, dictionary_with}
use Rattle.ipc_read.proofs.HeldKinds.{SeenHeld, counted_held, held_counted, list_held, held_list, union_held, held_union, dictionary_held, held_dictionary, field_held, none_seen, one_seen, all_seen, told_as, told_false, told_true, held_as, childless_held}
use Rattle.ipc_read.proofs.LeftFields.{child_as, child_stands, list_column, width_by}
use Rattle.ipc_read.proofs.Nested.{kind_size, fields_size, counted_tree, list_tree, union_tree, child_size}
use Rattle.ipc_read.proofs.held.+held.Goals as goal

pub is_held-are_held-requires : goal.is_held-are_held-requires
is_held-are_held-requires t c =
    let z : kind_size (kind_of c.args.dtype.now) ≡ 1 + fields_size (fields_of c.in-Some.children.now) = omega (arith, counted_tree (kind_of c.args.dtype.now) _ (fields_of c.in-Some.children.now) c.in-Some.ensures.columns) in
    search (rules, z)

pub is_held-returns-in-Some : goal.is_held-returns-in-Some
is_held-returns-in-Some t c =
    let h = held_in c.args.dictionaries.now in
    let k = column_kind c.args.dtype.now c.args.id c.args.fields.now in
    let fs = column_fields c.in-Some.children.now c.args.fields.now in
    let u = counted_with (kind_of c.args.dtype.now) c.args.id (ids_of c.args.fields.now) _ (fields_of c.in-Some.children.now) c.in-Some.ensures.columns in
    told_as c.are_held.result c.are_held.ensures (held_counted HasKind h k _ fs u) (counted_held HasKind h k _ fs u)

pub is_held-is_held-requires : goal.is_held-is_held-requires
is_held-is_held-requires t c =
    let z : kind_size (kind_of c.args.dtype.now) ≡ 1 + kind_size (kind_of c.in-Some-list_child.child.now.dtype) = omega (arith, list_tree (kind_of c.args.dtype.now) _ c.in-Some-list_child.child.now c.in-Some-list_child.ensures.child) in
    search (rules, z)

pub is_held-returns-in-Some-list_child : goal.is_held-returns-in-Some-list_child
is_held-returns-in-Some-list_child t c =
    let h = held_in c.args.dictionaries.now in
    let x = c.in-Some-list_child.child.now in
    let k = column_kind c.args.dtype.now c.args.id c.args.fields.now in
    let y = child_as x (column_kind x.dtype c.id_at.result c.fields_at.result.now) in
    let u = list_column c.args.dtype.now c.args.id c.args.fields.now _ x c.id_at.result c.fields_at.result.now c.in-Some-list_child.ensures.child c.id_at.ensures.id c.fields_at.ensures in
    told_as c.is_held.result c.is_held.ensures (held_list HasKind h k _ y u) (list_held HasKind h k _ y u)

pub is_held-are_held-requires-in-Some-union_fields : goal.is_held-are_held-requires-in-Some-union_fields
is_held-are_held-requires-in-Some-union_fields t c =
    let z : kind_size (kind_of c.args.dtype.now) ≡ 1 + fields_size (fields_of c.in-Some-union_fields.children.now) = omega (arith, union_tree (kind_of c.args.dtype.now) _ (fields_of c.in-Some-union_fields.children.now) c.in-Some-union_fields.ensures.union) in
    search (rules, z)

pub is_held-returns-in-Some-union_fields : goal.is_held-returns-in-Some-union_fields
is_held-returns-in-Some-union_fields t c =
    let h = held_in c.args.dictionaries.now in
    let k = column_kind c.args.dtype.now c.args.id c.args.fields.now in
    let fs = column_fields c.in-Some-union_fields.children.now c.args.fields.now in
    let u = union_with (kind_of c.args.dtype.now) c.args.id (ids_of c.args.fields.now) _ (fields_of c.in-Some-union_fields.children.now) c.in-Some-union_fields.ensures.union in
    told_as c.are_held-in-Some-union_fields.result c.are_held-in-Some-union_fields.ensures (held_union HasKind h k _ fs u) (union_held HasKind h k _ fs u)

pub is_held-returns-in-Some-dictionary_types : goal.is_held-returns-in-Some-dictionary_types
is_held-returns-in-Some-dictionary_types t c =
    let h = held_in c.args.dictionaries.now in
    let below = ids_of c.args.fields.now in
    let l = kind_of c.in-Some-dictionary_types.values.now in
    let k = column_kind c.args.dtype.now c.args.id c.args.fields.now in
    let o = ordered_in (kind_of c.args.dtype.now) in
    let i = id_under c.args.id in
    let u = dictionary_with (kind_of c.args.dtype.now) c.args.id below _ l c.in-Some-dictionary_types.ensures.dictionary in
    let e = plain_with l None below in
    let z : to_z w64 (of_z w64 c.id_or_zero.result) ≡ i = to_z-of_z w64 c.id_or_zero.result (search rules) ∙ c.id_or_zero.ensures in
    told_as c.are_values.result c.are_values.ensures
    (λ v. held_dictionary HasKind h k _ o i (kind_with l None below) u (held_as (h i) l (kind_with l None below) (sym e) (subst (λ z. Rattle.std.proofs.Common.IfSome (h z) (HasKind l)) z v)))
    (λ v. subst (λ z. Rattle.std.proofs.Common.IfSome (h z) (HasKind l)) (sym z) (held_as (h i) (kind_with l None below) l e (dictionary_held HasKind h k _ o i (kind_with l None below) u v)))

pub is_held-returns-in-None-dictionary_types : goal.is_held-returns-in-None-dictionary_types
is_held-returns-in-None-dictionary_types t c = told_true (childless_held HasKind (held_in c.args.dictionaries.now) (kind_of c.args.dtype.now) c.args.id (ids_of c.args.fields.now) c.in-None.ensures.none c.in-None-list_child.ensures.none c.in-None-union_fields.ensures.none c.in-None-dictionary_types.ensures.none)

-- ── fields ──

pub are_held-is_held-requires : goal.are_held-is_held-requires
are_held-is_held-requires t c =
    let below : c.loop-i.i < length c.args.children.now = omega arith in
    let z : kind_size (kind_of c.index-children-i.result.dtype) ≤ fields_size (fields_of c.args.children.now) = child_size c.args.children.now c.loop-i.i c.index-children-i.result below c.index-children-i.is in
    search (rules, z)

pub are_held-loop-i-init : goal.are_held-loop-i-init
are_held-loop-i-init t c = none_seen HasKind (held_in c.args.dictionaries.now) (column_fields c.args.children.now c.args.fields.now)

pub are_held-returns-then-not-is_held : goal.are_held-returns-then-not-is_held
are_held-returns-then-not-is_held t c =
    let h = held_in c.args.dictionaries.now in
    let fs = column_fields c.args.children.now c.args.fields.now in
    let x = c.index-children-i.result in
    let y = child_as x (column_kind x.dtype c.id_at.result c.fields_at.result.now) in
    let e = child_stands c.args.children.now c.args.fields.now c.loop-i.i x c.id_at.result c.fields_at.result.now (omega arith) c.index-children-i.is c.id_at.ensures.id c.fields_at.ensures in
    let t = subst (λ (y : Field). IsTrue c.is_held.result ↔ HasKinds h (column_kind y.dtype c.id_at.result c.fields_at.result.now)) (sym c.index-children-i.is) c.is_held.ensures in
    told_false c.is_held.result c.if-not-is_held.true t (λ v. field_held HasKind h fs c.loop-i.i y e (c.loop-i.invariant.left v))

pub are_held-loop-i-preserved : goal.are_held-loop-i-preserved
are_held-loop-i-preserved t c =
    let h = held_in c.args.dictionaries.now in
    let fs = column_fields c.args.children.now c.args.fields.now in
    let i = c.loop-i.i in
    let x = c.index-children-i.result in
    let y = child_as x (column_kind x.dtype c.id_at.result c.fields_at.result.now) in
    let e = child_stands c.args.children.now c.args.fields.now i x c.id_at.result c.fields_at.result.now (omega arith) c.index-children-i.is c.id_at.ensures.id c.fields_at.ensures in
    let n : suc i ≡ i + 1 = omega arith in
    let t = subst (λ (y : Field). IsTrue c.is_held.result ↔ HasKinds h (column_kind y.dtype c.id_at.result c.fields_at.result.now)) (sym c.index-children-i.is) c.is_held.ensures in
    subst (SeenHeld HasKind h fs) n (one_seen HasKind h fs i y e (t.0 c.if-not-is_held.false) c.loop-i.invariant)

pub are_held-returns : goal.are_held-returns
are_held-returns t c =
    let fs = column_fields c.args.children.now c.args.fields.now in
    let w = width_by child_of c.args.children.now c.args.fields.now in
    told_true (all_seen HasKind (held_in c.args.dictionaries.now) fs c.loop-i.i (omega (arith, w)) c.loop-i.invariant)
