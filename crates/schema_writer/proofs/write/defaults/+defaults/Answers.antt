use Rattle.std.proofs.Common.{◌≡◌, ◌+◌, ◌<◌, [], ◌∷◌, ◌++◌, map, take, length, Some, None, pos, ap, subst, ◌∙◌, arith}
use Rattle.std.proofs.lemmas.List.{map-append}
use Rattle.arrow_spec.specs.Kinds as kind
use Rattle.arrow_types.specs.Child.{one_field}
use Rattle.arrow_types.specs.KindOf.{kind_of, child_of}
use Rattle.ipc_fields.specs.IpcFields.{ids_of, tree_of}
use Rattle.schema_writer.specs.Defaults.{IsDefault, AreDefault}
use Rattle.arrow_types.proofs.DataTypes.{kind_of_FixedSizeList, kind_of_Map, kind_of_Dictionary}
use Rattle.schema_writer.proofs.Counting.{tree_at, at_kind, fixed_default, map_default, dictionary_default, default_step, one_more}
use Rattle.schema_writer.proofs.write.defaults.+defaults.Goals as goal

pub default_of-returns-in_ok-only_default-in-FixedSizeList : goal.default_of-returns-in_ok-only_default-in-FixedSizeList
default_of-returns-in_ok-only_default-in-FixedSizeList t c =
    let own = ids_of c.in_ok-only_default-in-FixedSizeList.field-0.items in
    let f = c.in-FixedSizeList.f in
    let m = c.in-FixedSizeList.field-1 in
    let n = c.only_default-in-FixedSizeList.new.next in
    let x : kind_of c.args.t.now ≡ kind.fixed_size_list m (one_field (child_of f.value)) = ap kind_of c.in-FixedSizeList.is ∙ kind_of_FixedSizeList f m in
    let h : AreDefault (one_field (child_of f.value)) c.args.next.now n own = subst (λ g. AreDefault (one_field (child_of g)) c.args.next.now n own) c.deref-in-FixedSizeList.ensures c.in_ok-only_default-in-FixedSizeList.ensures in
    at_kind (kind.fixed_size_list m (one_field (child_of f.value))) (kind_of c.args.t.now) c.args.next.now n (tree_of c.parent-in-FixedSizeList.result) None own x c.parent-in-FixedSizeList.ensures (fixed_default m (one_field (child_of f.value)) c.args.next.now n own h)

pub default_of-returns-in_ok-only_default-in-Map : goal.default_of-returns-in_ok-only_default-in-Map
default_of-returns-in_ok-only_default-in-Map t c =
    let own = ids_of c.in_ok-only_default-in-Map.field-0.items in
    let f = c.in-Map.f in
    let m = c.in-Map.field-1 in
    let n = c.only_default-in-Map.new.next in
    let x : kind_of c.args.t.now ≡ kind.map m (one_field (child_of f.value)) = ap kind_of c.in-Map.is ∙ kind_of_Map f m in
    let h : AreDefault (one_field (child_of f.value)) c.args.next.now n own = subst (λ g. AreDefault (one_field (child_of g)) c.args.next.now n own) c.deref-in-Map.ensures c.in_ok-only_default-in-Map.ensures in
    at_kind (kind.map m (one_field (child_of f.value))) (kind_of c.args.t.now) c.args.next.now n (tree_of c.parent-in-Map.result) None own x c.parent-in-Map.ensures (map_default m (one_field (child_of f.value)) c.args.next.now n own h)

pub default_of-returns-in_ok-default_of-in-Dictionary : goal.default_of-returns-in_ok-default_of-in-Dictionary
default_of-returns-in_ok-default_of-in-Dictionary t c =
    let s = c.args.next.now in
    let n = c.default_of.new.next in
    let v = c.in-Dictionary.values in
    let inner = tree_of c.in_ok-default_of-in-Dictionary.field-0 in
    let x : kind_of c.args.t.now ≡ kind.dictionary c.in-Dictionary.field-0 c.in-Dictionary.field-2 (pos 0) (kind_of v.value) = ap kind_of c.in-Dictionary.is ∙ kind_of_Dictionary c.in-Dictionary.field-0 v c.in-Dictionary.field-2 in
    let h : IsDefault (kind_of v.value) (s + 1) n inner.id inner.children =
    subst (λ m. IsDefault (kind_of v.value) m n inner.id inner.children) c.in_ok-id-in-Dictionary.ensures.next (subst (λ k. IsDefault (kind_of k) c.take_id.new.next n inner.id inner.children) c.deref-in-Dictionary.ensures c.in_ok-default_of-in-Dictionary.ensures) in
    let e : tree_of c.encoded.result ≡ tree_at (Some (pos s)) inner.children = c.encoded.ensures ∙ ap (λ z. tree_at (Some (pos z)) inner.children) c.in_ok-id-in-Dictionary.ensures.id in
    at_kind _ (kind_of c.args.t.now) s n (tree_of c.encoded.result) (Some (pos s)) inner.children x e (dictionary_default c.in-Dictionary.field-0 c.in-Dictionary.field-2 (pos 0) (kind_of v.value) s n inner.id inner.children h)

pub defaults_of-loop-field-preserved : goal.defaults_of-loop-field-preserved
defaults_of-loop-field-preserved t c =
    let x = c.field-item.result in
    let f = c.in_ok-default_field.field-0 in
    let i = c.loop-field.field-index in
    let lt : i < length c.args.fields.now = omega (arith, c.loop-field-test.true) in
    let more : map child_of (take (i + 1) c.args.fields.now) ≡ map child_of (take i c.args.fields.now) ++ child_of x ∷ [] = ap (map child_of) (one_more c.args.fields.now i x lt c.field-item.is) ∙ map-append child_of (take i c.args.fields.now) (x ∷ []) in
    let pushed : map tree_of c.push.new.self.items ≡ map tree_of c.loop-field.ipc_fields.items ++ tree_of f ∷ [] = ap (map tree_of) c.in_ok-push.ensures.items ∙ map-append tree_of c.loop-field.ipc_fields.items (f ∷ []) in
    default_step (map child_of (take i c.args.fields.now)) (map child_of (take (i + 1) c.args.fields.now)) (map tree_of c.loop-field.ipc_fields.items) (map tree_of c.push.new.self.items) (child_of x) (tree_of f) c.args.next.now c.loop-field.next c.default_field.new.next more pushed c.loop-field.invariant c.in_ok-default_field.ensures
