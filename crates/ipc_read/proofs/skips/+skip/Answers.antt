use Rattle.std.proofs.Common.{◌≡◌, ◌+◌, refl, sym, ap, ◌∙◌, arith, string_bytes}
use Rattle.std.specs.Option.{option_map}
use Rattle.arrow_spec.specs.Kinds as kind
use Rattle.arrow_spec.specs.Counts.{buffers_of, union_buffers}
use Rattle.arrow_types.specs.KindOf.{kind_of, fields_of}
use Rattle.arrow_types.specs.declared.data_type.UnionType.{out-UnionType}
use Rattle.arrow_types.specs.declared.data_type.ExtensionType.{out-ExtensionType}
use Rattle.arrow_types.proofs.DataTypes.{kind_of_List, kind_of_LargeList, kind_of_Map, kind_of_FixedSizeList, kind_of_Union, kind_of_Extension, extension_kind}
use Rattle.arrow_types.proofs.Sameness.{kind_of_Struct, union_kind_of_is}
use Rattle.ipc_read.proofs.Passed.{none_passed, next_passed, all_passed, passed_until, own_refused, refused_as, several_children, one_child, inner_passes, flat_passes}
use Rattle.ipc_read.proofs.skips.+skip.Goals as goal

pub skip-returns-in-List : goal.skip-returns-in-List
skip-returns-in-List t c =
    one_child 2 c.from_ref.result.now c.deref.result.now c.in-List.child.value _ _ c.args.version _ _ _ _ _ _ c.skip_children.result (ap kind_of c.in-List.is ∙ kind_of_List c.in-List.child) c.from_ref.ensures.value c.deref.ensures (record { nodes = refl; buffers = λ vs v. refl; views = refl }) c.skip_children.ensures

pub skip-returns-in-LargeList : goal.skip-returns-in-LargeList
skip-returns-in-LargeList t c =
    one_child 2 c.from_ref-in-LargeList.result.now c.deref-in-LargeList.result.now c.in-LargeList.child.value _ _ c.args.version _ _ _ _ _ _ c.skip_children-in-LargeList.result (ap kind_of c.in-LargeList.is ∙ kind_of_LargeList c.in-LargeList.child) c.from_ref-in-LargeList.ensures.value c.deref-in-LargeList.ensures (record { nodes = refl; buffers = λ vs v. refl; views = refl }) c.skip_children-in-LargeList.ensures

pub skip-returns-in-Map : goal.skip-returns-in-Map
skip-returns-in-Map t c =
    one_child 2 c.from_ref-in-Map.result.now c.deref-in-Map.result.now c.in-Map.child.value _ _ c.args.version _ _ _ _ _ _ c.skip_children-in-Map.result (ap kind_of c.in-Map.is ∙ kind_of_Map c.in-Map.child c.in-Map.field-1) c.from_ref-in-Map.ensures.value c.deref-in-Map.ensures (record { nodes = refl; buffers = λ vs v. refl; views = refl }) c.skip_children-in-Map.ensures

pub skip-returns-in-FixedSizeList : goal.skip-returns-in-FixedSizeList
skip-returns-in-FixedSizeList t c =
    one_child 1 c.from_ref-in-FixedSizeList.result.now c.deref-in-FixedSizeList.result.now c.in-FixedSizeList.child.value _ _ c.args.version _ _ _ _ _ _ c.skip_children-in-FixedSizeList.result (ap kind_of c.in-FixedSizeList.is ∙ kind_of_FixedSizeList c.in-FixedSizeList.child c.in-FixedSizeList.field-1) c.from_ref-in-FixedSizeList.ensures.value c.deref-in-FixedSizeList.ensures (record { nodes = refl; buffers = λ vs v. refl; views = refl }) c.skip_children-in-FixedSizeList.ensures

pub skip-returns-in-Struct : goal.skip-returns-in-Struct
skip-returns-in-Struct t c =
    several_children 1 c.as_slice.result.now c.in-Struct.children.items _ _ c.args.version _ _ _ _ _ _ c.skip_children-in-Struct.result (ap kind_of c.in-Struct.is ∙ kind_of_Struct c.in-Struct.children) c.as_slice.ensures.value (record { nodes = refl; buffers = λ vs v. refl; views = refl }) c.skip_children-in-Struct.ensures

pub skip-returns-in-Extension : goal.skip-returns-in-Extension
skip-returns-in-Extension t c =
    let k = ap kind_of c.in-Extension.is ∙ kind_of_Extension c.in-Extension.extension ∙ extension_kind c.in-Extension.extension.value in
    let x = out-ExtensionType c.in-Extension.extension.value in
    inner_passes _ _ _ _ c.args.version _ _ _ _ _ _ c.skip.result (k ∙ ap (λ y. kind.extension (string_bytes x.name) (option_map string_bytes x.metadata) (kind_of (out-ExtensionType y).inner)) (sym c.deref-in-Extension.ensures)) c.skip.ensures

pub skip-returns-in-Union : goal.skip-returns-in-Union
skip-returns-in-Union t c =
    let k = ap kind_of c.in-Union.is ∙ kind_of_Union c.in-Union.union ∙ union_kind_of_is c.in-Union.union.value in
    let own : c.union_buffers-own.result ≡ union_buffers c.args.version (out-UnionType c.in-Union.union.value).mode = c.union_buffers-own.ensures ∙ ap (λ x. union_buffers c.args.version (out-UnionType x).mode) c.deref-in-Union.ensures in
    several_children c.union_buffers-own.result c.as_slice-in-Union.result.now (out-UnionType c.in-Union.union.value).fields.items _ _ c.args.version _ _ _ _ _ _ c.skip_children-in-Union.result k (c.as_slice-in-Union.ensures.value ∙ ap (λ x. (out-UnionType x).fields.items) c.deref-in-Union-2.ensures) (record { nodes = refl; buffers = λ vs v. ap (λ n. n + buffers_of c.args.version vs (fields_of (out-UnionType c.in-Union.union.value).fields.items) v) (sym own); views = refl }) c.skip_children-in-Union.ensures

pub skip-returns-in_default : goal.skip-returns-in_default
skip-returns-in_default t c = flat_passes _ c.args.version _ _ _ _ _ _ c.skip_childless.result c.skip_childless.ensures

pub skip_children-returns-in_err-skip_parts : goal.skip_children-returns-in_err-skip_parts
skip_children-returns-in_err-skip_parts t c =
    refused_as c.args.own _ c.args.version _ _ _ _ _ _ c.from_residual.result c.in_err-skip_parts.field-0.0 _ c.from_residual.ensures.0 c.from_residual.ensures.1 (λ f h. h)
    (own_refused c.args.own _ c.args.version _ _ _ _ _ c.in_err-skip_parts.field-0.0 (λ m p a. (c.in_err-skip_parts.ensures.exact m p a).err) c.in_err-skip_parts.ensures.nodes c.in_err-skip_parts.ensures.buffers c.in_err-skip_parts.ensures.damage)

pub skip_children-loop-child-init : goal.skip_children-loop-child-init
skip_children-loop-child-init t c = none_passed c.args.own _ c.args.version _ _ _ _ _ c.in_ok-skip_parts.ensures.queues

pub skip_children-returns-in_err-skip : goal.skip_children-returns-in_err-skip
skip_children-returns-in_err-skip t c =
    refused_as c.args.own _ c.args.version _ _ _ _ _ _ c.from_residual-in_err-skip.result c.in_err-skip.field-0.0 _ c.from_residual-in_err-skip.ensures.0 c.from_residual-in_err-skip.ensures.1 (λ f h. h)
    (passed_until c.args.own c.args.children.now c.args.version c.loop-child.child-index c.child-item.result _ _ _ _ _ _ _ _ _ c.in_err-skip.field-0.0 (omega arith) c.child-item.is (λ m p v a. (c.in_err-skip.ensures.exact m p v a).err) c.in_err-skip.ensures.shortened c.in_err-skip.ensures.damage c.loop-child.invariant)

pub skip_children-loop-child-preserved : goal.skip_children-loop-child-preserved
skip_children-loop-child-preserved t c =
    next_passed c.args.own c.args.children.now c.args.version c.loop-child.child-index c.child-item.result _ _ _ _ _ _ _ _ _ (omega arith) c.child-item.is c.in_ok-skip.ensures.queues (λ m p v a. (c.in_ok-skip.ensures.exact m p v a).ok.0) c.loop-child.invariant

pub skip_children-returns : goal.skip_children-returns
skip_children-returns t c = all_passed c.args.own c.args.children.now c.args.version c.loop-child.child-index _ _ _ _ _ _ (omega arith) (omega arith) c.loop-child.invariant
