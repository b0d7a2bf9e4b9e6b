use Rattle.std.proofs.Common.{refl, sym, ◌∙◌, inl, inr}
use Rattle.arrow_types.specs.KindOf.{kind_of}
use Rattle.ipc_read.proofs.Shortened.{null_passes, leaf_passes, views_pass}
use Rattle.ipc_read.proofs.skips.skip_childless.Goals as goal

pub returns-in-Null : goal.returns-in-Null
returns-in-Null c =
    leaf_passes c.skip_null.result (kind_of c.args.dtype.now) _ 0 c.requires.flat (sym c.to_physical_type.ensures ∙ c.in-Null.is) (λ n. refl) refl
    (null_passes c.skip_null.result c.skip_null.ensures.queues c.skip_null.ensures.exact c.skip_null.ensures.nodes c.skip_null.ensures.damage)

pub returns-in-Boolean : goal.returns-in-Boolean
returns-in-Boolean c = leaf_passes c.skip_boolean.result (kind_of c.args.dtype.now) _ 2 c.requires.flat (sym c.to_physical_type.ensures ∙ c.in-Boolean.is) (λ n. refl) refl c.skip_boolean.ensures

pub returns-in-Primitive : goal.returns-in-Primitive
returns-in-Primitive c = leaf_passes c.skip_primitive.result (kind_of c.args.dtype.now) _ 2 c.requires.flat (sym c.to_physical_type.ensures ∙ c.in-Primitive.is) (λ n. refl) refl c.skip_primitive.ensures

pub returns-in-Dictionary : goal.returns-in-Dictionary
returns-in-Dictionary c = leaf_passes c.skip_dictionary.result (kind_of c.args.dtype.now) _ 2 c.requires.flat (sym c.to_physical_type.ensures ∙ c.in-Dictionary.is) (λ n. refl) refl c.skip_dictionary.ensures

pub returns-in-Binary : goal.returns-in-Binary
returns-in-Binary c = elim c.in-Binary.is [
  | inl h ↦ leaf_passes c.skip_binary.result (kind_of c.args.dtype.now) _ 3 c.requires.flat (sym c.to_physical_type.ensures ∙ h) (λ n. refl) refl c.skip_binary.ensures
  | inr h ↦ leaf_passes c.skip_binary.result (kind_of c.args.dtype.now) _ 3 c.requires.flat (sym c.to_physical_type.ensures ∙ h) (λ n. refl) refl c.skip_binary.ensures
]

pub returns-in-Utf8 : goal.returns-in-Utf8
returns-in-Utf8 c = elim c.in-Utf8.is [
  | inl h ↦ leaf_passes c.skip_utf8.result (kind_of c.args.dtype.now) _ 3 c.requires.flat (sym c.to_physical_type.ensures ∙ h) (λ n. refl) refl c.skip_utf8.ensures
  | inr h ↦ leaf_passes c.skip_utf8.result (kind_of c.args.dtype.now) _ 3 c.requires.flat (sym c.to_physical_type.ensures ∙ h) (λ n. refl) refl c.skip_utf8.ensures
]

pub returns-in-FixedSizeBinary : goal.returns-in-FixedSizeBinary
returns-in-FixedSizeBinary c = leaf_passes c.skip_fixed_size_binary.result (kind_of c.args.dtype.now) _ 2 c.requires.flat (sym c.to_physical_type.ensures ∙ c.in-FixedSizeBinary.is) (λ n. refl) refl c.skip_fixed_size_binary.ensures

pub returns-in-BinaryView : goal.returns-in-BinaryView
returns-in-BinaryView c = elim c.in-BinaryView.is [
  | inl h ↦ views_pass c.skip_binview.result (kind_of c.args.dtype.now) _ c.requires.flat (sym c.to_physical_type.ensures ∙ h) (λ n. refl) refl c.skip_binview.ensures.queues c.skip_binview.ensures.exact c.skip_binview.ensures.nodes c.skip_binview.ensures.buffers c.skip_binview.ensures.views c.skip_binview.ensures.damage
  | inr h ↦ views_pass c.skip_binview.result (kind_of c.args.dtype.now) _ c.requires.flat (sym c.to_physical_type.ensures ∙ h) (λ n. refl) refl c.skip_binview.ensures.queues c.skip_binview.ensures.exact c.skip_binview.ensures.nodes c.skip_binview.ensures.buffers c.skip_binview.ensures.views c.skip_binview.ensures.damage
]
