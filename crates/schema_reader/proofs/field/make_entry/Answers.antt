use Rattle.std.proofs.Common.{◌≡◌, ap, sym, ◌∙◌, map, true, false, inl, refl, subst, Ok, length, Option, ℤ}
use Rattle.std.specs.Option.{option_map}
use Rattle.arrow_spec.specs.Schema.{empty_vector, is_whole}
use Rattle.arrow_flat.specs.Read.{vector_of}
use Rattle.arrow_types.specs.Child.{Child, fields_from}
use Rattle.arrow_types.specs.KindOf.{child_of, kind_of, fields_of}
use Rattle.ipc_fields.specs.IpcFields.{Ids, Tree, ids_of, fields_with, has_shape, kind_with}
use Rattle.schema_reader.specs.Parts.{child_by}
use Rattle.schema_reader.specs.ReadViews.{Takes, extension_of, head_in, children_in, is_whole_shape}
use Rattle.schema_reader.proofs.Entries.{id_in, made_kind, read_kind, made_with, made_shape, read_whole, whole_entry, broken_entry, length_from, entry_is, entry_shape}
use Rattle.schema_reader.proofs.field.make_entry.Goals as goal

abbrev tree_as : Option ℤ → Ids → Tree
tree_as i below = record { id = i; children = below }

pub returns-then-not-is_whole-clause-gives : goal.returns-then-not-is_whole-clause-gives
returns-then-not-is_whole-clause-gives c =
    let form = c.args.head.form in
    let n = (empty_vector (vector_of form.children)).count in
    let fs = fields_of c.args.children.fields.items in
    let below = ids_of c.args.children.ipc_fields.items in
    let takes : Takes n form.shape = subst (λ k. Takes k form.shape) c.requires.count c.requires.takes in
    let seen : is_whole_shape form.shape fs ≡ false = ap (λ xs. is_whole_shape form.shape (fields_from (map child_of xs))) (sym c.deref.ensures.value) ∙ sym c.is_whole.ensures ∙ c.if-not-is_whole.true in
    let w : is_whole (read_kind form.encoding (option_map extension_of form.extension) n form.shape (fields_with fs below)) ≡ false = read_whole form.encoding (option_map extension_of form.extension) n form.shape fs below takes ∙ seen in
    rw (broken_entry (head_in c.args.head) (children_in c.args.children) w) (inl refl)

pub returns-clause-gives : goal.returns-clause-gives
returns-clause-gives c =
    let form = c.args.head.form in
    let n = (empty_vector (vector_of form.children)).count in
    let x = option_map extension_of form.extension in
    let fs = fields_of c.args.children.fields.items in
    let below = ids_of c.args.children.ipc_fields.items in
    let takes : Takes n form.shape = subst (λ k. Takes k form.shape) c.requires.count c.requires.takes in
    let seen : is_whole_shape form.shape fs ≡ true = ap (λ xs. is_whole_shape form.shape (fields_from (map child_of xs))) (sym c.deref.ensures.value) ∙ sym c.is_whole.ensures ∙ c.if-not-is_whole.false in
    let w : is_whole (read_kind form.encoding x n form.shape (fields_with fs below)) ≡ true = read_whole form.encoding x n form.shape fs below takes ∙ seen in
    let k : kind_of c.in_ok-dtype.dtype ≡ made_kind form.encoding x n form.shape fs = c.in_ok-dtype.ensures.gives ∙ ap (λ m. made_kind form.encoding x m form.shape fs) c.requires.count in
    let made : kind_with (kind_of c.in_ok-dtype.dtype) (id_in form.encoding) below ≡ read_kind form.encoding x n form.shape (fields_with fs below) = ap (λ z. kind_with z (id_in form.encoding) below) k ∙ made_with form.encoding x n form.shape fs below takes in
    let d = child_by (head_in c.args.head) (read_kind form.encoding x n form.shape (fields_with fs below)) in
    whole_entry (head_in c.args.head) (children_in c.args.children) w ∙ ap (λ z. Ok (z, (children_in c.args.children).1)) (sym (entry_is (child_of c.make_field-field.result) d _ (kind_of c.in_ok-dtype.dtype) (id_in form.encoding) below c.make_field-field.ensures (c.make_ipc_field-ipc_field.ensures ∙ ap (λ i. tree_as i below) c.id_of.ensures) made))

pub returns-clause-shape : goal.returns-clause-shape
returns-clause-shape c =
    let form = c.args.head.form in
    let n = length c.args.children.fields.items in
    let x = option_map extension_of form.extension in
    let cs = map child_of c.args.children.fields.items in
    let below = ids_of c.args.children.ipc_fields.items in
    let f : has_shape (made_kind form.encoding x n form.shape (fields_from cs)) (id_in form.encoding) below ≡ true = made_shape form.encoding x n form.shape cs below (length_from child_of c.args.children.fields.items) c.requires.takes c.requires.shapes in
    entry_shape (child_of c.make_field-field.result) _ (made_kind form.encoding x n form.shape (fields_from cs)) (id_in form.encoding) below (ap (λ (d : Child). d.kind) c.make_field-field.ensures ∙ c.in_ok-dtype.ensures.gives) (c.make_ipc_field-ipc_field.ensures ∙ ap (λ i. tree_as i below) c.id_of.ensures) f
