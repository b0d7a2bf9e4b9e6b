-- Records are equal where what they hold is.
use Rattle.std.proofs.Common.{◌≡◌, List, Bool, false, Option, map, refl, sym, ap, subst, ◌∙◌, true≢false}
use Rattle.std.specs.Prelude.{IsTrue}
use Rattle.std.specs.Cmp.Lexicographic.{pointwise}
use Rattle.arrow_types.specs.KindCode.{by_tree_sound, by_tree_itself}
use Rattle.arrow_arrays.specs.Batches.{Batch}
use Rattle.arrow_arrays.specs.SameBatches.{SameBatch}
use Rattle.arrow_arrays.proofs.SameBatches.{by_element, told_by}
use Rattle.ipc_fields.specs.IpcFields.{Tree, tree_of}
use Rattle.ipc_fields.specs.IpcFieldCode.{tree_to, tree_from, tree_from-tree_to, tree_eq}
use Rattle.ipc_fields.specs.declared.ipc_field.IpcField.{IpcField}
use Rattle.ipc_write.specs.RecordCode.{whole_eq, whole_eq_told}
use Rattle.ipc_write.specs.Records.{whole_with}

tree_sound : (s t : Tree) → IsTrue (tree_eq s t) → s ≡ t
unfolding tree_eq
tree_sound s t h = by_tree_sound tree_to tree_from tree_from-tree_to s t h

tree_itself : (t : Tree) → IsTrue (tree_eq t t)
unfolding tree_eq
tree_itself t = by_tree_itself tree_to t t refl

pub fields_same : (r : Bool) (xs ys : List IpcField) → r ≡ pointwise (λ x y. tree_eq (tree_of x) (tree_of y)) xs ys → (IsTrue r → map tree_of xs ≡ map tree_of ys) × (map tree_of xs ≡ map tree_of ys → IsTrue r)
fields_same r xs ys e = told_by r (pointwise (λ x y. tree_eq (tree_of x) (tree_of y)) xs ys) e (by_element tree_of tree_eq tree_sound tree_itself xs ys)

same_wholes : (a b : Batch) (f g : Option (List Tree)) → SameBatch a b → f ≡ g → whole_with a f ≡ whole_with b g
same_wholes a b f g s e = rw (s.rows, s.schema, s.columns, s.custom, e) refl

batch_parts : (a b : Batch) (f g : Option (List Tree)) → whole_with a f ≡ whole_with b g → SameBatch a b
batch_parts a b f g e = record { rows = ap (λ w. w.rows) e; schema = ap (λ w. w.schema) e; columns = ap (λ w. w.columns) e; custom = ap (λ w. w.custom) e }

-- of two that hold the same batch, the IPC fields tell
pub told_fields : (r : Bool) (a b x y : Batch) (f g h k : Option (List Tree)) → x ≡ a → y ≡ b → f ≡ h → g ≡ k → SameBatch x y → (IsTrue r → f ≡ g) × (f ≡ g → IsTrue r) → r ≡ whole_eq (whole_with a h) (whole_with b k)
told_fields r a b x y f g h k ex ey ef eg same told =
    let here : SameBatch a b = subst (λ z. SameBatch a z) ey (subst (λ z. SameBatch z y) ex same) in
    whole_eq_told r (whole_with a h) (whole_with b k) (
      λ t. same_wholes a b h k here (sym ef ∙ told.0 t ∙ eg),
      λ e. told.1 (ef ∙ ap (λ w. w.fields) e ∙ sym eg),
    )

-- others are not the same
pub told_batch : (r : Bool) (a b x y : Batch) (h k : Option (List Tree)) → x ≡ a → y ≡ b → r ≡ false → (IsTrue r → SameBatch x y) × (SameBatch x y → IsTrue r) → r ≡ whole_eq (whole_with a h) (whole_with b k)
told_batch r a b x y h k ex ey other told =
    whole_eq_told r (whole_with a h) (whole_with b k) (
      λ t. absurd (true≢false (sym t ∙ other)),
      λ e. told.1 (subst (λ z. SameBatch x z) (sym ey) (subst (λ z. SameBatch z b) (sym ex) (batch_parts a b h k e))),
    )
