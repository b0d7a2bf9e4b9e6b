-- An IPC field as a tree of numbers, which gives it back: so two IPC fields are compared.
use Rattle.std.specs.Prelude.{◌≡◌, Bool, true, false, Option, Some, None, ℤ, pos, refl}
use Rattle.std.proofs.Common.{ap, ◌∙◌}
use Rattle.std.specs.Cmp.{IsEquivalence}
use base.Stored.{Gv, gnil, gnum, gcons}
use Rattle.arrow_types.specs.KindCode.{integer_to, integer_from, integer_from-integer_to, by_tree, by_tree_told, by_tree_equiv}
use Rattle.ipc_fields.specs.IpcFields.{Ids, no_fields, ids, Tree}

abbrev pub id_to : Option ℤ → Gv
id_to None = gnil
id_to (Some x) = gcons gnil (integer_to x)

abbrev pub id_from : Gv → Option ℤ
id_from gnil = None
id_from (gnum n) = None
id_from (gcons a b) = Some (integer_from b)

pub id_from-id_to : (z : Option ℤ) → id_from (id_to z) ≡ z
id_from-id_to None = refl
id_from-id_to (Some x) = ap Some (integer_from-integer_to x)

abbrev pub ids_to : Ids → Gv
ids_to no_fields = gnil
ids_to (ids id below others) = gcons (gcons (id_to id) (ids_to below)) (ids_to others)

abbrev pub ids_back : Gv → Ids
ids_back gnil = no_fields
ids_back (gnum n) = no_fields
ids_back (gcons gnil b) = no_fields
ids_back (gcons (gnum n) b) = no_fields
ids_back (gcons (gcons i c) b) = ids (id_from i) (ids_back c) (ids_back b)

pub ids_back-ids_to : (x : Ids) → ids_back (ids_to x) ≡ x
ids_back-ids_to no_fields = refl
ids_back-ids_to (ids id below others) = ap (λ z. ids z (ids_back (ids_to below)) (ids_back (ids_to others))) (id_from-id_to id)
    ∙ ap (λ z. ids id z (ids_back (ids_to others))) (ids_back-ids_to below) ∙ ap (λ z. ids id below z) (ids_back-ids_to others)

abbrev pub tree_to : Tree → Gv
tree_to t = ids_to (ids t.id t.children no_fields)

abbrev pub first_tree : Ids → Tree
first_tree no_fields = record { id = None; children = no_fields }
first_tree (ids id below others) = record { id = id; children = below }

abbrev pub tree_from : Gv → Tree
tree_from g = first_tree (ids_back g)

pub tree_from-tree_to : (t : Tree) → tree_from (tree_to t) ≡ t
tree_from-tree_to t = ap first_tree (ids_back-ids_to (ids t.id t.children no_fields))

-- whether two IPC fields are the same
unfoldable pub tree_eq : Tree → Tree → Bool
tree_eq = by_tree tree_to

pub tree_eq_told : (r : Bool) (s t : Tree) → (r ≡ true → s ≡ t) × (s ≡ t → r ≡ true) → r ≡ tree_eq s t
unfolding tree_eq
tree_eq_told = by_tree_told tree_to tree_from tree_from-tree_to

pub tree_eq_equiv : IsEquivalence tree_eq
unfolding tree_eq
tree_eq_equiv = by_tree_equiv tree_to tree_from tree_from-tree_to

-- the IPC fields and the byte order of a schema as those of one field
abbrev pub schema_tree : Ids → Bool → Tree
schema_tree below true = record { id = None; children = below }
schema_tree below false = record { id = Some (pos 0); children = below }

schema_tree_parts : (a b : Ids) (x y : Bool) → schema_tree a x ≡ schema_tree b y → (a ≡ b) × (x ≡ y)
schema_tree_parts a b true true h = (ap (λ (t : Tree). t.children) h, refl)
schema_tree_parts a b true false h = let e = ap (λ (t : Tree). t.id) h in cc
schema_tree_parts a b false true h = let e = ap (λ (t : Tree). t.id) h in cc
schema_tree_parts a b false false h = (ap (λ (t : Tree). t.children) h, refl)

schema_tree_from : (a b : Ids) (x y : Bool) → (a ≡ b) × (x ≡ y) → schema_tree a x ≡ schema_tree b y
schema_tree_from a b x y h = ap (λ i. schema_tree i x) h.0 ∙ ap (schema_tree b) h.1

-- two IPC schemas are the same where their IPC fields and byte orders are
pub schema_tree_told : (r : Bool) (a b : Ids) (x y : Bool) → (r ≡ true → (a ≡ b) × (x ≡ y)) × ((a ≡ b) × (x ≡ y) → r ≡ true)
    → r ≡ tree_eq (schema_tree a x) (schema_tree b y)
schema_tree_told r a b x y h =
    tree_eq_told r (schema_tree a x) (schema_tree b y) (λ t. schema_tree_from a b x y (h.0 t), λ e. h.1 (schema_tree_parts a b x y e))
