-- What a record holds as a tree of numbers, which gives it back: so two records are compared.
use Rattle.std.specs.Prelude.{◌≡◌, ℕ, List, [], ◌∷◌, Bool, true, Option, Some, None, refl}
use Rattle.std.proofs.Common.{ap, ◌∙◌}
use Rattle.std.specs.Cmp.{IsEquivalence}
use base.Stored.{Gv, gnil, gnum, gcons, num}
use Rattle.arrow_spec.specs.Kinds.{Metadata}
use Rattle.arrow_types.specs.KindCode.{head, tail, pairs_to, pairs_from, pairs_from-pairs_to, by_tree, by_tree_told, by_tree_equiv}
use Rattle.arrow_types.specs.Schemas.{Keyed, keyed_to, keyed_from, keyed_from-keyed_to}
use Rattle.arrow_arrays.specs.BatchCode.{contents_to, contents_from, contents_from-contents_to}
use Rattle.arrow_arrays.specs.CellCode.{Content}
use Rattle.ipc_fields.specs.IpcFields.{Tree}
use Rattle.ipc_fields.specs.IpcFieldCode.{tree_to, tree_from, tree_from-tree_to}

abbrev pub trees_to : List Tree → Gv
trees_to [] = gnil
trees_to (t ∷ ts) = gcons (tree_to t) (trees_to ts)

abbrev pub trees_from : Gv → List Tree
trees_from gnil = []
trees_from (gnum n) = []
trees_from (gcons a b) = tree_from a ∷ trees_from b

pub trees_from-trees_to : (ts : List Tree) → trees_from (trees_to ts) ≡ ts
trees_from-trees_to [] = refl
trees_from-trees_to (t ∷ ts) = ap (λ x. x ∷ trees_from (trees_to ts)) (tree_from-tree_to t) ∙ ap (λ xs. t ∷ xs) (trees_from-trees_to ts)

abbrev pub optional_to : Option (List Tree) → Gv
optional_to None = gnil
optional_to (Some ts) = gcons gnil (trees_to ts)

abbrev pub optional_from : Gv → Option (List Tree)
optional_from gnil = None
optional_from (gnum n) = None
optional_from (gcons a b) = Some (trees_from b)

pub optional_from-optional_to : (o : Option (List Tree)) → optional_from (optional_to o) ≡ o
optional_from-optional_to None = refl
optional_from-optional_to (Some ts) = ap Some (trees_from-trees_to ts)

-- how many rows there are, the schema, what each column holds, the pairs, and the IPC fields
pub record Whole : Type 0 where
  pub rows : ℕ
  pub schema : List Keyed
  pub columns : List Content
  pub custom : Metadata
  pub fields : Option (List Tree)

abbrev pub whole_to : Whole → Gv
whole_to w = gcons (gcons (gnum w.rows) (keyed_to w.schema)) (gcons (contents_to w.columns) (gcons (pairs_to w.custom) (optional_to w.fields)))

abbrev pub whole_from : Gv → Whole
whole_from g = record {
  rows = num (head (head g));
  schema = keyed_from (tail (head g));
  columns = contents_from (head (tail g));
  custom = pairs_from (head (tail (tail g)));
  fields = optional_from (tail (tail (tail g)));
}

pub whole_from-whole_to : (w : Whole) → whole_from (whole_to w) ≡ w
whole_from-whole_to w = rw (
  keyed_from-keyed_to w.schema,
  contents_from-contents_to w.columns,
  pairs_from-pairs_to w.custom,
  optional_from-optional_to w.fields,
) refl

-- whether two records are the same
unfoldable pub whole_eq : Whole → Whole → Bool
whole_eq = by_tree whole_to

pub whole_eq_told : (r : Bool) (v w : Whole) → (r ≡ true → v ≡ w) × (v ≡ w → r ≡ true) → r ≡ whole_eq v w
unfolding whole_eq
whole_eq_told = by_tree_told whole_to whole_from whole_from-whole_to

pub whole_eq_equiv : IsEquivalence whole_eq
unfolding whole_eq
whole_eq_equiv = by_tree_equiv whole_to whole_from whole_from-whole_to
