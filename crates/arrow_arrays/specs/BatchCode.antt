-- What a record batch holds as a tree of numbers, which gives it back: so two batches are compared.
use Rattle.std.specs.Prelude.{◌≡◌, ℕ, List, [], ◌∷◌, Bool, true, refl}
use Rattle.std.proofs.Common.{ap, ◌∙◌}
use Rattle.std.specs.Cmp.{IsEquivalence}
use base.Stored.{Gv, gnil, gnum, gcons, num}
use Rattle.arrow_spec.specs.Kinds.{Metadata}
use Rattle.arrow_types.specs.KindCode.{head, tail, pairs_to, pairs_from, pairs_from-pairs_to, by_tree, by_tree_told, by_tree_equiv}
use Rattle.arrow_types.specs.Schemas.{Keyed, keyed_to, keyed_from, keyed_from-keyed_to}
use Rattle.arrow_arrays.specs.CellCode.{Content, content_to, content_from, content_from-content_to}

abbrev pub contents_to : List Content → Gv
contents_to [] = gnil
contents_to (c ∷ cs) = gcons (content_to c) (contents_to cs)

abbrev pub contents_from : Gv → List Content
contents_from gnil = []
contents_from (gnum n) = []
contents_from (gcons a b) = content_from a ∷ contents_from b

pub contents_from-contents_to : (cs : List Content) → contents_from (contents_to cs) ≡ cs
contents_from-contents_to [] = refl
contents_from-contents_to (c ∷ cs) = ap (λ x. x ∷ contents_from (contents_to cs)) (content_from-content_to c) ∙ ap (λ xs. c ∷ xs) (contents_from-contents_to cs)

-- how many rows there are, the schema, what each column holds, and the pairs
pub record Holding : Type 0 where
  pub rows : ℕ
  pub schema : List Keyed
  pub columns : List Content
  pub custom : Metadata

abbrev pub holding_to : Holding → Gv
holding_to h = gcons (gnum h.rows) (gcons (keyed_to h.schema) (gcons (contents_to h.columns) (pairs_to h.custom)))

abbrev pub holding_from : Gv → Holding
holding_from g = record { rows = num (head g); schema = keyed_from (head (tail g)); columns = contents_from (head (tail (tail g))); custom = pairs_from (tail (tail (tail g))) }

pub holding_from-holding_to : (h : Holding) → holding_from (holding_to h) ≡ h
holding_from-holding_to h = rw (keyed_from-keyed_to h.schema, contents_from-contents_to h.columns, pairs_from-pairs_to h.custom) refl

-- whether two batches hold the same
unfoldable pub holding_eq : Holding → Holding → Bool
holding_eq = by_tree holding_to

pub holding_eq_told : (r : Bool) (g h : Holding) → (r ≡ true → g ≡ h) × (g ≡ h → r ≡ true) → r ≡ holding_eq g h
unfolding holding_eq
holding_eq_told = by_tree_told holding_to holding_from holding_from-holding_to

pub holding_eq_equiv : IsEquivalence holding_eq
unfolding holding_eq
holding_eq_equiv = by_tree_equiv holding_to holding_from holding_from-holding_to
