-- The parts of an array without children as a value that is stored, which gives them back.
use Rattle.std.specs.Prelude.{◌≡◌, ◌⊎◌, ℕ, List, Bool, refl}
use Rattle.std.proofs.Common.{inl, inr}
use Rattle.std.specs.Coded.{Coded, code_by, coded⊎, coded_ℕ, coded_bool, coded_list}
use Rattle.arrow_buffers.specs.Leaf.{Leaf, leaf_code, Nulls, nulls_code}
use Rattle.arrow_buffers.specs.Variable.{Variable, variable_code}
use Rattle.arrow_buffers.specs.Views.{Views, views_code}
use Rattle.arrow_arrays.specs.LeafParts.{LeafParts, nulls, bits, numbers, fixed, binary, text, binary_views, text_views}

-- one of the constructors' records
abbrev pub StoredLeaf : Type 0
StoredLeaf = Nulls ⊎ (Leaf Bool ⊎ (Leaf (List ℕ) ⊎ (Leaf ℕ ⊎ (Variable ⊎ (Variable ⊎ (Views ⊎ Views))))))

abbrev pub stored_leaf_code : Coded StoredLeaf
stored_leaf_code = coded⊎ nulls_code (coded⊎ (leaf_code coded_bool) (coded⊎ (leaf_code (coded_list coded_ℕ))
    (coded⊎ (leaf_code coded_ℕ) (coded⊎ variable_code (coded⊎ variable_code (coded⊎ views_code views_code))))))

abbrev pub leaf_to : LeafParts → StoredLeaf
leaf_to (nulls n) = inl n
leaf_to (bits f) = inr (inl f)
leaf_to (numbers f) = inr (inr (inl f))
leaf_to (fixed f) = inr (inr (inr (inl f)))
leaf_to (binary p) = inr (inr (inr (inr (inl p))))
leaf_to (text p) = inr (inr (inr (inr (inr (inl p)))))
leaf_to (binary_views p) = inr (inr (inr (inr (inr (inr (inl p))))))
leaf_to (text_views p) = inr (inr (inr (inr (inr (inr (inr p))))))

abbrev pub leaf_from : StoredLeaf → LeafParts
leaf_from (inl n) = nulls n
leaf_from (inr (inl f)) = bits f
leaf_from (inr (inr (inl f))) = numbers f
leaf_from (inr (inr (inr (inl f)))) = fixed f
leaf_from (inr (inr (inr (inr (inl p))))) = binary p
leaf_from (inr (inr (inr (inr (inr (inl p)))))) = text p
leaf_from (inr (inr (inr (inr (inr (inr (inl p))))))) = binary_views p
leaf_from (inr (inr (inr (inr (inr (inr (inr p))))))) = text_views p

pub leaf_from-leaf_to : (p : LeafParts) → leaf_from (leaf_to p) ≡ p
leaf_from-leaf_to (nulls n) = refl
leaf_from-leaf_to p = refl

abbrev pub leaf_parts_code : Coded LeafParts
leaf_parts_code = code_by StoredLeaf stored_leaf_code leaf_to leaf_from leaf_from-leaf_to
