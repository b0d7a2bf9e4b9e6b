-- A field by itself as a tree of numbers, as a kind is.
use Rattle.std.specs.Prelude.{◌≡◌, Bool, true, []}
use Rattle.std.proofs.Common.{ap}
use Rattle.std.specs.Cmp.{IsEquivalence}
use Rattle.std.specs.Coded.{Coded, code_by}
use denote.Struct.Codes.{itself}
use base.Stored.{Gv}
use Rattle.arrow_spec.specs.Kinds as kind
use Rattle.arrow_spec.specs.Kinds.{Fields}
use Rattle.arrow_types.specs.Child.{Child, one_field}
use Rattle.arrow_types.specs.KindCode.{fields_to, fields_back, fields_back-fields_to, by_tree, by_tree_told, by_tree_equiv, by_tree_sound, by_tree_itself}

abbrev pub first_of_fields : Fields → Child
first_of_fields kind.none = record { name = []; kind = kind.null; nullable = true; metadata = [] }
first_of_fields (kind.field name nullable metadata k others) = record { name = name; kind = k; nullable = nullable; metadata = metadata }

abbrev pub child_to : Child → Gv
child_to c = fields_to (one_field c)

abbrev pub child_from : Gv → Child
child_from g = first_of_fields (fields_back g)

pub child_from-child_to : (c : Child) → child_from (child_to c) ≡ c
child_from-child_to c = ap first_of_fields (fields_back-fields_to (one_field c))

abbrev pub child_code : Coded Child
child_code = code_by Gv itself child_to child_from child_from-child_to

-- whether two fields are the same
unfoldable pub child_eq : Child → Child → Bool
child_eq = by_tree child_to

pub child_eq_told : (r : Bool) (c d : Child) → (r ≡ true → c ≡ d) × (c ≡ d → r ≡ true) → r ≡ child_eq c d
unfolding child_eq
child_eq_told = by_tree_told child_to child_from child_from-child_to

pub child_eq_equiv : IsEquivalence child_eq
unfolding child_eq
child_eq_equiv = by_tree_equiv child_to child_from child_from-child_to

pub child_eq_is : (c d : Child) → (child_eq c d ≡ true → c ≡ d) × (c ≡ d → child_eq c d ≡ true)
unfolding child_eq
child_eq_is c d = (λ h. by_tree_sound child_to child_from child_from-child_to c d h, λ e. by_tree_itself child_to c d e)
