-- The types of a schema's fields state no ids of dictionaries.
use Rattle.std.proofs.Common.{◌≡◌, List, [], ◌∷◌, String, refl, sym, ap, subst, ◌∙◌}
use Rattle.std.specs.declared.alloc.Global.{Global}
use Rattle.arrow_types.specs.KindOf.{child_of}
use Rattle.arrow_types.specs.Schemas.{Keyed, fields_in, keyed}
use Rattle.arrow_types.specs.declared.data_type.Field.{Field}
use Rattle.laws_writers.specs.Below.{plain_fields, plain_kind}
use Rattle.laws_writers.proofs.Below.{plain_of, kind_of_field}

field_plain : (f : Field) → plain_kind (child_of f).kind ≡ (child_of f).kind
field_plain f = ap plain_kind (kind_of_field f) ∙ plain_of f.dtype ∙ sym (kind_of_field f)

entries_plain : (es : List (String Global × Field)) → plain_fields (fields_in (keyed es)) ≡ fields_in (keyed es)
entries_plain [] = refl
entries_plain (e ∷ es) = rw (field_plain e.1, entries_plain es) refl

pub schema_plain : (s : List Keyed) (es : List (String Global × Field)) → keyed es ≡ s → plain_fields (fields_in s) ≡ fields_in s
schema_plain s es h = subst (λ xs. plain_fields (fields_in xs) ≡ fields_in xs) h (entries_plain es)
