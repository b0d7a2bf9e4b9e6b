-- A column for each array, one after another.
use Rattle.std.proofs.Common.{◌≡◌, ℕ, ◌+◌, ◌<◌, ◌++◌, List, [], ◌∷◌, Bool, true, false, Some, None, map, take, length, get_or, not, ◌&&◌, if◌then◌else◌, refl, sym, ap, ◌∙◌}
use Rattle.std.proofs.lemmas.List.{map-append, take_more}
use Rattle.arrow_spec.specs.declared.error.IpcError.TheVariants.{SchemaMismatch, NotRepresentable}
use Rattle.arrow_spec.specs.Kinds as kind
use Rattle.arrow_spec.specs.Kinds.{Fields, uses_in}
use Rattle.arrow_types.specs.Child.{Child, fields_from}
use Rattle.arrow_types.specs.KindOf.{child_of}
use Rattle.arrow_types.specs.declared.data_type.Field.{Field}
use Rattle.arrow_arrays.specs.Parts.{kind_in}
use Rattle.arrow_arrays.specs.PartsOf.{parts_of, forest_of}
use Rattle.arrow_arrays.specs.declared.array.Array.{Array}
use Rattle.ipc_fields.specs.IpcFields.{Ids, fields_with, have_shapes}
use Rattle.arrow_arrays.specs.Columns.{columns_of}
use Rattle.ipc_dictionaries.specs.Columns.{columns_fault}
use Rattle.ipc_fields.specs.Representable.{all_representable}
use Rattle.ipc_dictionaries.specs.Shapes.{agree}

-- a column without a name
abbrev pub column : Array → Child
column a = record { name = []; kind = kind_in (parts_of a); nullable = true; metadata = [] }

pub columns_are : (xs : List Array) → fields_from (map column xs) ≡ columns_of (forest_of xs)
columns_are [] = refl
columns_are (x ∷ xs) = ap (λ fs. kind.field [] true [] (kind_in (parts_of x)) fs) (columns_are xs)

pub column_more : (cs : List Field) (xs : List Array) (i : ℕ) (x : Array) (f : Field) → i < length xs → x ≡ get_or xs i x → map child_of cs ≡ map column (take i xs) → child_of f ≡ column x → map child_of (cs ++ f ∷ []) ≡ map column (take (i + 1) xs)
column_more cs xs i x f h e w g =
    map-append child_of cs (f ∷ []) ∙ ap (λ ks. ks ++ child_of f ∷ []) w ∙ ap (λ k. map column (take i xs) ++ k ∷ []) g
    ∙ sym (map-append column (take i xs) (x ∷ [])) ∙ ap (map column) (ap (λ y. take i xs ++ y ∷ []) e ∙ sym (take_more xs i x h))

-- ── why columns are refused ──

-- tests of a shape, and of dictionaries that stand apart
pub mismatched : (fs : Fields) (below : Ids) (b : Bool) → b ≡ (have_shapes fs below && agree (uses_in (fields_with fs below))) → b ≡ false → columns_fault fs below ≡ Some SchemaMismatch
mismatched fs below b e h = ap (λ x. if not x then Some SchemaMismatch else (if not (all_representable fs) then Some NotRepresentable else None)) (sym e ∙ h)

pub not_apart : (fs : Fields) (below : Ids) (b : Bool) → b ≡ (have_shapes fs below && agree (uses_in (fields_with fs below))) → b ≡ true → all_representable fs ≡ false → columns_fault fs below ≡ Some NotRepresentable
not_apart fs below b e h a = ap (λ x. if not x then Some SchemaMismatch else (if not (all_representable fs) then Some NotRepresentable else None)) (sym e ∙ h) ∙ ap (λ x. if not x then Some NotRepresentable else None) a

pub no_fault : (fs : Fields) (below : Ids) (b : Bool) → b ≡ (have_shapes fs below && agree (uses_in (fields_with fs below))) → b ≡ true → all_representable fs ≡ true → columns_fault fs below ≡ None
no_fault fs below b e h a = ap (λ x. if not x then Some SchemaMismatch else (if not (all_representable fs) then Some NotRepresentable else None)) (sym e ∙ h) ∙ ap (λ x. if not x then Some NotRepresentable else None) a
