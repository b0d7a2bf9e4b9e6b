-- A schema of one column, of texts by key: what is asked of it where its values, or the column itself, are read.
use Rattle.std.proofs.Common.{◌≡◌, ℕ, ℤ, pos, List, [], ◌∷◌, Bool, true, false, Option, Some, None, IfSome, if◌then◌else◌, refl, sym, subst}
use Rattle.std.specs.Prelude.{not, ◌||◌, ◌&&◌}
use Rattle.arrow_spec.specs.Columns.{is_chosen}
use Rattle.arrow_spec.specs.Flat.{or_default}
use Rattle.arrow_spec.specs.Kinds.{Kind, Metadata, none, field, dictionary, utf8, small, same, uses_in, values_under}
use Rattle.arrow_spec.specs.declared.types.IntegerType.TheVariants.{UInt16}
use Rattle.arrow_types.specs.Schemas.{Keyed, fields_in}
use Rattle.ipc_fields.specs.IpcFields.{Ids, no_fields, ids, ids_of, kind_with, fields_with}
use Rattle.ipc_fields.specs.declared.ipc_field.IpcField.{IpcField}
use Rattle.ipc_write.specs.Below.{Held, HasKinds, values_of_id}
use Rattle.ipc_read.specs.Batches.{is_column_kind, are_column_kinds, kinds_of, schema_fields}

abbrev texts : Kind
texts = dictionary UInt16 false (pos 0) (utf8 small)

either : (P : Kind → Type 0) (b : Bool) (k : Kind) → P k → IfSome (if b then Some k else None) P
either P true k h = h
either P false k h = tt

under_key : (P : Kind → Type 0) (k : Kind) (i : Option ℤ) (below : Ids) (name : List ℕ) (nullable : Bool) (metadata : Metadata) (id : ℤ)
    → k ≡ texts → P (utf8 small) → IfSome (values_under id (uses_in (field name nullable metadata (kind_with k i below) none))) P
under_key P k i below name nullable metadata id e h =
    subst (λ x. IfSome (values_under id (uses_in (field name nullable metadata (kind_with x i below) none))) P) (sym e) (either P (same (or_default (pos 0) i) id) (utf8 small) h)

values_are : (P : Kind → Type 0) (s : List Keyed) (below : Ids) (id : ℤ) → kinds_of s ≡ texts ∷ [] → P (utf8 small) → IfSome (values_under id (uses_in (fields_with (fields_in s) below))) P
values_are P [] below id e h = cc
values_are P (p ∷ []) no_fields id e h =
    let k : p.1.kind ≡ texts = cc in
    under_key P p.1.kind None no_fields p.1.name p.1.nullable p.1.metadata id k h
values_are P (p ∷ []) (ids i below others) id e h =
    let k : p.1.kind ≡ texts = cc in
    under_key P p.1.kind i below p.1.name p.1.nullable p.1.metadata id k h
values_are P (p ∷ q ∷ ps) below id e h = cc

-- the values under an id are texts, if there are any: they are read, and no dictionary stands in them
pub values_read : (s : List Keyed) (fs : List IpcField) (id : ℤ) → kinds_of s ≡ texts ∷ [] → IfSome (values_of_id (schema_fields s fs) id) (λ k. is_column_kind k ≡ true)
values_read s fs id e = values_are (λ k. is_column_kind k ≡ true) s (ids_of fs) id e refl

pub values_held : (h : Held) (s : List Keyed) (fs : List IpcField) (id : ℤ) → kinds_of s ≡ texts ∷ [] → IfSome (values_of_id (schema_fields s fs) id) (λ k. HasKinds h k)
values_held h s fs id e = values_are (λ k. HasKinds h k) s (ids_of fs) id e tt

-- and so is the column itself
pub column_read : (s : List Keyed) → kinds_of s ≡ texts ∷ [] → are_column_kinds None 0 s ≡ true
column_read [] e = cc
column_read (p ∷ []) e =
    let k : p.1.kind ≡ texts = cc in
    subst (λ x. ((not (is_chosen None 0) || is_column_kind x) && true) ≡ true) (sym k) refl
column_read (p ∷ q ∷ ps) e = cc
