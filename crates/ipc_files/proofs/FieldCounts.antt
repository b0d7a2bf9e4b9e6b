-- As many fields as there are trees of ids beside them.
use Rattle.std.proofs.Common.{◌≡◌, suc, List, [], ◌∷◌, length, map, true, refl, sym, ap, ◌∙◌}
use Rattle.std.specs.Rc.{rc_value}
use Rattle.std.proofs.lemmas.Bool.{and_parts}
use Rattle.arrow_types.specs.Schemas.{Keyed, fields_in}
use Rattle.ipc_fields.specs.IpcFields.{ids_from, ids_of, have_shapes, tree_of, Tree}
use Rattle.ipc_fields.specs.declared.ipc_field.IpcField.{IpcField}
use Rattle.ipc_files.specs.FileViews.{IsReadable}
use Rattle.ipc_files.specs.declared.metadata.FileMetadata.{FileMetadata}

-- ── its IPC fields ──

as_many : (s : List Keyed) (ts : List Tree) → have_shapes (fields_in s) (ids_from ts) ≡ true → length ts ≡ length s
as_many [] [] h = refl
as_many [] (t ∷ ts) h = cc
as_many (p ∷ ps) [] h = cc
as_many (p ∷ ps) (t ∷ ts) h = ap (λ n. suc n) (as_many ps ts (and_parts _ _ h).1)

as_many_trees : (fs : List IpcField) → length (map tree_of fs) ≡ length fs
as_many_trees [] = refl
as_many_trees (f ∷ fs) = ap (λ n. suc n) (as_many_trees fs)

-- there is one for each field
pub fields_counted : (s : List Keyed) (fs : List IpcField) → have_shapes (fields_in s) (ids_of fs) ≡ true → length fs ≡ length s
fields_counted s fs h = sym (as_many_trees fs) ∙ as_many s (map tree_of fs) h

pub field_count : (file : FileMetadata) → IsReadable file → length file.ipc_schema.fields.items ≡ length (rc_value file.schema)
field_count file w = fields_counted (rc_value file.schema) file.ipc_schema.fields.items w.shapes
