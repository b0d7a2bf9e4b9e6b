-- Fields under their names.
use Rattle.std.specs.Prelude.{ℕ, List, [], ◌∷◌, ◌++◌, map, is_some, not, Ok, if◌then◌else◌}
use Rattle.arrow_spec.specs.declared.error.IpcError.TheVariants.{Unsupported}
use Rattle.arrow_spec.specs.declared.error.Feature.TheVariants as features
use Rattle.arrow_spec.specs.Readings.{◌>>=◌, Reading, unless}
use Rattle.arrow_spec.specs.Flat.{Table, little, big}
use Rattle.arrow_spec.specs.Kinds.{Fields, uses_in}
use Rattle.arrow_spec.specs.Schema.{Schema, pairs_of, has_distinct_names, uses_agree}
use Rattle.arrow_types.specs.Child.{Child, fields_from}
use Rattle.arrow_types.specs.Schemas.{Keyed, field_under, fields_in}
use Rattle.ipc_fields.specs.IpcFields.{ids_of, fields_with}
use Rattle.schema_reader.specs.Parts.{order_part, fields_part}
use Rattle.schema_reader.specs.declared.schema.KeyedFields.{KeyedFields}

abbrev pub keyed_by : Child → Keyed
keyed_by c = (c.name, c)

-- the fields under their names, which have to differ
unfoldable pub keyed_distinct : List Child → Reading (List Keyed)
keyed_distinct cs = unless (has_distinct_names (fields_from cs)) (Unsupported features.DuplicateField) >>= λ distinct. Ok (map keyed_by cs)

-- the fields with one more at the end, whose name has to be new
unfoldable pub put_keyed : Child → List Keyed → Reading (List Keyed)
put_keyed c s = unless (not (is_some (field_under c.name s))) (Unsupported features.DuplicateField) >>= λ new. Ok (s ++ keyed_by c ∷ [])

-- fields of which no two have one name, with one kind of values under each id
unfoldable pub checked : Fields → Reading Fields
checked fs = do
  distinct ← unless (has_distinct_names fs) (Unsupported features.DuplicateField)
  uses ← uses_agree [] (uses_in fs)
  Ok fs

-- a schema by its parts
unfoldable pub schema_by : List ℕ → Table → Reading Schema
schema_by b t = do
  is_little ← order_part b t
  pairs ← pairs_of b t 2 0
  below ← fields_part b t pairs.1
  fields ← checked below.0
  Ok (record { order = if is_little then little else big; fields = fields; metadata = pairs.0 })

abbrev pub keyed_in : KeyedFields → Fields
keyed_in k = fields_with (fields_in k.schema) (ids_of k.ipc_fields.items)
