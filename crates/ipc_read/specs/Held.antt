-- The dictionaries that a reader holds, and columns by the dictionary ids of their IPC fields. (Arrow Columnar Format, "Dictionary Messages".)
use Rattle.std.specs.Prelude.{List, ℤ, Option, Bool, true, false, pos}
use Rattle.std.specs.Option.{option_map}
use Rattle.std.specs.Ordering.{int_cmp}
use Rattle.std.specs.BTreeMap.{BTreeMap, get}
use Rattle.std.specs.declared.alloc.Global.{Global}
use Rattle.std.specs.declared.vec.Vec.{Vec}
use Rattle.arrow_spec.specs.declared.types.IntegerType.{IntegerType}
use Rattle.arrow_spec.specs.Kinds.{Kind, Fields, dictionary, extension}
use Rattle.arrow_types.specs.KindOf.{kind_of, fields_of}
use Rattle.arrow_types.specs.declared.data_type.ArrowDataType.{ArrowDataType}
use Rattle.arrow_types.specs.declared.data_type.Field.{Field}
use Rattle.arrow_arrays.specs.PartsOf.{forest_of}
use Rattle.arrow_arrays.specs.declared.array.Array.{Array}
use Rattle.ipc_fields.specs.IpcFields.{ids_of, kind_with, fields_with}
use Rattle.ipc_fields.specs.declared.ipc_field.IpcField.{IpcField, out-IpcField}
use Rattle.ipc_read_laws.specs.Held.{Held}

-- the parts under an id
abbrev pub held_in : BTreeMap ℤ (Vec Array Global) → Held
held_in m id = option_map (λ v. forest_of v.items) (get int_cmp m id)

-- the kind of a column of a type, with the ids of its IPC field, and columns of some fields with the ids of theirs
abbrev pub column_kind : ArrowDataType → Option ℤ → List IpcField → Kind
column_kind dtype id fields = kind_with (kind_of dtype) id (ids_of fields)

abbrev pub field_kind : ArrowDataType → IpcField → Kind
field_kind dtype field = column_kind dtype (out-IpcField field).dictionary_id (out-IpcField field).fields.items

abbrev pub column_fields : List Field → List IpcField → Fields
column_fields children fields = fields_with (fields_of children) (ids_of fields)

-- a kind of dictionaries, extensions looked through
abbrev pub is_any_dictionary : Kind → Bool
is_any_dictionary (dictionary t ordered id k) = true
is_any_dictionary (extension name metadata k) = is_any_dictionary k
is_any_dictionary k = false

-- whether its values are in order, and its id
abbrev pub ordered_in : Kind → Bool
ordered_in (dictionary t ordered id k) = ordered
ordered_in (extension name metadata k) = ordered_in k
ordered_in k = false

abbrev pub id_in : Kind → ℤ
id_in (dictionary t ordered id k) = id
id_in (extension name metadata k) = id_in k
id_in k = pos 0

-- the kind of dictionaries with keys of a type into these values that has a kind's order and id
abbrev pub dictionary_as : Kind → IntegerType → Kind → Kind
dictionary_as k t values = dictionary t (ordered_in k) (id_in k) values
