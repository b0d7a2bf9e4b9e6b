-- What may be read by a stream's metadata: its columns, and the values of its dictionaries.
use Rattle.std.proofs.Common.{◌≡◌, ◌∙◌, ℕ, List, length, Option, true, IfSome, ℤ}
use Rattle.std.specs.Rc.{rc_value}
use Rattle.arrow_spec.specs.Flat.{order_by}
use Rattle.arrow_spec.specs.Kinds.{width}
use Rattle.arrow_types.specs.Schemas.{fields_in}
use Rattle.ipc_fields.specs.IpcFields.{ids_of}
use Rattle.ipc_files.specs.Below.{Held, HasFields, HasKinds, values_of_id, are_column_kinds, is_column_kind}
use Rattle.ipc_files.proofs.FieldCounts.{fields_counted}
use Rattle.ipc_files.proofs.FieldWidths.{width_in, width_with}
use Rattle.ipc_files.proofs.Below.{each_use, each_value, held_fields}
use Rattle.ipc_files.proofs.ReadColumns as columns
use Rattle.ipc_files.proofs.ReadFiles.{order_as}
use Rattle.ipc_streams.specs.Starts.{HoldsValues, IsReadable, stream_schema}
use Rattle.ipc_streams.specs.declared.metadata.StreamMetadata.{StreamMetadata}

pub may_read : (m : StreamMetadata) (asked : Option (List ℕ)) → IsReadable m → are_column_kinds asked 0 (rc_value m.schema) ≡ true
may_read m asked h = columns.columns_read asked (rc_value m.schema) (ids_of m.ipc_schema.fields.items) h.columns

pub may_read_values : (m : StreamMetadata) (id : ℤ) → IsReadable m → IfSome (values_of_id (stream_schema m).fields id) (λ k. is_column_kind k ≡ true)
may_read_values m id h = columns.values_read (stream_schema m).fields id h.columns

-- there is an IPC field for each field, and a column
pub field_count : (m : StreamMetadata) → IsReadable m → length m.ipc_schema.fields.items ≡ length (rc_value m.schema)
field_count m h = fields_counted (rc_value m.schema) m.ipc_schema.fields.items h.shapes

pub column_count : (m : StreamMetadata) → width (stream_schema m).fields ≡ length (rc_value m.schema)
column_count m = width_with (fields_in (rc_value m.schema)) (ids_of m.ipc_schema.fields.items) ∙ width_in (rc_value m.schema)

-- the order of its schema is that in which its batches are read
pub same_order : (m : StreamMetadata) → order_by m.ipc_schema.is_little_endian ≡ (stream_schema m).order
same_order m = order_as m.ipc_schema.is_little_endian

-- what is held is of the kinds of the columns, and of those in the values of each dictionary
pub held_columns : (m : StreamMetadata) (h : Held) → IsReadable m → HoldsValues (stream_schema m) h → HasFields h (stream_schema m).fields
held_columns m h readable values = held_fields h (stream_schema m).fields (each_use h (stream_schema m).fields readable.agree values)

pub held_values : (m : StreamMetadata) (h : Held) (id : ℤ) → IsReadable m → HoldsValues (stream_schema m) h → IfSome (values_of_id (stream_schema m).fields id) (HasKinds h)
held_values m h id readable values = each_value h (stream_schema m).fields id (each_use h (stream_schema m).fields readable.agree values)
