-- Parts that make no array, as the refusal of a call.
use Rattle.arrow_spec.specs.declared.error.IpcError.{IpcError}
use Rattle.arrow_spec.specs.declared.error.IpcError.TheVariants as refusal
use Rattle.arrow_spec.specs.declared.error.OutOfSpecKind.TheVariants as kinds
use Rattle.arrow_buffers.specs.declared.error.ArrayError.{ArrayError}
use Rattle.arrow_buffers.specs.declared.error.ArrayError.TheVariants as array

-- offsets, texts, views, keys and types by their names, and want of memory; parts of another layout or number of rows are no batch's
abbrev pub refusal_of : ArrayError → IpcError
refusal_of array.DataType = refusal.SchemaMismatch
refusal_of array.Length = refusal.SchemaMismatch
refusal_of array.Offsets = refusal.OutOfSpec kinds.InvalidOffsets
refusal_of array.UnionType = refusal.OutOfSpec kinds.InvalidUnion
refusal_of array.Utf8 = refusal.OutOfSpec kinds.InvalidUtf8
refusal_of array.View = refusal.OutOfSpec kinds.InvalidView
refusal_of array.Key = refusal.OutOfSpec kinds.InvalidKey
refusal_of array.Memory = refusal.Memory
