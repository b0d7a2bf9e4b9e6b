-- What a record holds: a batch, and the IPC fields of its columns where it has any.
use Rattle.std.specs.Prelude.{List, map, Option}
use Rattle.std.specs.Option.{option_map}
use Rattle.arrow_arrays.specs.Batches.{Batch}
use Rattle.arrow_arrays.specs.SameBatches.{contents_in}
use Rattle.ipc_fields.specs.IpcFields.{Tree, tree_of}
use Rattle.ipc_write.specs.RecordCode.{Whole}
use Rattle.ipc_write.specs.declared.record.Held.{Held}
use Rattle.ipc_write.specs.declared.record.Held.TheVariants.{Owned, Borrowed}
use Rattle.ipc_write.specs.declared.record.Record.{Record}

abbrev pub batch_in : Held → Batch
batch_in (Owned b fs) = b
batch_in (Borrowed b fs) = b.now

abbrev pub fields_in : Held → Option (List Tree)
fields_in (Owned b fs) = option_map (λ v. map tree_of v.items) fs
fields_in (Borrowed b fs) = option_map (λ s. map tree_of s.now) fs

-- its batch
abbrev pub batch_of : Record → Batch
batch_of r = batch_in r.held

-- its IPC fields
abbrev pub fields_of : Record → Option (List Tree)
fields_of r = fields_in r.held

-- a batch and IPC fields together
abbrev pub whole_with : Batch → Option (List Tree) → Whole
whole_with b fields = record { rows = b.height; schema = b.schema; columns = contents_in b.arrays; custom = b.custom; fields = fields }

-- all that a record holds
abbrev pub whole_of : Record → Whole
whole_of r = whole_with (batch_of r) (fields_of r)
