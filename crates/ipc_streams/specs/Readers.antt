-- What a reader of a stream knows of its columns, and what it reads of a message.
use Rattle.std.specs.Prelude.{◌≡◌, ℕ, List, [], length, None, Result, IfOk}
use Rattle.arrow_spec.specs.declared.error.IpcError.{IpcError}
use Rattle.arrow_spec.specs.Counts.{first_place}
use Rattle.arrow_arrays.specs.Batches.{Batch}
use Rattle.ipc_files.specs.Below.{columns_read, table_of, AreAsked, MayProject, Held}
use Rattle.std.specs.Rc.{rc_value}
use Rattle.arrow_spec.specs.Arrays.{Dictionaries}
use Rattle.arrow_spec.specs.declared.message.MetadataVersion.{MetadataVersion}
use Rattle.arrow_spec.specs.Files.{TableBatch, batch_of_tables, record_batch_of, to_read}
use Rattle.arrow_spec.specs.Kinds.{Metadata}
use Rattle.arrow_spec.specs.Messages.{BatchHeader, RecordMessage}
use Rattle.arrow_spec.specs.Readings.{Gives, Reading}
use Rattle.arrow_spec.specs.Streams.{Reader}
use Rattle.ipc_files.specs.Selections.{numbers_read, schema_shown}
use Rattle.arrow_types.specs.Schemas.{Keyed}
use Rattle.ipc_streams.specs.declared.columns.StreamColumns.{StreamColumns}
use Rattle.ipc_streams.specs.Starts.{stream_schema}

-- a reader knows the schema and the columns that a stream is read with
pub record IsReader (c : StreamColumns) (s : Reader) : Type 0 where
  pub schema : s.schema ≡ stream_schema c.metadata
  pub columns : MayProject (rc_value c.metadata.schema) s.columns c.projection

-- a batch under the dictionaries that were read, by its message's version and pairs, its tables and its body
abbrev pub batch_read : Reader → Dictionaries → MetadataVersion → Metadata → BatchHeader → List ℕ → Reading TableBatch
batch_read s d version custom tables body = batch_of_tables to_read (record {
  order = s.schema.order;
  fields = s.schema.fields;
  columns = s.columns;
  dictionaries = d;
  most = length body;
}) version custom tables body None

-- the fields of the columns, in the order asked
abbrev pub fields_shown : StreamColumns → List Keyed
fields_shown c = schema_shown (rc_value c.metadata.schema) c.projection

-- a reader knows the schema, and reads columns in its order: those of the numbers that rise, or all
pub record IsRising (c : StreamColumns) (s : Reader) : Type 0 where
  pub schema : s.schema ≡ stream_schema c.metadata
  pub columns : s.columns ≡ numbers_read c.projection

-- a batch that was read of columns in the schema's order, with the columns that its tables and its body mean, or a refusal of it
pub record ReadsRising (s : Reader) (d : Dictionaries) (h : Held) (message : RecordMessage) (body : List ℕ) (result : Result Batch IpcError) : Type 0 where
  pub gives : Gives table_of result (batch_read s d message.version [] message.tables body)
  pub columns : IfOk result (λ x. AreAsked (columns_read
      (record_batch_of s.schema.order message.version message.tables body) h s.schema.fields first_place x.height) s.columns x.arrays)
