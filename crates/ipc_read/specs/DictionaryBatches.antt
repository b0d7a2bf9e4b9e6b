-- Dictionary messages that are read. (Arrow Columnar Format, "Dictionary Messages".)
use Rattle.std.specs.Prelude.{◌≡◌, ℕ, ⊤, ℤ, List, [], ◌∷◌, Bool, true, false, Option, Some, None, Ok, Result, IfOk, IfErr}
use Rattle.arrow_spec.specs.declared.error.IpcError.{IpcError}
use Rattle.arrow_spec.specs.declared.message.MetadataVersion.{MetadataVersion}
use Rattle.arrow_spec.specs.Readings.{Reading, Refuses, refusals}
use Rattle.arrow_spec.specs.Kinds.{Kind, Fields, none, field}
use Rattle.arrow_spec.specs.Counts.{RecordBatch, first_place}
use Rattle.arrow_spec.specs.Messages.{BatchHeader, DictionaryBatch}
use Rattle.arrow_spec.specs.Arrays.{Dictionaries, HeldDictionary}
use Rattle.arrow_spec.specs.Files.{dictionary_of}
use Rattle.arrow_types.specs.Schemas.{Keyed}
use Rattle.arrow_arrays.specs.Parts as parts
use Rattle.arrow_arrays.specs.Parts.{Parts, Forest, also}
use Rattle.ipc_fields.specs.IpcFields.{Ids, schema_with}
use Rattle.ipc_read.specs.Batches.{batch_fetched}
use Rattle.ipc_read_laws.specs.Held.{Held, HoldsCells}
use Rattle.ipc_read_laws.specs.PartsRead.{parts_read}

-- the message of a dictionary, by its batch's tables
abbrev pub message_of : ℤ → Bool → BatchHeader → DictionaryBatch
message_of id is_delta tables = record { id = id; is_delta = is_delta; values = tables }

-- one column of a kind, without a name
abbrev pub one_column : Kind → Fields
one_column k = field [] true [] k none

-- parts with one more behind them; a delta's stand behind those before it, and another dictionary's behind none
abbrev pub with_part : Forest → Parts → Forest
with_part parts.none p = also p parts.none
with_part (also x xs) p = also x (with_part xs p)

abbrev pub parts_before : Bool → Option Forest → Parts → Forest
parts_before false old p = also p parts.none
parts_before true None p = also p parts.none
parts_before true (Some xs) p = with_part xs p

-- the last part under the id is the one of the message's buffers, behind those before it
abbrev pub HoldsPart : Held → Held → ℤ → Bool → Option Kind → RecordBatch → ℕ → Type 0
HoldsPart old new id is_delta None m rows = ⊤
HoldsPart old new id is_delta (Some k) m rows = new id ≡ Some (parts_before is_delta (old id) (parts_read m old k first_place rows))

-- what the message says under a schema, and under the dictionaries that were read before it
abbrev pub dictionary_reading : List Keyed → Ids → Bool → Dictionaries → ℕ → DictionaryBatch → MetadataVersion → List ℕ → Bool → Reading HeldDictionary
dictionary_reading s below is_little_endian d most x version body may_replace =
    dictionary_of (schema_with s below is_little_endian []) d most x version body may_replace

-- what is held behind a call is what it was read to be, or the call answers a refusal of it
pub record AddsDictionary (d : Dictionaries) (h : Held) (result : Result (Unit {0}) IpcError) (read : Reading HeldDictionary) : Type 0 where
  pub ok : IfOk result (λ _. (x : HeldDictionary) × (read ≡ Ok x) × HoldsCells (x ∷ d) h)
  pub err : IfErr result (λ e. Refuses e (refusals read))

-- the stated lengths of the buffers that are looked at, where there are rows and the id is one of a schema
abbrev pub dictionary_fetched : RecordBatch → Option Kind → ℕ → ℕ
dictionary_fetched m None rows = 0
dictionary_fetched m (Some k) rows = batch_fetched m None (one_column k) rows
