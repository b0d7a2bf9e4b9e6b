-- Why a stream is not begun, whatever its file is, and how its writer stands behind the start.
use Rattle.std.proofs.Common.{◌≡◌, inl, inr, ℕ, List, Option, None, Ok, true, false, refl, sym, ap, ◌∙◌, ◌⊎◌, subst}
use Rattle.std.specs.Rc.{rc_value}
use Rattle.arrow_spec.specs.declared.error.Feature.{Feature}
use Rattle.arrow_spec.specs.declared.error.IpcError.{IpcError}
use Rattle.arrow_spec.specs.declared.error.IpcError.TheVariants as errors
use Rattle.arrow_spec.specs.Features.{chosen_floats}
use Rattle.arrow_spec.specs.Files.{columns_right}
use Rattle.arrow_spec.specs.Kinds.{width}
use Rattle.arrow_spec.specs.Readings.{IsAmong, refusals}
use Rattle.arrow_types.specs.Schemas.{Keyed, fields_in}
use Rattle.ipc_stream_writer.proofs.Below.{refused_chosen}
use Rattle.ipc_bodies.specs.Encodings.{text_of}
use Rattle.ipc_bodies.specs.Puts.{Moved}
use Rattle.ipc_bodies.specs.declared.encoding.Encoding.{Encoding}
use Rattle.ipc_stream_writer.specs.Below.{options_of, stream_text, is_new, StreamPairs}
use Rattle.ipc_fields.specs.IpcFields.{Ids, ids_of}
use Rattle.ipc_reader.specs.Below.{WasRead, meta_view, FileMetadata, WriteOptions}
use Rattle.laws_sent.specs.Below.{plain_fields, IsNumbered}
use Rattle.ipc_stream_writer.specs.Calls.{HasBegun, LeavesAll, StartCause, StartFailed}
use Rattle.ipc_stream_writer.specs.declared.stream.StreamCore.{StreamCore}
use Rattle.laws_transcode.specs.Files.{AreAsked}
use Rattle.laws_sent.specs.SchemaLaws.{AreStarted}
use Rattle.laws_sent.proofs.SentFields.{are_sent_fields}
use Rattle.laws_sent.proofs.SentMessages.{begun_readable}
use Rattle.laws_sent.proofs.Starts.{why_refused}
use Rattle.laws_walk.specs.Sends.{IsNewWriter, IsWriter, SendCause}
use Rattle.laws_walk.proofs.WriteCauses.{put_cause}

-- how a file's columns are sent by a new writer
pub started_by : (file : FileMetadata) (columns : Option (List ℕ)) (s : List Keyed) (encoded : Encoding) (w : StreamCore) (own : Ids) → IsNewWriter file encoded w → WasRead file → columns_right columns (width (meta_view file).schema.fields) ≡ Ok tt
    → AreAsked (rc_value file.schema) columns s → IsNumbered (fields_in s) own → AreStarted w.options file columns s own w.pairs
started_by file columns s encoded w own new read right asked numbered = record {
  plain = ap (λ (o : WriteOptions). o.compression) new.options;
  most = ap (λ (o : WriteOptions). o.metadata_limit) new.options;
  read = read;
  right = right;
  asked = asked;
  ids = numbered;
  schema = new.own;
  message = new.custom;
}

-- its schema is refused as too large, or for a feature
pub schema_refused_as : (Q : IpcError → Type 0) → Q errors.TooLarge → ((feature : Feature) → Q (errors.Unsupported feature)) → (options : WriteOptions) (file : FileMetadata) (columns : Option (List ℕ)) (s : List Keyed) (own : Ids) (pairs : StreamPairs) → AreStarted options file columns s own pairs
    → (e : IpcError) → IsAmong (refusals (stream_text options (fields_in s) own pairs)) e → Q e
schema_refused_as Q large of options file columns s own pairs h e among =
    let fs = (meta_view file).schema.fields in
    let why = why_refused options file columns s own pairs h e (chosen_floats columns fs 0) refl among in
    elim why [ inl message ↦ subst Q message.2 large | inr floats ↦ refused_chosen Q of columns fs 0 e floats ]

-- a writer of a file's columns, of which a schema has those that are asked for
module _ (file : FileMetadata) (columns : Option (List ℕ)) (s : List Keyed) (encoded : Encoding) (w w' : StreamCore) (m : Moved) (read : WasRead file) (right : columns_right columns (width (meta_view file).schema.fields) ≡ Ok tt) (shown : AreAsked (rc_value file.schema) columns s) (new : IsNewWriter file encoded w) where
  -- that has begun
  pub writer_begun : plain_fields (fields_in s) ≡ fields_in s → HasBegun (text_of w.encoding) m w w' s None → IsWriter s encoded w'
  writer_begun plain h =
      let own = ids_of w'.fields.items in
      let readable = begun_readable w.options file columns s own w.pairs h.bytes shown h.text in
      record {
        state = h.state;
        encoding = h.encoding ∙ new.encoding;
        options = h.options ∙ new.options;
        schema = h.schema;
        ids = h.ids;
        plain = plain;
        representable = (are_sent_fields file columns s own read right readable shown h.ids).representable;
        tracker = ap options_of h.tracker ∙ new.tracker;
      }

  -- or has not
  pub start_cause : (e : IpcError) (reads reads' : ℕ) → (StartCause e w s None × LeavesAll m w w') ⊎ StartFailed (text_of w.encoding) m e w w' s None → SendCause e reads reads' m.faults m.faults_now
  start_cause e reads reads' (inr failed) = put_cause e m _ reads reads' failed.failed.put
  start_cause e reads reads' (inl (inl never, leaves)) = let clash : true ≡ false = sym (ap is_new new.state) ∙ never.1 in cc
  start_cause e reads reads' (inl (inr (fresh, inl memory), leaves)) = subst (λ z. SendCause z reads reads' m.faults m.faults_now) (sym memory) tt
  start_cause e reads reads' (inl (inr (fresh, inr none), leaves)) =
      schema_refused_as (λ z. SendCause z reads reads' m.faults m.faults_now) tt (λ feature. tt) w.options file columns s none.below w.pairs (started_by file columns s encoded w none.below new read right shown none.ids) e none.refused
