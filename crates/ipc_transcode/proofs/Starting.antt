-- A stream of a file's columns that is begun, or not.
use Rattle.std.proofs.Common.{◌≡◌, ◌⊎◌, refl, sym, subst, ℕ, List, Option, None, Result, Ok, Err}
use Rattle.std.specs.Prelude.{IfErr}
use Rattle.arrow_spec.specs.declared.error.IpcError.{IpcError}
use Rattle.arrow_types.specs.Schemas.{fields_in}
use Rattle.ipc_bodies.specs.Encodings.{text_of}
use Rattle.ipc_bodies.specs.Puts.{Moved}
use Rattle.ipc_bodies.specs.declared.encoding.Encoding.{Encoding}
use Rattle.ipc_reader.specs.declared.cursor.FileCursor.{FileCursor}
use Rattle.ipc_stream_writer.specs.Calls.{HasBegun, LeavesAll, StartCause, StartFailed}
use Rattle.ipc_stream_writer.specs.declared.stream.StreamCore.{StreamCore}
use Rattle.laws_walk.specs.Below.{plain_fields}
use Rattle.laws_walk.specs.Places.{IsUnread, Sending, place_of, schema_of_reader, walking}
use Rattle.laws_walk.specs.Sends.{IsNewWriter, IsWriter, SendCause}
use Rattle.laws_walk.proofs.Begins as beginnings
use Rattle.laws_walk.proofs.Requests.{reader_shown, unbegun}
use Rattle.laws_walk.proofs.StartCauses as causes
use Rattle.ipc_transcode.specs.Sends.{BeginsStream, FileRows, IsReader, IsSentBy}

module _ (x : Sending) (c : FileCursor) (w w' : StreamCore) (m : Moved) (is : IsUnread c x) (new : IsNewWriter x.file x.encoding w) (old : m.old ≡ x.start) where
  -- it was put
  pub begun : HasBegun (text_of w.encoding) m w w' (schema_of_reader c) None → IsSentBy c x × FileRows x c w' m.new 0 0
  begun h =
      let started = beginnings.begun (walking x) (schema_of_reader c) (place_of c) w w' m (unbegun c x is) new old h in (
        record {
          by = record { metadata = is.metadata; columns = is.columns; file = record { read = is.says.read; pairs = is.says.pairs; columns = is.right; readable = started.readable }; read = is.read };
          small = started.may;
        },
        started.sent,
      )

  -- or not
  pub begins : (r : Result StreamCore IpcError) (e : IpcError) → r ≡ Err e → (StartCause e w (schema_of_reader c) None × LeavesAll m w w') ⊎ StartFailed (text_of w.encoding) m e w w' (schema_of_reader c) None → BeginsStream r x c m.new m.wants m.wants_now
  begins r e is_err h = subst (λ z. BeginsStream z x c m.new m.wants m.wants_now) (sym is_err) (beginnings.not_begun (walking x) (schema_of_reader c) (place_of c) w w' m (unbegun c x is) new old e h)

module _ (c : FileCursor) (encoded : Encoding) (w w' : StreamCore) (m : Moved) (reader : IsReader c) (new : IsNewWriter c.metadata encoded w) where
  -- a writer that has begun
  pub writer_begun : plain_fields (fields_in (schema_of_reader c)) ≡ fields_in (schema_of_reader c) → HasBegun (text_of w.encoding) m w w' (schema_of_reader c) None → IsWriter (schema_of_reader c) encoded w'
  writer_begun plain h = causes.writer_begun c.metadata reader.columns (schema_of_reader c) encoded w w' m reader.read reader.right (reader_shown c.metadata reader.columns c refl reader.projects) new plain h

  -- why it has not
  pub start_cause : (r : Result StreamCore IpcError) (e : IpcError) → r ≡ Err e → (StartCause e w (schema_of_reader c) None × LeavesAll m w w') ⊎ StartFailed (text_of w.encoding) m e w w' (schema_of_reader c) None → IfErr r (λ e. (reads reads' : ℕ) → SendCause e reads reads' m.faults m.faults_now)
  start_cause r e is h =
      subst (λ z. IfErr z (λ e. (reads reads' : ℕ) → SendCause e reads reads' m.faults m.faults_now)) (sym is)
      (λ reads reads'. causes.start_cause c.metadata reader.columns (schema_of_reader c) encoded w w' m reader.read reader.right (reader_shown c.metadata reader.columns c refl reader.projects) new e reads reads' h)
