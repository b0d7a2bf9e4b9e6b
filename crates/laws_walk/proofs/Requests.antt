-- A file that is walked within a request: its reader's schema, and what refuses it.
use Rattle.std.proofs.Common.{◌≡◌, ◌∙◌, sym, refl, ap, subst, ℕ, List, [], ◌∷◌, Option, Some, None, Err}
use Rattle.std.specs.Rc.{rc_value}
use Rattle.arrow_spec.specs.declared.error.IpcError.{IpcError}
use Rattle.arrow_spec.specs.Features.{chosen_floats}
use Rattle.arrow_spec.specs.Files.{Purpose, Request, file_reading, to_send}
use Rattle.arrow_spec.specs.Readings.{IsAmong, Refuses, free_of, refusals}
use Rattle.arrow_spec.proofs.Projection.{ok-place, on}
use Rattle.arrow_types.specs.Schemas.{Keyed}
use Rattle.ipc_bodies.specs.declared.encoding.Encoding.{Encoding}
use Rattle.ipc_fields.specs.IpcFields.{ids_of}
use Rattle.ipc_reader.specs.Below.{FileMetadata, MayProject, ProjectionInfo, file_custom, schema_shown}
use Rattle.ipc_reader.specs.declared.cursor.FileCursor.{FileCursor}
use Rattle.ipc_reader.proofs.Below.{asked_below, picked_from}
use Rattle.ipc_stream_writer.specs.declared.stream.StreamCore.{StreamCore}
use Rattle.laws_sent.specs.SentFields.{AreSentFields}
use Rattle.laws_sent.proofs.SentFields.{are_sent_fields}
use Rattle.laws_transcode.specs.Files.{AreAsked}
use Rattle.laws_transcode.proofs.Readings.{features_refused}
use Rattle.laws_walk.specs.Places.{IsReadBy, IsUnread, Sending, meta_in, place_of, schema_of_reader, walking}
use Rattle.laws_walk.specs.Sends.{IsWriter}
use Rattle.laws_walk.specs.Walks.{walk_reading, within}
use Rattle.laws_walk.proofs.Begins.{IsUnbegun, among_refuses}
use Rattle.laws_walk.proofs.Walks.{walk_is_file}

-- the schema of a projection has the columns that are asked for
pub shown_by : (s : List Keyed) (columns : Option (List ℕ)) (p : Option ProjectionInfo) → MayProject s columns p → AreAsked s columns (schema_shown s p)
shown_by s None None may = refl
shown_by s None (Some p) may = absurd may
shown_by s (Some cs) None may = absurd may
shown_by s (Some cs) (Some p) may = picked_from s cs (rc_value p.schema) (asked_below s cs p may) may.fields

-- so has a reader's
pub reader_shown : (file : FileMetadata) (columns : Option (List ℕ)) (c : FileCursor) → c.metadata ≡ file → MayProject (rc_value file.schema) columns c.projection → AreAsked (rc_value file.schema) columns (schema_of_reader c)
reader_shown file columns c same may = subst (λ (g : FileMetadata). AreAsked (rc_value file.schema) columns (schema_shown (rc_value g.schema) c.projection)) (sym same) (shown_by (rc_value file.schema) columns c.projection may)

-- a writer's fields are the file's
pub fields_by : (x : Sending) (c : FileCursor) (w : StreamCore) (encoding : Encoding) → IsReadBy c x → IsWriter (schema_of_reader c) encoding w → AreSentFields x.file x.request.columns (schema_of_reader c) (ids_of w.fields.items)
fields_by x c w encoding is writer = are_sent_fields x.file x.request.columns (schema_of_reader c) (ids_of w.fields.items) is.read is.file.columns is.file.readable (reader_shown x.file x.request.columns c is.metadata is.columns) writer.ids

-- a stream of its columns may be begun
pub unbegun : (c : FileCursor) (x : Sending) → IsUnread c x → IsUnbegun (walking x) (schema_of_reader c) (place_of c)
unbegun c x is = record {
  says = is.says;
  read = is.read;
  right = is.right;
  shown = reader_shown x.file x.request.columns c is.metadata is.columns;
  opens = λ readable. on _ _ tt is.right ∙ ok-place _ readable;
  floats = floats (chosen_floats x.request.columns (meta_in x).schema.fields 0) refl;
  block = is.block;
  dictionaries = is.dictionaries;
  left = is.left;
}
  where
    floats : (es : List IpcError) → chosen_floats x.request.columns (meta_in x).schema.fields 0 ≡ es → (e : IpcError) → IsAmong (chosen_floats x.request.columns (meta_in x).schema.fields 0) e → Refuses e (refusals (walk_reading to_send x.bytes (within x.request) None))
    floats [] same e among = absurd (subst (λ es. IsAmong es e) same among)
    floats (f ∷ fs) same e among =
        let all : walk_reading to_send x.bytes (within x.request) None ≡ Err (f ∷ fs) = walk_is_file to_send x.bytes x.request None ∙ features_refused to_send x.bytes x.request None (meta_in x) (file_custom x.file) (f ∷ fs) is.says.read is.says.pairs is.right (ap free_of same) in
        subst (λ r. Refuses e (refusals r)) (sym all) (among_refuses e (f ∷ fs) (subst (λ es. IsAmong es e) same among))

-- what refuses the walk refuses the file
pub file_refused : (purpose : Purpose) (e : IpcError) (b : List ℕ) (r : Request) (j : Option ℕ) → Refuses e (refusals (walk_reading purpose b (within r) j)) → Refuses e (refusals (file_reading purpose b r j))
file_refused purpose e b r j h = subst (λ z. Refuses e (refusals z)) (walk_is_file purpose b r j) h
