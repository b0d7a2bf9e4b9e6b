-- A stream of the schema of a first file, which is begun or not.
use Rattle.std.proofs.Common.{◌≡◌, ◌∙◌, ◌⊎◌, sym, refl, ap, inl, inr, ℕ, List, [], ◌∷◌, ◌++◌, length, true, false, Option, Some, None, Result, Ok, Err, subst, arith}
use Rattle.std.specs.Prelude.{IfErr}
use Rattle.std.specs.Io.KnownBytes.{Keeps}
use Rattle.std.specs.Rc.{rc_value}
use Rattle.std.proofs.KnownBytes.{Keeps-refl}
use Rattle.arrow_spec.specs.declared.error.IpcError.{IpcError}
use Rattle.arrow_spec.specs.declared.error.IpcError.TheVariants as errors
use Rattle.arrow_spec.specs.Features.{chosen_floats}
use Rattle.arrow_spec.specs.Files.{TableBatch, «all», file_reading, to_read}
use Rattle.arrow_spec.specs.Readings.{IsAmong, Refuses, refusals}
use Rattle.arrow_spec.specs.Streams.{stream_table, unended}
use Rattle.arrow_spec.specs.WrittenSchemas.{CustomMayBeWritten}
use Rattle.arrow_types.specs.Schemas.{Keyed, fields_in}
use Rattle.ipc_fields.specs.IpcFields.{Ids, fields_with, ids_of, metadata_of}
use Rattle.ipc_io.specs.Outside.{Rose}
use Rattle.ipc_bodies.specs.Encodings.{text_of}
use Rattle.ipc_bodies.specs.Puts.{Moved, PutsPart}
use Rattle.ipc_bodies.specs.declared.encoding.Encoding.{Encoding}
use Rattle.ipc_write_laws.proofs.Messages.{messages_front_means}
use Rattle.laws_walk.specs.Below.{AreSentFields, AreStarted, IsNumbered, plain_fields, IsOpened, FileMetadata, FileSays, file_custom, meta_view, schema_shown, FileCursor, SchemaIsSaid, StreamPairs, is_new, said_fields, stream_text, HasBegun, LeavesAll, StartCause, StartFailed, IsWritten, table_with, StreamCore}
use Rattle.laws_walk.proofs.Below.{are_sent_fields, begun_sent, why_refused, schema_is_put}
use Rattle.laws_transcode.specs.Files.{IsSentFile}
use Rattle.ipc_dictionaries.specs.Tracker.{held_by}
use Rattle.laws_walk.specs.Places.{Sending, place_of, schema_of_reader, walking}
use Rattle.laws_walk.specs.Sends.{IsNewWriter, IsWriter}
use Rattle.laws_walk.proofs.Begins.{among_refuses, begun}
use Rattle.laws_walk.proofs.Fronts.{of_put, part_of_put, same_table, says}
use Rattle.laws_walk.proofs.Requests.{fields_by, unbegun}
use Rattle.laws_walk.proofs.StartCauses.{schema_refused_as, started_by, writer_begun}
use Rattle.ipc_concat.specs.Begins.{Begins, NotBegun, start_of}
use Rattle.ipc_concat.specs.Concat.{CauseOf}
use Rattle.ipc_concat.specs.Files.{Holds, IsPut, IsUnread, head_of, part_of, schema_of}
use Rattle.ipc_concat.specs.Opening.{RefusesStart}
use Rattle.ipc_concat.specs.declared.stream.JoinedStream.{JoinedStream}
use Rattle.ipc_concat.proofs.Blocks.{may_all, none_of, part_read}
use Rattle.ipc_concat.proofs.Writing.{put_cause}

none_there : {A : Type 0} (xs : List A) → 0 ≡ length xs → xs ≡ []
none_there [] h = refl
none_there (x ∷ xs) h = absurd (omega (arith, h))

-- a reader of all columns has the file's schema
shown : (c : FileCursor) → c.projection ≡ None → schema_of_reader c ≡ schema_of c
shown c all = ap (λ p. schema_shown (rc_value c.metadata.schema) p) all

module _ (b : List ℕ) (c : FileCursor) (encoding : Encoding) (w w' : StreamCore) (m : Moved) (unread : IsUnread None c) (file : FileSays b (meta_view c.metadata) (file_custom c.metadata)) (new : IsNewWriter c.metadata encoding w) where
  -- the file, as it would be sent alone
  abbrev Whole : Sending
  Whole = record { bytes = b; file = c.metadata; request = «all»; encoding = encoding; start = m.old }

  opened_as : IsSentFile b «all» (meta_view c.metadata) (file_custom c.metadata) → IsOpened b «all» (meta_view c.metadata) (file_custom c.metadata)
  opened_as f = record { read = f.read; pairs = f.pairs; columns = f.columns; readable = f.readable }

  started : (own : Ids) → IsNumbered (fields_in (schema_of c)) own → AreStarted w.options c.metadata None (schema_of c) own w.pairs
  started own numbered = started_by c.metadata None (schema_of c) encoding w own new unread.read refl refl numbered

  -- it was begun
  pub has_begun : (s : JoinedStream) → s.writer ≡ w' → s.batches ≡ 0 → s.rows ≡ 0 → IsWriter (schema_of_reader c) encoding w' → HasBegun (text_of w.encoding) m w w' (schema_of_reader c) None → Begins (Ok s) b c encoding m.old m.new m.wants m.wants_now
  has_begun s is batches rows writer h =
      let may = may_all c unread.projection in
      let start = begun (walking Whole) (schema_of_reader c) (place_of c) w w' m (unbegun c Whole (record { metadata = refl; columns = may; right = refl; says = file; read = unread.read; block = unread.block; dictionaries = unread.dictionaries; left = unread.left })) new refl h in
      let open_file : IsOpened b «all» (meta_view c.metadata) (file_custom c.metadata) = record { read = file.read; pairs = file.pairs; columns = refl; readable = start.readable } in
      let so_far = start.sent.so_far in
      let none : start.sent.sent ≡ [] = none_there start.sent.sent start.sent.batches_are in
      let fields = fields_by Whole c w' encoding (record { metadata = refl; columns = may; file = open_file; read = unread.read }) writer in
      let of = says (walking Whole) (schema_of_reader c) (place_of c) w' m.new start.sent.bytes start.sent.sent writer fields so_far in (
        open_file,
        record {
          pairs = so_far.pairs;
          bytes = start.sent.bytes;
          written = rw is (subst (λ bs. IsWritten so_far.pairs w' start.sent.bytes bs) none so_far.written);
          head = ap (λ (v : StreamCore). table_with so_far.pairs v []) is ∙ same_table (walking Whole) so_far.pairs w' [] of;
          added = so_far.added;
          batches = batches;
          rows = rows;
        },
      )

  -- the schema is refused
  refused_so : (e : IpcError) (own : Ids) → IsNumbered (fields_in (schema_of c)) own → IsAmong (refusals (stream_text w.options (fields_in (schema_of c)) own w.pairs)) e → RefusesStart e (meta_view c.metadata) (file_custom c.metadata)
  refused_so e own numbered among =
      let floats = chosen_floats None (meta_view c.metadata).schema.fields 0 in
      elim (why_refused w.options c.metadata None (schema_of c) own w.pairs (started own numbered) e floats refl among) [ inl large ↦ inr (sym large.2, large.0, large.1) | inr why ↦ inl (among_refuses e floats why) ]

  -- a part of its message was put
  part_put : (own : Ids) → IsNumbered (fields_in (schema_of c)) own → (bytes : List ℕ) → stream_text w.options (fields_in (schema_of c)) own w.pairs ≡ Ok bytes → IsPut (start_of c encoding m.old) b c.metadata [] [] bytes
  part_put own numbered bytes text =
      let sent = begun_sent b «all» w.options c.metadata (schema_of c) own w.pairs bytes file (started own numbered) text in
      let fields : AreSentFields c.metadata None (schema_of c) own = are_sent_fields c.metadata None (schema_of c) own unread.read refl sent.0.readable refl numbered in
      let said : SchemaIsSaid (fields_with (fields_in (schema_of c)) own) (metadata_of w.pairs.schema) = subst (SchemaIsSaid (fields_with (fields_in (schema_of c)) own)) (sym new.own) fields.said in
      let put = schema_is_put w.options (fields_in (schema_of c)) own w.pairs (held_by w.tracker) bytes text said (subst CustomMayBeWritten (sym new.custom) unread.read.custom) new.held in
      let front = messages_front_means (said_fields (fields_in (schema_of c)) own) (metadata_of w.pairs.schema) (metadata_of w.pairs.message) [] put.0.may in
      record {
        read = no_blocks (opened_as sent.0);
        not_ended = subst unended (sym put.1) front.0;
        stream = ap (λ z. stream_table z None) put.1 ∙ front.1 ∙ ap Some (rw (new.own, new.custom, fields.fields) refl);
      }
    where
      no_blocks : IsOpened b «all» (meta_view c.metadata) (file_custom c.metadata) → file_reading to_read b «all» (Some 0) ≡ Ok (part_of c.metadata [])
      no_blocks o = part_read b c [] (none_of b c None unread o)

  abbrev Failed : IpcError → List Keyed → Type 0
  Failed e s = (StartCause e w s None × LeavesAll m w w') ⊎ StartFailed (text_of w.encoding) m e w w' s None

  not_begun : (e : IpcError) → Failed e (schema_of c) → NotBegun e b c encoding m.old m.new m.wants m.wants_now
  not_begun e (inl (inl never, leaves)) = let clash : true ≡ false = sym (ap is_new new.state) ∙ never.1 in cc
  not_begun e (inl (inr (fresh, inl memory), leaves)) = NotBegun.refused (inl (rw memory tt)) leaves.untouched.bytes
  not_begun e (inl (inr (fresh, inr none), leaves)) = NotBegun.refused (refused_so e none.below none.ids none.refused) leaves.untouched.bytes
  not_begun e (inr f) =
      let put : PutsPart m e (text_of encoding f.bytes) = subst (λ k. PutsPart m e (text_of k f.bytes)) new.encoding f.failed.put in
      NotBegun.in_put {bytes = f.bytes} (part_put f.below f.ids f.bytes f.text) (of_put e m (text_of encoding f.bytes) put) (part_of_put e m (text_of encoding f.bytes) put)

  pub has_not_begun : (r : Result JoinedStream IpcError) (e : IpcError) → r ≡ Err e → Failed e (schema_of_reader c) → Begins r b c encoding m.old m.new m.wants m.wants_now
  has_not_begun r e is h = subst (λ z. Begins z b c encoding m.old m.new m.wants m.wants_now) (sym is) (not_begun e (subst (Failed e) (shown c unread.projection) h))

-- why, whatever the file is
pub start_cause : (c : FileCursor) (encoding : Encoding) (w w' : StreamCore) (m : Moved) (e : IpcError) → IsUnread None c → IsNewWriter c.metadata encoding w → (StartCause e w (schema_of_reader c) None × LeavesAll m w w') ⊎ StartFailed (text_of w.encoding) m e w w' (schema_of_reader c) None
    → (reads : Type 0) → CauseOf reads (Rose m.faults m.faults_now) e
start_cause c encoding w w' m e unread new (inr f) reads = put_cause reads e m _ f.failed.put
start_cause c encoding w w' m e unread new (inl (inl never, leaves)) reads = let clash : true ≡ false = sym (ap is_new new.state) ∙ never.1 in cc
start_cause c encoding w w' m e unread new (inl (inr (fresh, inl memory), leaves)) reads = rw memory tt
start_cause c encoding w w' m e unread new (inl (inr (fresh, inr none), leaves)) reads =
    let asked : schema_of_reader c ≡ rc_value c.metadata.schema = shown c unread.projection in
    schema_refused_as (CauseOf reads (Rose m.faults m.faults_now)) tt (λ feature. tt) w.options c.metadata None (schema_of_reader c) none.below w.pairs (started_by c.metadata None (schema_of_reader c) encoding w none.below new unread.read refl asked none.ids) e none.refused

-- ── calls ──

pub memory_begins : (r : Result JoinedStream IpcError) (e : IpcError) (b : List ℕ) (c : FileCursor) (encoding : Encoding) (old : Option (List ℕ)) (wants wants' : ℕ) → r ≡ Err e → e ≡ errors.Memory → Begins r b c encoding old old wants wants'
memory_begins r e b c encoding old wants wants' is memory = subst (λ z. Begins z b c encoding old old wants wants') (sym (is ∙ ap (λ x. Err x) memory)) (NotBegun.refused (inl tt) (Keeps-refl old))

-- a writer that has begun
pub writer_so : (c : FileCursor) (encoding : Encoding) (w w' : StreamCore) (m : Moved) → IsUnread None c → IsNewWriter c.metadata encoding w → plain_fields (fields_in (schema_of_reader c)) ≡ fields_in (schema_of_reader c) → HasBegun (text_of w.encoding) m w w' (schema_of_reader c) None → IsWriter (schema_of_reader c) encoding w'
writer_so c encoding w w' m unread new plain h = writer_begun c.metadata None (schema_of_reader c) encoding w w' m unread.read refl (shown c unread.projection) new plain h

-- which goes on
pub going_so : (s : List Keyed) (encoding : Encoding) (w : StreamCore) → IsWriter s encoding w → IsWriter w.schema w.encoding w
going_so s encoding w is = subst (λ t. IsWriter t w.encoding w) (sym is.schema) (subst (λ e. IsWriter s e w) (sym is.encoding) is)

pub schema_so : (c : FileCursor) (encoding : Encoding) (w : StreamCore) → IsUnread None c → IsWriter (schema_of_reader c) encoding w → w.schema ≡ schema_of c
schema_so c encoding w unread is = is.schema ∙ shown c unread.projection
