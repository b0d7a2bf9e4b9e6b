-- A file that is read and written as one stream.
use Rattle.std.proofs.Common.{◌≡◌, ◌∙◌, refl, sym, subst, arith, ℕ, ◌^◌, ◌<◌, ◌≤◌, List, length, Option, Some, None, Result, Ok, Err}
use Rattle.std.specs.Prelude.{IfSome, sum_by}
use Rattle.std.specs.Rc.{rc_value}
use Rattle.arrow_spec.specs.declared.error.IpcError.{IpcError}
use Rattle.arrow_spec.specs.Files as files
use Rattle.arrow_spec.specs.Files.{ArrowTable, Meta, Request, TableBatch, «all», columns_right, file_reading, meta_of, to_read}
use Rattle.arrow_spec.specs.Kinds.{width}
use Rattle.arrow_spec.specs.Meaning.{file_table}
use Rattle.arrow_spec.specs.Readings.{meaning}
use Rattle.arrow_spec.proofs.Projection.{some_meaning}
use Rattle.arrow_spec.proofs.ReadPairs.{same_read}
use Rattle.ipc_bodies.specs.Encodings.{text_of}
use Rattle.ipc_bodies.specs.Puts.{Moved}
use Rattle.ipc_bodies.specs.declared.encoding.Encoding.{Encoding}
use Rattle.ipc_reader.specs.Below.{FileMetadata, FileSays, MayProject, WasRead, file_custom, meta_view}
use Rattle.ipc_reader.specs.declared.cursor.FileCursor.{FileCursor}
use Rattle.ipc_reader.specs.declared.kept.KeptDictionaries.TheVariants.{NotRead}
use Rattle.ipc_stream_writer.specs.Calls.{Finishes}
use Rattle.ipc_stream_writer.specs.declared.stream.StreamCore.{StreamCore}
use Rattle.laws_files.proofs.Cuts.{file-cut}
use Rattle.laws_walk.specs.Places.{IsUnread, Sending, meta_in, place_of, schema_of_reader, table_sent, walking}
use Rattle.laws_walk.specs.Sends.{IsWriter, Refused}
use Rattle.laws_walk.proofs.Cursors.{blocks_as}
use Rattle.laws_walk.proofs.Ends.{HasEnded, ended, not_ended}
use Rattle.laws_walk.proofs.Fronts.{refused_before}
use Rattle.laws_walk.proofs.Requests.{fields_by}
use Rattle.laws_walk.specs.declared.summary.Summary.{Summary}
use Rattle.ipc_transcode.specs.Sends.{FileRows, IsSentBy, SendsAll, SendsFile}
use Rattle.ipc_transcode.specs.Transcode.{Transcodes}
use Rattle.ipc_transcode.proofs.AllBatches.{sent_too}
use Rattle.ipc_transcode.proofs.Calls.{sent_open}
use Rattle.ipc_transcode.proofs.Fronts.{refused_of, stream_of}

-- where the whole file means a table, what it means under a request is the cut of its projection
cut_as_asked : (x : Sending) (table : ArrowTable) → FileSays x.bytes (meta_in x) (file_custom x.file) → columns_right x.request.columns (width (meta_in x).schema.fields) ≡ Ok tt → meaning (file_reading to_read x.bytes x.request None) ≡ Some table → (t : ArrowTable) → file_table x.bytes «all» ≡ Some t
    → table ≡ files.cut (files.project t x.request.columns) x.request.limit
unfolding file_table
cut_as_asked x table says columns means t whole =
    let right : (m : Meta) → meta_of x.bytes ≡ Ok m → width t.fields ≡ width m.schema.fields → columns_right x.request.columns (width m.schema.fields) ≡ Ok tt
    = λ m is count. subst (λ (y : Meta). columns_right x.request.columns (width y.schema.fields) ≡ Ok tt) (same_read (meta_in x) m (sym says.read ∙ is)) columns in
    same_read table _ (sym (some_meaning _ table means) ∙ file-cut x.bytes x.request t right (some_meaning _ t whole))

-- a stream that was ended is the file's
transcodes : (x : Sending) → FileSays x.bytes (meta_in x) (file_custom x.file) → columns_right x.request.columns (width (meta_in x).schema.fields) ≡ Ok tt → (w : StreamCore) (new : Option (List ℕ)) (bs : List TableBatch) → HasEnded (walking x) w new bs → (summary : Summary)
    → summary.batches ≡ length bs → summary.rows ≡ sum_by (λ (b : TableBatch). b.rows) bs → summary.bytes ≡ w.byte_count → Transcodes summary x.bytes x.request (text_of x.encoding) x.start new
transcodes x says right w new bs h summary batches rows bytes =
    let stream = stream_of x says h.bytes bs h.whole in
    record {
      stream = record { bytes = h.bytes; table = table_sent (walking x) bs; stream = stream; added = h.added };
      summary = record { batches = batches; rows = rows; bytes = bytes ∙ h.count };
      cut = cut_as_asked x (table_sent (walking x) bs) says right stream.file;
    }

-- what is sent of a file is what is sent of the bytes
as_file : (r : Result Summary IpcError) (x : Sending) (b : List ℕ) (encoding : Encoding) (old now : Option (List ℕ)) (wants wants' : ℕ) → x.bytes ≡ b → x.encoding ≡ encoding → x.start ≡ old → SendsFile r x.bytes x.request x.encoding x.start now wants wants' → SendsFile r b x.request encoding old now wants wants'
as_file r x b encoding old now wants wants' bytes enc start h =
    subst (λ c. SendsFile r c x.request encoding old now wants wants') bytes (subst (λ e. SendsFile r x.bytes x.request e old now wants wants') enc (subst (λ o. SendsFile r x.bytes x.request x.encoding o now wants wants') start h))

-- what is said of a reader's file and columns, where bytes are told
abbrev pub SendsStream : Option (List ℕ) → FileCursor → Encoding → Option (List ℕ) → Result Summary IpcError → Option (List ℕ) → ℕ → ℕ → Type 0
SendsStream content c encoding old r now wants wants' = IfSome content (λ b. (x : Sending) → x.bytes ≡ b → x.encoding ≡ encoding → x.start ≡ old → IsUnread c x → SendsFile r b x.request encoding old now wants wants')

-- where its stream is not begun
pub begin_refused : (content : Option (List ℕ)) (c : FileCursor) (encoding : Encoding) (old : Option (List ℕ)) (r : Result Summary IpcError) (e : IpcError) (now : Option (List ℕ)) (wants wants' : ℕ) → r ≡ Err e → ((x : Sending) → x.encoding ≡ encoding → x.start ≡ old → IsUnread c x → Refused e (walking x) now wants wants')
    → SendsStream content c encoding old r now wants wants'
begin_refused None c encoding old r e now wants wants' is refused = tt
begin_refused (Some b) c encoding old r e now wants wants' is refused = λ x bytes same start unsent.
    subst (λ z. SendsFile z b x.request encoding old now wants wants') (sym is) (as_file (Err e) x b encoding old now wants wants' bytes same start (refused_of x unsent.says e now wants wants' (refused x same start unsent)))

module _ (c : FileCursor) (w : StreamCore) (encoding : Encoding) (old mid : Option (List ℕ)) (enc : w.encoding ≡ encoding) (begun : (x : Sending) → x.encoding ≡ encoding → x.start ≡ old → IsUnread c x → IsSentBy c x × FileRows x c w mid 0 0) where
  -- what is sent of its batches
  abbrev pub AllOf : Option (List ℕ) → Result Summary IpcError → FileCursor → StreamCore → Option (List ℕ) → ℕ → ℕ → Type 0
  AllOf content r c' w' now wants wants' = IfSome content (λ b. (x : Sending) → x.bytes ≡ b → x.encoding ≡ w.encoding → IsSentBy c x → FileRows x c w mid 0 0 → SendsAll r x c' w' now wants wants')

  pub batches_refused : (content : Option (List ℕ)) (r : Result Summary IpcError) (e : IpcError) (c' : FileCursor) (w' : StreamCore) (now : Option (List ℕ)) (before wants wants' : ℕ) → r ≡ Err e → before ≤ wants → AllOf content (Err e) c' w' now wants wants' → SendsStream content c encoding old r now before wants'
  batches_refused None r e c' w' now before wants wants' is less _ = tt
  batches_refused (Some b) r e c' w' now before wants wants' is less all = λ x bytes same start unsent.
      let both = begun x same start unsent in
      let refused = refused_before e (walking x) now before wants wants' less (all x bytes (same ∙ sym enc) both.0 both.1) in
      subst (λ z. SendsFile z b x.request encoding old now before wants') (sym is) (as_file (Err e) x b encoding old now before wants' bytes same start (refused_of x unsent.says e now before wants' refused))

  module _ (content : Option (List ℕ)) (s : Summary) (c' : FileCursor) (w' w2 : StreamCore) (m : Moved) (wants : ℕ) (all : AllOf content (Ok s) c' w' m.old wants m.wants) (metadata : c'.metadata ≡ c.metadata) (writer : IsWriter (schema_of_reader c') w.encoding w') where
    writes : (x : Sending) → x.encoding ≡ encoding → IsWriter (schema_of_reader c') x.encoding w'
    writes x same = subst (λ e. IsWriter (schema_of_reader c') e w') (enc ∙ sym same) writer

    pub stream_sent : (r : Result Summary IpcError) (summary : Summary) (before wants' : ℕ) → (projection : c'.projection ≡ c.projection) → length c.metadata.blocks.items < 2 ^ 63 → Finishes (text_of w'.encoding) m (Ok tt) w' w2
        → summary.batches ≡ s.batches → summary.rows ≡ s.rows → summary.bytes ≡ w2.byte_count → r ≡ Ok summary → SendsStream content c encoding old r m.new before wants'
    stream_sent r summary before wants' projection few h batches rows count is = by content all
      where
        by : (o : Option (List ℕ)) → AllOf o (Ok s) c' w' m.old wants m.wants → SendsStream o c encoding old r m.new before wants'
        by None a = tt
        by (Some b) a = λ x bytes same start unsent.
            let both = begun x same start unsent in
            let sent = a x bytes (same ∙ sym enc) both.0 both.1 in
            let reads = sent_too c c' x metadata projection both.0 in
            let short : length (meta_in x).blocks < 2 ^ 63 = omega (arith, blocks_as x c both.0.by, few) in
            let end = ended (walking x) (schema_of_reader c') (place_of c') w' m.old sent.0.bytes sent.0.sent (sent_open x c' reads) (writes x same) (fields_by x c' w' x.encoding reads.by (writes x same)) sent.0.so_far sent.1 short w2 m refl h in
            let done = transcodes x unsent.says unsent.right w2 m.new sent.0.sent end summary (batches ∙ sent.0.batches_are) (rows ∙ sent.0.rows_are) count in
            subst (λ z. SendsFile z b x.request encoding old m.new before wants') (sym is) (as_file (Ok summary) x b encoding old m.new before wants' bytes same start done)

    pub end_refused : (r : Result Summary IpcError) (e : IpcError) (before : ℕ) → (projection : c'.projection ≡ c.projection) → before ≤ m.wants → Finishes (text_of w'.encoding) m (Err e) w' w2 → r ≡ Err e → SendsStream content c encoding old r m.new before m.wants_now
    end_refused r e before projection less h is = by content all
      where
        by : (o : Option (List ℕ)) → AllOf o (Ok s) c' w' m.old wants m.wants → SendsStream o c encoding old r m.new before m.wants_now
        by None a = tt
        by (Some b) a = λ x bytes same start unsent.
            let both = begun x same start unsent in
            let sent = a x bytes (same ∙ sym enc) both.0 both.1 in
            let reads = sent_too c c' x metadata projection both.0 in
            let stopped = not_ended (walking x) (schema_of_reader c') (place_of c') w' m.old sent.0.bytes sent.0.sent (sent_open x c' reads) (writes x same) (fields_by x c' w' x.encoding reads.by (writes x same)) sent.0.so_far sent.1 e w2 m refl h in
            let refused = refused_before e (walking x) m.new before m.wants m.wants_now less stopped in
            subst (λ z. SendsFile z b x.request encoding old m.new before m.wants_now) (sym is) (as_file (Err e) x b encoding old m.new before m.wants_now bytes same start (refused_of x unsent.says e m.new before m.wants_now refused))

-- ── a file ──

-- what its reader's stream means is what the file means
pub file_sent : (content after : Option (List ℕ)) (file : FileMetadata) (request : Request) (c : FileCursor) (encoding : Encoding) (old now : Option (List ℕ)) (wants wants' : ℕ) (r : Result Summary IpcError) → after ≡ content
    → IfSome content (λ b. FileSays b (meta_view file) (file_custom file)) → WasRead file → c.metadata ≡ file → MayProject (rc_value file.schema) request.columns c.projection → columns_right request.columns (width (meta_view file).schema.fields) ≡ Ok tt
    → c.block ≡ 0 → c.dictionaries ≡ NotRead → c.left ≡ request.limit → SendsStream after c encoding old r now wants wants' → IfSome content (λ b. SendsFile r b request encoding old now wants wants')
file_sent None after file request c encoding old now wants wants' r same says read metadata columns right block not_read left h = tt
file_sent (Some b) after file request c encoding old now wants wants' r same says read metadata columns right block not_read left h =
    let here : SendsStream (Some b) c encoding old r now wants wants' = subst (λ o. SendsStream o c encoding old r now wants wants') same h in
    let x : Sending = record { bytes = b; file = file; request = request; encoding = encoding; start = old } in
    here x refl refl refl (record { metadata = metadata; columns = columns; right = right; says = says; read = read; block = block; dictionaries = not_read; left = left })
