-- What is fetched by calls that read and write batches one after another.
use Rattle.std.proofs.Common.{◌≡◌, ℕ, List, Option, Some, None, Ok, refl, sym, ◌∙◌, subst, arith}
use Rattle.std.specs.Prelude.{IfSome}
use Rattle.std.specs.Rc.{rc_value}
use Rattle.arrow_spec.specs.Files.{Request, TableBatch, columns_right}
use Rattle.arrow_spec.specs.Kinds.{width}
use Rattle.ipc_bodies.specs.declared.encoding.Encoding.{Encoding}
use Rattle.ipc_reader.specs.Below.{FooterFetched, FileSays, WasRead, file_custom, meta_view, MayProject, FileMetadata}
use Rattle.ipc_reader.specs.declared.cursor.FileCursor.{FileCursor}
use Rattle.ipc_reader.specs.declared.kept.KeptDictionaries.TheVariants.{NotRead}
use Rattle.ipc_stream_writer.specs.declared.stream.StreamCore.{StreamCore}
use Rattle.laws_walk.specs.Fetching.{FetchesSome, FetchesTo, FileFetched}
use Rattle.laws_walk.specs.Places.{IsUnread, Sending, walking}
use Rattle.laws_walk.proofs.Fetched.{fetches_to_on, none_begun as none_fetched, some_fetched, stays}
use Rattle.laws_walk.proofs.FetchedFiles.{file_by_blocks}
use Rattle.ipc_transcode.specs.Sends.{FileRows, FileSoFar, IsSentBy}
use Rattle.ipc_transcode.proofs.AllBatches.{SentSome, sent_too}

module _ (encoded : Encoding) (c : FileCursor) (w : StreamCore) (now : Option (List ℕ)) where
  -- of the blocks so far
  abbrev pub FetchedSome : Option (List ℕ) → ℕ → ℕ → ℕ → Type 0
  FetchedSome content to f f' = IfSome content (λ b. (x : Sending) → x.bytes ≡ b → x.encoding ≡ encoded → IsSentBy c x → FileRows x c w now 0 0 → FetchesTo (walking x) c.block to f f')

  -- by the next call
  abbrev pub NextFetched : Option (List ℕ) → FileCursor → StreamCore → Option (List ℕ) → ℕ → ℕ → ℕ → Type 0
  NextFetched content c' w' now' to f f' = IfSome content (λ b. (x : Sending) (bytes : List ℕ) (bs : List TableBatch) → x.bytes ≡ b → IsSentBy c' x → FileSoFar x c' w' now' bytes bs → FetchesTo (walking x) c'.block to f f')

  pub nothing_fetched : (content : Option (List ℕ)) (f : ℕ) → FetchedSome content c.block f f
  nothing_fetched None f = tt
  nothing_fetched (Some b) f = λ x same enc is s. stays (walking x) c.block c.block f f refl s.so_far.walked.within refl

  pub more_fetched : (content after : Option (List ℕ)) (c' : FileCursor) (w' : StreamCore) (now' : Option (List ℕ)) (batches rows calls to f g h : ℕ) → after ≡ content → c'.metadata ≡ c.metadata → c'.projection ≡ c.projection → SentSome encoded c w now content c' w' now' batches rows calls
      → FetchedSome content c'.block f g → NextFetched after c' w' now' to g h → FetchedSome content to f h
  more_fetched content after c' w' now' batches rows calls to f g h same metadata projection sent before next = by content sent before (subst (λ o. NextFetched o c' w' now' to g h) same next)
    where
      by : (o : Option (List ℕ)) → SentSome encoded c w now o c' w' now' batches rows calls → FetchedSome o c'.block f g → NextFetched o c' w' now' to g h → FetchedSome o to f h
      by None s b n = tt
      by (Some b) s before n = λ x told enc is start.
          let r = s x told enc is start in
          let here = n x r.0.bytes r.0.sent told (sent_too c c' x metadata projection is) r.0.so_far in
          fetches_to_on (walking x) c.block c'.block to f g h (before x told enc is start) here

-- ── a stream ──

-- of a stream's file, where bytes are told
abbrev pub StreamFetched : Option (List ℕ) → FileCursor → Encoding → Option (List ℕ) → ℕ → ℕ → Type 0
StreamFetched content c encoding old f f' = IfSome content (λ b. (x : Sending) → x.bytes ≡ b → x.encoding ≡ encoding → x.start ≡ old → IsUnread c x → FetchesSome (walking x) f f')

pub none_begun : (content : Option (List ℕ)) (c : FileCursor) (encoding : Encoding) (old : Option (List ℕ)) (f : ℕ) → StreamFetched content c encoding old f f
none_begun None c encoding old f = tt
none_begun (Some b) c encoding old f = λ x same enc start is. none_fetched (walking x) f

pub stream_fetched : (content : Option (List ℕ)) (c : FileCursor) (w : StreamCore) (encoding : Encoding) (old mid : Option (List ℕ)) (to f f' : ℕ) → w.encoding ≡ encoding → ((x : Sending) → x.encoding ≡ encoding → x.start ≡ old → IsUnread c x → IsSentBy c x × FileRows x c w mid 0 0)
    → FetchedSome w.encoding c w mid content to f f' → StreamFetched content c encoding old f f'
stream_fetched None c w encoding old mid to f f' enc begun h = tt
stream_fetched (Some b) c w encoding old mid to f f' enc begun h = λ x same is_encoded start unsent.
    let both = begun x is_encoded start unsent in
    let here = h x same (is_encoded ∙ sym enc) both.0 both.1 in
    some_fetched (walking x) c.block to f f' unsent.block here

-- ── a file ──

pub file_fetched : (content after : Option (List ℕ)) (file : FileMetadata) (request : Request) (c : FileCursor) (encoding : Encoding) (old : Option (List ℕ)) (f mid f' : ℕ) → after ≡ content
    → IfSome content (λ b. FileSays b (meta_view file) (file_custom file)) → WasRead file → c.metadata ≡ file → MayProject (rc_value file.schema) request.columns c.projection → columns_right request.columns (width (meta_view file).schema.fields) ≡ Ok tt
    → c.block ≡ 0 → c.dictionaries ≡ NotRead → c.left ≡ request.limit → FooterFetched content f mid → StreamFetched after c encoding old mid f' → FileFetched content request f f'
file_fetched None after file request c encoding old f mid f' same says read metadata columns right block not_read left footer h = tt
file_fetched (Some b) after file request c encoding old f mid f' same says read metadata columns right block not_read left footer h =
    let here : StreamFetched (Some b) c encoding old mid f' = subst (λ o. StreamFetched o c encoding old mid f') same h in
    let x : Sending = record { bytes = b; file = file; request = request; encoding = encoding; start = old } in
    let some = here x refl refl refl (record { metadata = metadata; columns = columns; right = right; says = says; read = read; block = block; dictionaries = not_read; left = left }) in
    file_by_blocks x f mid f' says footer some
