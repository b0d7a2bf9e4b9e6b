-- A file whose metadata or whose columns are refused, and a file that is scanned.
use Rattle.std.proofs.Common.{◌≡◌, ◌∙◌, inl, inr, sym, refl, subst, arith, ℕ, ◌<◌, List, [], ◌∷◌, Bool, true, false, Option, None, Some, Result, Ok, Err}
use Rattle.std.specs.Prelude.{IfErr, IfSome, nat_lt}
use Rattle.std.proofs.KnownBytes.{Keeps-refl}
use Rattle.std.proofs.lemmas.Bool.{ltb-true}
use Rattle.arrow_spec.specs.declared.error.IpcError.{IpcError}
use Rattle.arrow_spec.specs.declared.error.IpcError.TheVariants as errors
use Rattle.arrow_spec.specs.Files.{Meta, Request, columns_right, custom_of, file_reading, meta_of, to_send, «all»}
use Rattle.arrow_spec.specs.Kinds.{Fields, Metadata, width}
use Rattle.arrow_spec.specs.Readings.{IsAmong, Reading, Refuses, bind, refusals}
use Rattle.arrow_spec.proofs.Projection.{on}
use Rattle.ipc_bodies.specs.Encodings.{text_of}
use Rattle.ipc_bodies.specs.declared.encoding.Encoding.{Encoding}
use Rattle.ipc_files.specs.FileViews.{FileCause, FileSays, file_custom, meta_view}
use Rattle.ipc_files.specs.declared.metadata.FileMetadata.{FileMetadata}
use Rattle.ipc_files.specs.Fetching.{FooterFetched}
use Rattle.laws_transcode.proofs.Readings.{columns_refused, custom_refused, meta_refused, on_err}
use Rattle.laws_walk.specs.Places.{Sending}
use Rattle.laws_walk.specs.Sends.{IsOfSink, SendCause}
use Rattle.laws_walk.specs.Walks.{walk_reading}
use Rattle.laws_walk.specs.declared.summary.Summary.{Summary}
use Rattle.laws_walk.proofs.Begins.{among_refuses}
use Rattle.laws_walk.proofs.Causes.{never_of_sink}
use Rattle.filter_types.specs.declared.filter.Filter.{Filter}
use Rattle.laws_scan.specs.Scan.{met, scan_right}
use Rattle.laws_scan.specs.Scans.{ScanFetched, Scanned, scanned}
use Rattle.ipc_scan.specs.Sends.{IsReady, IsScanner, IsUnscanned, NotScanned, ScanRefused, ScansFile}
use Rattle.ipc_scan.specs.declared.scanner.Scanner.{Scanner}
use Rattle.ipc_scan.proofs.ScanCosts.{cost_by_blocks}
use Rattle.ipc_scan.proofs.ScanFronts.{none_put}
use Rattle.ipc_scan.proofs.ScanStarts.{not_right}
use Rattle.ipc_scan.proofs.ScanStreams.{FetchesScan, SendsScan}

-- ── metadata that is refused ──

-- A column that is none is refused behind the metadata, and by its own name. So what refuses a file whatever is asked of it refuses its metadata.
wrong_is : (n : ℕ) → columns_right (Some (n ∷ [])) n ≡ Err (errors.Projection n ∷ [])
unfolding bind
wrong_is n = by (nat_lt n n) refl
  where
    by : (t : Bool) → nat_lt n n ≡ t → columns_right (Some (n ∷ [])) n ≡ Err (errors.Projection n ∷ [])
    by true e = let never : n < n = ltb-true n n e in absurd (omega (arith, never))
    by false e = rw e refl

module _ (b : List ℕ) (f : Filter) (columns : Option (List ℕ)) (e : IpcError) (faults faults' : ℕ) (cause : FileCause e faults faults') (refused : (r : Request) → Refuses e (refusals (file_reading to_send b r None))) where
  -- it is refused by no number
  named : (n : ℕ) (es : List IpcError) → Refuses e (errors.Projection n ∷ []) → Refuses e es
  named n es h = by e refl cause h
    where
      by : (g : IpcError) → e ≡ g → FileCause g faults faults' → Refuses g (errors.Projection n ∷ []) → Refuses e es
      by errors.Memory is c h = rw is tt
      by errors.ReadFault is c h = rw is tt
      by (errors.OutOfSpec kind) is c (inl h) = cc
      by (errors.OutOfSpec kind) is c (inr h) = absurd h
      by (errors.Unsupported feature) is c (inl h) = cc
      by (errors.Unsupported feature) is c (inr h) = absurd h
      by (errors.TooMany counted) is c (inl h) = cc
      by (errors.TooMany counted) is c (inr h) = absurd h
      by errors.TooDeep is c (inl h) = cc
      by errors.TooDeep is c (inr h) = absurd h
      by g is c h = absurd c

  metadata_refused : Refuses e (refusals (walk_reading to_send b (met f columns) None))
  unfolding walk_reading
  metadata_refused = by (meta_of b) refl
    where
      custom : (meta : Meta) → meta_of b ≡ Ok meta → (r : Reading Metadata) → custom_of b ≡ r → Refuses e (refusals (walk_reading to_send b (met f columns) None))
      custom meta is (Err es) k = subst (λ z. Refuses e (refusals z)) (sym (on _ _ meta is ∙ on_err _ _ es k)) (subst (λ z. Refuses e (refusals z)) (custom_refused to_send b «all» None meta es is k) (refused «all»))
      custom meta is (Ok pairs) k =
          let n = width meta.schema.fields in
          let r : Request = record { columns = Some (n ∷ []); limit = None } in
          named n (refusals (walk_reading to_send b (met f columns) None)) (subst (λ z. Refuses e (refusals z)) (columns_refused to_send b r None meta pairs (errors.Projection n ∷ []) is k (wrong_is n)) (refused r))

      by : (r : Reading Meta) → meta_of b ≡ r → Refuses e (refusals (walk_reading to_send b (met f columns) None))
      by (Err es) is = subst (λ z. Refuses e (refusals z)) (sym (on_err _ _ es is)) (subst (λ z. Refuses e (refusals z)) (meta_refused to_send b «all» None es is) (refused «all»))
      by (Ok meta) is = custom meta is (custom_of b) refl

module _ (result : Result Summary IpcError) (e : IpcError) (is_err : result ≡ Err e) (q : Scanned) (encoding : Encoding) (o : Option (List ℕ)) (wants wants' : ℕ) where
  -- what is scanned where nothing is put
  put_none : (b : List ℕ) → (IsOfSink e → ⊥) → Refuses e (refusals (walk_reading to_send b (met q.filter q.columns) None)) → ScansFile result b q encoding o o wants wants'
  put_none b never h =
      let refused : ScanRefused e b q encoding o o wants wants' = record { refused = h; part = none_put b q (text_of encoding) o o wants wants' e never (Keeps-refl o) } in
      subst (λ z. ScansFile z b q encoding o o wants wants') (sym is_err) refused

  pub not_read : (content : Option (List ℕ)) (faults faults' : ℕ) → FileCause e faults faults' → IfSome content (λ b. (r : Request) → Refuses e (refusals (file_reading to_send b r None))) → IfSome content (λ b. ScansFile result b q encoding o o wants wants')
  not_read None faults faults' cause h = tt
  not_read (Some b) faults faults' cause h = put_none b (never_of_sink e faults faults' cause) (metadata_refused b q.filter q.columns e faults faults' cause h)

  -- ── columns that are refused ──

  -- never by a sink
  not_of_sink : (fs : Fields) → NotScanned e fs q.filter q.columns → IsOfSink e → ⊥
  not_of_sink fs (inl memory) = subst (λ z. IsOfSink z → ⊥) (sym memory) (λ z. z)
  not_of_sink fs (inr among) = not_right (λ z. IsOfSink z → ⊥) (λ i z. z) (λ x z. z) q.filter q.columns fs e among

  columns_stop : (b : List ℕ) (file : FileMetadata) → FileSays b (meta_view file) (file_custom file) → NotScanned e (meta_view file).schema.fields q.filter q.columns → Refuses e (refusals (walk_reading to_send b (met q.filter q.columns) None))
  unfolding walk_reading
  columns_stop b file says (inl memory) = rw memory tt
  columns_stop b file says (inr among) = by (scan_right q.filter q.columns (meta_view file).schema.fields) refl among
    where
      by : (r : Reading (Unit {0})) → scan_right q.filter q.columns (meta_view file).schema.fields ≡ r → IsAmong (refusals r) e → Refuses e (refusals (walk_reading to_send b (met q.filter q.columns) None))
      by (Ok u) is h = absurd h
      by (Err es) is h = subst (λ z. Refuses e (refusals z)) (sym (on _ _ (meta_view file) says.read ∙ on _ _ (file_custom file) says.pairs ∙ on_err _ _ es is)) (among_refuses e es h)

  pub not_scanned : (content : Option (List ℕ)) (file : FileMetadata) → IfSome content (λ b. FileSays b (meta_view file) (file_custom file)) → NotScanned e (meta_view file).schema.fields q.filter q.columns → IfSome content (λ b. ScansFile result b q encoding o o wants wants')
  not_scanned None file says h = tt
  not_scanned (Some b) file says h = put_none b (not_of_sink (meta_view file).schema.fields h) (columns_stop b file says h)

-- why columns are refused
pub columns_cause : {T : Type 0} (result : Result T IpcError) (e : IpcError) (q : Scanned) (fs : Fields) (reads reads' writes writes' : ℕ) → result ≡ Err e → NotScanned e fs q.filter q.columns → IfErr result (λ e. SendCause e reads reads' writes writes')
columns_cause result e q fs reads reads' writes writes' is h = subst (λ z. IfErr z (λ e. SendCause e reads reads' writes writes')) (sym is) (by h)
  where
    by : NotScanned e fs q.filter q.columns → SendCause e reads reads' writes writes'
    by (inl memory) = rw memory tt
    by (inr among) = not_right (λ z. SendCause z reads reads' writes writes') (λ i. tt) (λ x. tt) q.filter q.columns fs e among

-- ── a file that is scanned ──

-- a scanner of a file, of whatever filter
scanner_as : (s : Scanner) (file : FileMetadata) (f : Filter) (columns : Option (List ℕ)) → IsScanner s file f columns → IsScanner s file s.filter columns
scanner_as s file f columns is = subst (λ g. IsScanner s file g columns) (sym is.filter) is

-- and of its own metadata
pub ready_of : (s : Scanner) (file : FileMetadata) (f : Filter) (columns : Option (List ℕ)) → IsScanner s file f columns → IsReady s
ready_of s file f columns is = (columns, subst (λ g. IsScanner s g s.filter columns) (sym is.metadata) (scanner_as s file f columns is))

module _ (after content : Option (List ℕ)) (file : FileMetadata) (s : Scanner) (f : Filter) (columns : Option (List ℕ)) (encoding : Encoding) (old : Option (List ℕ)) (same : after ≡ content) (says : IfSome content (λ b. FileSays b (meta_view file) (file_custom file))) (is : IsScanner s file f columns) where
  abbrev sending : List ℕ → Sending
  sending b = record { bytes = b; file = file; request = record { columns = columns; limit = None }; encoding = encoding; start = old }

  unscanned : (b : List ℕ) → FileSays b (meta_view file) (file_custom file) → IsUnscanned s (sending b)
  unscanned b h = record { says = h; scanner = scanner_as s file f columns is; limit = refl }

  pub file_scanned : (r : Result Summary IpcError) (now : Option (List ℕ)) (wants wants' : ℕ) → SendsScan s encoding old after r now wants wants' → IfSome content (λ b. ScansFile r b (scanned f columns) encoding old now wants wants')
  file_scanned r now wants wants' h = by content says (subst (λ o. SendsScan s encoding old o r now wants wants') same h)
    where
      by : (o : Option (List ℕ)) → IfSome o (λ b. FileSays b (meta_view file) (file_custom file)) → SendsScan s encoding old o r now wants wants' → IfSome o (λ b. ScansFile r b (scanned f columns) encoding old now wants wants')
      by None says sends = tt
      by (Some b) says sends = subst (λ g. ScansFile r b (scanned g columns) encoding old now wants wants') is.filter (sends (sending b) refl refl refl (unscanned b says))

  pub file_fetched : (n mid n' : ℕ) → FooterFetched content n mid → FetchesScan s encoding old after mid n' → ScanFetched content (scanned f columns) n n'
  file_fetched n mid n' footer h = by content says footer (subst (λ o. FetchesScan s encoding old o mid n') same h)
    where
      by : (o : Option (List ℕ)) → IfSome o (λ b. FileSays b (meta_view file) (file_custom file)) → FooterFetched o n mid → FetchesScan s encoding old o mid n' → ScanFetched o (scanned f columns) n n'
      by None says footer fetches = tt
      by (Some b) says footer fetches = subst (λ g. ScanFetched (Some b) (scanned g columns) n n') is.filter (cost_by_blocks (sending b) s.filter n mid n' says footer (fetches (sending b) refl refl refl (unscanned b says)))
