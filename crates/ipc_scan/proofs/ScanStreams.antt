-- A file that is scanned and written as one stream.
use Rattle.std.proofs.Common.{◌≡◌, ◌∙◌, sym, refl, subst, arith, ℕ, ◌^◌, ◌<◌, ◌≤◌, List, length, Option, Some, None, Result, Ok, Err}
use Rattle.std.specs.Prelude.{IfSome}
use Rattle.arrow_spec.specs.declared.error.IpcError.{IpcError}
use Rattle.ipc_bodies.specs.Encodings.{text_of}
use Rattle.ipc_bodies.specs.Puts.{Moved}
use Rattle.ipc_bodies.specs.declared.encoding.Encoding.{Encoding}
use Rattle.laws_scan.specs.Scans.{Scanned, scanned}
use Rattle.laws_walk.specs.Below.{Finishes, StreamCore}
use Rattle.laws_walk.specs.Fetching.{FetchesSome}
use Rattle.laws_walk.specs.Places.{Sending, meta_in, schema_of_reader}
use Rattle.laws_walk.specs.Sends.{IsWriter, Refused, SentRows}
use Rattle.laws_walk.specs.declared.summary.Summary.{Summary}
use Rattle.laws_walk.proofs.Cursors.{blocks_as}
use Rattle.laws_walk.proofs.Ends.{ended, not_ended}
use Rattle.laws_walk.proofs.Fetched.{none_begun as none_fetched}
use Rattle.laws_walk.proofs.Fronts.{refused_before}
use Rattle.laws_walk.proofs.Requests.{fields_by}
use Rattle.ipc_scan.specs.Sends.{IsScannedBy, IsUnscanned, ScannedAll, ScansAll, ScansFile, first_block, scanning}
use Rattle.ipc_scan.specs.declared.scanner.Scanner.{Scanner}
use Rattle.ipc_scan.proofs.AllScans.{AllFetched, FromStart}
use Rattle.ipc_scan.proofs.ScanFronts.{refused_of, scans}
use Rattle.ipc_scan.proofs.ScannedPlaces.{scan_open}

-- what is scanned of a file is what is scanned of the bytes
as_file : (r : Result Summary IpcError) (x : Sending) (q : Scanned) (b : List ℕ) (encoding : Encoding) (old now : Option (List ℕ)) (wants wants' : ℕ) → x.bytes ≡ b → x.encoding ≡ encoding → x.start ≡ old → ScansFile r x.bytes q x.encoding x.start now wants wants' → ScansFile r b q encoding old now wants wants'
as_file r x q b encoding old now wants wants' bytes enc start h =
    subst (λ c. ScansFile r c q encoding old now wants wants') bytes (subst (λ e. ScansFile r x.bytes q e old now wants wants') enc (subst (λ o. ScansFile r x.bytes q x.encoding o now wants wants') start h))

module _ (s : Scanner) (encoding : Encoding) (old : Option (List ℕ)) where
  -- what is said of a file of which the metadata was read, where bytes are told
  abbrev pub OfUnscanned : Option (List ℕ) → (List ℕ → Sending → Type 0) → Type 0
  OfUnscanned content P = IfSome content (λ b. (x : Sending) → x.bytes ≡ b → x.encoding ≡ encoding → x.start ≡ old → IsUnscanned s x → P b x)

  abbrev pub SendsScan : Option (List ℕ) → Result Summary IpcError → Option (List ℕ) → ℕ → ℕ → Type 0
  SendsScan content r now wants wants' = OfUnscanned content (λ b x. ScansFile r b (scanned s.filter x.request.columns) encoding old now wants wants')

  -- what it fetches
  abbrev pub FetchesScan : Option (List ℕ) → ℕ → ℕ → Type 0
  FetchesScan content f f' = OfUnscanned content (λ b x. FetchesSome (scanning s.filter x) f f')

  -- its stream is not begun
  pub begin_refused : (content : Option (List ℕ)) (r : Result Summary IpcError) (e : IpcError) (now : Option (List ℕ)) (wants wants' : ℕ) → r ≡ Err e → ((x : Sending) → x.encoding ≡ encoding → x.start ≡ old → IsUnscanned s x → Refused e (scanning s.filter x) now wants wants') → SendsScan content r now wants wants'
  begin_refused None r e now wants wants' is refused = tt
  begin_refused (Some b) r e now wants wants' is refused = λ x bytes same start un.
      let q = scanned s.filter x.request.columns in
      subst (λ z. ScansFile z b q encoding old now wants wants') (sym is) (as_file (Err e) x q b encoding old now wants wants' bytes same start (refused_of x s.filter e now wants wants' (refused x same start un)))

  pub none_begun : (content : Option (List ℕ)) (f : ℕ) → FetchesScan content f f
  none_begun None f = tt
  none_begun (Some b) f = λ x bytes same start un. none_fetched (scanning s.filter x) f

  module _ (w : StreamCore) (mid : Option (List ℕ)) (enc : w.encoding ≡ encoding) (begun : (x : Sending) → x.encoding ≡ encoding → x.start ≡ old → IsUnscanned s x → IsScannedBy s x × SentRows (scanning s.filter x) first_block w mid 0 0) where
    -- what its blocks come to
    abbrev pub BlocksScanned : Option (List ℕ) → Result Summary IpcError → StreamCore → Option (List ℕ) → ℕ → ℕ → Type 0
    BlocksScanned content r w' now wants wants' = FromStart s w.encoding w mid content (λ x. ScansAll r (scanning s.filter x) w' now wants wants')

    pub blocks_refused : (content : Option (List ℕ)) (r : Result Summary IpcError) (e : IpcError) (w' : StreamCore) (now : Option (List ℕ)) (before wants wants' : ℕ) → r ≡ Err e → before ≤ wants → BlocksScanned content (Err e) w' now wants wants' → SendsScan content r now before wants'
    blocks_refused None r e w' now before wants wants' is less _ = tt
    blocks_refused (Some b) r e w' now before wants wants' is less all = λ x bytes same start un.
        let q = scanned s.filter x.request.columns in
        let both = begun x same start un in
        let refused = refused_before e (scanning s.filter x) now before wants wants' less (all x bytes (same ∙ sym enc) both.0 both.1) in
        subst (λ z. ScansFile z b q encoding old now before wants') (sym is) (as_file (Err e) x q b encoding old now before wants' bytes same start (refused_of x s.filter e now before wants' refused))

    pub blocks_fetched : (content : Option (List ℕ)) (f f' : ℕ) → AllFetched s content f f' → FetchesScan content f f'
    blocks_fetched None f f' h = tt
    blocks_fetched (Some b) f f' h = λ x bytes same start un. let both = begun x same start un in h x bytes both.0

    -- ── its end ──

    module _ (content : Option (List ℕ)) (t : Summary) (w' w2 : StreamCore) (m : Moved) (wants : ℕ) (all : BlocksScanned content (Ok t) w' m.old wants m.wants) (writer : IsWriter (schema_of_reader s.reader) w.encoding w') where
      writes : (x : Sending) → x.encoding ≡ encoding → IsWriter (schema_of_reader s.reader) x.encoding w'
      writes x same = subst (λ e. IsWriter (schema_of_reader s.reader) e w') (enc ∙ sym same) writer

      pub stream_sent : (r : Result Summary IpcError) (summary : Summary) (before wants' : ℕ) → length s.reader.metadata.blocks.items < 2 ^ 63 → Finishes (text_of w'.encoding) m (Ok tt) w' w2
          → summary.batches ≡ t.batches → summary.rows ≡ t.rows → summary.bytes ≡ w2.byte_count → r ≡ Ok summary → SendsScan content r m.new before wants'
      stream_sent r summary before wants' few h batches rows count is = by content all
        where
          by : (o : Option (List ℕ)) → BlocksScanned o (Ok t) w' m.old wants m.wants → SendsScan o r m.new before wants'
          by None a = tt
          by (Some b) a = λ x bytes same start un.
              let q = scanned s.filter x.request.columns in
              let both = begun x same start un in
              let done : ScannedAll (scanning s.filter x) w' m.old t = a x bytes (same ∙ sym enc) both.0 both.1 in
              let count_as = blocks_as x s.reader both.0.by in
              let short : length (meta_in x).blocks < 2 ^ 63 = omega (arith, count_as, few) in
              let end = ended (scanning s.filter x) (schema_of_reader s.reader) done.place w' m.old done.rows.bytes done.rows.sent (scan_open s x both.0) (writes x same) (fields_by x s.reader w' x.encoding both.0.by (writes x same)) done.rows.so_far done.ended short w2 m refl h in
              let whole = scans s x un w2 m.new done.rows.sent end summary (batches ∙ done.rows.batches_are) (rows ∙ done.rows.rows_are) count in
              subst (λ z. ScansFile z b q encoding old m.new before wants') (sym is) (as_file (Ok summary) x q b encoding old m.new before wants' bytes same start whole)

      pub end_refused : (r : Result Summary IpcError) (e : IpcError) (before : ℕ) → before ≤ m.wants → Finishes (text_of w'.encoding) m (Err e) w' w2 → r ≡ Err e → SendsScan content r m.new before m.wants_now
      end_refused r e before less h is = by content all
        where
          by : (o : Option (List ℕ)) → BlocksScanned o (Ok t) w' m.old wants m.wants → SendsScan o r m.new before m.wants_now
          by None a = tt
          by (Some b) a = λ x bytes same start un.
              let q = scanned s.filter x.request.columns in
              let both = begun x same start un in
              let done : ScannedAll (scanning s.filter x) w' m.old t = a x bytes (same ∙ sym enc) both.0 both.1 in
              let stopped = not_ended (scanning s.filter x) (schema_of_reader s.reader) done.place w' m.old done.rows.bytes done.rows.sent (scan_open s x both.0) (writes x same) (fields_by x s.reader w' x.encoding both.0.by (writes x same)) done.rows.so_far done.ended e w2 m refl h in
              let refused = refused_before e (scanning s.filter x) m.new before m.wants m.wants_now less stopped in
              subst (λ z. ScansFile z b q encoding old m.new before m.wants_now) (sym is) (as_file (Err e) x q b encoding old m.new before m.wants_now bytes same start (refused_of x s.filter e m.new before m.wants_now refused))
