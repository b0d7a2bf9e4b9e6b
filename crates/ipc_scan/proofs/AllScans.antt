-- Blocks that are scanned one after another, behind the dictionaries.
use Rattle.std.proofs.Common.{◌≡◌, ◌∙◌, sym, ap, refl, subst, arith, add-one, ℕ, zero, suc, ◌+◌, ◌<◌, ◌≤◌, List, [], ◌∷◌, ◌++◌, length, take, true, Option, Some, None, Result, Ok, Err}
use Rattle.std.specs.Prelude.{IfSome, sum_by}
use Rattle.std.proofs.KnownBytes.{Keeps-refl}
use Rattle.std.proofs.lemmas.List.{length-append}
use Rattle.std.proofs.lemmas.List.Sums.{sum_by_push}
use Rattle.arrow_spec.specs.Arrays.{Dictionaries}
use Rattle.arrow_spec.specs.declared.error.IpcError.{IpcError}
use Rattle.arrow_spec.specs.Files.{TableBatch, dictionaries_of, to_read, to_send}
use Rattle.arrow_spec.specs.Readings.{Refuses, refusals}
use Rattle.ipc_bodies.specs.declared.encoding.Encoding.{Encoding}
use Rattle.ipc_files.specs.FileDictionaries.{DictionariesFetched, ReadsDictionaries, dictionaries_given, dictionaries_cost}
use Rattle.ipc_files.specs.FileViews.{FileCause, meta_view}
use Rattle.ipc_files.specs.declared.metadata.FileMetadata.{FileMetadata}
use Rattle.laws_scan.specs.Below.{HeldParts, HoldsFile}
use Rattle.ipc_files.proofs.FileDictionaries.{given_in_file}
use Rattle.laws_transcode.specs.Files.{HasRead}
use Rattle.laws_walk.specs.Below.{StreamCore}
use Rattle.laws_walk.specs.Fetching.{FetchesSome}
use Rattle.laws_walk.specs.Places.{Sending, Walking, asked_walked, meta_in, meta_walked, schema_of_reader}
use Rattle.laws_walk.specs.Sends.{IsWriter, SendsOne, SentRows}
use Rattle.laws_walk.specs.Walks.{blocks_walked, walk_cost}
use Rattle.laws_walk.specs.declared.summary.Summary.{Summary}
use Rattle.laws_walk.proofs.Causes.{never_of_sink}
use Rattle.laws_walk.proofs.Cursors.{blocks_as}
use Rattle.laws_walk.proofs.Fetched.{none_begun}
use Rattle.laws_walk.proofs.Fronts.{front_stands, front_there, refused_before}
use Rattle.laws_walk.proofs.Places.{AreRefused, all_of, block_there, dictionaries_refuse}
use Rattle.laws_walk.proofs.Requests.{fields_by}
use Rattle.ipc_scan.specs.Sends.{BlocksFetched, IsScannedBy, ScannedAll, ScansAll, ScansNext, first_block, place_at, scanning}
use Rattle.ipc_scan.specs.declared.scanner.Scanner.{Scanner}
use Rattle.ipc_scan.proofs.ScanCalls.{Told}
use Rattle.ipc_scan.proofs.ScannedPlaces.{block_at, scan_open}

-- the dictionaries that were read are the file's
pub holds_file : (content : Option (List ℕ)) (file : FileMetadata) (m : HeldParts) → IfSome content (λ b. ReadsDictionaries b (meta_view file) file.dictionaries.items (Ok m)) → IfSome content (λ b. HoldsFile b (meta_view file) m)
holds_file None file m h = tt
holds_file (Some b) file m h = (h.said.0, h.said.1, h.said.2, h.steps h.said.0 h.said.1)

module _ (s : Scanner) (encoded : Encoding) (w : StreamCore) (now : Option (List ℕ)) where
  -- what is said of a file whose first block is still to be read
  abbrev pub FromStart : Option (List ℕ) → (Sending → Type 0) → Type 0
  FromStart content P = IfSome content (λ b. (x : Sending) → x.bytes ≡ b → x.encoding ≡ encoded → IsScannedBy s x → SentRows (scanning s.filter x) first_block w now 0 0 → P x)

  -- of the blocks before one there are so many batches of so many rows
  abbrev pub ScannedSome : Option (List ℕ) → HeldParts → ℕ → StreamCore → Option (List ℕ) → ℕ → ℕ → Type 0
  ScannedSome content m n w' now' batches rows = FromStart content (λ x. SentRows (scanning s.filter x) (place_at n m) w' now' batches rows)

  pub begun : (content : Option (List ℕ)) (m : HeldParts) → ScannedSome content m 0 w now 0 0
  begun None m = tt
  begun (Some b) m = λ x same enc is rows. rows

  module _ (content after : Option (List ℕ)) (m : HeldParts) (n : ℕ) (w' w2 : StreamCore) (now' now2 : Option (List ℕ)) (batches rows wants wants' : ℕ) (same : after ≡ content) (enc : w'.encoding ≡ encoded) (holds : IfSome content (λ b. HoldsFile b (meta_view s.reader.metadata) m))
      (some : ScannedSome content m n w' now' batches rows) where
    -- what the call at the next block answers
    abbrev pub NextOf : Option (List ℕ) → Result (Option ℕ) IpcError → Type 0
    NextOf o r = Told o s n m w' now' (λ x bytes bs. ScansNext r (scanning s.filter x) n m w2 now2 bytes bs wants wants')

    step_as : (r : Result (Option ℕ) IpcError) (P : Sending → Type 0) → ((x : Sending) (c : SentRows (scanning s.filter x) (place_at n m) w' now' batches rows) → ScansNext r (scanning s.filter x) n m w2 now2 c.bytes c.sent wants wants' → P x) → NextOf after r → FromStart content P
    step_as r P k next = by content holds some (subst (λ o. NextOf o r) same next)
      where
        by : (o : Option (List ℕ)) → IfSome o (λ b. HoldsFile b (meta_view s.reader.metadata) m) → ScannedSome o m n w' now' batches rows → NextOf o r → FromStart o P
        by None h c one = tt
        by (Some b) h c one = λ x told asked is start.
            let here = c x told asked is start in
            k x here (one x here.bytes here.sent told (asked ∙ sym enc) is (subst (λ (f : FileMetadata). HoldsFile b (meta_view f) m) is.by.metadata h) here.so_far)

    pub one_more : (k : ℕ) → NextOf after (Ok (Some k)) → ScannedSome content m (n + 1) w2 now2 (batches + 1) (rows + k)
    one_more k next = step_as (Ok (Some k)) (λ x. SentRows (scanning s.filter x) (place_at (n + 1) m) w2 now2 (batches + 1) (rows + k)) with next
      where
        with : (x : Sending) (c : SentRows (scanning s.filter x) (place_at n m) w' now' batches rows) → SendsOne (scanning s.filter x) (place_at (suc n) m) w2 now2 c.bytes c.sent k → SentRows (scanning s.filter x) (place_at (n + 1) m) w2 now2 (batches + 1) (rows + k)
        with x c one =
            let length_more : length (c.sent ++ one.batch ∷ []) ≡ length c.sent + 1 = length-append c.sent (one.batch ∷ []) in
            let all : sum_by (λ (b : TableBatch). b.rows) (c.sent ++ one.batch ∷ []) ≡ sum_by (λ (b : TableBatch). b.rows) c.sent + one.batch.rows = sum_by_push (λ (b : TableBatch). b.rows) c.sent one.batch in
            let more : SentRows (scanning s.filter x) (place_at (suc n) m) w2 now2 (batches + 1) (rows + k)
            = record { bytes = c.bytes ++ one.more; sent = c.sent ++ one.batch ∷ []; so_far = one.so_far; batches_are = ap (λ n. n + 1) c.batches_are ∙ sym length_more; rows_are = omega (arith, c.rows_are, one.height, all) } in
            subst (λ i. SentRows (scanning s.filter x) (place_at i m) w2 now2 (batches + 1) (rows + k)) (sym (add-one n)) more

    pub no_more : NextOf after (Ok None) → ScannedSome content m (n + 1) w2 now2 batches rows
    no_more next = step_as (Ok None) (λ x. SentRows (scanning s.filter x) (place_at (n + 1) m) w2 now2 batches rows)
        (λ x c here. subst (λ i. SentRows (scanning s.filter x) (place_at i m) w2 now2 batches rows) (sym (add-one n)) (record { bytes = c.bytes; sent = c.sent; so_far = here; batches_are = c.batches_are; rows_are = c.rows_are })) next

    pub refused : (e : IpcError) (result : Result Summary IpcError) (before : ℕ) → before ≤ wants → result ≡ Err e → NextOf after (Err e) → FromStart content (λ x. ScansAll result (scanning s.filter x) w2 now2 before wants')
    refused e result before less is_err next = step_as (Err e) (λ x. ScansAll result (scanning s.filter x) w2 now2 before wants')
        (λ x c here. subst (λ z. ScansAll z (scanning s.filter x) w2 now2 before wants') (sym is_err) (refused_before e (scanning s.filter x) now2 before wants wants' less here)) next

  -- all were scanned
  pub all_scanned : (content : Option (List ℕ)) (m : HeldParts) (n : ℕ) (w' : StreamCore) (now' : Option (List ℕ)) (r : Summary) (wants wants' : ℕ) → length s.reader.metadata.blocks.items ≤ n → ScannedSome content m n w' now' r.batches r.rows
      → FromStart content (λ x. ScansAll (Ok r) (scanning s.filter x) w' now' wants wants')
  all_scanned None m n w' now' r wants wants' h some = tt
  all_scanned (Some b) m n w' now' r wants wants' h some = λ x told asked is start.
      let count = blocks_as x s.reader is.by in
      let at = block_at n m in
      let done : ScannedAll (scanning s.filter x) w' now' r = record { place = place_at n m; rows = some x told asked is start; ended = omega (arith, count, at, h) } in
      done

  -- there is none
  pub none_scanned : (content : Option (List ℕ)) (r : Summary) (wants wants' : ℕ) → length s.reader.metadata.blocks.items ≤ 0 → r.batches ≡ 0 → r.rows ≡ 0 → FromStart content (λ x. ScansAll (Ok r) (scanning s.filter x) w now wants wants')
  none_scanned None r wants wants' none batches rows = tt
  none_scanned (Some b) r wants wants' none batches rows = λ x told asked is start.
      let count = blocks_as x s.reader is.by in
      let here : SentRows (scanning s.filter x) first_block w now r.batches r.rows = rw (batches, rows) start in
      let done : ScannedAll (scanning s.filter x) w now r = record { place = first_block; rows = here; ended = omega (arith, count, none) } in
      done

  -- the dictionaries are refused
  pub dictionaries_stop : (content : Option (List ℕ)) (result : Result Summary IpcError) (e : IpcError) (faults faults' wants wants' : ℕ) → result ≡ Err e → FileCause e faults faults' → 0 < length s.reader.metadata.blocks.items → w.encoding ≡ encoded → IsWriter (schema_of_reader s.reader) w.encoding w
      → IfSome content (λ b. ReadsDictionaries b (meta_view s.reader.metadata) s.reader.metadata.dictionaries.items (Err e)) → FromStart content (λ x. ScansAll result (scanning s.filter x) w now wants wants')
  dictionaries_stop None result e faults faults' wants wants' is_err cause some enc writer reads = tt
  dictionaries_stop (Some b) result e faults faults' wants wants' is_err cause some enc writer reads = λ x told asked is start.
      let count = blocks_as x s.reader is.by in
      let there = block_there (meta_in x).blocks 0 (omega (arith, some, count)) in
      let given : Refuses e (refusals (dictionaries_given x.bytes (meta_in x) [] x.file.dictionaries.items))
      = subst (λ (f : FileMetadata). Refuses e (refusals (dictionaries_given x.bytes (meta_view f) [] f.dictionaries.items))) is.by.metadata
      (subst (λ c. Refuses e (refusals (dictionaries_given c (meta_view s.reader.metadata) [] s.reader.metadata.dictionaries.items))) (sym told) reads.err) in
      let stop : Refuses e (refusals (dictionaries_of x.bytes (meta_in x) [] (meta_in x).dictionaries))
      = subst (λ r. Refuses e (refusals r)) (given_in_file x.bytes (meta_in x) [] x.file.dictionaries.items is.by.read.natural.dictionaries) given in
      let opened = scan_open s x is in
      let both : AreRefused to_send (scanning s.filter x) opened e 0 = dictionaries_refuse to_send (scanning s.filter x) opened 0 there.0 there.1 e refl stop in
      let writes : IsWriter (schema_of_reader s.reader) x.encoding w = subst (λ z. IsWriter (schema_of_reader s.reader) z w) (enc ∙ sym asked) writer in
      let front = front_there (scanning s.filter x) (schema_of_reader s.reader) first_block w now start.bytes start.sent opened writes (fields_by x s.reader w x.encoding is.by writes) start.so_far in
      subst (λ z. ScansAll z (scanning s.filter x) w now wants wants') (sym is_err) (front_stands e (scanning s.filter x) 0 start.bytes start.sent now now wants wants' opened (never_of_sink e faults faults' cause) front start.so_far.added (Keeps-refl now) both)

-- ── what is fetched ──

-- of the dictionaries, and of the first n blocks
pub record FetchedUpTo (x : Walking) (n f f' : ℕ) : Type 0 where
  pub within : n ≤ length (meta_walked x).blocks
  pub less : (d : Dictionaries) (xs : List TableBatch) → HasRead x.bytes (meta_walked x) d → blocks_walked to_read x.bytes x.walk (asked_walked x d) true (meta_walked x).blocks x.walk.limit ≡ Ok xs
      → f' ≤ f + (dictionaries_cost x.bytes (meta_walked x) (meta_walked x).dictionaries + walk_cost x.bytes (meta_walked x) x.walk d (take n (meta_walked x).blocks) x.walk.limit)

module _ (s : Scanner) where
  abbrev pub FetchedSome : Option (List ℕ) → ℕ → ℕ → ℕ → Type 0
  FetchedSome content n f f' = IfSome content (λ b. (x : Sending) → x.bytes ≡ b → IsScannedBy s x → FetchedUpTo (scanning s.filter x) n f f')

  -- what a scan has fetched
  abbrev pub AllFetched : Option (List ℕ) → ℕ → ℕ → Type 0
  AllFetched content f f' = IfSome content (λ b. (x : Sending) → x.bytes ≡ b → IsScannedBy s x → FetchesSome (scanning s.filter x) f f')

  -- nothing, where there is no block
  pub none_fetched : (content : Option (List ℕ)) (f : ℕ) → AllFetched content f f
  none_fetched None f = tt
  none_fetched (Some b) f = λ x same is. none_begun (scanning s.filter x) f

  pub dictionaries_fetched : (content : Option (List ℕ)) (f f' : ℕ) → 0 < length s.reader.metadata.blocks.items → DictionariesFetched content (meta_view s.reader.metadata) f f' → FetchedSome content 0 f f'
  dictionaries_fetched None f f' some h = tt
  dictionaries_fetched (Some b) f f' some h = λ x same is.
      let count = blocks_as x s.reader is.by in
      let here : DictionariesFetched (Some x.bytes) (meta_in x) f f' = subst (λ (m : FileMetadata). DictionariesFetched (Some x.bytes) (meta_view m) f f') is.by.metadata (subst (λ c. DictionariesFetched (Some c) (meta_view s.reader.metadata) f f') (sym same) h) in
      record {
        within = omega arith;
        less = λ d xs has walked. let less = here d (all_of x.bytes (meta_in x) d has (omega (arith, some, count))) in omega (arith, less);
      }

  -- by the next call
  abbrev pub NextFetched : Option (List ℕ) → HeldParts → ℕ → ℕ → ℕ → Type 0
  NextFetched content m n f f' = IfSome content (λ b. (x : Sending) → x.bytes ≡ b → IsScannedBy s x → HoldsFile b (meta_view x.file) m → BlocksFetched (scanning s.filter x) n f f')

  pub more_fetched : (content after : Option (List ℕ)) (m : HeldParts) (n f g h : ℕ) → after ≡ content → IfSome content (λ b. HoldsFile b (meta_view s.reader.metadata) m) → FetchedSome content n f g → NextFetched after m n g h → FetchedSome content (n + 1) f h
  more_fetched content after m n f g h same holds before next = by content holds before (subst (λ o. NextFetched o m n g h) same next)
    where
      by : (o : Option (List ℕ)) → IfSome o (λ b. HoldsFile b (meta_view s.reader.metadata) m) → FetchedSome o n f g → NextFetched o m n g h → FetchedSome o (n + 1) f h
      by None held b k = tt
      by (Some b) held first second = λ x told is.
          let one = first x told is in
          let two = second x told is (subst (λ (k : FileMetadata). HoldsFile b (meta_view k) m) is.by.metadata held) in
          let more : FetchedUpTo (scanning s.filter x) (suc n) f h = record { within = two.within; less = λ d xs has walked. let a = one.less d xs has walked in let b = two.blocks d xs has walked in omega (arith, a, b) } in
          subst (λ i. FetchedUpTo (scanning s.filter x) i f h) (sym (add-one n)) more

  pub all_fetched : (content : Option (List ℕ)) (n f f' : ℕ) → 0 < length s.reader.metadata.blocks.items → FetchedSome content n f f' → AllFetched content f f'
  all_fetched None n f f' some h = tt
  all_fetched (Some b) n f f' some h = λ x same is.
      let count = blocks_as x s.reader is.by in
      by x n (omega (arith, some, count)) (h x same is)
    where
      by : (x : Sending) (n : ℕ) → 0 < length (meta_in x).blocks → FetchedUpTo (scanning s.filter x) n f f' → FetchesSome (scanning s.filter x) f f'
      by x zero more up = record { to = 1; within = omega (arith, more); blocks = λ d xs has walked. let less = up.less d xs has walked in omega (arith, less) }
      by x (suc n) more up = record { to = suc n; within = up.within; blocks = λ d xs has walked. let less = up.less d xs has walked in omega (arith, less) }
