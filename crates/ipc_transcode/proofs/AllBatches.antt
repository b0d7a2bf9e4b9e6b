-- Batches that are read and written one after another.
use Rattle.std.proofs.Common.{◌≡◌, ◌∙◌, inl, inr, ◌⊎◌, sym, ap, subst, arith, ℕ, ◌+◌, ◌≤◌, List, [], ◌∷◌, ◌++◌, length, Option, Some, None, Result, Ok, Err}
use Rattle.std.specs.Prelude.{IfSome, sum_by}
use Rattle.std.proofs.lemmas.List.{length-append}
use Rattle.std.proofs.lemmas.List.Sums.{sum_by_push}
use Rattle.arrow_spec.specs.declared.error.IpcError.{IpcError}
use Rattle.arrow_spec.specs.Files.{TableBatch, to_read}
use Rattle.ipc_bodies.specs.declared.encoding.Encoding.{Encoding}
use Rattle.ipc_reader.specs.Below.{file_custom}
use Rattle.ipc_reader.specs.declared.cursor.FileCursor.{FileCursor}
use Rattle.ipc_stream_writer.specs.declared.stream.StreamCore.{StreamCore}
use Rattle.laws_walk.specs.Places.{Sending, meta_in, place_of, table_sent, walking}
use Rattle.laws_walk.specs.Sends.{SendsOne}
use Rattle.laws_walk.proofs.Cursors.{blocks_as, reads_too}
use Rattle.laws_walk.proofs.Fronts.{refused_before}
use Rattle.laws_walk.proofs.Places.{first_mean, front_count, open_within}
use Rattle.laws_walk.specs.declared.summary.Summary.{Summary}
use Rattle.ipc_transcode.specs.Sends.{FileRows, FileSoFar, IsSentBy, SendsAll, SendsNext}

-- a reader of the same file and columns
pub sent_too : (c c' : FileCursor) (x : Sending) → c'.metadata ≡ c.metadata → c'.projection ≡ c.projection → IsSentBy c x → IsSentBy c' x
sent_too c c' x metadata projection is = record { by = reads_too c c' x metadata projection is.by; small = is.small }

-- each call passes a block
counted_by : (x : Sending) (c : FileCursor) (w : StreamCore) (now : Option (List ℕ)) (bytes : List ℕ) (bs : List TableBatch) → IsSentBy c x → FileSoFar x c w now bytes bs → length bs ≡ c.block
counted_by x c w now bytes bs is so_far =
    front_count x.bytes x.request (meta_in x) c.block (table_sent (walking x) bs) is.by.file.read so_far.walked.within
    (first_mean to_read (walking x) (open_within x.bytes x.request (meta_in x) (file_custom x.file) is.by.file) (place_of c) bs so_far.walked.read so_far.walked.none so_far.walked.kept so_far.walked.within)

-- ── one after another ──

module _ (encoded : Encoding) (c : FileCursor) (w : StreamCore) (now : Option (List ℕ)) where
  -- so many calls have sent what there is of so many batches
  abbrev pub SentSome : Option (List ℕ) → FileCursor → StreamCore → Option (List ℕ) → ℕ → ℕ → ℕ → Type 0
  SentSome content c' w' now' batches rows calls =
      IfSome content (λ b. (x : Sending) → x.bytes ≡ b → x.encoding ≡ encoded → IsSentBy c x → FileRows x c w now 0 0 → FileRows x c' w' now' batches rows × ((calls ≤ c'.block) ⊎ (length (meta_in x).blocks ≤ c'.block)))

  -- what the next call sends
  abbrev pub NextOf : Option (List ℕ) → FileCursor → StreamCore → Option (List ℕ) → Result (Option ℕ) IpcError → FileCursor → StreamCore → Option (List ℕ) → ℕ → ℕ → Type 0
  NextOf content c' w' now' r c2 w2 now2 wants wants' =
      IfSome content (λ b. (x : Sending) (bytes : List ℕ) (bs : List TableBatch) → x.bytes ≡ b → x.encoding ≡ w'.encoding → IsSentBy c' x → FileSoFar x c' w' now' bytes bs → SendsNext r x c2 w2 now2 bytes bs wants wants')

  pub begun : (content : Option (List ℕ)) → SentSome content c w now 0 0 0
  begun None = tt
  begun (Some b) = λ x same enc is s. (s, inl (omega arith))

  module _ (content after : Option (List ℕ)) (c' c2 : FileCursor) (w' w2 : StreamCore) (now' now2 : Option (List ℕ)) (batches rows calls wants wants' : ℕ) (same : after ≡ content) (enc : w'.encoding ≡ encoded) (metadata : c'.metadata ≡ c.metadata) (projection : c'.projection ≡ c.projection)
      (s : SentSome content c' w' now' batches rows calls) where
    pub one_more : (k : ℕ) → c2.metadata ≡ c'.metadata → c2.projection ≡ c'.projection → NextOf after c' w' now' (Ok (Some k)) c2 w2 now2 wants wants' → SentSome content c2 w2 now2 (batches + 1) (rows + k) (calls + 1)
    one_more k metadata2 projection2 n = by content (subst (λ o. NextOf o c' w' now' (Ok (Some k)) c2 w2 now2 wants wants') same n) s
      where
        with : (x : Sending) → IsSentBy c' x → IsSentBy c2 x → (r : FileRows x c' w' now' batches rows) → (calls ≤ c'.block) ⊎ (length (meta_in x).blocks ≤ c'.block) → SendsOne (walking x) (place_of c2) w2 now2 r.bytes r.sent k → FileRows x c2 w2 now2 (batches + 1) (rows + k) × ((calls + 1 ≤ c2.block) ⊎ (length (meta_in x).blocks ≤ c2.block))
        with x is is2 r at one =
            let length_more : length (r.sent ++ one.batch ∷ []) ≡ length r.sent + 1 = length-append r.sent (one.batch ∷ []) in
            let further : c2.block ≡ c'.block + 1 = sym (counted_by x c2 w2 now2 _ _ is2 one.so_far) ∙ length_more ∙ ap (λ n. n + 1) (counted_by x c' w' now' r.bytes r.sent is r.so_far) in
            let all : sum_by (λ (b : TableBatch). b.rows) (r.sent ++ one.batch ∷ []) ≡ sum_by (λ (b : TableBatch). b.rows) r.sent + one.batch.rows = sum_by_push (λ (b : TableBatch). b.rows) r.sent one.batch in (
              record { bytes = r.bytes ++ one.more; sent = r.sent ++ one.batch ∷ []; so_far = one.so_far; batches_are = ap (λ n. n + 1) r.batches_are ∙ sym length_more; rows_are = omega (arith, r.rows_are, one.height, all) },
              elim at [ inl early ↦ inl (omega (arith, early, further)) | inr late ↦ inr (omega (arith, late, further)) ],
            )

        by : (o : Option (List ℕ)) → NextOf o c' w' now' (Ok (Some k)) c2 w2 now2 wants wants' → SentSome o c' w' now' batches rows calls → SentSome o c2 w2 now2 (batches + 1) (rows + k) (calls + 1)
        by None next some = tt
        by (Some b) next some = λ x told asked is start.
            let r = some x told asked is start in
            let is' = sent_too c c' x metadata projection is in
            with x is' (sent_too c' c2 x metadata2 projection2 is') r.0 r.1 (next x r.0.bytes r.0.sent told (asked ∙ sym enc) is' r.0.so_far)

    pub no_more : NextOf after c' w' now' (Ok None) c2 w2 now2 wants wants' → SentSome content c2 w2 now2 batches rows (calls + 1)
    no_more n = by content (subst (λ o. NextOf o c' w' now' (Ok None) c2 w2 now2 wants wants') same n) s
      where
        by : (o : Option (List ℕ)) → NextOf o c' w' now' (Ok None) c2 w2 now2 wants wants' → SentSome o c' w' now' batches rows calls → SentSome o c2 w2 now2 batches rows (calls + 1)
        by None next some = tt
        by (Some b) next some = λ x told asked is start.
            let r = some x told asked is start in
            let here = next x r.0.bytes r.0.sent told (asked ∙ sym enc) (sent_too c c' x metadata projection is) r.0.so_far in
            (record { bytes = r.0.bytes; sent = r.0.sent; so_far = here.0; batches_are = r.0.batches_are; rows_are = r.0.rows_are }, inr here.1)

    pub refused : (e : IpcError) (result : Result Summary IpcError) (before : ℕ) → before ≤ wants → result ≡ Err e → NextOf after c' w' now' (Err e) c2 w2 now2 wants wants'
        → IfSome content (λ b. (x : Sending) → x.bytes ≡ b → x.encoding ≡ encoded → IsSentBy c x → FileRows x c w now 0 0 → SendsAll result x c2 w2 now2 before wants')
    refused e result before less is_err n = by content (subst (λ o. NextOf o c' w' now' (Err e) c2 w2 now2 wants wants') same n) s
      where
        by : (o : Option (List ℕ)) → NextOf o c' w' now' (Err e) c2 w2 now2 wants wants' → SentSome o c' w' now' batches rows calls → IfSome o (λ b. (x : Sending) → x.bytes ≡ b → x.encoding ≡ encoded → IsSentBy c x → FileRows x c w now 0 0 → SendsAll result x c2 w2 now2 before wants')
        by None next some = tt
        by (Some b) next some = λ x told asked is start.
            let r = some x told asked is start in
            let here = next x r.0.bytes r.0.sent told (asked ∙ sym enc) (sent_too c c' x metadata projection is) r.0.so_far in
            subst (λ z. SendsAll z x c2 w2 now2 before wants') (sym is_err) (refused_before e (walking x) now2 before wants wants' less here)

  pub all_sent : (content : Option (List ℕ)) (c' : FileCursor) (w' : StreamCore) (now' : Option (List ℕ)) (s : Summary) (calls wants wants' : ℕ) → length c.metadata.blocks.items ≤ calls → SentSome content c' w' now' s.batches s.rows calls
      → IfSome content (λ b. (x : Sending) → x.bytes ≡ b → x.encoding ≡ encoded → IsSentBy c x → FileRows x c w now 0 0 → SendsAll (Ok s) x c' w' now' wants wants')
  all_sent None c' w' now' s calls wants wants' h some = tt
  all_sent (Some b) c' w' now' s calls wants wants' h some = λ x told asked is start.
      let r = some x told asked is start in
      let same : length (meta_in x).blocks ≡ length c.metadata.blocks.items = blocks_as x c is.by in
      (r.0, elim r.1 [ inl early ↦ omega (arith, early, h, same) | inr late ↦ late ])
