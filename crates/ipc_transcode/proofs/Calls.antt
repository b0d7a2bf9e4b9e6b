-- What one call that reads and writes a batch comes to.
use Rattle.std.proofs.Common.{◌≡◌, ◌∙◌, sym, refl, ap, subst, ◌⊎◌, ℕ, ◌+◌, ◌*◌, ◌^◌, ◌≤◌, List, [], ◌∷◌, length, Option, Some, None, Result, Ok, Err}
use Rattle.std.specs.Prelude.{IfErr, IfSome}
use Rattle.arrow_spec.specs.declared.error.IpcError.{IpcError}
use Rattle.arrow_spec.specs.Files.{TableBatch, to_send}
use Rattle.arrow_arrays.specs.Batches.{Batch}
use Rattle.arrow_arrays.specs.Parts.{fault_each, forest}
use Rattle.ipc_bodies.specs.Encodings.{text_of}
use Rattle.ipc_bodies.specs.Puts.{Moved}
use Rattle.ipc_fields.specs.IpcFields.{ids_of}
use Rattle.std.specs.Rc.{rc_value}
use Rattle.ipc_reader.specs.Below.{MayProject, file_custom}
use Rattle.ipc_reader.specs.Reads.{NextBatch}
use Rattle.ipc_reader.specs.declared.cursor.FileCursor.{FileCursor}
use Rattle.ipc_stream_writer.specs.Calls.{HasWritten, LeavesAll, WriteCause, WriteFailed}
use Rattle.ipc_stream_writer.specs.declared.stream.StreamCore.{StreamCore}
use Rattle.std.proofs.KnownBytes.{Keeps-refl}
use Rattle.laws_walk.proofs.Below.{columns_right, file_sent}
use Rattle.laws_walk.specs.Fetching.{FetchesTo}
use Rattle.laws_walk.specs.Places.{DictionariesRead, KeptSoFar, Sending, meta_in, place_of, schema_of_reader, walking}
use Rattle.laws_walk.specs.Sends.{IsWriter, Knows, SendCause, SendsOne, SentSoFar}
use Rattle.laws_walk.specs.Walks.{IsOpenFor, within}
use Rattle.laws_walk.proofs.Causes.{never_of_sink}
use Rattle.laws_walk.proofs.Columns.{batch_given}
use Rattle.laws_walk.proofs.Cursors.{Answer, answered, block_read, dictionaries_on, held_at, kept_at, may_project, next_none, next_refused, walked_at}
use Rattle.laws_walk.proofs.Fetched.{next_fetches}
use Rattle.laws_walk.proofs.Fronts.{front_stands, front_there}
use Rattle.laws_walk.proofs.Places.{open_to_send, open_within}
use Rattle.laws_walk.proofs.Requests.{fields_by}
use Rattle.laws_walk.proofs.WriteCauses.{not_written}
use Rattle.laws_walk.proofs.Writes.{IsBehind, Step, finds_so, refused, written}
use Rattle.ipc_transcode.specs.Sends.{FileSoFar, IsReader, IsSentBy, SendsNext}
use Rattle.ipc_transcode.proofs.Readers.{next_kinds}

-- what is said of a call where the source's bytes are told
abbrev pub Told : Option (List ℕ) → FileCursor → StreamCore → Option (List ℕ) → (Sending → List ℕ → List TableBatch → Type 0) → Type 0
Told content c w now P = IfSome content (λ b. (x : Sending) (bytes : List ℕ) (bs : List TableBatch) → x.bytes ≡ b → x.encoding ≡ w.encoding → IsSentBy c x → FileSoFar x c w now bytes bs → P x bytes bs)

tell : (content : Option (List ℕ)) (c : FileCursor) (w : StreamCore) (now : Option (List ℕ)) (P : Sending → List ℕ → List TableBatch → Type 0)
    → ((x : Sending) (bytes : List ℕ) (bs : List TableBatch) → content ≡ Some x.bytes → x.encoding ≡ w.encoding → IsSentBy c x → FileSoFar x c w now bytes bs → P x bytes bs) → Told content c w now P
tell None c w now P h = tt
tell (Some b) c w now P h = λ x bytes bs same enc is so_far. h x bytes bs (ap Some (sym same)) enc is so_far

-- a file whose schema may be sent
pub sent_open : (x : Sending) (c : FileCursor) → IsSentBy c x → IsOpenFor to_send x.bytes (within x.request) (meta_in x) (file_custom x.file)
sent_open x c is = open_to_send x.bytes (within x.request) (meta_in x) (file_custom x.file) (open_within x.bytes x.request (meta_in x) (file_custom x.file) is.by.file) is.small

-- a writer of the encoding that is asked for
pub as_asked : (x : Sending) (c : FileCursor) (w : StreamCore) → x.encoding ≡ w.encoding → IsWriter (schema_of_reader c) w.encoding w → IsWriter (schema_of_reader c) x.encoding w
as_asked x c w same writer = subst (λ e. IsWriter (schema_of_reader c) e w) (sym same) writer

-- a batch that is to be written
step : (x : Sending) (c c' : FileCursor) (w : StreamCore) (now : Option (List ℕ)) (y : Batch) (bytes : List ℕ) (bs : List TableBatch) → IsSentBy c x → IsWriter (schema_of_reader c) x.encoding w → Answer x c c' y → fault_each (forest y.arrays) ≡ None → FileSoFar x c w now bytes bs
    → Step (walking x) (schema_of_reader c) (place_of c) (place_of c') w now y bytes bs
unfolding dictionaries_on held_at
step x c c' w now y bytes bs is writer answer sound so_far =
    let f = fields_by x c w x.encoding is.by writer in
    let behind = dictionaries_on x c c' y is.by answer so_far.walked.kept in
    let given = batch_given x c is.by (place_of c') behind answer.block c.left y (block_read x c c' y is.by answer behind) (schema_of_reader c) (ids_of w.fields.items) f sound in
    record {
      opened = sent_open x c is;
      writer = writer;
      fields = f;
      so_far = so_far;
      behind = behind;
      block = answer.block;
      at = answer.at;
      is = given;
      next = answer.next;
      left = answer.left;
      finds = finds_so file_sent columns_right (walking x) (schema_of_reader c) (place_of c) (place_of c') w y bs so_far.walked.kept behind answer.block c.left writer f given (same so_far.walked.kept) so_far.knows;
    }
  where
    same : (kept : KeptSoFar (walking x) (place_of c)) → IsBehind (walking x) (place_of c) (place_of c') kept (dictionaries_on x c c' y is.by answer kept)
    same (KeptSoFar.none_yet none not_read) = tt
    same (KeptSoFar.all_read r some) = (refl, refl)

module _ {S : Type 0} (content_of : S → Option (List ℕ)) (faults_of fetched_of : S → ℕ) (references_of : S → List ℕ) (s s' : S) (c c' : FileCursor) (w : StreamCore) (now : Option (List ℕ)) where
  abbrev Next : Option (Result Batch IpcError) → Type 0
  Next r = NextBatch content_of faults_of fetched_of references_of s s' c c' r

  -- what is fetched
  pub next_fetches_so : (r : Option (Result Batch IpcError)) → Next r → IfSome (content_of s) (λ b. (x : Sending) (bytes : List ℕ) (bs : List TableBatch) → x.bytes ≡ b → IsSentBy c x → FileSoFar x c w now bytes bs → FetchesTo (walking x) c.block c'.block (fetched_of s) (fetched_of s'))
  next_fetches_so r n = by (content_of s) refl
    where
      by : (o : Option (List ℕ)) → content_of s ≡ o → IfSome o (λ b. (x : Sending) (bytes : List ℕ) (bs : List TableBatch) → x.bytes ≡ b → IsSentBy c x → FileSoFar x c w now bytes bs → FetchesTo (walking x) c.block c'.block (fetched_of s) (fetched_of s'))
      by None told = tt
      by (Some b) told = λ x bytes bs same is so_far. next_fetches content_of faults_of fetched_of references_of s s' c c' x is.by (told ∙ ap Some (sym same)) to_send bs r n so_far.walked

  module _ (writer : IsWriter (schema_of_reader c) w.encoding w) where
    -- there is none
    pub next_none_so : (wants wants' : ℕ) → Next None → Told (content_of s) c w now (λ x bytes bs. SendsNext (Ok None) x c' w now bytes bs wants wants')
    unfolding kept_at walked_at held_at
    next_none_so wants wants' n = tell (content_of s) c w now (λ x bytes bs. SendsNext (Ok None) x c' w now bytes bs wants wants') λ x bytes bs told enc is so_far.
        let both = next_none content_of faults_of fetched_of references_of s s' c c' x is.by to_send bs n so_far.walked in
        (same_place x bytes bs so_far n.block n.left (n.dictionaries x.request.columns (may x is)), both.1)
      where
        may : (x : Sending) (is : IsSentBy c x) → MayProject (rc_value c.metadata.schema) x.request.columns c.projection
        may x is = may_project x c is.by

        knows_at : (x : Sending) (cs : List TableBatch) (kept : KeptSoFar (walking x) (place_of c)) (block : c'.block ≡ c.block) (same : c'.dictionaries ≡ c.dictionaries) → Knows (walking x) (place_of c) kept w cs → Knows (walking x) (place_of c') (kept_at (walking x) (place_of c) (place_of c') block same kept) w cs
        knows_at x [] kept block same h = h
        knows_at x (b ∷ bs) (KeptSoFar.none_yet none not_read) block same h = absurd h
        knows_at x (b ∷ bs) (KeptSoFar.all_read r some) block same h = h

        same_place : (x : Sending) (bytes : List ℕ) (bs : List TableBatch) → FileSoFar x c w now bytes bs → c'.block ≡ c.block → c'.left ≡ c.left → c'.dictionaries ≡ c.dictionaries → FileSoFar x c' w now bytes bs
        same_place x bytes bs so_far block left same = record {
          pairs = so_far.pairs;
          own = so_far.own;
          custom = so_far.custom;
          written = so_far.written;
          added = so_far.added;
          walked = walked_at to_send (walking x) (place_of c) (place_of c') bs block left same so_far.walked;
          knows = knows_at x bs so_far.walked.kept block same so_far.knows;
          first = so_far.first;
          few = subst (λ n. length bytes ≤ 2 ^ 127 + 2 ^ 98 + n * (2 ^ 63 + 2 ^ 33)) (sym block) so_far.few;
        }

    -- it is refused
    pub next_refused_so : (r : Result (Option ℕ) IpcError) (e : IpcError) (wants wants' : ℕ) → r ≡ Err e → Next (Some (Err e)) → Told (content_of s) c w now (λ x bytes bs. SendsNext r x c' w now bytes bs wants wants')
    next_refused_so r e wants wants' is_err n = by (content_of s) refl
      where
        by : (o : Option (List ℕ)) → content_of s ≡ o → Told o c w now (λ x bytes bs. SendsNext r x c' w now bytes bs wants wants')
        by None told = tt
        by (Some b) told = λ x bytes bs same enc is so_far.
            let writes = as_asked x c w enc writer in
            let opened = sent_open x c is in
            let both = next_refused content_of faults_of fetched_of references_of s s' c c' x is.by (told ∙ ap Some (sym same)) to_send opened e bs n so_far.walked in
            let front = front_there (walking x) (schema_of_reader c) (place_of c) w now bytes bs opened writes (fields_by x c w x.encoding is.by writes) so_far in
            subst (λ z. SendsNext z x c' w now bytes bs wants wants') (sym is_err) (front_stands e (walking x) c.block bytes bs now now wants wants' opened (never_of_sink e _ _ n.cause) front so_far.added (Keeps-refl now) both)

    module _ (y : Batch) (m : Moved) (old : m.old ≡ now) (n : Next (Some (Ok y))) (sound : fault_each (forest y.arrays) ≡ None) where
      -- it was read and written
      pub next_written : (rows : ℕ) (w' : StreamCore) (wants wants' : ℕ) → rows ≡ y.height → HasWritten (text_of w.encoding) m w w' y None → Told (content_of s) c w now (λ x bytes bs. SendsNext (Ok (Some rows)) x c' w' m.new bytes bs wants wants')
      next_written rows w' wants wants' height h = by (content_of s) refl
        where
          by : (o : Option (List ℕ)) → content_of s ≡ o → Told o c w now (λ x bytes bs. SendsNext (Ok (Some rows)) x c' w' m.new bytes bs wants wants')
          by None told = tt
          by (Some b) told = λ x bytes bs same enc is so_far.
              let here = step x c c' w now y bytes bs is (as_asked x c w enc writer) (answered content_of faults_of fetched_of references_of s s' c c' x is.by (told ∙ ap Some (sym same)) y n) sound so_far in
              subst (λ k. SendsOne (walking x) (place_of c') w' m.new bytes bs k) (sym height) (written (walking x) (schema_of_reader c) (place_of c) (place_of c') w now y bytes bs here w' m old h)

      -- or not
      pub next_not_written : (r : Result (Option ℕ) IpcError) (e : IpcError) (w' : StreamCore) → r ≡ Err e → (WriteCause e w y None × LeavesAll m w w') ⊎ WriteFailed (text_of w.encoding) m e w w' y None
          → Told (content_of s) c w now (λ x bytes bs. SendsNext r x c' w' m.new bytes bs m.wants m.wants_now)
      next_not_written r e w' is_err h = by (content_of s) refl
        where
          by : (o : Option (List ℕ)) → content_of s ≡ o → Told o c w now (λ x bytes bs. SendsNext r x c' w' m.new bytes bs m.wants m.wants_now)
          by None told = tt
          by (Some b) told = λ x bytes bs same enc is so_far.
              let here = step x c c' w now y bytes bs is (as_asked x c w enc writer) (answered content_of faults_of fetched_of references_of s s' c c' x is.by (told ∙ ap Some (sym same)) y n) sound so_far in
              subst (λ z. SendsNext z x c' w' m.new bytes bs m.wants m.wants_now) (sym is_err) (refused (walking x) (schema_of_reader c) (place_of c) (place_of c') w now y bytes bs here w' m e old h)

      -- why, whatever the file is
      pub write_cause : (r : Result (Option ℕ) IpcError) (e : IpcError) (w' : StreamCore) (reads reads' : ℕ) → r ≡ Err e → IsReader c → (WriteCause e w y None × LeavesAll m w w') ⊎ WriteFailed (text_of w.encoding) m e w w' y None → IfErr r (λ f. SendCause f reads reads' m.faults m.faults_now)
      write_cause r e w' reads reads' is reader h =
          subst (λ z. IfErr z (λ f. SendCause f reads reads' m.faults m.faults_now)) (sym is)
          (not_written (schema_of_reader c) w.encoding w writer y (next_kinds content_of faults_of fetched_of references_of s s' c c' y reader n) sound e w' m reads reads' h)
