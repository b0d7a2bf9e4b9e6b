-- What a call that reads a file's next record batch comes to.
use Rattle.std.proofs.Common.{◌≡◌, ◌∙◌, sym, refl, ap, subst, inl, inr, ◌⊎◌, ℕ, ◌+◌, ◌<◌, ◌≤◌, List, [], ◌∷◌, ◌++◌, length, true, false, Option, Some, None, Result, Ok, Err, slice_get, arith}
use Rattle.std.specs.Prelude.{IfSome}
use Rattle.std.proofs.lemmas.List.{length-map}
use Rattle.std.proofs.lemmas.Option.{slice_get_within}
use Rattle.std.specs.Rc.{rc_value}
use Rattle.arrow_spec.specs.declared.error.IpcError.{IpcError}
use Rattle.arrow_spec.specs.declared.message.Block.{Block}
use Rattle.arrow_spec.specs.Arrays.{Dictionaries}
use Rattle.arrow_spec.specs.Files.{FileBlock, Purpose, TableBatch, batch_of, dictionaries_of, to_read, what_is_left}
use Rattle.arrow_spec.specs.Readings.{Reading, Refuses, refusals}
use Rattle.arrow_spec.proofs.Projection.{no_dictionaries_sent, ok-place, on}
use Rattle.arrow_arrays.specs.Batches.{Batch}
use Rattle.ipc_reader.specs.Below.{BlockRead, FileMetadata, HasFields, HoldsUses, MayProject, asked, batch_given, batch_in, block_by, file_block, file_custom, held_in, meta_view, table_of}
use Rattle.ipc_reader.proofs.Below.{GivenAt, follows, given_in_file, natural_at}
use Rattle.ipc_reader.proofs.HeldDictionaries.{held_uses}
use Rattle.ipc_reader.specs.Kept.{GivesBy, HeldParts, HoldsFile, KeepsFile, KeptAfter, ReadUnderKept, dictionaries_in, first_in, is_refused}
use Rattle.ipc_reader.specs.Reads.{NextBatch}
use Rattle.ipc_reader.specs.declared.cursor.FileCursor.{FileCursor}
use Rattle.ipc_reader.specs.declared.kept.KeptDictionaries.{KeptDictionaries}
use Rattle.ipc_reader.specs.declared.kept.KeptDictionaries.TheVariants.{Held, NotRead}
use Rattle.laws_sent.specs.Below.{HoldsCells}
use Rattle.laws_sent.proofs.NextParts.{held_parts}
use Rattle.laws_transcode.specs.Files.{HasRead}
use Rattle.laws_transcode.proofs.Readings.{on_err}
use Rattle.laws_walk.specs.Places.{DictionariesRead, IsReadBy, KeptSoFar, Place, Sending, Walked, Walking, asked_in, meta_in, place_of, schema_of_reader, walking}
use Rattle.laws_walk.specs.Walks.{IsOpenFor, within}
use Rattle.laws_walk.proofs.Places.{AreRefused, block_refuses, block_there, dictionaries_refuse, has_all, walked_more}
use Rattle.laws_walk.proofs.SentBlocks.{block_means, refused_for}

-- ── a reader ──

-- of the same file and columns
pub reads_too : (c c' : FileCursor) (x : Sending) → c'.metadata ≡ c.metadata → c'.projection ≡ c.projection → IsReadBy c x → IsReadBy c' x
reads_too c c' x metadata projection is = record {
  metadata = metadata ∙ is.metadata;
  columns = subst (λ p. MayProject (rc_value x.file.schema) x.request.columns p) (sym projection) is.columns;
  file = is.file;
  read = is.read;
}

-- a file has as many blocks as its reader's metadata
pub blocks_as : (x : Sending) (c : FileCursor) → IsReadBy c x → length (meta_in x).blocks ≡ length c.metadata.blocks.items
blocks_as x c is = ap (λ (f : FileMetadata). length (meta_view f).blocks) (sym is.metadata) ∙ length-map c.metadata.blocks.items file_block

-- what a reader's own metadata is said of is the file's
of_file : (x : Sending) (c : FileCursor) → IsReadBy c x → (P : FileMetadata → Type 0) → P c.metadata → P x.file
of_file x c is P h = subst P is.metadata h

to_reader : (x : Sending) (c : FileCursor) → IsReadBy c x → (P : FileMetadata → Type 0) → P x.file → P c.metadata
to_reader x c is P h = subst P (sym is.metadata) h

pub may_project : (x : Sending) (c : FileCursor) → IsReadBy c x → MayProject (rc_value c.metadata.schema) x.request.columns c.projection
may_project x c is = to_reader x c is (λ f. MayProject (rc_value f.schema) x.request.columns c.projection) is.columns

-- ── a place ──

-- dictionaries that are still held
unfoldable pub held_at : (x : Walking) (p p' : Place) → (r : DictionariesRead x p) → p'.dictionaries ≡ Held r.held → DictionariesRead x p'
held_at x p p' r kept = record { held = r.held; kept = kept; dictionaries = r.dictionaries; has = r.has; parts = r.parts; read = r.read; uses = r.uses }

unfoldable pub kept_at : (x : Walking) (p p' : Place) → p'.block ≡ p.block → p'.dictionaries ≡ p.dictionaries → KeptSoFar x p → KeptSoFar x p'
kept_at x p p' block same (KeptSoFar.none_yet none not_read) = KeptSoFar.none_yet (block ∙ none) (same ∙ not_read)
kept_at x p p' block same (KeptSoFar.all_read r some) = KeptSoFar.all_read (held_at x p p' r (same ∙ r.kept)) (omega (arith, block, some))

-- the same place
unfoldable pub walked_at : (purpose : Purpose) (x : Walking) (p p' : Place) (bs : List TableBatch) → p'.block ≡ p.block → p'.left ≡ p.left → p'.dictionaries ≡ p.dictionaries → Walked purpose x p bs → Walked purpose x p' bs
walked_at purpose x p p' bs block left same s = record {
  kept = kept_at x p p' block same s.kept;
  read = rw block s.read;
  done = rw block s.done;
  none = λ e. s.none (sym block ∙ e);
  within = omega (arith, block, s.within);
  left = left ∙ s.left;
}

not_refused : (x : Walking) (p : Place) → KeptSoFar x p → is_refused p.dictionaries ≡ false
not_refused x p (KeptSoFar.none_yet none not_read) = ap is_refused not_read
not_refused x p (KeptSoFar.all_read r some) = ap is_refused r.kept

-- ── a batch that was read ──

-- what a reader answered, and where that leaves it
pub record Answer (x : Sending) (c c' : FileCursor) (y : Batch) : Type 0 where
  pub block : FileBlock
  pub at : slice_get (meta_in x).blocks c.block ≡ Some block
  pub read : ReadUnderKept (Some x.bytes) (meta_in x) (asked x.request.columns c.left) block c'.dictionaries y
  pub first : c.dictionaries ≡ NotRead → KeepsFile (Some x.bytes) (meta_in x) c'.dictionaries
  pub keeps : (m : HeldParts) → c.dictionaries ≡ Held m → c'.dictionaries ≡ Held m
  pub metadata : c'.metadata ≡ c.metadata
  pub projection : c'.projection ≡ c.projection
  pub next : c'.block ≡ c.block + 1
  pub left : c'.left ≡ what_is_left c.left y.height
  pub fields : HasFields y (schema_of_reader c)

module _ (x : Sending) (c c' : FileCursor) (y : Batch) (is : IsReadBy c x) (answer : Answer x c c' y) where
  some_blocks : 0 < length (meta_in x).blocks
  some_blocks = let less = slice_get_within (meta_in x).blocks c.block answer.block answer.at in omega (arith, less)

  -- the dictionaries are held behind it
  unfoldable pub dictionaries_on : KeptSoFar (walking x) (place_of c) → DictionariesRead (walking x) (place_of c')
  unfolding some_blocks
  dictionaries_on (KeptSoFar.none_yet none not_read) =
      let m = answer.read.0 in
      let file = answer.first not_read m answer.read.1 in
      let parts = held_parts x.bytes (meta_in x) file.0 (held_in m) is.read.readable.columns is.read.readable.agree file.3 in
      record {
        held = m;
        kept = answer.read.1;
        dictionaries = file.0;
        has = has_all x.bytes (meta_in x) file.0 some_blocks file.1;
        parts = parts.0;
        read = parts.1;
        uses = subst (λ g. HoldsUses (meta_view g) (held_in m)) (answer.metadata ∙ is.metadata) (held_uses (meta_view c'.metadata) c'.dictionaries m answer.read.1 c'.uses);
      }
  dictionaries_on (KeptSoFar.all_read r some) = held_at (walking x) (place_of c) (place_of c') r (answer.keeps r.held r.kept)

  -- under which the block was read
  pub block_read : (r : DictionariesRead (walking x) (place_of c')) → BlockRead x.bytes (held_in r.held) (asked_in x r.dictionaries) answer.block c.left y
  block_read r =
      let m = answer.read.0 in
      let same : m ≡ r.held = let e = sym answer.read.1 ∙ r.kept in cc in
      let cells : HoldsCells r.dictionaries (held_in m) = subst (λ h. HoldsCells r.dictionaries (held_in h)) (sym same) r.read.read.cells in
      subst (λ h. BlockRead x.bytes (held_in h) (asked_in x r.dictionaries) answer.block c.left y) same (answer.read.2 r.dictionaries cells)

  pub kept_on : DictionariesRead (walking x) (place_of c') → KeptSoFar (walking x) (place_of c')
  kept_on r = KeptSoFar.all_read r (let e = answer.next in omega (arith, e))

  -- it gives its batch
  pub read_gives : (r : DictionariesRead (walking x) (place_of c')) → (within x.request).batch to_read x.bytes (asked_in x r.dictionaries) answer.block c.left ≡ Ok (Some (table_of y))
  unfolding block_read
  read_gives r = on _ _ (table_of y) (block_means x.bytes (asked_in x r.dictionaries) (held_in r.held) answer.block c.left y (block_read r))

  -- so one batch more was read
  pub read_on : (bs : List TableBatch) → Walked to_read (walking x) (place_of c) bs → Walked to_read (walking x) (place_of c') (bs ++ table_of y ∷ [])
  unfolding kept_on read_gives
  read_on bs s =
      let r = dictionaries_on s.kept in
      let gives = read_gives r in
      walked_more to_read (walking x) (place_of c) (place_of c') answer.block answer.at answer.next r.dictionaries r.has bs (Some (table_of y)) s (kept_on r) answer.left gives gives (no_dictionaries_sent _ (asked_in x r.dictionaries))

-- ── a refusal of what is read ──

module _ (purpose : Purpose) (x : Sending) (c : FileCursor) (is : IsReadBy c x) (open_for : IsOpenFor purpose x.bytes (within x.request) (meta_in x) (file_custom x.file)) (e : IpcError) (block : FileBlock) (y : Block) (at : slice_get (meta_in x).blocks c.block ≡ Some block) (given : block_by y ≡ Ok block)
    (bs : List TableBatch) (s : Walked purpose (walking x) (place_of c) bs) where
  abbrev Stops : Type 0
  Stops = AreRefused purpose (walking x) open_for e c.block

  -- under dictionaries
  under : (d : Dictionaries) → HasRead x.bytes (meta_in x) d → Refuses e (refusals (batch_in (asked x.request.columns c.left) x.bytes (meta_in x) d y)) → Stops
  unfolding batch_in batch_given
  under d has h =
      let plain : batch_in (asked x.request.columns c.left) x.bytes (meta_in x) d y ≡ batch_of to_read x.bytes (asked_in x d) block c.left = on _ _ tt (ok-place _ is.file.readable) ∙ on _ _ block given in
      let read : Refuses e (refusals (batch_of to_read x.bytes (asked_in x d) block c.left)) = subst (λ r. Refuses e (refusals r)) plain h in
      let done = refused_for purpose e x.bytes (asked_in x d) block c.left read in
      block_refuses purpose (walking x) open_for c.block block at d has bs s.done c.left s.left e (follows e _ ((within x.request).batch purpose x.bytes (asked_in x d) block c.left) (λ es k. on_err _ _ es k) done)

  -- at the first block the dictionaries may be refused too
  first : c.block ≡ 0 → Refuses e (refusals (first_in (asked x.request.columns c.left) x.bytes x.file y)) → Stops
  unfolding first_in dictionaries_in
  first none h = by (dictionaries_of x.bytes (meta_in x) [] (meta_in x).dictionaries) refl
    where
      readable : dictionaries_in x.request.columns x.bytes x.file ≡ dictionaries_of x.bytes (meta_in x) [] (meta_in x).dictionaries
      readable = on _ _ tt (ok-place _ is.file.readable) ∙ given_in_file x.bytes (meta_in x) [] x.file.dictionaries.items is.read.natural.dictionaries

      by : (r : Reading Dictionaries) → dictionaries_of x.bytes (meta_in x) [] (meta_in x).dictionaries ≡ r → Stops
      by (Err es) so =
          let whole : first_in (asked x.request.columns c.left) x.bytes x.file y ≡ Err es = on_err _ _ es (readable ∙ so) in
          dictionaries_refuse purpose (walking x) open_for c.block block at e none (subst (λ r. Refuses e (refusals r)) (sym so) (subst (λ r. Refuses e (refusals r)) whole h))
      by (Ok d) so =
          let whole : first_in (asked x.request.columns c.left) x.bytes x.file y ≡ batch_in (asked x.request.columns c.left) x.bytes (meta_in x) d y = on _ _ d (readable ∙ so) in
          let some : 0 < length (meta_in x).blocks = let less = slice_get_within (meta_in x).blocks c.block block at in omega (arith, less) in
          under d (has_all x.bytes (meta_in x) d some so) (subst (λ r. Refuses e (refusals r)) whole h)

  pub answer_refused : GivesBy c.dictionaries (asked x.request.columns c.left) x.bytes x.file y (Err e) → Stops
  unfolding under first
  answer_refused gives = by s.kept
    where
      by : KeptSoFar (walking x) (place_of c) → Stops
      by (KeptSoFar.none_yet none not_read) = first none (subst (λ k. GivesBy k (asked x.request.columns c.left) x.bytes x.file y (Err e)) not_read gives)
      by (KeptSoFar.all_read r some) = under r.dictionaries r.has (subst (λ k. GivesBy k (asked x.request.columns c.left) x.bytes x.file y (Err e)) r.kept gives r.dictionaries r.read.read.cells)

-- ── calls ──

module _ {S : Type 0} (content_of : S → Option (List ℕ)) (faults_of fetched_of : S → ℕ) (references_of : S → List ℕ) (s s' : S) (c c' : FileCursor) (x : Sending) (is : IsReadBy c x) where
  abbrev Next : Option (Result Batch IpcError) → Type 0
  Next r = NextBatch content_of faults_of fetched_of references_of s s' c c' r

  -- there is a block
  pub at_block : c.block < length c.metadata.blocks.items → (block : FileBlock) × (slice_get (meta_in x).blocks c.block ≡ Some block)
  at_block less = let same = blocks_as x c is in block_there (meta_in x).blocks c.block (omega (arith, less, same))

  -- there is none
  pub next_none : (purpose : Purpose) (bs : List TableBatch) → Next None → Walked purpose (walking x) (place_of c) bs → Walked purpose (walking x) (place_of c') bs × (length (meta_in x).blocks ≤ c'.block)
  next_none purpose bs n so_far = (walked_at purpose (walking x) (place_of c) (place_of c') bs n.block n.left (n.dictionaries x.request.columns (may_project x c is)) so_far, last n.ended)
    where
      last : (length c.metadata.blocks.items ≤ c.block) ⊎ (is_refused c.dictionaries ≡ true) → length (meta_in x).blocks ≤ c'.block
      last (inl end) = let same = blocks_as x c is in omega (arith, end, n.block, same)
      last (inr never) = let clash : false ≡ true = sym (not_refused (walking x) (place_of c) so_far.kept) ∙ never in cc

  module _ (told : content_of s ≡ Some x.bytes) where
    -- it is refused
    pub next_refused : (purpose : Purpose) (open_for : IsOpenFor purpose x.bytes (within x.request) (meta_in x) (file_custom x.file)) (e : IpcError) (bs : List TableBatch) → Next (Some (Err e)) → Walked purpose (walking x) (place_of c) bs → AreRefused purpose (walking x) open_for e c.block
    next_refused purpose open_for e bs n so_far =
        let there = at_block n.ended.0 in
        let y : GivenAt c.metadata.blocks.items c.block there.0 = to_reader x c is (λ f. GivenAt f.blocks.items c.block there.0) (natural_at x.file.blocks.items c.block there.0 is.read.natural.blocks there.1) in
        let gives : GivesBy c.dictionaries (asked x.request.columns c.left) x.bytes c.metadata y.given (Err e) = subst (λ z. IfSome z (λ b. GivesBy c.dictionaries (asked x.request.columns c.left) b c.metadata y.given (Err e))) told (n.gives x.request.columns y.given (may_project x c is) y.at) in
        answer_refused purpose x c is open_for e there.0 y.given there.1 y.is bs so_far (of_file x c is (λ f. GivesBy c.dictionaries (asked x.request.columns c.left) x.bytes f y.given (Err e)) gives)

    -- it was read
    pub answered : (y : Batch) → Next (Some (Ok y)) → Answer x c c' y
    answered y n =
        let there = at_block n.ended.0 in
        let at : slice_get (meta_view c.metadata).blocks c.block ≡ Some there.0 = to_reader x c is (λ f. slice_get (meta_view f).blocks c.block ≡ Some there.0) there.1 in
        let may = may_project x c is in
        record {
          block = there.0;
          at = there.1;
          read = of_file x c is (λ f. ReadUnderKept (Some x.bytes) (meta_view f) (asked x.request.columns c.left) there.0 c'.dictionaries y) (subst (λ z. ReadUnderKept z (meta_view c.metadata) (asked x.request.columns c.left) there.0 c'.dictionaries y) told (n.read x.request.columns there.0 may at));
          first = λ not_read m kept. of_file x c is (λ f. IfSome (Some x.bytes) (λ z. HoldsFile z (meta_view f) m)) (subst (λ z. IfSome z (λ z. HoldsFile z (meta_view c.metadata) m)) told (n.first not_read m kept));
          keeps = λ m kept. subst (λ (k : KeptDictionaries). KeptAfter {X = Batch} (content_of s) c.metadata x.request.columns k c'.dictionaries (Ok y)) kept (n.dictionaries x.request.columns may);
          metadata = n.metadata;
          projection = n.projection;
          next = n.block;
          left = n.left;
          fields = n.schema x.request.columns may;
        }
