-- What one call that scans a block comes to.
use Rattle.std.proofs.Common.{◌≡◌, ◌∙◌, ◌⊎◌, sym, ap, refl, subst, arith, ℕ, zero, suc, ◌+◌, ◌<◌, ◌≤◌, List, [], ◌∷◌, length, take, Bool, true, Option, Some, None, Result, Ok, Err, slice_get}
use Rattle.std.specs.Prelude.{IfErr, IfSome, not, ◌&&◌}
use Rattle.std.specs.Rc.{rc_value}
use Rattle.std.proofs.lemmas.Option.{slice_get_within}
use Rattle.arrow_spec.specs.Arrays.{Dictionaries}
use Rattle.arrow_spec.specs.declared.error.IpcError.{IpcError}
use Rattle.arrow_spec.specs.Files.{Asked, FileBlock, Meta, TableBatch, dictionaries_of, dictionaries_sent, to_read}
use Rattle.arrow_spec.specs.Readings.{is_absent}
use Rattle.arrow_spec.proofs.Projection.{went}
use Rattle.arrow_spec.proofs.ReadPairs.{same_read}
use Rattle.arrow_arrays.specs.Batches.{Batch}
use Rattle.arrow_arrays.specs.Parts.{fault_each, forest}
use Rattle.ipc_bodies.specs.Encodings.{text_of}
use Rattle.ipc_bodies.specs.Puts.{Moved}
use Rattle.ipc_files.specs.Blocks.{asked_under}
use Rattle.ipc_files.specs.FileViews.{FileCause, meta_view}
use Rattle.ipc_files.specs.declared.metadata.FileMetadata.{FileMetadata}
use Rattle.ipc_files.specs.Selections.{HasFields}
use Rattle.ipc_files.specs.FileDictionaries.{HoldsUses}
use Rattle.ipc_files.specs.Below.{MayProject, held_in}
use Rattle.ipc_files.specs.Requests.{asked}
use Rattle.laws_scan.specs.Below.{HeldParts, HoldsFile}
use Rattle.ipc_projection.specs.Below.{HoldsCells}
use Rattle.laws_walk.specs.Below.{HasWritten, LeavesAll, StreamCore, WriteCause, WriteFailed}
use Rattle.laws_walk.specs.Places.{Sending, asked_in, meta_in, schema_of_reader}
use Rattle.laws_walk.specs.Sends.{IsWriter, SendCause, SentSoFar}
use Rattle.laws_walk.specs.Walks.{blocks_walked, left_behind, left_read, walk_cost}
use Rattle.laws_walk.proofs.Below.{kinds_of_schema}
use Rattle.laws_walk.proofs.Causes.{never_of_sink}
use Rattle.laws_walk.proofs.Cursors.{blocks_as}
use Rattle.laws_walk.proofs.Places.{all_of, block_there}
use Rattle.laws_walk.proofs.WriteCauses.{not_written}
use Rattle.laws_scan.specs.Scan.{met, scan_block, scan_cost}
use Rattle.filter_types.specs.declared.filter.Filter.{Filter}
use Rattle.ipc_scan.specs.Sends.{BlockFetchedBy, BlockScanned, BlocksFetched, IsScannedBy, ScansNext, place_at, scanning}
use Rattle.ipc_scan.specs.declared.scanner.Scanner.{Scanner}
use Rattle.ipc_scan.proofs.ScannedBlocks.{block_stops, none_written, read_under, rows_refused, rows_written}
use Rattle.ipc_scan.proofs.ScannedPlaces.{HoldsAll, some_at}

-- ── what is written ──

module _ (content : Option (List ℕ)) (s : Scanner) (n : ℕ) (m : HeldParts) (w : StreamCore) (now : Option (List ℕ)) where
  -- what is said of a call where the source's bytes are told
  abbrev pub Told : (Sending → List ℕ → List TableBatch → Type 0) → Type 0
  Told P = IfSome content (λ b. (x : Sending) (bytes : List ℕ) (bs : List TableBatch) → x.bytes ≡ b → x.encoding ≡ w.encoding → IsScannedBy s x → HoldsFile b (meta_view x.file) m → SentSoFar (scanning s.filter x) (place_at n m) w now bytes bs → P x bytes bs)

  module _ (within : n < length s.reader.metadata.blocks.items) (uses : HoldsUses (meta_view s.reader.metadata) (held_in m)) (writer : IsWriter (schema_of_reader s.reader) w.encoding w) where
    -- a file of which a block is there
    record Here (x : Sending) : Type 0 where
      is : IsScannedBy s x
      told : content ≡ Some x.bytes
      block : FileBlock
      at : slice_get (meta_in x).blocks n ≡ Some block
      all : HoldsAll (scanning s.filter x) m
      writes : IsWriter (schema_of_reader s.reader) x.encoding w

    here : (x : Sending) → content ≡ Some x.bytes → x.encoding ≡ w.encoding → IsScannedBy s x → HoldsFile x.bytes (meta_in x) m → Here x
    here x told same is holds =
        let count = blocks_as x s.reader is.by in
        let there = block_there (meta_in x).blocks n (omega (arith, within, count)) in
        record {
          is = is;
          told = told;
          block = there.0;
          at = there.1;
          all = record { read = is.by.read; some = some_at (scanning s.filter x) n there.0 there.1; holds = holds; uses = subst (λ (f : FileMetadata). HoldsUses (meta_view f) (held_in m)) is.by.metadata uses };
          writes = subst (λ e. IsWriter (schema_of_reader s.reader) e w) (sym same) writer;
        }

    tell : (P : Sending → List ℕ → List TableBatch → Type 0) → ((x : Sending) (bytes : List ℕ) (bs : List TableBatch) → Here x → SentSoFar (scanning s.filter x) (place_at n m) w now bytes bs → P x bytes bs) → Told P
    tell P h = by content refl
      where
        by : (o : Option (List ℕ)) → content ≡ o → IfSome o (λ b. (x : Sending) (bytes : List ℕ) (bs : List TableBatch) → x.bytes ≡ b → x.encoding ≡ w.encoding → IsScannedBy s x → HoldsFile b (meta_view x.file) m → SentSoFar (scanning s.filter x) (place_at n m) w now bytes bs → P x bytes bs)
        by None told = tt
        by (Some b) told = λ x bytes bs same enc is holds so_far. h x bytes bs (here x (told ∙ ap Some (sym same)) enc is (subst (λ c. HoldsFile c (meta_in x) m) (sym same) holds)) so_far

    -- the block is refused
    pub next_refused : (r : Result (Option ℕ) IpcError) (e : IpcError) (w' : StreamCore) (faults faults' wants wants' : ℕ) → r ≡ Err e → FileCause e faults faults' → BlockScanned content s (held_in m) n (Err e) → Told (λ x bytes bs. ScansNext r (scanning s.filter x) n m w' now bytes bs wants wants')
    next_refused r e w' faults faults' wants wants' is_err cause reads = tell (λ x bytes bs. ScansNext r (scanning s.filter x) n m w' now bytes bs wants wants') λ x bytes bs h so_far.
        let under = read_under s x w now n m h.is h.writes h.all h.block h.at bytes bs so_far content h.told (Err e) reads in
        subst (λ z. ScansNext z (scanning s.filter x) n m w' now bytes bs wants wants') (sym is_err) (block_stops s x w now n m h.is h.writes h.all h.block h.at bytes bs so_far e wants wants' (never_of_sink e faults faults' cause) under)

    -- no row of it meets the filter
    pub next_passed : (wants wants' : ℕ) → BlockScanned content s (held_in m) n (Ok None) → Told (λ x bytes bs. ScansNext (Ok None) (scanning s.filter x) n m w now bytes bs wants wants')
    next_passed wants wants' reads = tell (λ x bytes bs. ScansNext (Ok None) (scanning s.filter x) n m w now bytes bs wants wants') λ x bytes bs h so_far.
        none_written s x w now n m h.is h.writes h.all h.block h.at bytes bs so_far (read_under s x w now n m h.is h.writes h.all h.block h.at bytes bs so_far content h.told (Ok None) reads)

    module _ (y : Batch) (v : Moved) (old : v.old ≡ now) (sound : fault_each (forest y.arrays) ≡ None) where
      -- some rows were written
      pub next_written : (rows : ℕ) (w' : StreamCore) (wants wants' : ℕ) → rows ≡ y.height → BlockScanned content s (held_in m) n (Ok (Some y)) → HasWritten (text_of w.encoding) v w w' y None → Told (λ x bytes bs. ScansNext (Ok (Some rows)) (scanning s.filter x) n m w' v.new bytes bs wants wants')
      next_written rows w' wants wants' height reads has = tell (λ x bytes bs. ScansNext (Ok (Some rows)) (scanning s.filter x) n m w' v.new bytes bs wants wants') λ x bytes bs h so_far.
          rows_written s x w now n m h.is h.writes h.all h.block h.at bytes bs so_far y (read_under s x w now n m h.is h.writes h.all h.block h.at bytes bs so_far content h.told (Ok (Some y)) reads) sound w' v rows old height has

      -- or not
      pub next_not_written : (r : Result (Option ℕ) IpcError) (e : IpcError) (w' : StreamCore) → r ≡ Err e → BlockScanned content s (held_in m) n (Ok (Some y)) → (WriteCause e w y None × LeavesAll v w w') ⊎ WriteFailed (text_of w.encoding) v e w w' y None
          → Told (λ x bytes bs. ScansNext r (scanning s.filter x) n m w' v.new bytes bs v.wants v.wants_now)
      next_not_written r e w' is_err reads failed = tell (λ x bytes bs. ScansNext r (scanning s.filter x) n m w' v.new bytes bs v.wants v.wants_now) λ x bytes bs h so_far.
          let stopped = rows_refused s x w now n m h.is h.writes h.all h.block h.at bytes bs so_far y (read_under s x w now n m h.is h.writes h.all h.block h.at bytes bs so_far content h.told (Ok (Some y)) reads) sound w' v e old failed in
          subst (λ z. ScansNext z (scanning s.filter x) n m w' v.new bytes bs v.wants v.wants_now) (sym is_err) stopped

      -- why, whatever the file is
      pub write_cause : (r : Result (Option ℕ) IpcError) (e : IpcError) (w' : StreamCore) (reads reads' : ℕ) → r ≡ Err e → HasFields y (schema_of_reader s.reader) → (WriteCause e w y None × LeavesAll v w w') ⊎ WriteFailed (text_of w.encoding) v e w w' y None → IfErr r (λ f. SendCause f reads reads' v.faults v.faults_now)
      write_cause r e w' reads reads' is has failed =
          subst (λ z. IfErr z (λ f. SendCause f reads reads' v.faults v.faults_now)) (sym is) (not_written (schema_of_reader s.reader) w.encoding w writer y (kinds_of_schema (schema_of_reader s.reader) y.arrays has.kinds) sound e w' v reads reads' failed)

-- ── what is fetched ──

-- where all blocks are scanned, so is one of them
module _ (b : List ℕ) (f : Filter) (columns : Option (List ℕ)) (a : Asked) where
  scans_at : (is_first : Bool) (blocks : List FileBlock) (left : Option ℕ) (xs : List TableBatch) (n : ℕ) (block : FileBlock) → blocks_walked to_read b (met f columns) a is_first blocks left ≡ Ok xs → slice_get blocks n ≡ Some block → (here : Option TableBatch) × (scan_block f to_read b a block ≡ Ok here)
  unfolding blocks_walked
  scans_at is_first [] left xs n block h at = cc
  scans_at is_first (k ∷ ks) left xs zero block h at =
      let one = went (scan_block f to_read b a k) _ xs h in
      let same : k ≡ block = cc in
      (one.got, subst (λ z. scan_block f to_read b a z ≡ Ok one.got) same one.first)
  scans_at is_first (k ∷ ks) left xs (suc n) block h at =
      let one = went (scan_block f to_read b a k) _ xs h in
      let flag = went (dictionaries_sent (is_first && not (is_absent one.got)) to_read a) _ xs one.rest in
      let others = went (blocks_walked to_read b (met f columns) a (is_first && is_absent one.got) ks (left_behind left one.got)) _ xs flag.rest in
      scans_at (is_first && is_absent one.got) ks (left_behind left one.got) others.got n block others.first at

-- one block more costs as much more
cost_at : (b : List ℕ) (meta : Meta) (f : Filter) (columns : Option (List ℕ)) (d : Dictionaries) (blocks : List FileBlock) (left : Option ℕ) (n : ℕ) (block : FileBlock) → slice_get blocks n ≡ Some block
    → walk_cost b meta (met f columns) d (take (suc n) blocks) left ≡ walk_cost b meta (met f columns) d (take n blocks) left + scan_cost f b (asked_under b meta d (asked columns None)) block
cost_at b meta f columns d [] left n block at = cc
cost_at b meta f columns d (k ∷ ks) left zero block at =
    let same : k ≡ block = cc in
    let cost : scan_cost f b (asked_under b meta d (asked columns None)) k ≡ scan_cost f b (asked_under b meta d (asked columns None)) block = ap (scan_cost f b (asked_under b meta d (asked columns None))) same in
    omega (arith, cost)
cost_at b meta f columns d (k ∷ ks) left (suc n) block at =
    let rest = cost_at b meta f columns d ks (left_read left (scan_block f to_read b (asked_under b meta d (asked columns None)) k)) n block at in
    omega (arith, rest)

pub next_fetched : (content : Option (List ℕ)) (s : Scanner) (n : ℕ) (m : HeldParts) (f f' : ℕ) → n < length s.reader.metadata.blocks.items → BlockFetchedBy content s (held_in m) n f f'
    → IfSome content (λ b. (x : Sending) → x.bytes ≡ b → IsScannedBy s x → HoldsFile b (meta_view x.file) m → BlocksFetched (scanning s.filter x) n f f')
next_fetched None s n m f f' within h = tt
next_fetched (Some b) s n m f f' within h = λ x same is holds.
    let count = blocks_as x s.reader is.by in
    let there = block_there (meta_in x).blocks n (omega (arith, within, count)) in
    record {
      within = let less = slice_get_within (meta_in x).blocks n there.0 there.1 in omega (arith, less);
      blocks = λ d xs has walked. by x same is there.0 there.1 d xs walked (let read = all_of x.bytes (meta_in x) d has (some_at (scanning s.filter x) n there.0 there.1) in held x d (subst (λ c. HoldsFile c (meta_in x) m) (sym same) holds) read);
    }
  where
    -- what is held are the cells of these dictionaries
    held : (x : Sending) (d : Dictionaries) → HoldsFile x.bytes (meta_in x) m → dictionaries_of x.bytes (meta_in x) [] (meta_in x).dictionaries ≡ Ok d → HoldsCells d (held_in m)
    held x d holds read =
        let one : holds.0 ≡ d = same_read holds.0 d (sym holds.1 ∙ read) in
        subst (λ (e : Dictionaries). HoldsCells e (held_in m)) one holds.2

    by : (x : Sending) → x.bytes ≡ b → IsScannedBy s x → (block : FileBlock) → slice_get (meta_in x).blocks n ≡ Some block → (d : Dictionaries) (xs : List TableBatch) → blocks_walked to_read x.bytes (met s.filter x.request.columns) (asked_in x d) true (meta_in x).blocks None ≡ Ok xs → HoldsCells d (held_in m)
        → f' + walk_cost x.bytes (meta_in x) (met s.filter x.request.columns) d (take n (meta_in x).blocks) None ≤ f + walk_cost x.bytes (meta_in x) (met s.filter x.request.columns) d (take (suc n) (meta_in x).blocks) None
    by x same is block at d xs walked cells =
        let scans = scans_at x.bytes s.filter x.request.columns (asked_in x d) true (meta_in x).blocks None xs n block walked at in
        let own : BlockFetchedBy (Some x.bytes) s (held_in m) n f f' = subst (λ c. BlockFetchedBy (Some c) s (held_in m) n f f') (sym same) h in
        let less : f' ≤ f + scan_cost s.filter x.bytes (asked_in x d) block
        = subst (λ (g : FileMetadata). (d : Dictionaries) (block : FileBlock) (columns : Option (List ℕ)) (here : Option TableBatch) → HoldsCells d (held_in m) → slice_get (meta_view g).blocks n ≡ Some block → MayProject (rc_value g.schema) columns s.chosen → scan_block s.filter to_read x.bytes (asked_under x.bytes (meta_view g) d (asked columns None)) block ≡ Ok here → f' ≤ f + scan_cost s.filter x.bytes (asked_under x.bytes (meta_view g) d (asked columns None)) block) is.by.metadata own d block x.request.columns scans.0 cells at is.scanner.chosen scans.1 in
        let more = cost_at x.bytes (meta_in x) s.filter x.request.columns d (meta_in x).blocks None n block at in
        omega (arith, less, more)
