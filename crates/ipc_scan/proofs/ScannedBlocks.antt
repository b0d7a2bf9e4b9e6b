-- A block that is read for the rows that meet a filter, and these written to the stream, or none.
use Rattle.std.proofs.Common.{◌≡◌, ◌⊎◌, sym, refl, subst, arith, ℕ, suc, ◌+◌, ◌*◌, ◌^◌, ◌<◌, ◌≤◌, List, [], ◌∷◌, ◌++◌, append-nil, length, true, Option, Some, None, Result, Ok, slice_get}
use Rattle.std.specs.Prelude.{not, ◌&&◌}
use Rattle.std.proofs.KnownBytes.{Keeps-refl}
use Rattle.arrow_spec.specs.Arrays.{Dictionaries}
use Rattle.arrow_spec.specs.declared.error.IpcError.{IpcError}
use Rattle.arrow_spec.specs.Files.{Asked, FileBlock, TableBatch, dictionaries_sent, to_read, to_send}
use Rattle.arrow_spec.specs.Readings.{Refuses, refusals}
use Rattle.arrow_arrays.specs.Batches.{Batch}
use Rattle.arrow_arrays.specs.Parts.{fault_each, forest}
use Rattle.ipc_bodies.specs.Encodings.{text_of}
use Rattle.ipc_bodies.specs.Puts.{Moved}
use Rattle.ipc_fields.specs.IpcFields.{ids_of}
use Rattle.std.specs.Rc.{rc_value}
use Rattle.ipc_files.specs.Blocks.{asked_under}
use Rattle.ipc_files.specs.declared.metadata.FileMetadata.{FileMetadata}
use Rattle.ipc_files.specs.Below.{MayProject, held_in}
use Rattle.ipc_files.specs.Requests.{asked}
use Rattle.ipc_files.specs.FileViews.{meta_view}
use Rattle.laws_scan.specs.Below.{HeldParts, Held as IsHeld}
use Rattle.ipc_projection.specs.Below.{Held, HoldsCells}
use Rattle.laws_walk.specs.Below.{AreSentFields, HasWritten, LeavesAll, StreamCore, WriteCause, WriteFailed}
use Rattle.laws_walk.specs.Places.{DictionariesRead, KeptSoFar, Sending, Walked, asked_in, meta_in, schema_of_reader}
use Rattle.laws_walk.specs.Sends.{IsOfSink, IsWriter, Knows, Refused, SendsOne, SentSoFar}
use Rattle.laws_walk.proofs.Below.{columns_right, file_sent}
use Rattle.laws_walk.proofs.Columns.{IsBatch}
use Rattle.laws_walk.proofs.Fronts.{front_stands, front_there}
use Rattle.laws_walk.proofs.Places.{AreRefused, block_refuses, walked_more}
use Rattle.laws_walk.proofs.Requests.{fields_by}
use Rattle.laws_walk.proofs.Walks.{is_first_behind}
use Rattle.laws_walk.proofs.Writes.{IsBehind, Step, finds_so, refused, written}
use Rattle.laws_scan.specs.Reads.{ReadsBlock, ReadsNone, ReadsRows}
use Rattle.laws_scan.specs.Scan.{scan_block}
use Rattle.laws_scan.proofs.MarkedBatches.{none_given}
use Rattle.ipc_scan.specs.Sends.{BlockScanned, IsScannedBy, place_at, scanning}
use Rattle.ipc_scan.specs.declared.scanner.Scanner.{Scanner}
use Rattle.ipc_scan.proofs.Refused.{sent_refused}
use Rattle.ipc_scan.proofs.Scanned.{batch_scanned}
use Rattle.ipc_scan.proofs.ScannedPlaces.{HoldsAll, block_at, is_behind, left_at, left_behind_at, next_at, read_behind, read_within, scan_open}

-- what is read of a block is that of the file's
pub answer_at : (s : Scanner) (x : Sending) (n : ℕ) (h : Held) (content : Option (List ℕ)) (result : Result (Option Batch) IpcError) → IsScannedBy s x → content ≡ Some x.bytes → BlockScanned content s h n result
    → (d : Dictionaries) (block : FileBlock) → HoldsCells d h → slice_get (meta_in x).blocks n ≡ Some block → ReadsBlock s.filter x.bytes h (asked_in x d) block result
answer_at s x n h content result is told reads d block cells at =
    let here : BlockScanned (Some x.bytes) s h n result = subst (λ o. BlockScanned o s h n result) told reads in
    subst (λ (f : FileMetadata). (d : Dictionaries) (block : FileBlock) (columns : Option (List ℕ)) → HoldsCells d h → slice_get (meta_view f).blocks n ≡ Some block → MayProject (rc_value f.schema) columns s.chosen → ReadsBlock s.filter x.bytes h (asked_under x.bytes (meta_view f) d (asked columns None)) block result) is.by.metadata here d block x.request.columns cells at is.scanner.chosen

-- without a batch no dictionary is sent
none_sent : (a : Asked) (bs : List TableBatch) → dictionaries_sent (is_first_behind true bs && not true) to_send a ≡ Ok tt
none_sent a [] = refl
none_sent a (b ∷ bs) = refl

module _ (s : Scanner) (x : Sending) (w : StreamCore) (now : Option (List ℕ)) (n : ℕ) (m : HeldParts) (is : IsScannedBy s x) (writer : IsWriter (schema_of_reader s.reader) x.encoding w) (all : HoldsAll (scanning s.filter x) m) (block : FileBlock) (at : slice_get (meta_in x).blocks n ≡ Some block)
    (bytes : List ℕ) (bs : List TableBatch) (so_far : SentSoFar (scanning s.filter x) (place_at n m) w now bytes bs) where
  -- the dictionaries under which it is read
  pub behind : DictionariesRead (scanning s.filter x) (place_at (suc n) m)
  behind = read_behind (scanning s.filter x) m all n so_far.walked.kept

  fields : AreSentFields x.file x.request.columns (schema_of_reader s.reader) (ids_of w.fields.items)
  fields = fields_by x s.reader w x.encoding is.by writer

  there : slice_get (meta_in x).blocks (place_at n m).block ≡ Some block
  there = subst (λ k. slice_get (meta_in x).blocks k ≡ Some block) (sym (block_at n m)) at

  -- what was read of it
  module _ (content : Option (List ℕ)) (told : content ≡ Some x.bytes) (result : Result (Option Batch) IpcError) (reads : BlockScanned content s (held_in m) n result) where
    pub read_under : ReadsBlock s.filter x.bytes (held_in behind.held) (asked_in x behind.dictionaries) block result
    read_under =
        let same : m ≡ behind.held = let e : IsHeld m ≡ IsHeld behind.held = behind.kept in cc in
        let cells : HoldsCells behind.dictionaries (held_in m) = subst (λ (k : HeldParts). HoldsCells behind.dictionaries (held_in k)) (sym same) behind.read.read.cells in
        subst (λ (k : HeldParts). ReadsBlock s.filter x.bytes (held_in k) (asked_in x behind.dictionaries) block result) same (answer_at s x n (held_in m) content result is told reads behind.dictionaries block cells at)

  -- ── some rows ──

  module _ (y : Batch) (rows : ReadsRows s.filter x.bytes (held_in behind.held) (asked_in x behind.dictionaries) block y) (sound : fault_each (forest y.arrays) ≡ None) where
    given : IsBatch (scanning s.filter x) behind.dictionaries behind.parts (ids_of w.fields.items) block (place_at n m).left y
    given = subst (λ l. IsBatch (scanning s.filter x) behind.dictionaries behind.parts (ids_of w.fields.items) block l y) (sym (left_at n m)) (batch_scanned s.filter x s.reader is.by (place_at (suc n) m) (read_within s.filter x (place_at (suc n) m) behind) block y rows (schema_of_reader s.reader) (ids_of w.fields.items) fields sound)

    step : Step (scanning s.filter x) (schema_of_reader s.reader) (place_at n m) (place_at (suc n) m) w now y bytes bs
    unfolding behind
    step = record {
      opened = scan_open s x is;
      writer = writer;
      fields = fields;
      so_far = so_far;
      behind = behind;
      block = block;
      at = there;
      is = given;
      next = next_at n m;
      left = left_behind_at n m y.height;
      finds = finds_so file_sent columns_right (scanning s.filter x) (schema_of_reader s.reader) (place_at n m) (place_at (suc n) m) w y bs so_far.walked.kept behind block (place_at n m).left writer fields given (is_behind (scanning s.filter x) m all n so_far.walked.kept) so_far.knows;
    }

    pub rows_written : (w' : StreamCore) (v : Moved) (k : ℕ) → v.old ≡ now → k ≡ y.height → HasWritten (text_of w.encoding) v w w' y None → SendsOne (scanning s.filter x) (place_at (suc n) m) w' v.new bytes bs k
    rows_written w' v k old height h = subst (λ k. SendsOne (scanning s.filter x) (place_at (suc n) m) w' v.new bytes bs k) (sym height) (written (scanning s.filter x) (schema_of_reader s.reader) (place_at n m) (place_at (suc n) m) w now y bytes bs step w' v old h)

    pub rows_refused : (w' : StreamCore) (v : Moved) (e : IpcError) → v.old ≡ now → (WriteCause e w y None × LeavesAll v w w') ⊎ WriteFailed (text_of w.encoding) v e w w' y None → Refused e (scanning s.filter x) v.new v.wants v.wants_now
    rows_refused w' v e old h = refused (scanning s.filter x) (schema_of_reader s.reader) (place_at n m) (place_at (suc n) m) w now y bytes bs step w' v e old h

  -- ── none ──

  module _ (none : ReadsNone s.filter x.bytes (asked_in x behind.dictionaries) block) where
    passed : Walked to_send (scanning s.filter x) (place_at (suc n) m) bs
    passed =
        let f = s.filter in
        let b = x.bytes in
        let a = asked_in x behind.dictionaries in
        let more : Walked to_send (scanning f x) (place_at (suc n) m) (bs ++ [])
        = walked_more to_send (scanning f x) (place_at n m) (place_at (suc n) m) block there (next_at n m) behind.dictionaries behind.has bs None so_far.walked (KeptSoFar.all_read behind (omega arith)) (sym (left_at n m)) (none_given f b (held_in behind.held) a block to_read none) (none_given f b (held_in behind.held) a block to_send none) (none_sent a bs) in
        subst (Walked to_send (scanning f x) (place_at (suc n) m)) (append-nil bs) more

    -- the writer knows what it knew
    knows_on : (kept : KeptSoFar (scanning s.filter x) (place_at n m)) (d : DictionariesRead (scanning s.filter x) (place_at (suc n) m)) (some : 0 < suc n) (cs : List TableBatch) → IsBehind (scanning s.filter x) (place_at n m) (place_at (suc n) m) kept d
        → Knows (scanning s.filter x) (place_at n m) kept w cs → Knows (scanning s.filter x) (place_at (suc n) m) (KeptSoFar.all_read d some) w cs
    knows_on kept d some [] same h = h
    knows_on (KeptSoFar.none_yet none not_read) d some (c ∷ cs) same h = absurd h
    knows_on (KeptSoFar.all_read r more) d some (c ∷ cs) same h = rw (same.0, same.1) h

    pub none_written : SentSoFar (scanning s.filter x) (place_at (suc n) m) w now bytes bs
    unfolding behind
    none_written =
        let some : 0 < suc n = omega arith in
        let further = next_at n m in
        record {
          pairs = so_far.pairs;
          own = so_far.own;
          custom = so_far.custom;
          written = so_far.written;
          added = so_far.added;
          walked = record { kept = KeptSoFar.all_read behind some; read = passed.read; done = passed.done; none = passed.none; within = passed.within; left = passed.left };
          knows = knows_on so_far.walked.kept behind some bs (is_behind (scanning s.filter x) m all n so_far.walked.kept) so_far.knows;
          first = so_far.first;
          few = subst (λ k. length bytes ≤ 2 ^ 127 + 2 ^ 98 + k * (2 ^ 63 + 2 ^ 33)) (sym further) (omega (arith, so_far.few));
        }

  -- ── a refusal ──

  pub block_stops : (e : IpcError) (wants wants' : ℕ) → (IsOfSink e → ⊥) → Refuses e (refusals (scan_block s.filter to_read x.bytes (asked_in x behind.dictionaries) block)) → Refused e (scanning s.filter x) now wants wants'
  block_stops e wants wants' never h =
      let opened = scan_open s x is in
      let place = place_at n m in
      let both : AreRefused to_send (scanning s.filter x) opened e place.block
      = block_refuses to_send (scanning s.filter x) opened place.block block there behind.dictionaries behind.has bs so_far.walked.done place.left so_far.walked.left e (sent_refused s.filter e x.bytes (asked_in x behind.dictionaries) block h) in
      front_stands e (scanning s.filter x) place.block bytes bs now now wants wants' opened never (front_there (scanning s.filter x) (schema_of_reader s.reader) place w now bytes bs opened writer fields so_far) so_far.added (Keeps-refl now) both
