-- Batches that are read and sent, one block behind another, each for its share of what is left of the limit.
use Rattle.std.proofs.Common.{◌≡◌, ℕ, suc, List, [], ◌∷◌, ◌++◌, length, take, Option, None, Some, Ok, Err, refl, sym, ap, ◌∙◌, true, false, Bool}
use Rattle.arrow_spec.specs.declared.error.IpcError.{IpcError}
use Rattle.arrow_spec.specs.Arrays.{Dictionaries}
use Rattle.arrow_spec.specs.Kinds.{Metadata, bare}
use Rattle.arrow_spec.specs.Readings.{◌>>=◌, Reading, Refuses, meaning, refusals}
use Rattle.arrow_spec.specs.Sent.{all_may_be_sent, dictionary_messages}
use Rattle.arrow_spec.specs.Files.{ArrowTable, Asked, FileBlock, Meta, Purpose, Request, TableBatch, batch_of, batches_of, dictionaries_sent, fields_as_asked, file_reading, if_sent, to_read, to_send, what_is_left}
use Rattle.arrow_spec.proofs.Projection.{no_dictionaries_sent, on, went}
use Rattle.laws_transcode.specs.Files.{BatchSent, BatchesSent, HasRead, IsSentFile, StopsBehind, asked_fields, asked_of, left_of, table_asked}
use Rattle.laws_transcode.specs.Laws.{BlockRefusesItsFile, PartOfFileMeansItsTable, WholeFileMeansItsTable}
use Rattle.laws_transcode.proofs.Readings.{first_batches, no_batches, on_err}
use Rattle.laws_transcode.proofs.Refusals.{refuses_whole}

-- ── batches before a reading of others ──

put_before : List TableBatch → Reading (List TableBatch) → Reading (List TableBatch)
put_before xs (Ok ys) = Ok (xs ++ ys)
put_before xs (Err es) = Err es

before_none : (r : Reading (List TableBatch)) → r ≡ put_before [] r
unfolding put_before
before_none (Ok ys) = refl
before_none (Err es) = refl

before_one : (x : TableBatch) (xs : List TableBatch) (r s : Reading (List TableBatch)) → s ≡ put_before xs r → (s >>= λ others. Ok (x ∷ others)) ≡ put_before (x ∷ xs) r
unfolding put_before
before_one x xs (Ok ys) s h = on s _ _ h
before_one x xs (Err es) s h = on_err s _ es h

-- the dictionaries are sent before the first batch alone
abbrev pub is_first_behind : Bool → List TableBatch → Bool
is_first_behind is_first [] = is_first
is_first_behind is_first (x ∷ xs) = false

never_first : (xs : List TableBatch) → is_first_behind false xs ≡ false
never_first [] = refl
never_first (x ∷ xs) = refl

module _ (purpose : Purpose) (b : List ℕ) (a : Asked) where
  -- blocks behind some that were read
  blocks_behind : (is_first : Bool) (blocks rest : List FileBlock) (left : Option ℕ) (xs : List TableBatch) → batches_of purpose b a is_first blocks left ≡ Ok xs
      → batches_of purpose b a is_first (blocks ++ rest) left ≡ put_before xs (batches_of purpose b a (is_first_behind is_first xs) rest (left_of left xs))
  unfolding batches_of
  blocks_behind is_first [] rest left [] h = before_none _
  blocks_behind is_first [] rest left (x ∷ xs) h = cc
  blocks_behind is_first (block ∷ blocks) rest left [] h =
      let one = went (batch_of purpose b a block left) _ _ h in
      let flag = went (dictionaries_sent is_first purpose a) _ _ one.rest in
      let others = went (batches_of purpose b a false blocks (what_is_left left one.got.rows)) _ _ flag.rest in
      cc (others.rest)
  blocks_behind is_first (block ∷ blocks) rest left (x ∷ xs) h =
      let one = went (batch_of purpose b a block left) _ _ h in
      let flag = went (dictionaries_sent is_first purpose a) _ _ one.rest in
      let others = went (batches_of purpose b a false blocks (what_is_left left one.got.rows)) _ _ flag.rest in
      let first : one.got ≡ x = cc (others.rest) in
      let rows : one.got.rows ≡ x.rows = ap (λ (y : TableBatch). y.rows) first in
      let second : others.got ≡ xs = cc (others.rest) in
      let further : batches_of purpose b a false blocks (what_is_left left x.rows) ≡ Ok xs = ap (λ n. batches_of purpose b a false blocks (what_is_left left n)) (sym rows) ∙ others.first ∙ ap Ok second in
      let behind = rw (never_first xs) at (blocks_behind false blocks rest (what_is_left left x.rows) xs further) in
      on _ _ x (one.first ∙ ap Ok first) ∙ on _ _ flag.got flag.first ∙ before_one x xs _ _ behind

  -- one block more; with the first batch the dictionaries may be sent
  blocks_more : (blocks : List FileBlock) (block : FileBlock) (left : Option ℕ) (xs : List TableBatch) (x : TableBatch) → dictionaries_sent (is_first_behind true xs) purpose a ≡ Ok tt
      → batches_of purpose b a true blocks left ≡ Ok xs → batch_of purpose b a block (left_of left xs) ≡ Ok x → batches_of purpose b a true (blocks ++ block ∷ []) left ≡ Ok (xs ++ x ∷ [])
  unfolding batches_of put_before
  blocks_more blocks block left xs x fits h k =
      let last : batches_of purpose b a (is_first_behind true xs) (block ∷ []) (left_of left xs) ≡ Ok (x ∷ []) = on _ _ _ k ∙ on _ _ tt fits ∙ on _ _ [] refl in
      blocks_behind true blocks (block ∷ []) left xs h ∙ ap (put_before xs) last

  -- a block that is refused, behind some that are not
  pub block_refused : (blocks : List FileBlock) (block : FileBlock) (rest : List FileBlock) (left : Option ℕ) (xs : List TableBatch) (es : List IpcError) → batches_of purpose b a true blocks left ≡ Ok xs → batch_of purpose b a block (left_of left xs) ≡ Err es
      → batches_of purpose b a true (blocks ++ block ∷ rest) left ≡ Err es
  unfolding batches_of put_before
  block_refused blocks block rest left xs es h k =
      let here : batches_of purpose b a (is_first_behind true xs) (block ∷ rest) (left_of left xs) ≡ Err es = on_err _ _ es k in
      blocks_behind true blocks (block ∷ rest) left xs h ∙ ap (put_before xs) here

  -- dictionaries that are refused where the first block is not
  pub first_refused : (block : FileBlock) (rest : List FileBlock) (left : Option ℕ) (x : TableBatch) (es : List IpcError) → batch_of purpose b a block left ≡ Ok x → dictionaries_sent true purpose a ≡ Err es → batches_of purpose b a true (block ∷ rest) left ≡ Err es
  unfolding batches_of
  first_refused block rest left x es read refused = on _ _ x read ∙ on_err _ _ es refused

-- ── what was read and sent ──

pub none_sent : (b : List ℕ) (a : Asked) (left : Option ℕ) → BatchesSent b a [] left []
unfolding batches_of
none_sent b a left = record { read = refl; sent = refl }

-- before the first batch the dictionaries' messages may be sent
first_fits : (a : Asked) (xs : List TableBatch) → (xs ≡ [] → all_may_be_sent (dictionary_messages a.dictionaries (asked_fields a)) ≡ true) → dictionaries_sent (is_first_behind true xs) to_send a ≡ Ok tt
first_fits a [] small = ap (if_sent to_send) (small refl)
first_fits a (x ∷ xs) small = refl

pub one_more_sent : (b : List ℕ) (a : Asked) (blocks : List FileBlock) (block : FileBlock) (left : Option ℕ) (xs : List TableBatch) (x : TableBatch)
    → (xs ≡ [] → all_may_be_sent (dictionary_messages a.dictionaries (asked_fields a)) ≡ true) → BatchesSent b a blocks left xs → BatchSent b a block (left_of left xs) x
    → BatchesSent b a (blocks ++ block ∷ []) left (xs ++ x ∷ [])
one_more_sent b a blocks block left xs x small s one = record {
  read = blocks_more to_read b a blocks block left xs x (no_dictionaries_sent (is_first_behind true xs) a) s.read one.read;
  sent = blocks_more to_send b a blocks block left xs x (first_fits a xs small) s.sent one.sent;
}

-- ── files ──

-- all blocks were read: the file means their table
pub whole_table : WholeFileMeansItsTable
whole_table b r meta custom d xs file has s = ap meaning (first_batches to_read b r None meta custom d file has ∙ on _ _ _ s.read)

-- the first blocks were: a part of the file means it
pub part_table : PartOfFileMeansItsTable
part_table b r meta custom d n xs file has s = ap meaning (first_batches to_read b r (Some n) meta custom d file has ∙ on _ _ _ s.read)

-- none was
pub none_table : (b : List ℕ) (r : Request) (meta : Meta) (custom : Metadata) → IsSentFile b r meta custom → meaning (file_reading to_read b r (Some 0)) ≡ Some (table_asked custom meta r [])
none_table b r meta custom file = ap meaning (no_batches to_read b r meta custom file)

-- the blocks up to one
up_to_block : (blocks : List FileBlock) (block : FileBlock) (rest : List FileBlock) → take (suc (length blocks)) (blocks ++ block ∷ rest) ≡ blocks ++ block ∷ []
up_to_block [] block rest = refl
up_to_block (x ∷ xs) block rest = ap (λ ys. x ∷ ys) (up_to_block xs block rest)

-- what refuses a block behind those that were sent refuses the file, and the file up to it
pub both_refused : BlockRefusesItsFile
both_refused b r meta custom d blocks block rest xs es file has parts s h =
    let a = asked_of b meta r d in
    let refused : (behind : List FileBlock) → batches_of to_send b a true (blocks ++ block ∷ behind) r.limit ≡ Err es = λ behind. block_refused to_send b a blocks block behind r.limit xs es s.sent h in
    let whole : batches_of to_send b a true meta.blocks r.limit ≡ Err es = rw parts (refused rest) in
    let part : batches_of to_send b a true (take (suc (length blocks)) meta.blocks) r.limit ≡ Err es = rw (parts, up_to_block blocks block rest) (refused []) in
    (first_batches to_send b r None meta custom d file has ∙ on_err _ _ es whole, first_batches to_send b r (Some (suc (length blocks))) meta custom d file has ∙ on_err _ _ es part)

pub block_stops : (e : IpcError) (b : List ℕ) (r : Request) (meta : Meta) (custom : Metadata) (d : Dictionaries) (blocks : List FileBlock) (block : FileBlock) (rest : List FileBlock) (xs : List TableBatch) → IsSentFile b r meta custom → HasRead b meta d
    → meta.blocks ≡ blocks ++ block ∷ rest → BatchesSent b (asked_of b meta r d) blocks r.limit xs → Refuses e (refusals (batch_of to_send b (asked_of b meta r d) block (left_of r.limit xs)))
    → Refuses e (refusals (file_reading to_send b r None)) × StopsBehind b r (length blocks) e
block_stops e b r meta custom d blocks block rest xs file has parts s h =
    let part = batch_of to_send b (asked_of b meta r d) block (left_of r.limit xs) in
    (refuses_whole e part _ (λ es is. (both_refused b r meta custom d blocks block rest xs es file has parts s is).0) h, refuses_whole e part _ (λ es is. (both_refused b r meta custom d blocks block rest xs es file has parts s is).1) h)
