-- Files that are read block by block.
use Rattle.std.proofs.Common.{◌≡◌, ◌∙◌, sym, refl, ap, ℕ, List, [], ◌∷◌, ◌++◌, Bool, true, false, Option, Ok, Err}
use Rattle.arrow_spec.specs.declared.error.IpcError.{IpcError}
use Rattle.arrow_spec.specs.Readings.{◌>>=◌, Reading}
use Rattle.arrow_spec.specs.Arrays.{Dictionaries}
use Rattle.arrow_spec.specs.Kinds.{Metadata}
use Rattle.arrow_spec.specs.Files.{Asked, FileBlock, Meta, Request, TableBatch, batch_of, batches_of, dictionaries_of, dictionaries_read}
use Rattle.arrow_spec.specs.Files.{dictionaries_sent, file_reading, taken, to_read, what_is_left}
use Rattle.arrow_spec.proofs.Projection.{ok-place, on, went}
use Rattle.arrow_spec.proofs.SentMessages.{on_err}
use Rattle.laws_transcode.specs.Files.{asked_of, left_of, table_asked}
use Rattle.laws_reading.specs.Laws.{BlocksMeanTheirTable, OneMoreBlock, RefusedBlockStopsReading, RefusedDictionariesStopReading}
use Rattle.laws_reading.specs.Reads.{IsOpened}

-- where a file is read no dictionary is sent
none_sent : (f : Bool) (a : Asked) → dictionaries_sent f to_read a ≡ Ok tt
none_sent true a = refl
none_sent false a = refl

-- a first block, and the others
pub record First (b : List ℕ) (a : Asked) (k : FileBlock) (ks : List FileBlock) (left : Option ℕ) (xs : List TableBatch) : Type 0 where
  pub x : TableBatch
  pub read : batch_of to_read b a k left ≡ Ok x
  pub others : List TableBatch
  pub rest : batches_of to_read b a false ks (what_is_left left x.rows) ≡ Ok others
  pub is : x ∷ others ≡ xs

same_ok : {A : Type 0} (x y : A) → ◌≡◌ {A = Reading A} (Ok x) (Ok y) → x ≡ y
same_ok x y h = cc

pub first : (b : List ℕ) (a : Asked) (f : Bool) (k : FileBlock) (ks : List FileBlock) (left : Option ℕ) (xs : List TableBatch)
    → batches_of to_read b a f (k ∷ ks) left ≡ Ok xs → First b a k ks left xs
unfolding batches_of
first b a f k ks left xs h =
    let w = went (batch_of to_read b a k left) _ xs h in
    let s = went (dictionaries_sent f to_read a) _ xs w.rest in
    let r = went (batches_of to_read b a false ks (what_is_left left w.got.rows)) _ xs s.rest in
    record { x = w.got; read = w.first; others = r.got; rest = r.first; is = same_ok _ _ r.rest }

-- the first read, the reading goes on with the others
pub goes_on : (b : List ℕ) (a : Asked) (f : Bool) (k : FileBlock) (ks : List FileBlock) (left : Option ℕ) (x : TableBatch)
    → batch_of to_read b a k left ≡ Ok x
    → batches_of to_read b a f (k ∷ ks) left ≡ (batches_of to_read b a false ks (what_is_left left x.rows) >>= λ others. Ok (x ∷ others))
unfolding batches_of
goes_on b a f k ks left x read = on _ _ x read ∙ on _ _ tt (none_sent f a)

-- a block that is refused first stops it
pub stops : (b : List ℕ) (a : Asked) (f : Bool) (k : FileBlock) (ks : List FileBlock) (left : Option ℕ) (es : List IpcError)
    → batch_of to_read b a k left ≡ Err es → batches_of to_read b a f (k ∷ ks) left ≡ Err es
unfolding batches_of
stops b a f k ks left es refused = on_err _ _ es refused

pub nothing_read : (b : List ℕ) (a : Asked) (f : Bool) (left : Option ℕ) (xs : List TableBatch)
    → batches_of to_read b a f [] left ≡ Ok xs → xs ≡ []
unfolding batches_of
nothing_read b a f left xs h = sym (same_ok _ _ h)

pub none_left : (b : List ℕ) (a : Asked) (f : Bool) (left : Option ℕ) → batches_of to_read b a f [] left ≡ Ok []
unfolding batches_of
none_left b a f left = refl

pub one_more_block : OneMoreBlock
one_more_block b a f [] block left xs x h k =
    let e = nothing_read b a f left xs h in
    let read : batch_of to_read b a block left ≡ Ok x = ap (λ ys. batch_of to_read b a block (left_of left ys)) (sym e) ∙ k in
    goes_on b a f block [] left x read ∙ on _ _ [] (none_left b a false (what_is_left left x.rows)) ∙ ap (λ ys. Ok (ys ++ x ∷ [])) (sym e)
one_more_block b a f (y ∷ ys) block left xs x h k =
    let w = first b a f y ys left xs h in
    let read = ap (λ zs. batch_of to_read b a block (left_of left zs)) w.is ∙ k in
    let others = one_more_block b a false ys block (what_is_left left w.x.rows) w.others x w.rest read in
    goes_on b a f y (ys ++ block ∷ []) left w.x w.read ∙ on _ _ (w.others ++ x ∷ []) others ∙ ap (λ zs. Ok (zs ++ x ∷ [])) w.is

refused_behind : (b : List ℕ) (a : Asked) (f : Bool) (blocks rest : List FileBlock) (block : FileBlock) (left : Option ℕ) (xs : List TableBatch)
    (es : List IpcError) → batches_of to_read b a f blocks left ≡ Ok xs → batch_of to_read b a block (left_of left xs) ≡ Err es
    → batches_of to_read b a f (blocks ++ block ∷ rest) left ≡ Err es
refused_behind b a f [] rest block left xs es h k =
    let e = nothing_read b a f left xs h in
    stops b a f block rest left es (ap (λ ys. batch_of to_read b a block (left_of left ys)) (sym e) ∙ k)
refused_behind b a f (y ∷ ys) rest block left xs es h k =
    let w = first b a f y ys left xs h in
    let here = ap (λ zs. batch_of to_read b a block (left_of left zs)) w.is ∙ k in
    let others = refused_behind b a false ys rest block (what_is_left left w.x.rows) w.others es w.rest here in
    goes_on b a f y (ys ++ block ∷ rest) left w.x w.read ∙ on_err _ _ es others

-- ── a file ──

pub behind_head : (b : List ℕ) (r : Request) (j : Option ℕ) (meta : Meta) (custom : Metadata) → IsOpened b r meta custom
    → file_reading to_read b r j ≡ (dictionaries_of b meta [] (dictionaries_read (taken j meta.blocks) meta.dictionaries) >>= λ d.
    batches_of to_read b (asked_of b meta r d) true (taken j meta.blocks) r.limit >>= λ xs. Ok (table_asked custom meta r xs))
unfolding file_reading
behind_head b r j meta custom o =
    on _ _ meta o.read ∙ on _ _ custom o.pairs ∙ on _ _ tt o.columns ∙ on _ _ tt (ok-place _ o.readable) ∙ on _ _ tt refl

pub behind_dictionaries : (b : List ℕ) (r : Request) (j : Option ℕ) (meta : Meta) (custom : Metadata) (d : Dictionaries) → IsOpened b r meta custom
    → dictionaries_of b meta [] (dictionaries_read (taken j meta.blocks) meta.dictionaries) ≡ Ok d → file_reading to_read b r j
    ≡ (batches_of to_read b (asked_of b meta r d) true (taken j meta.blocks) r.limit >>= λ xs. Ok (table_asked custom meta r xs))
behind_dictionaries b r j meta custom d o held = behind_head b r j meta custom o ∙ on _ _ d held

pub blocks_mean_their_table : BlocksMeanTheirTable
blocks_mean_their_table b r j meta custom d xs o held read = behind_dictionaries b r j meta custom d o held ∙ on _ _ xs read

pub refused_block_stops_reading : RefusedBlockStopsReading
refused_block_stops_reading b r j meta custom d blocks rest block xs es o are held read refused =
    let stopped = refused_behind b (asked_of b meta r d) true blocks rest block r.limit xs es read refused in
    behind_dictionaries b r j meta custom d o held
    ∙ on_err _ _ es (ap (λ ks. batches_of to_read b (asked_of b meta r d) true ks r.limit) are ∙ stopped)

pub refused_dictionaries_stop_reading : RefusedDictionariesStopReading
refused_dictionaries_stop_reading b r j meta custom es o refused = behind_head b r j meta custom o ∙ on_err _ _ es refused
