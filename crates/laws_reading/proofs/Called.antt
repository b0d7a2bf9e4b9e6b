-- What calls give of a file's blocks, and what the file means.
use Rattle.std.proofs.Common.{◌≡◌, ◌∙◌, sym, refl, ap, subst, ℕ, zero, suc, List, [], ◌∷◌, Bool, true, false, Option, None, Some, Result, Ok, Err}
use Rattle.std.specs.Prelude.{All, length, map, slice_get, take}
use Rattle.std.proofs.lemmas.List.Elements.{All-head, All-tail}
use Rattle.std.proofs.lemmas.Option.{same_Some}
use mathlib.Core.List.{map-append}
use Rattle.arrow_spec.specs.declared.error.IpcError.{IpcError}
use Rattle.arrow_spec.specs.declared.message.Block.{Block}
use Rattle.arrow_spec.specs.Readings.{bind, free_of, meaning, ◌>>=◌, Reading}
use Rattle.arrow_spec.specs.Arrays.{Dictionaries}
use Rattle.arrow_spec.specs.Features.{chosen_floats}
use Rattle.arrow_spec.specs.Kinds.{Metadata, width}
use Rattle.arrow_spec.specs.Files.{ArrowTable, Meta, Request, TableBatch, batch_of, batches_of, columns_right, custom_of, dictionaries_of}
use Rattle.arrow_spec.specs.Files.{dictionaries_read, file_reading, meta_of, to_read, what_is_left}
use Rattle.arrow_spec.specs.Meaning.{file_table}
use Rattle.arrow_spec.proofs.Projection.{ok-place, on, went}
use Rattle.ipc_files.specs.Below.{IsNatural}
use Rattle.ipc_files.specs.Blocks.{batch_given, batch_in}
use Rattle.ipc_files.specs.FileBlocks.{block_by, file_block}
use Rattle.ipc_files.specs.Requests.{asked}
use Rattle.ipc_files.proofs.FileDictionaries.{given_in_file}
use Rattle.ipc_files.proofs.GivenBlocks.{found_given, natural_given}
use Rattle.laws_transcode.specs.Files.{asked_of, left_of, table_asked}
use Rattle.laws_reading.specs.Reads.{IsOpened, ReadsEach, StopsAt, no_block, one_more}
use Rattle.laws_reading.specs.Laws.{EachReadIsOfItsBlock, FirstReadsAreTheirTable, GivenDictionariesAreTheFiles, OneMoreRead, ReadsAreTheTable}
use Rattle.laws_reading.specs.Laws.{RefusedFileStopsReading, RefusedReadStopsReading, TableIsRead}
use Rattle.laws_reading.proofs.Reading.{behind_head, blocks_mean_their_table, first, goes_on}
use Rattle.laws_reading.proofs.Reading.{behind_dictionaries, none_left, nothing_read, refused_block_stops_reading, stops}

-- ── one call ──

-- a call gives what its block means, where such columns may be read and no number of the block is negative
call_is_block : (b : List ℕ) (meta : Meta) (d : Dictionaries) (r : Request) (left : Option ℕ) (block : Block)
    → chosen_floats r.columns meta.schema.fields 0 ≡ [] → IsNatural block
    → batch_in (asked r.columns left) b meta d block ≡ batch_of to_read b (asked_of b meta r d) (file_block block) left
unfolding batch_in batch_given
call_is_block b meta d r left block readable natural =
    on _ _ tt (ok-place _ readable) ∙ on _ _ (file_block block) (natural_given block natural)

-- what a call gives is the block's batch
call_reads : (b : List ℕ) (meta : Meta) (d : Dictionaries) (r : Request) (left : Option ℕ) (block : Block) (x : TableBatch)
    → batch_in (asked r.columns left) b meta d block ≡ Ok x → batch_of to_read b (asked_of b meta r d) (file_block block) left ≡ Ok x
unfolding batch_in batch_given
call_reads b meta d r left block x h =
    let floats = went (free_of (chosen_floats r.columns meta.schema.fields 0)) _ x h in
    let found = went (block_by block) _ x floats.rest in
    subst (λ k. batch_of to_read b (asked_of b meta r d) k left ≡ Ok x) (found_given block found.got found.first) found.rest

-- ── all calls ──

reads_mean : (b : List ℕ) (meta : Meta) (d : Dictionaries) (r : Request) (f : Bool) (blocks : List Block) (left : Option ℕ) (xs : List TableBatch)
    → ReadsEach b meta d r.columns blocks left xs → batches_of to_read b (asked_of b meta r d) f (map file_block blocks) left ≡ Ok xs
reads_mean b meta d r f [] left [] no_block = none_left b (asked_of b meta r d) f left
reads_mean b meta d r f [] left (x ∷ xs) h = elim h [ ]
reads_mean b meta d r f (block ∷ blocks) left [] h = elim h [ ]
reads_mean b meta d r f (block ∷ blocks) left (x ∷ xs) (one_more h more) =
    goes_on b (asked_of b meta r d) f (file_block block) (map file_block blocks) left x (call_reads b meta d r left block x h)
    ∙ on _ _ xs (reads_mean b meta d r false blocks (what_is_left left x.rows) xs more)

are_reads : (b : List ℕ) (meta : Meta) (d : Dictionaries) (r : Request) (f : Bool) (blocks : List Block) (left : Option ℕ) (xs : List TableBatch)
    → chosen_floats r.columns meta.schema.fields 0 ≡ [] → All IsNatural blocks
    → batches_of to_read b (asked_of b meta r d) f (map file_block blocks) left ≡ Ok xs → ReadsEach b meta d r.columns blocks left xs
are_reads b meta d r f [] left xs readable natural h =
    subst (ReadsEach b meta d r.columns [] left) (sym (nothing_read b (asked_of b meta r d) f left xs h)) no_block
are_reads b meta d r f (block ∷ blocks) left xs readable natural h =
    let w = first b (asked_of b meta r d) f (file_block block) (map file_block blocks) left xs h in
    let here = call_is_block b meta d r left block readable (All-head IsNatural block blocks natural) ∙ w.read in
    let behind = All-tail IsNatural block blocks natural in
    let others = are_reads b meta d r false blocks (what_is_left left w.x.rows) w.others readable behind w.rest in
    subst (ReadsEach b meta d r.columns (block ∷ blocks) left) w.is (one_more here others)

-- ── a file ──

pub first_reads_are_their_table : FirstReadsAreTheirTable
first_reads_are_their_table b r j meta custom d blocks xs o are held reads =
    blocks_mean_their_table b r j meta custom d xs o held
    (ap (λ ks. batches_of to_read b (asked_of b meta r d) true ks r.limit) are ∙ reads_mean b meta d r true blocks r.limit xs reads)

pub reads_are_the_table : ReadsAreTheTable
unfolding file_table
reads_are_the_table b r meta custom d blocks xs o are held reads =
    ap meaning (first_reads_are_their_table b r None meta custom d blocks xs o are held reads)

was_meant : {A E : Type 0} (r : Result A E) (x : A) → meaning r ≡ Some x → r ≡ Ok x
was_meant (Ok y) x h = ap Ok (same_Some y x h)
was_meant (Err e) x h = cc

none_wrong : (es : List IpcError) (u : Unit {0}) → free_of es ≡ Ok u → es ≡ []
none_wrong [] u h = refl
none_wrong (e ∷ es) u h = cc

-- a file that means a table was opened
record Opening (b : List ℕ) (r : Request) (meta : Meta) (t : ArrowTable) : Type 0 where
  custom : Metadata
  opened : IsOpened b r meta custom

same_meta : (r : Reading Meta) (x y : Meta) → r ≡ Ok x → r ≡ Ok y → x ≡ y
same_meta r x y h k = cc

opening : (b : List ℕ) (r : Request) (meta : Meta) (t : ArrowTable) → meta_of b ≡ Ok meta → file_reading to_read b r None ≡ Ok t → Opening b r meta t
unfolding file_reading
opening b r meta t is h =
    let custom = went (custom_of b) _ t (sym (on (meta_of b) _ meta is) ∙ h) in
    let columns = went (columns_right r.columns (width meta.schema.fields)) _ t custom.rest in
    let floats = went (free_of (chosen_floats r.columns meta.schema.fields 0)) _ t columns.rest in
    record {
      custom = custom.got;
      opened = record { read = is; pairs = custom.first; columns = columns.first; readable = none_wrong _ floats.got floats.first };
    }

-- what is read behind it: the dictionaries, and the batches
behind_opening : (b : List ℕ) (r : Request) (meta : Meta) (custom : Metadata) (t : ArrowTable) → IsOpened b r meta custom
    → file_reading to_read b r None ≡ Ok t → (dictionaries_of b meta [] (dictionaries_read meta.blocks meta.dictionaries) >>= λ d.
    batches_of to_read b (asked_of b meta r d) true meta.blocks r.limit >>= λ xs. Ok (table_asked custom meta r xs)) ≡ Ok t
behind_opening b r meta custom t o h = sym (behind_head b r None meta custom o) ∙ h

same_table : (x y : ArrowTable) → ◌≡◌ {A = Reading ArrowTable} (Ok x) (Ok y) → x ≡ y
same_table x y h = cc

pub table_is_read : TableIsRead
unfolding file_table
table_is_read b r meta blocks t is are natural h =
    let read = was_meant (file_reading to_read b r None) t h in
    let o = opening b r meta t is read in
    let held = dictionaries_of b meta [] (dictionaries_read meta.blocks meta.dictionaries) in
    let dictionaries = went held _ t (behind_opening b r meta o.custom t o.opened read) in
    let asks = asked_of b meta r dictionaries.got in
    let batches = went (batches_of to_read b asks true meta.blocks r.limit) _ t dictionaries.rest in
    let same = same_table _ t batches.rest in
    let given = ap (λ ks. batches_of to_read b asks true ks r.limit) (sym are) ∙ batches.first in
    let reads = are_reads b meta dictionaries.got r true blocks r.limit batches.got o.opened.readable natural given in
    let those : batches.got ≡ t.batches = ap (λ (x : ArrowTable). x.batches) same in
    record {
      custom = o.custom;
      dictionaries = dictionaries.got;
      opened = o.opened;
      held = dictionaries.first;
      reads = subst (ReadsEach b meta dictionaries.got r.columns blocks r.limit) those reads;
      table = sym same ∙ ap (table_asked o.custom meta r) those;
    }

-- ── each by itself ──

as_many : (b : List ℕ) (meta : Meta) (d : Dictionaries) (columns : Option (List ℕ)) (blocks : List Block) (left : Option ℕ)
    (xs : List TableBatch) → ReadsEach b meta d columns blocks left xs → length xs ≡ length blocks
as_many b meta d columns [] left [] no_block = refl
as_many b meta d columns [] left (x ∷ xs) h = elim h [ ]
as_many b meta d columns (block ∷ blocks) left [] h = elim h [ ]
as_many b meta d columns (block ∷ blocks) left (x ∷ xs) (one_more h more) =
    ap suc (as_many b meta d columns blocks (what_is_left left x.rows) xs more)

at_its_place : (b : List ℕ) (meta : Meta) (d : Dictionaries) (columns : Option (List ℕ)) (blocks : List Block) (left : Option ℕ)
    (xs : List TableBatch) → ReadsEach b meta d columns blocks left xs → (i : ℕ) (block : Block) (x : TableBatch)
    → slice_get blocks i ≡ Some block → slice_get xs i ≡ Some x → batch_in (asked columns (left_of left (take i xs))) b meta d block ≡ Ok x
at_its_place b meta d columns [] left [] no_block i block x at is = cc
at_its_place b meta d columns [] left (y ∷ ys) h i block x at is = elim h [ ]
at_its_place b meta d columns (k ∷ ks) left [] h i block x at is = elim h [ ]
at_its_place b meta d columns (k ∷ ks) left (y ∷ ys) (one_more h more) zero block x at is =
    let same_block : k ≡ block = same_Some k block at in
    let same : y ≡ x = same_Some y x is in
    ap (batch_in (asked columns left) b meta d) (sym same_block) ∙ h ∙ ap Ok same
at_its_place b meta d columns (k ∷ ks) left (y ∷ ys) (one_more h more) (suc i) block x at is =
    at_its_place b meta d columns ks (what_is_left left y.rows) ys more i block x at is

pub each_read_is_of_its_block : EachReadIsOfItsBlock
each_read_is_of_its_block b meta d columns blocks left xs h =
    (as_many b meta d columns blocks left xs h, at_its_place b meta d columns blocks left xs h)

-- ── one call behind others ──

pub one_more_read : OneMoreRead
one_more_read b meta d columns [] block left [] x no_block h = one_more h no_block
one_more_read b meta d columns [] block left (y ∷ ys) x reads h = elim reads [ ]
one_more_read b meta d columns (k ∷ ks) block left [] x reads h = elim reads [ ]
one_more_read b meta d columns (k ∷ ks) block left (y ∷ ys) x (one_more here more) h =
    one_more here (one_more_read b meta d columns ks block (what_is_left left y.rows) ys x more h)

pub refused_read_stops_reading : RefusedReadStopsReading
refused_read_stops_reading b r j meta custom d blocks rest block xs es o are natural held reads h =
    refused_block_stops_reading b r j meta custom d (map file_block blocks) (map file_block rest) (file_block block) xs es o
    (are ∙ map-append file_block blocks (block ∷ rest)) held (reads_mean b meta d r true blocks r.limit xs reads)
    (sym (call_is_block b meta d r (left_of r.limit xs) block o.readable natural) ∙ h)

-- ── where reading stops ──

same_refusals : {A : Type 0} (x y : List IpcError) → ◌≡◌ {A = Reading A} (Err x) (Err y) → x ≡ y
same_refusals x y h = cc

refused_others : {A B : Type 0} (r : Reading A) (g : A → B) (es : List IpcError) → (r >>= λ x. Ok (g x)) ≡ Err es → r ≡ Err es
unfolding bind
refused_others (Ok x) g es h = cc
refused_others (Err fs) g es h = ap Err (same_refusals fs es h)

-- of a block and those behind it, by what the block means
stops_from : (b : List ℕ) (meta : Meta) (d : Dictionaries) (r : Request) (f : Bool) (block : Block) (blocks : List Block) (left : Option ℕ)
    (es : List IpcError) → chosen_floats r.columns meta.schema.fields 0 ≡ [] → IsNatural block
    → ((rest : Option ℕ) → batches_of to_read b (asked_of b meta r d) false (map file_block blocks) rest ≡ Err es
    → StopsAt b meta d r.columns blocks rest es)
    → (got : Reading TableBatch) → batch_of to_read b (asked_of b meta r d) (file_block block) left ≡ got
    → batches_of to_read b (asked_of b meta r d) f (map file_block (block ∷ blocks)) left ≡ Err es
    → StopsAt b meta d r.columns (block ∷ blocks) left es
stops_from b meta d r f block blocks left es readable natural behind (Err fs) is h =
    let same = same_refusals fs es (sym (stops b (asked_of b meta r d) f (file_block block) (map file_block blocks) left fs is) ∙ h) in
    record {
      before = [];
      block = block;
      behind = blocks;
      are = refl;
      batches = [];
      reads = no_block;
      refused = call_is_block b meta d r left block readable natural ∙ is ∙ ap Err same;
    }
stops_from b meta d r f block blocks left es readable natural behind (Ok x) is h =
    let rest = what_is_left left x.rows in
    let others = sym (goes_on b (asked_of b meta r d) f (file_block block) (map file_block blocks) left x is) ∙ h in
    let s = behind rest (refused_others (batches_of to_read b (asked_of b meta r d) false (map file_block blocks) rest) (λ ys. x ∷ ys) es others) in
    record {
      before = block ∷ s.before;
      block = s.block;
      behind = s.behind;
      are = ap (λ ks. block ∷ ks) s.are;
      batches = x ∷ s.batches;
      reads = one_more (call_is_block b meta d r left block readable natural ∙ is) s.reads;
      refused = s.refused;
    }

none_refused : (xs : List TableBatch) (es : List IpcError) → ◌≡◌ {A = Reading (List TableBatch)} (Ok xs) (Err es) → ⊥
none_refused xs es h = cc

where_it_stops : (b : List ℕ) (meta : Meta) (d : Dictionaries) (r : Request) (f : Bool) (blocks : List Block) (left : Option ℕ) (es : List IpcError)
    → chosen_floats r.columns meta.schema.fields 0 ≡ [] → All IsNatural blocks
    → batches_of to_read b (asked_of b meta r d) f (map file_block blocks) left ≡ Err es → StopsAt b meta d r.columns blocks left es
where_it_stops b meta d r f [] left es readable natural h =
    absurd (none_refused [] es (sym (none_left b (asked_of b meta r d) f left) ∙ h))
where_it_stops b meta d r f (block ∷ blocks) left es readable natural h =
    stops_from b meta d r f block blocks left es readable (All-head IsNatural block blocks natural)
    (λ rest k. where_it_stops b meta d r false blocks rest es readable (All-tail IsNatural block blocks natural) k)
    (batch_of to_read b (asked_of b meta r d) (file_block block) left) refl h

pub refused_file_stops_reading : RefusedFileStopsReading
refused_file_stops_reading b r meta custom d blocks es o are natural held h =
    let batches = refused_others (batches_of to_read b (asked_of b meta r d) true meta.blocks r.limit) (table_asked custom meta r) es
    (sym (behind_dictionaries b r None meta custom d o held) ∙ h) in
    where_it_stops b meta d r true blocks r.limit es o.readable natural
    (ap (λ ks. batches_of to_read b (asked_of b meta r d) true ks r.limit) (sym are) ∙ batches)

-- ── dictionaries ──

pub given_dictionaries_are_the_files : GivenDictionariesAreTheFiles
given_dictionaries_are_the_files b meta blocks natural are =
    given_in_file b meta [] blocks natural ∙ ap (dictionaries_of b meta []) (sym are)
