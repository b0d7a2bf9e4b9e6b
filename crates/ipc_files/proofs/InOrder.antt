-- Batches of a file in the columns of a projection, in the order in which these were asked for.
use mathlib.Core.Bool.{Bool-set}
use mathlib.Core.HLevel.{Σ_prop_path}
use Rattle.std.proofs.Common.{◌≡◌, ℕ, suc, ◌<◌, List, [], ◌∷◌, length, Option, Some, None, Result, Ok, Err, IfOk, IfErr, IfSome, Bool, true, false, ◌&&◌, ◌||◌, arith, refl, sym, ap, ◌∙◌, subst}
use Rattle.std.specs.Prelude.{nat_eq, nat_lt, not, slice_get}
use Rattle.std.specs.BTreeMap.{BTreeMap}
use Rattle.std.specs.Rc.{rc_value}
use Rattle.std.proofs.Math.Logic.{∥∥₁_elim}
use Rattle.std.proofs.Props.{props}
use Rattle.std.proofs.lemmas.Bool.{and_from, lt-ltb}
use Rattle.std.proofs.lemmas.Option.{same_Some}
use Rattle.arrow_spec.specs.declared.error.IpcError.{IpcError}
use Rattle.arrow_spec.specs.declared.message.Block.{Block}
use Rattle.arrow_spec.specs.declared.error.IpcError.TheVariants as errors
use Rattle.arrow_spec.specs.Columns.{stands_in}
use Rattle.arrow_spec.specs.Arrays.{Dictionaries}
use Rattle.arrow_spec.specs.Features.{chosen_floats}
use Rattle.arrow_spec.specs.Files.{FileBlock, Meta, Request, TableBatch, batch_of, columns_right, to_read, wrong_columns}
use Rattle.arrow_spec.specs.Kinds.{Fields, none, field}
use Rattle.arrow_spec.specs.Readings.{Gives, Reading, Refuses, bind, free_of, refusals, unless, ◌>>=◌}
use Rattle.arrow_spec.proofs.Projection.{went}
use Rattle.arrow_types.specs.Schemas.{Keyed}
use Rattle.arrow_arrays.specs.Batches.{Batch}
use Rattle.ipc_read.specs.Batches.{table_of}
use Rattle.ipc_projection.specs.Below.{are_columns, are_rising, chosen, Held, HoldsCells}
use Rattle.ipc_read.proofs.Chosen.{all_chosen}
use Rattle.ipc_projection.specs.Places.{IsPermutation, entry}
use Rattle.ipc_projection.specs.Projections.{IsReordered, MayProject}
use Rattle.ipc_projection.specs.declared.projection.ProjectionInfo.{ProjectionInfo}
use Rattle.ipc_projection.proofs.Numbers.{below_each, stands_once}
use Rattle.ipc_projection.proofs.Projected.{applied_schema, chosen_stand}
use Rattle.ipc_files.specs.Blocks.{BatchRead, BlockRead, ReadsBlock, asked_under, batch_given, batch_in}
use Rattle.ipc_files.specs.FileBlocks.{block_by, file_block}
use Rattle.ipc_files.specs.RowCounts.{numbers_of}
use Rattle.ipc_files.specs.Fetching.{BlockFetched}
use Rattle.ipc_files.specs.FileViews.{meta_view}
use Rattle.ipc_files.specs.Selections.{IsMade, numbers_read, schema_shown}
use Rattle.ipc_files.specs.Requests.{asked}
use Rattle.ipc_files.specs.declared.metadata.FileMetadata.{FileMetadata}
use Rattle.ipc_files.proofs.ReadBatches.{gives_block}
use Rattle.ipc_files.proofs.Selected.{IsSelected, right_of_file, selected_answer, selected_fetched}
use Rattle.ipc_files.proofs.GivenBlocks.{given_reads, of_file}
use Rattle.ipc_files.proofs.ReadBlocks.{refused_ordered}

-- ── a projection that was made for a schema ──

rising_of : (s : List Keyed) (columns : Option (List ℕ)) (p : Option ProjectionInfo) → MayProject s columns p → are_rising (numbers_read p) ≡ true
rising_of s None None h = refl
rising_of s None (Some p) h = absurd h
rising_of s (Some cs) None h = absurd h
rising_of s (Some cs) (Some p) h = h.rising

range_of : (s : List Keyed) (columns : Option (List ℕ)) (p : Option ProjectionInfo) → MayProject s columns p → are_columns (numbers_read p) (length s) ≡ true
range_of s None None h = refl
range_of s None (Some p) h = absurd h
range_of s (Some cs) None h = absurd h
range_of s (Some cs) (Some p) h = h.below

pub made_rising : (s : List Keyed) (p : Option ProjectionInfo) → IsMade s p → are_rising (numbers_read p) ≡ true
made_rising s p h = ∥∥₁_elim h (Bool-set _ _) (λ w. rising_of s w.0 p w.1)

pub made_range : (s : List Keyed) (p : Option ProjectionInfo) → IsMade s p → are_columns (numbers_read p) (length s) ≡ true
made_range s p h = ∥∥₁_elim h (Bool-set _ _) (λ w. range_of s w.0 p w.1)

-- where a map leads is one place, and from where
led_once : (o : Option ℕ) → IsProp ((j : ℕ) × (o ≡ Some j))
led_once o x y = Σ_prop_path (λ j. let p : IsProp (o ≡ Some j) = hlevel props in p) (same_Some _ _ (sym x.1 ∙ y.1))

reached_once : (m : BTreeMap ℕ ℕ) (n : ℕ) → IsPermutation m n → (j : ℕ) → IsProp ((i : ℕ) × (entry m i ≡ Some j))
reached_once m n h j x y = Σ_prop_path (λ i. let p : IsProp (entry m i ≡ Some j) = hlevel props in p) (h.once x.0 y.0 j x.1 y.1)

permutes_once : (m : BTreeMap ℕ ℕ) (n : ℕ) → IsProp (IsPermutation m n)
permutes_once m n a b =
    let reached : (j : ℕ) → IsProp ((i : ℕ) × (entry m i ≡ Some j)) = reached_once m n a in
    let led : (i : ℕ) → IsProp ((j : ℕ) × (entry m i ≡ Some j)) = λ i. led_once (entry m i) in
    let once : IsProp (IsPermutation m n) = hlevel (props, reached, led) in
    once a b

permutes_of : (s : List Keyed) (columns : Option (List ℕ)) (p : ProjectionInfo) → MayProject s columns (Some p) → IsPermutation p.map (length p.columns.items)
permutes_of s None p h = absurd h
permutes_of s (Some cs) p h = subst (IsPermutation p.map) (sym h.count) h.permutes

-- a batch that was read for it may be put in the order asked
pub may_reorder : (s : List Keyed) (o : Option ProjectionInfo) (p : ProjectionInfo) (numbers : Option (List ℕ)) (x : Batch) → o ≡ Some p → numbers ≡ numbers_read o → IsMade s o → x.schema ≡ chosen numbers 0 s → IsPermutation p.map (length x.schema)
may_reorder s o p numbers x is same made schema =
    let here : IsMade s (Some p) = subst (IsMade s) is made in
    let stand = chosen_stand p.columns.items s (made_rising s (Some p) here) (made_range s (Some p) here) in
    let count : length x.schema ≡ length p.columns.items = ap length (schema ∙ ap (λ ns. chosen ns 0 s) (same ∙ ap numbers_read is)) ∙ stand.count in
    subst (IsPermutation p.map) (sym count) (∥∥₁_elim here (permutes_once p.map (length p.columns.items)) (λ w. permutes_of s w.0 p w.1))

-- ── the numbers that were asked for ──

selected_by : (s : List Keyed) (columns : Option (List ℕ)) (p : ProjectionInfo) → MayProject s columns (Some p) → IsSelected s columns p
selected_by s None p h = absurd h
selected_by s (Some cs) p h = record { numbers = cs; are = refl; is = h }

-- where there is no projection all are asked for
all_numbers : (s : List Keyed) (columns : Option (List ℕ)) (p : Option ProjectionInfo) (numbers : Option (List ℕ)) → p ≡ None → numbers ≡ numbers_read p → MayProject s columns p → numbers ≡ columns
all_numbers s None None numbers e same h = same
all_numbers s (Some cs) None numbers e same h = absurd h
all_numbers s columns (Some p) numbers e same h = cc

-- each is a column's, and stands there once
right_from : (n : ℕ) (earlier cs : List ℕ) → ((j c : ℕ) → slice_get cs j ≡ Some c → c < n) → ((j k c : ℕ) → slice_get cs j ≡ Some c → slice_get cs k ≡ Some c → j ≡ k) → ((j c : ℕ) → slice_get cs j ≡ Some c → stands_in earlier c ≡ false)
    → wrong_columns n earlier cs ≡ Ok tt
unfolding bind
right_from n earlier [] below once free = refl
right_from n earlier (c ∷ cs) below once free =
    let test : (nat_lt c n && not (stands_in earlier c)) ≡ true = and_from (nat_lt c n) (not (stands_in earlier c)) (lt-ltb c n (below 0 c refl)) (ap not (free 0 c refl)) in
    ap (λ (b : Bool). unless b (errors.Projection c) >>= λ _. wrong_columns n (c ∷ earlier) cs) test ∙ right_from n (c ∷ earlier) cs (λ j d at. below (suc j) d at) (λ j k d e f. let s : suc j ≡ suc k = once (suc j) (suc k) d e f in omega arith) (λ j d at. by j d at (nat_eq c d) refl)
  where
    by : (j d : ℕ) → slice_get cs j ≡ Some d → (b : Bool) → nat_eq c d ≡ b → (b || stands_in earlier d) ≡ false
    by j d at true e =
        let s : c ≡ d = grind arith in
        let z : 0 ≡ suc j = once 0 (suc j) d (ap Some s) at in
        absurd (omega arith)
    by j d at false e = free (suc j) d at

pub right_of_projection : (s : List Keyed) (columns : Option (List ℕ)) (p : ProjectionInfo) → MayProject s columns (Some p) → columns_right columns (length s) ≡ Ok tt
right_of_projection s None p h = absurd h
right_of_projection s (Some cs) p h = right_from (length s) [] cs below once (λ j c at. refl)
  where
    below : (j c : ℕ) → slice_get cs j ≡ Some c → c < length s
    below j c at = let place = h.places j c at in below_each (length s) p.columns.items h.below place.0 c place.1

    once : (j k c : ℕ) → slice_get cs j ≡ Some c → slice_get cs k ≡ Some c → j ≡ k
    once j k c e f =
        let a = h.places j c e in
        let b = h.places k c f in
        let same : a.0 ≡ b.0 = stands_once p.columns.items h.rising a.0 b.0 c a.1 b.1 in
        same_Some j k (sym a.2 ∙ ap (entry p.map) same ∙ b.2)

-- ── the features of the columns ──

floats_same : (ds cs : List ℕ) (fs : Fields) (c : ℕ) → ((c : ℕ) → stands_in ds c ≡ stands_in cs c) → chosen_floats (Some ds) fs c ≡ chosen_floats (Some cs) fs c
floats_same ds cs none c same = refl
floats_same ds cs (field name nullable metadata k others) c same = rw (same c, floats_same ds cs others (suc c) same) refl

-- those of a projection are those of the numbers that were asked for
pub floats_asked : (s : List Keyed) (fs : Fields) (columns : Option (List ℕ)) (p : Option ProjectionInfo) → MayProject s columns p → chosen_floats (numbers_read p) fs 0 ≡ chosen_floats columns fs 0
floats_asked s fs None None h = refl
floats_asked s fs None (Some p) h = absurd h
floats_asked s fs (Some cs) None h = absurd h
floats_asked s fs (Some cs) (Some p) h = floats_same p.columns.items cs fs 0 h.same

-- the place of the features of their kinds
abbrev kinds_place : Option (List ℕ) → Meta → Reading (Unit {0})
kinds_place columns meta = free_of (chosen_floats columns meta.schema.fields 0)

place_same : (meta : Meta) (ds cs : List ℕ) → ((c : ℕ) → stands_in ds c ≡ stands_in cs c) → kinds_place (Some ds) meta ≡ kinds_place (Some cs) meta
place_same meta ds cs same = ap free_of (floats_same ds cs meta.schema.fields 0 same)

went_on : {A : Type 0} (p : Reading (Unit {0})) (x : Reading A) (t : A) → (p >>= λ _. x) ≡ Ok t → p ≡ Ok tt
unfolding bind
went_on (Ok u) x t h = refl
went_on (Err es) x t h = cc

refused_behind : {A : Type 0} (p : Reading (Unit {0})) (x y : Reading A) (e : IpcError) → (Refuses e (refusals x) → Refuses e (refusals y)) → Refuses e (refusals (p >>= λ _. x)) → Refuses e (refusals (p >>= λ _. y))
unfolding bind
refused_behind (Ok u) x y e on h = on h
refused_behind (Err es) x y e on h = h

-- a block under a request, without the place before it
abbrev block_of : List ℕ → Request → Meta → Dictionaries → Block → Reading TableBatch
block_of b r meta d block = batch_given b (asked_under b meta d r) block r.limit

in_place : (b : List ℕ) (r : Request) (meta : Meta) (d : Dictionaries) (block : Block) → kinds_place r.columns meta ≡ Ok tt → batch_in r b meta d block ≡ block_of b r meta d block
unfolding batch_in bind
in_place b r meta d block h = rw h refl

was_placed : (b : List ℕ) (r : Request) (meta : Meta) (d : Dictionaries) (block : Block) (t : TableBatch) → batch_in r b meta d block ≡ Ok t → kinds_place r.columns meta ≡ Ok tt
unfolding batch_in
was_placed b r meta d block t h = went_on (kinds_place r.columns meta) (block_of b r meta d block) t h

-- no number of a block that is read is negative
was_given : (b : List ℕ) (r : Request) (meta : Meta) (d : Dictionaries) (block : Block) (t : TableBatch) → batch_in r b meta d block ≡ Ok t → block_by block ≡ Ok (file_block block)
unfolding batch_in batch_given
was_given b r meta d block t h =
    let w = went (kinds_place r.columns meta) (λ _. block_of b r meta d block) t h in
    (given_reads block (λ x. batch_of to_read b (asked_under b meta d r) x r.limit) t w.rest).is

refused_in_order : (b : List ℕ) (meta : Meta) (d : Dictionaries) (ds cs : List ℕ) (left : Option ℕ) (block : Block) (e : IpcError) → ((c : ℕ) → stands_in ds c ≡ stands_in cs c)
    → Refuses e (refusals (batch_in (asked (Some ds) left) b meta d block)) → Refuses e (refusals (batch_in (asked (Some cs) left) b meta d block))
unfolding batch_in
refused_in_order b meta d ds cs left block e same h =
    subst (λ (p : Reading (Unit {0})). Refuses e (refusals (p >>= λ _. block_of b (asked (Some cs) left) meta d block))) (place_same meta ds cs same)
    (refused_behind (kinds_place (Some ds) meta) (block_of b (asked (Some ds) left) meta d block) (block_of b (asked (Some cs) left) meta d block) e
    (refused_ordered e b (asked_under b meta d (asked (Some cs) left)) ds cs block left same) h)

-- ── what is given ──

-- what a call gives of a block under some numbers, and under dictionaries
abbrev pub GivesUnder : List ℕ → FileMetadata → Dictionaries → Option (List ℕ) → Option ℕ → Block → Result Batch IpcError → Type 0
GivesUnder b file d columns left block result = Gives table_of result (batch_in (asked columns left) b (meta_view file) d block)

-- under those whose cells are held
abbrev pub GivesBatch : Option (List ℕ) → Held → FileMetadata → Option (List ℕ) → Option ℕ → Block → Result Batch IpcError → Type 0
GivesBatch content held file columns left block result = IfSome content (λ b. (d : Dictionaries) → HoldsCells d held → GivesUnder b file d columns left block result)

pub refused_given : (content : Option (List ℕ)) (held : Held) (file : FileMetadata) (columns : Option (List ℕ)) (p : Option ProjectionInfo) (numbers : Option (List ℕ)) (left : Option ℕ) (block : Block) (result : Result Batch IpcError) (e : IpcError) → numbers ≡ numbers_read p → result ≡ Err e
    → MayProject (rc_value file.schema) columns p → GivesBatch content held file numbers left block (Err e) → GivesBatch content held file columns left block result
refused_given None held file columns p numbers left block result e same is may h = tt
refused_given (Some b) held file columns None numbers left block result e same is may h =
    subst (λ r. GivesBatch (Some b) held file columns left block r) (sym is) (subst (λ ds. GivesBatch (Some b) held file ds left block (Err e)) (all_numbers (rc_value file.schema) columns None numbers refl same may) h)
refused_given (Some b) held file None (Some p) numbers left block result e same is may h = absurd may
refused_given (Some b) held file (Some cs) (Some p) numbers left block result e same is may h = λ d holds.
    subst (λ r. GivesUnder b file d (Some cs) left block r) (sym is) (refused_in_order b (meta_view file) d p.columns.items cs left block e may.same (subst (λ ds. GivesUnder b file d ds left block (Err e)) same (h d holds)))

pub ordered_given : (content : Option (List ℕ)) (held : Held) (file : FileMetadata) (columns : Option (List ℕ)) (p : ProjectionInfo) (numbers : Option (List ℕ)) (left : Option ℕ) (block : Block) (x : Batch) (result : Result Batch IpcError) → numbers ≡ Some p.columns.items
    → MayProject (rc_value file.schema) columns (Some p) → IfOk result (IsReordered p.map x) → IfErr result (λ e. e ≡ errors.Memory) → GivesBatch content held file numbers left block (Ok x)
    → IfSome content (λ b. (d : Dictionaries) → HoldsCells d held → BlockRead b held (asked_under b (meta_view file) d (asked numbers left)) (file_block block) left x) → GivesBatch content held file columns left block result
ordered_given None held file columns p numbers left block x result is may order memory gives read = tt
ordered_given (Some b) held file columns p numbers left block x result is may order memory gives read = λ d holds.
    let meta = meta_view file in
    let h = selected_by (rc_value file.schema) columns p may in
    let kinds : kinds_place numbers meta ≡ Ok tt = was_placed b (asked numbers left) meta d block (table_of x) (gives d holds) in
    let rising : kinds_place (Some p.columns.items) meta ≡ Ok tt = subst (λ ds. kinds_place ds meta ≡ Ok tt) is kinds in
    let here : kinds_place columns meta ≡ Ok tt = subst (λ cs. kinds_place cs meta ≡ Ok tt) (sym h.are) (sym (place_same meta p.columns.items h.numbers h.is.same) ∙ rising) in
    let block_read : ReadsBlock b held (asked_under b meta d (asked (Some p.columns.items) left)) block left (Ok x) = record { is = was_given b (asked numbers left) meta d block (table_of x) (gives d holds); read = subst (λ ds. BlockRead b held (asked_under b meta d (asked ds left)) (file_block block) left x) is (read d holds); refused = tt } in
    gives_block b held (asked columns left) meta d block result (in_place b (asked columns left) meta d block here)
    (selected_answer (Some b) held file d columns p p.columns.items left block x result refl h (right_of_file file columns (rc_value file.schema) refl (right_of_projection (rc_value file.schema) columns p may)) order memory block_read)

-- and what is read of it
pub ordered_read : (content : Option (List ℕ)) (held : Held) (file : FileMetadata) (columns : Option (List ℕ)) (p : ProjectionInfo) (numbers : Option (List ℕ)) (left : Option ℕ) (block : FileBlock) (x : Batch) (result : Result Batch IpcError) → numbers ≡ Some p.columns.items
    → MayProject (rc_value file.schema) columns (Some p) → IfOk result (IsReordered p.map x) → IfErr result (λ e. e ≡ errors.Memory) → IfSome content (λ b. BatchRead b held (meta_view file) (asked numbers left) block x)
    → IfOk result (λ y. IfSome content (λ b. BatchRead b held (meta_view file) (asked columns left) block y))
ordered_read None held file columns p numbers left block x (Ok y) is may order memory read = tt
ordered_read (Some b) held file columns p numbers left block x (Ok y) is may order memory read = λ d holds.
    let meta = meta_view file in
    let given = numbers_of block in
    let block_read : ReadsBlock b held (asked_under b meta d (asked (Some p.columns.items) left)) given left (Ok x) = record { is = of_file block; read = subst (λ ds. BlockRead b held (asked_under b meta d (asked ds left)) block left x) is (read d holds); refused = tt } in
    let answer : ReadsBlock b held (asked_under b meta d (asked columns left)) given left (Ok y) =
    selected_answer (Some b) held file d columns p p.columns.items left given x (Ok y) refl (selected_by (rc_value file.schema) columns p may) (right_of_file file columns (rc_value file.schema) refl (right_of_projection (rc_value file.schema) columns p may)) order memory block_read in
    answer.read
ordered_read content held file columns p numbers left block x (Err e) is may order memory read = tt

pub all_read : (content : Option (List ℕ)) (held : Held) (file : FileMetadata) (columns : Option (List ℕ)) (p : Option ProjectionInfo) (numbers : Option (List ℕ)) (left : Option ℕ) (block : FileBlock) (x : Batch) → p ≡ None → numbers ≡ numbers_read p → MayProject (rc_value file.schema) columns p
    → IfSome content (λ b. BatchRead b held (meta_view file) (asked numbers left) block x) → IfSome content (λ b. BatchRead b held (meta_view file) (asked columns left) block x)
all_read content held file columns p numbers left block x is same may read =
    subst (λ ds. IfSome content (λ b. BatchRead b held (meta_view file) (asked ds left) block x)) (all_numbers (rc_value file.schema) columns p numbers is same may) read

pub ordered_fetched : (content : Option (List ℕ)) (file : FileMetadata) (columns : Option (List ℕ)) (p : Option ProjectionInfo) (numbers : Option (List ℕ)) (block : FileBlock) (left : Option ℕ) (f f' : ℕ) → numbers ≡ numbers_read p → MayProject (rc_value file.schema) columns p
    → BlockFetched content (meta_view file) (asked numbers left) block left f f' → BlockFetched content (meta_view file) (asked columns left) block left f f'
ordered_fetched content file columns None numbers block left f f' same may h =
    subst (λ ds. BlockFetched content (meta_view file) (asked ds left) block left f f') (all_numbers (rc_value file.schema) columns None numbers refl same may) h
ordered_fetched content file columns (Some p) numbers block left f f' same may h =
    selected_fetched content file columns p p.columns.items block left f f' refl (selected_by (rc_value file.schema) columns p may) (subst (λ ds. BlockFetched content (meta_view file) (asked ds left) block left f f') same h)

-- ── the schema ──

pub all_shown : (s : List Keyed) (p : Option ProjectionInfo) (numbers : Option (List ℕ)) (schema : List Keyed) → p ≡ None → numbers ≡ numbers_read p → schema ≡ chosen numbers 0 s → schema ≡ schema_shown s p
all_shown s p numbers schema is same h = h ∙ ap (λ ns. chosen ns 0 s) (same ∙ ap numbers_read is) ∙ all_chosen 0 s ∙ ap (schema_shown s) (sym is)

pub ordered_shown : (s : List Keyed) (columns : Option (List ℕ)) (p : ProjectionInfo) (numbers : Option (List ℕ)) (x : Batch) (result : Result Batch IpcError) → numbers ≡ Some p.columns.items → MayProject s columns (Some p) → x.schema ≡ chosen numbers 0 s → IfOk result (IsReordered p.map x)
    → IfOk result (λ y. y.schema ≡ rc_value p.schema)
ordered_shown s columns p numbers x (Err e) is may schema order = tt
ordered_shown s None p numbers x (Ok y) is may schema order = absurd may
ordered_shown s (Some cs) p numbers x (Ok y) is may schema order = applied_schema s cs p may x y (schema ∙ ap (λ ns. chosen ns 0 s) is) order

-- none where nothing was read
pub none_shown : (result : Result Batch IpcError) (e : IpcError) (P : Batch → Type 0) → result ≡ Err e → IfOk result P
none_shown (Ok x) e P h = cc
none_shown (Err f) e P h = tt
