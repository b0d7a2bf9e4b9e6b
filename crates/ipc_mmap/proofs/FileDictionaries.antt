-- Dictionary blocks whose values are lent, one after another.
use Rattle.std.proofs.Common.{◌≡◌, ℕ, List, [], ◌∷◌, map, length, Bool, false, IfSome, Result, Ok, Err, ℤ, refl, sym, ap, subst, ◌∙◌}
use Rattle.std.specs.BTreeMap.{BTreeMap, is_at}
use Rattle.std.specs.Map.{lookup}
use Rattle.std.specs.Option.{option_map}
use Rattle.std.specs.Ordering.{int_cmp}
use Rattle.std.specs.Result.{IsErr, IsErrAnd}
use Rattle.std.specs.declared.alloc.Global.{Global}
use Rattle.std.specs.declared.vec.Vec.{Vec}
use Rattle.arrow_spec.specs.declared.error.IpcError.{IpcError}
use Rattle.arrow_spec.specs.declared.message.Block.{Block}
use Rattle.arrow_spec.specs.Readings.{Reading, Refuses, bind, refusals}
use Rattle.arrow_spec.specs.Arrays.{Dictionaries, HeldDictionary}
use Rattle.arrow_spec.specs.Files.{Meta, dictionaries_of, dictionary_of, block_body}
use Rattle.arrow_spec.specs.Kinds.{Metadata}
use Rattle.arrow_spec.proofs.Projection.{on, went}
use Rattle.arrow_types.specs.Schemas.{Keyed}
use Rattle.ipc_fields.specs.IpcFields.{Ids, schema_with}
use Rattle.ipc_read.specs.DictionaryBatches.{dictionary_reading, message_of}
use Rattle.ipc_read.proofs.BatchTables.{refused_first}
use Rattle.ipc_schema.specs.Headers.{dictionary_message_of}
use Rattle.ipc_schema.specs.Views.{header_of}
use Rattle.ipc_schema.specs.declared.message.DictionaryMessage.{DictionaryMessage}
use Rattle.ipc_files.specs.FileBlocks.{file_block, given}
use Rattle.ipc_files.specs.FileDictionaries.{block_dictionary, block_values, dictionaries_given}
use Rattle.ipc_files.proofs.FileDictionaries.{values_first}
use Rattle.ipc_files.proofs.GivenBlocks.{given_is, given_reads, given_refuses}
use Rattle.arrow_arrays.specs.Heads.{joined}
use Rattle.view_types.specs.Views.{View, cells_in, views}
use Rattle.ipc_view.specs.Batches.{AddsViews}
use Rattle.ipc_view.specs.Dictionaries.{Shown, ShowsCells, shown_in}
use Rattle.ipc_view.specs.Lent.{AreLentOf, HoldsLent}
use Rattle.ipc_mmap.specs.Chunks.{ShowsDictionaries}

-- ── one block ──

-- the pairs of a schema change nothing
same_schema : (s : List Keyed) (below : Ids) (order : Bool) (pairs : Metadata) (d : Dictionaries) (most : ℕ) (m : DictionaryMessage) (body : List ℕ)
    → dictionary_of (schema_with s below order pairs) d most (dictionary_message_of m).dictionary m.version body false ≡ dictionary_reading s below order d most (message_of m.id m.is_delta (header_of m.header)) m.version body false
unfolding dictionary_of
same_schema s below order pairs d most m body = refl

values_read : (b : List ℕ) (meta : Meta) (s : List Keyed) (below : Ids) (order : Bool) (pairs : Metadata) (d : Dictionaries) (x : Block) (m : DictionaryMessage) → meta.schema ≡ schema_with s below order pairs → given x (block_dictionary b) ≡ Ok (dictionary_message_of m)
    → given x (block_values b meta d) ≡ dictionary_reading s below order d (length b) (message_of m.id m.is_delta (header_of m.header)) m.version (block_body b (file_block x)) false
unfolding block_values
values_read b meta s below order pairs d x m same is =
    let r = given_reads x (block_dictionary b) (dictionary_message_of m) is in
    given_is x (block_values b meta d) r.is
    ∙ on (block_dictionary b (file_block x)) (λ y. dictionary_of meta.schema d (length b) y.dictionary y.version (block_body b (file_block x)) false) (dictionary_message_of m) r.read
    ∙ ap (λ y. dictionary_of y d (length b) (dictionary_message_of m).dictionary m.version (block_body b (file_block x)) false) same ∙ same_schema s below order pairs d (length b) m (block_body b (file_block x))

-- what its message adds
pub block_added : (b : List ℕ) (meta : Meta) (s : List Keyed) (below : Ids) (order : Bool) (pairs : Metadata) (d : Dictionaries) (h : Shown) (x : Block) (m : DictionaryMessage) (size : ℕ) (id : ℤ) (body : List ℕ) (r : Result (Unit {0}) IpcError) → meta.schema ≡ schema_with s below order pairs → given x (block_dictionary b) ≡ Ok (dictionary_message_of m)
    → size ≡ length b → id ≡ m.id → body ≡ block_body b (file_block x) → AddsViews d h r (dictionary_reading s below order d size (message_of id m.is_delta (header_of m.header)) m.version body false) → AddsViews d h r (given x (block_values b meta d))
block_added b meta s below order pairs d h x m size id body r same is whole one there adds =
    subst (AddsViews d h r) (sym (values_read b meta s below order pairs d x m same is))
    (subst (λ y. AddsViews d h r (dictionary_reading s below order d (length b) (message_of m.id m.is_delta (header_of m.header)) m.version y false)) there
    (subst (λ i. AddsViews d h r (dictionary_reading s below order d (length b) (message_of i m.is_delta (header_of m.header)) m.version body false)) one
    (subst (λ n. AddsViews d h r (dictionary_reading s below order d n (message_of id m.is_delta (header_of m.header)) m.version body false)) whole adds)))

-- and what is refused of the message
pub block_refused : (b : List ℕ) (meta : Meta) (d : Dictionaries) (x : Block) (e : IpcError) → Refuses e (refusals (given x (block_dictionary b))) → Refuses e (refusals (given x (block_values b meta d)))
unfolding block_values
block_refused b meta d x e h = given_refuses x (block_dictionary b) (block_values b meta d) e (λ y r. refused_first (block_dictionary b y) _ e r) h

pub adds_refused : (d : Dictionaries) (h : Shown) (r : Result (Unit {0}) IpcError) (e : IpcError) (read : Reading HeldDictionary) → IsErr r → IsErrAnd r (λ f. f ≡ e) → Refuses e (refusals read) → AddsViews d h r read
adds_refused d h (Ok u) e read a p refused = cc
adds_refused d h (Err f) e read a p refused = record { ok = tt; err = subst (λ g. Refuses g (refusals read)) (sym p) refused }

-- ── all blocks ──

given_first : (b : List ℕ) (meta : Meta) (d : Dictionaries) (x : Block) (xs : List Block) → dictionaries_given b meta d (x ∷ xs) ≡ bind (given x (block_values b meta d)) (λ values. dictionaries_given b meta (values ∷ d) xs)
unfolding dictionaries_given
given_first b meta d x xs = refl

-- those before the rest are shown, and all say what the rest says behind them
pub record SoFar (b : List ℕ) (meta : Meta) (xs rest : List Block) (h : Shown) : Type 0 where
  pub before : Dictionaries
  pub same : dictionaries_given b meta [] xs ≡ dictionaries_given b meta before rest
  pub shows : ShowsCells before h

pub none_yet : (b : List ℕ) (meta : Meta) (xs : List Block) (m : BTreeMap ℤ (Vec View Global)) → m.entries ≡ [] → SoFar b meta xs xs (shown_in m)
none_yet b meta xs m empty = record { before = []; same = refl; shows = λ id. ap (λ es. option_map (λ vs. joined (map cells_in vs)) (option_map (λ (v : Vec View Global). v.items) (lookup (is_at (int_cmp id)) es))) (sym empty) }

pub none_lent : (b : List ℕ) (m : BTreeMap ℤ (Vec View Global)) → m.entries ≡ [] → HoldsLent b (shown_in m)
none_lent b m empty = λ id. subst (λ es. IfSome (option_map (λ (v : Vec View Global). v.items) (lookup (is_at (int_cmp id)) es)) (λ vs. AreLentOf b (views vs))) (sym empty) tt

pub one_more : (b : List ℕ) (meta : Meta) (xs : List Block) (x : Block) (rest : List Block) (h h' : Shown) (u : Unit {0}) → SoFar b meta xs (x ∷ rest) h → ((d : Dictionaries) → ShowsCells d h → AddsViews d h' (Ok u) (given x (block_values b meta d))) → SoFar b meta xs rest h'
one_more b meta xs x rest h h' u so adds =
    let added = (adds so.before so.shows).ok in
    record {
      before = added.0 ∷ so.before;
      same = so.same ∙ given_first b meta so.before x rest ∙ on (given x (block_values b meta so.before)) (λ v. dictionaries_given b meta (v ∷ so.before) rest) added.0 added.1;
      shows = added.2;
    }

-- what one refuses, all refuse
pub all_refused : (b : List ℕ) (meta : Meta) (xs : List Block) (x : Block) (rest : List Block) (h h' : Shown) (r : Result (BTreeMap ℤ (Vec View Global)) IpcError) (e : IpcError) → IsErr r → IsErrAnd r (λ f. f ≡ e) → SoFar b meta xs (x ∷ rest) h
    → ((d : Dictionaries) → ShowsCells d h → AddsViews d h' (Err e) (given x (block_values b meta d))) → ShowsDictionaries b meta xs r
all_refused b meta xs x rest h h' (Ok m) e a p so adds = cc
all_refused b meta xs x rest h h' (Err f) e a p so adds =
    let refused : Refuses e (refusals (dictionaries_given b meta [] xs)) =
    subst (λ r. Refuses e (refusals r)) (sym (so.same ∙ given_first b meta so.before x rest)) (refused_first (given x (block_values b meta so.before)) (λ v. dictionaries_given b meta (v ∷ so.before) rest) e (adds so.before so.shows).err) in
    record { ok = tt; said = tt; err = subst (λ g. Refuses g (refusals (dictionaries_given b meta [] xs))) (sym p) refused }

-- blocks that are given are those of the file
said_too : (b : List ℕ) (meta : Meta) (d : Dictionaries) (xs : List Block) (e : Dictionaries) → dictionaries_given b meta d xs ≡ Ok e → dictionaries_of b meta d (map file_block xs) ≡ Ok e
unfolding dictionaries_given dictionaries_of
said_too b meta d [] e h = h
said_too b meta d (x ∷ xs) e h =
    let w = went (given x (block_values b meta d)) (λ values. dictionaries_given b meta (values ∷ d) xs) e h in
    let r = given_reads x (block_values b meta d) w.got w.first in
    values_first b meta d (file_block x) (map file_block xs) ∙ on (block_values b meta d (file_block x)) (λ v. dictionaries_of b meta (v ∷ d) (map file_block xs)) w.got r.read ∙ said_too b meta (w.got ∷ d) xs e w.rest

pub all_shown : (b : List ℕ) (meta : Meta) (xs rest : List Block) (m : BTreeMap ℤ (Vec View Global)) → rest ≡ [] → SoFar b meta xs rest (shown_in m) → ShowsDictionaries b meta xs (Ok m)
unfolding dictionaries_given
all_shown b meta xs rest m none so =
    let is : dictionaries_given b meta [] xs ≡ Ok so.before = so.same ∙ ap (dictionaries_given b meta so.before) none in
    record { ok = (so.before, is, so.shows); said = (so.before, said_too b meta [] xs so.before is, so.shows); err = tt }
