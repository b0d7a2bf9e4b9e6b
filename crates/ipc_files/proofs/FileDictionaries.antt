-- Dictionary blocks: one is its message and then its values, and all stand one after another.
use Rattle.std.proofs.Common.{◌≡◌, ℕ, List, [], ◌∷◌, length, map, Bool, true, false, Option, Some, None, Result, Ok, Err, IfOk, IfSome, Global, Vec, ℤ, refl, sym, ap, ◌∙◌, subst}
use Rattle.std.specs.BTreeMap.{BTreeMap}
use Rattle.std.specs.Option.{option_map}
use Rattle.arrow_spec.specs.declared.error.IpcError.{IpcError}
use Rattle.arrow_spec.specs.declared.message.Block.{Block}
use Rattle.arrow_spec.specs.Readings.{Reading, Refuses, bind, refusals}
use Rattle.arrow_spec.specs.Arrays.{Dictionaries, HeldDictionary}
use Rattle.arrow_spec.specs.Files.{FileBlock, Meta, block_body, block_message, dictionaries_of, dictionary_of, record_batch_of}
use Rattle.arrow_spec.specs.Counts.{magnitude}
use Rattle.arrow_spec.specs.Flat.{order_by}
use Rattle.arrow_spec.specs.Schema.{Schema}
use Rattle.arrow_spec.specs.Kinds.{Fields, Kind, Metadata, same}
use Rattle.arrow_spec.proofs.Projection.{on}
use Rattle.arrow_types.specs.Schemas.{Keyed, fields_in}
use Rattle.arrow_arrays.specs.declared.array.Array.{Array}
use Rattle.arrow_arrays.specs.Heads.{joined}
use Rattle.arrow_arrays.specs.Parts.{cells_each}
use Rattle.ipc_fields.specs.Causes.{Decodes}
use Rattle.ipc_fields.specs.IpcFields.{Ids, fields_with, schema_with}
use Rattle.arrow_spec.proofs.SameIds.{id_true}
use Rattle.ipc_io.specs.Outside.{IsSize}
use Rattle.ipc_schema.specs.Headers.{dictionary_message, dictionary_message_of}
use Rattle.ipc_schema.specs.Views.{header_of}
use Rattle.ipc_schema.specs.declared.message.DictionaryMessage.{DictionaryMessage}
use Rattle.ipc_projection.specs.Below.{Held, HasKind, HoldsCells, none_held, HasKindOf, values_of_id}
use Rattle.laws_columns.specs.Below.{HeaderFits}
use Rattle.ipc_read.specs.DictionaryBatches.{AddsDictionary, HoldsPart, dictionary_reading, message_of}
use Rattle.ipc_read.specs.Held.{held_in}
use Rattle.ipc_read.specs.Sources.{bytes_in}
use Rattle.ipc_read.specs.declared.body.Body.{Body}
use Rattle.ipc_files.specs.Blocks.{body_place}
use Rattle.ipc_files.specs.FileBlocks.{GivesIn, file_block, given, message_metadata}
use Rattle.ipc_files.specs.FileDictionaries.{AreHeld, DictionaryIn, HoldsBlock, HoldsUses, ReadsDictionaries, block_dictionary, block_values, dictionaries_given, no_block, one_block}
use Rattle.ipc_files.proofs.ReadFiles.{order_as}
use Rattle.ipc_files.proofs.BlockMessages.{bind_ok, bind_twice, read_of, refused_first}
use Rattle.ipc_files.proofs.GivenBlocks.{given_is, given_reads, given_refuses, natural_given, told_more}
use Rattle.ipc_schema.specs.Footers.{IsNatural}
use Rattle.std.proofs.lemmas.List.Elements.{All-head, All-tail}
use Rattle.std.specs.Prelude.{All}

-- ── the message of a block ──

pub dictionary_of_metadata : {X : Type 0} (content : Option (List ℕ)) (block : Block) (view : X → List ℕ) (x : X) (text : List ℕ) (r : Result DictionaryMessage IpcError) → GivesIn content view (Ok x) (λ b. given block (message_metadata b)) → text ≡ view x
    → Decodes dictionary_message_of r (dictionary_message text) → DictionaryIn content block r
unfolding block_dictionary
dictionary_of_metadata None block view x text r h t g = tt
dictionary_of_metadata (Some b) block view x text r h t g =
    told_more (Some b) dictionary_message_of r block message_metadata dictionary_message (read_of (Some b) (λ b. given block (message_metadata b)) view x text dictionary_message_of dictionary_message r h t g)

pub dictionary_without_metadata : {X : Type 0} (content : Option (List ℕ)) (block : Block) (view : X → List ℕ) (r : Result DictionaryMessage IpcError) (e : IpcError) → r ≡ Err e → GivesIn content view (Err e) (λ b. given block (message_metadata b)) → DictionaryIn content block r
unfolding block_dictionary
dictionary_without_metadata None block view r e is h = tt
dictionary_without_metadata (Some b) block view r e is h =
    subst (λ q. DictionaryIn (Some b) block q) (sym is) (told_more (Some b) dictionary_message_of (Err e) block message_metadata dictionary_message (refused_first e (given block (message_metadata b)) dictionary_message h))

-- ── its values ──

-- the pairs of a schema change nothing
same_schema : (s : List Keyed) (below : Ids) (order : Bool) (pairs : Metadata) (d : Dictionaries) (most : ℕ) (m : DictionaryMessage) (body : List ℕ)
    → dictionary_of (schema_with s below order pairs) d most (dictionary_message_of m).dictionary m.version body false ≡ dictionary_reading s below order d most (message_of m.id m.is_delta (header_of m.header)) m.version body false
unfolding dictionary_of
same_schema s below order pairs d most m body = refl

values_read : (b : List ℕ) (meta : Meta) (s : List Keyed) (below : Ids) (order : Bool) (pairs : Metadata) (d : Dictionaries) (block : FileBlock) (m : DictionaryMessage) → meta.schema ≡ schema_with s below order pairs → block_dictionary b block ≡ Ok (dictionary_message_of m)
    → block_values b meta d block ≡ dictionary_reading s below order d (length b) (message_of m.id m.is_delta (header_of m.header)) m.version (block_body b block) false
unfolding block_values
values_read b meta s below order pairs d block m same is =
    on (block_dictionary b block) (λ x. dictionary_of meta.schema d (length b) x.dictionary x.version (block_body b block) false) (dictionary_message_of m) is
    ∙ ap (λ x. dictionary_of x d (length b) (dictionary_message_of m).dictionary m.version (block_body b block) false) same ∙ same_schema s below order pairs d (length b) m (block_body b block)

-- what the batch of a block adds, where bytes are told
abbrev Added : Option (List ℕ) → List Keyed → Ids → Bool → Held → Held → ℕ → ℤ → DictionaryMessage → Body → Result (Unit {0}) IpcError → Type 0
Added content s below order h h' size id m body result =
    IfSome content (λ b. (d : Dictionaries) → HoldsCells d h → AddsDictionary d h' result (dictionary_reading s below order d size (message_of id m.is_delta (header_of m.header)) m.version (bytes_in body b) false))

pub values_added : (content content' : Option (List ℕ)) (meta : Meta) (s : List Keyed) (below : Ids) (order : Bool) (pairs : Metadata) (h h' : Held) (size : ℕ) (id : ℤ) (block : Block) (m : DictionaryMessage) (body : Body) (result : Result (Unit {0}) IpcError) → meta.schema ≡ schema_with s below order pairs → id ≡ m.id
    → content' ≡ content → body ≡ body_place (file_block block) → IsSize content size → DictionaryIn content block (Ok m) → Added content' s below order h h' size id m body result → IfSome content (λ b. (d : Dictionaries) → HoldsCells d h → AddsDictionary d h' result (given block (block_values b meta d)))
values_added None content' meta s below order pairs h h' size id block m body result same one kept place whole is adds = tt
values_added (Some b) content' meta s below order pairs h h' size id block m body result same one kept place whole is adds =
    let a0 : Added content' s below order h h' size m.id m body result = subst (λ q. Added content' s below order h h' size q m body result) one adds in
    let a1 : Added content' s below order h h' (length b) m.id m body result = subst (λ n. Added content' s below order h h' n m.id m body result) whole a0 in
    let y = file_block block in
    let a2 : Added content' s below order h h' (length b) m.id m (body_place y) result = subst (λ p. Added content' s below order h h' (length b) m.id m p result) place a1 in
    let a3 : Added (Some b) s below order h h' (length b) m.id m (body_place y) result = subst (λ w. Added w s below order h h' (length b) m.id m (body_place y) result) kept a2 in
    let reads = given_reads block (block_dictionary b) (dictionary_message_of m) is in
    λ d holds. subst (λ r. AddsDictionary d h' result r) (sym (given_is block (block_values b meta d) reads.is ∙ values_read b meta s below order pairs d y m same reads.read)) (a3 d holds)

-- the same of a result that is another's
pub added_as : (content : Option (List ℕ)) (meta : Meta) (h h' : Held) (block : Block) (r r' : Result (Unit {0}) IpcError) → r ≡ r' → IfSome content (λ b. (d : Dictionaries) → HoldsCells d h → AddsDictionary d h' r (given block (block_values b meta d)))
    → IfSome content (λ b. (d : Dictionaries) → HoldsCells d h → AddsDictionary d h' r' (given block (block_values b meta d)))
added_as content meta h h' block r r' same adds = subst (λ q. IfSome content (λ b. (d : Dictionaries) → HoldsCells d h → AddsDictionary d h' q (given block (block_values b meta d)))) same adds

-- what a batch of a block holds, where bytes are told
abbrev HeldFrom : Option (List ℕ) → List Keyed → Ids → Bool → Held → Held → ℤ → DictionaryMessage → Body → Type 0
HeldFrom content s below order h h' id m body =
    IfSome content (λ b. (d : Dictionaries) → HoldsCells d h → HoldsPart h h' id m.is_delta (values_of_id (fields_with (fields_in s) below) id) (record_batch_of (order_by order) m.version (header_of m.header) (bytes_in body b)) (magnitude (header_of m.header).length))

pub values_held : (content content' : Option (List ℕ)) (meta : Meta) (s : List Keyed) (below : Ids) (order : Bool) (pairs : Metadata) (h h' : Held) (id : ℤ) (block : Block) (m : DictionaryMessage) (body : Body) → meta.schema ≡ schema_with s below order pairs → id ≡ m.id
    → content' ≡ content → body ≡ body_place (file_block block) → DictionaryIn content block (Ok m) → HeaderFits (header_of m.header) → HeldFrom content' s below order h h' id m body → ((q : ℤ) → same id q ≡ false → h' q ≡ h q)
    → IfSome content (λ b. (d : Dictionaries) → HoldsCells d h → HoldsBlock b meta (file_block block) h h' m.id)
values_held None content' meta s below order pairs h h' id block m body schema one kept place is fits part others = tt
values_held (Some b) content' meta s below order pairs h h' id block m body schema one kept place is fits part others =
    let p0 : HeldFrom content' s below order h h' m.id m body = subst (λ q. HeldFrom content' s below order h h' q m body) one part in
    let y = file_block block in
    let reads = given_reads block (block_dictionary b) (dictionary_message_of m) is in
    let p1 : HeldFrom content' s below order h h' m.id m (body_place y) = subst (λ p. HeldFrom content' s below order h h' m.id m p) place p0 in
    let p2 : HeldFrom (Some b) s below order h h' m.id m (body_place y) = subst (λ w. HeldFrom w s below order h h' m.id m (body_place y)) kept p1 in
    let s1 : Schema = schema_with s below order pairs in
    λ d holds.
    let p3 : HoldsPart h h' m.id m.is_delta (values_of_id s1.fields m.id) (record_batch_of s1.order m.version (header_of m.header) (block_body b y)) (magnitude (header_of m.header).length) =
    subst (λ o. HoldsPart h h' m.id m.is_delta (values_of_id (fields_with (fields_in s) below) m.id) (record_batch_of o m.version (header_of m.header) (block_body b y)) (magnitude (header_of m.header).length)) (order_as order) (p2 d holds) in
    record {
      message = dictionary_message_of m;
      is = reads.read;
      fits = fits;
      under = refl;
      part = subst (λ (x : Schema). HoldsPart h h' m.id m.is_delta (values_of_id x.fields m.id) (record_batch_of x.order m.version (header_of m.header) (block_body b y)) (magnitude (header_of m.header).length)) (sym schema) p3;
      others = subst (λ i. (q : ℤ) → same i q ≡ false → h' q ≡ h q) one others;
    }

-- a message that is refused
pub values_refused : (content : Option (List ℕ)) (meta : Meta) (h h' : Held) (block : Block) (result : Result (Unit {0}) IpcError) (e : IpcError) → result ≡ Err e → DictionaryIn content block (Err e)
    → IfSome content (λ b. (d : Dictionaries) → HoldsCells d h → AddsDictionary d h' result (given block (block_values b meta d)))
unfolding block_values
values_refused None meta h h' block result e is refused = tt
values_refused (Some b) meta h h' block result e is refused = λ d holds.
    rw is (record { ok = tt; err = given_refuses block (block_dictionary b) (block_values b meta d) e (λ y r. refused_first e (block_dictionary b y) _ r) refused })

-- the parts under each id are of its values' kind behind a call, as they were before it
pub uses_kept : (fs : Fields) (h h' : Held) (id : ℤ) (result : Result (Unit {0}) IpcError) → ((q : ℤ) → HasKindOf fs h q) → (HasKindOf fs h id → IfOk result (λ x. HasKindOf fs h' id)) → ((q : ℤ) → same id q ≡ false → h' q ≡ h q) → IfOk result (λ x. (q : ℤ) → HasKindOf fs h' q)
uses_kept fs h h' id (Ok x) uses kind others = λ q. by q (same id q) refl
  where
    by : (q : ℤ) (t : Bool) → same id q ≡ t → HasKindOf fs h' q
    by q true e = subst (HasKindOf fs h') (id_true id q e) (kind (uses id))
    by q false e = subst (λ o. IfSome (values_of_id fs q) (λ k. IfSome o (HasKind k))) (sym (others q e)) (uses q)
uses_kept fs h h' id (Err e) uses kind others = tt

-- where nothing is held nothing is of another kind
pub none_used : (meta : Meta) (h : Held) → h ≡ none_held → HoldsUses meta h
none_used meta h nothing = subst (HoldsUses meta) (sym nothing) (λ id. by id (values_of_id meta.schema.fields id))
  where
    by : (id : ℤ) (o : Option Kind) → IfSome o (λ k. IfSome (none_held id) (HasKind k))
    by id None = tt
    by id (Some k) = tt

-- ── all blocks ──

-- a block before others
pub values_first : (b : List ℕ) (meta : Meta) (d : Dictionaries) (block : FileBlock) (blocks : List FileBlock) → dictionaries_of b meta d (block ∷ blocks) ≡ bind (block_values b meta d block) (λ x. dictionaries_of b meta (x ∷ d) blocks)
unfolding dictionaries_of block_values block_dictionary block_message message_metadata dictionary_message
values_first b meta d block blocks = simp (bind_twice, bind_ok)

-- the first blocks were read, where bytes are told: what they say is held, and what all say is what the others say behind them
abbrev pub ReadSoFar : Option (List ℕ) → Meta → List FileBlock → Held → Type 0
ReadSoFar content meta rest h = IfSome content (λ b. (d : Dictionaries) × (dictionaries_of b meta [] meta.dictionaries ≡ dictionaries_of b meta d rest) × HoldsCells d h)

-- the same, and what is held came of these blocks
abbrev pub HeldSoFar : Option (List ℕ) → Meta → List FileBlock → Held → Type 0
HeldSoFar content meta rest h = IfSome content (λ b. (d : Dictionaries) × (dictionaries_of b meta [] meta.dictionaries ≡ dictionaries_of b meta d rest) × AreHeld b meta d h)

steps_cells : (b : List ℕ) (meta : Meta) (d : Dictionaries) (h : Held) → AreHeld b meta d h → HoldsCells d h
steps_cells b meta [] h (no_block none) = λ id. ap (option_map (λ parts. joined (cells_each parts))) (sym (none id))
steps_cells b meta (x ∷ d) h' (one_block before uses said held cells) = cells

pub read_so_far : (content : Option (List ℕ)) (meta : Meta) (rest : List FileBlock) (h : Held) → HeldSoFar content meta rest h → ReadSoFar content meta rest h
read_so_far None meta rest h held = tt
read_so_far (Some b) meta rest h held = (held.0, held.1, steps_cells b meta held.0 h held.2)

-- none of them was
pub none_read : (content : Option (List ℕ)) (meta : Meta) (h : Held) → h ≡ none_held → HeldSoFar content meta meta.dictionaries h
none_read None meta h nothing = tt
none_read (Some b) meta h nothing = ([], refl, no_block (λ id. ap (λ (g : Held). g id) nothing))

-- one more is
pub one_read : (content after : Option (List ℕ)) (meta : Meta) (block : FileBlock) (rest : List FileBlock) (h h' : Held) (id : ℤ) (u : Unit {0}) → after ≡ content → HeldSoFar content meta (block ∷ rest) h → HoldsUses meta h
    → IfSome after (λ b. (d : Dictionaries) → HoldsCells d h → AddsDictionary d h' (Ok u) (block_values b meta d block)) → IfSome after (λ b. (d : Dictionaries) → HoldsCells d h → HoldsBlock b meta block h h' id) → HeldSoFar content meta rest h'
one_read None after meta block rest h h' id u same held uses adds part = tt
one_read (Some b) after meta block rest h h' id u same held uses adds part =
    let here = subst (λ o. IfSome o (λ b. (d : Dictionaries) → HoldsCells d h → AddsDictionary d h' (Ok u) (block_values b meta d block))) same adds in
    let there = subst (λ o. IfSome o (λ b. (d : Dictionaries) → HoldsCells d h → HoldsBlock b meta block h h' id)) same part in
    let cells = steps_cells b meta held.0 h held.2 in
    let added = (here held.0 cells).ok in
    (added.0 ∷ held.0, held.1 ∙ values_first b meta held.0 block rest ∙ on (block_values b meta held.0 block) (λ x. dictionaries_of b meta (x ∷ held.0) rest) added.0 added.1, one_block held.2 uses added.1 (there held.0 cells) added.2)

-- what is added by a block that is given, as one of a file
pub adds_read : (after : Option (List ℕ)) (meta : Meta) (h h' : Held) (x : Block) (u : Unit {0}) → IfSome after (λ b. (d : Dictionaries) → HoldsCells d h → AddsDictionary d h' (Ok u) (given x (block_values b meta d)))
    → IfSome after (λ b. (d : Dictionaries) → HoldsCells d h → AddsDictionary d h' (Ok u) (block_values b meta d (file_block x)))
adds_read None meta h h' x u adds = tt
adds_read (Some b) meta h h' x u adds = λ d holds.
    let added = (adds d holds).ok in
    record { ok = (added.0, (given_reads x (block_values b meta d) added.0 added.1).read, added.2); err = tt }

-- ── blocks that are given, one after another ──

-- the first blocks were read, where bytes are told: what all say is what the others say behind them
abbrev pub GivenSoFar : Option (List ℕ) → Meta → List Block → List Block → Held → Type 0
GivenSoFar content meta xs rest h = IfSome content (λ b. (d : Dictionaries) × (dictionaries_given b meta [] xs ≡ dictionaries_given b meta d rest) × HoldsCells d h)

-- none of them was
pub none_given : (content : Option (List ℕ)) (meta : Meta) (xs : List Block) (h : Held) → h ≡ none_held → GivenSoFar content meta xs xs h
none_given None meta xs h nothing = tt
none_given (Some b) meta xs h nothing = ([], refl, steps_cells b meta [] h (no_block (λ id. ap (λ (g : Held). g id) nothing)))

given_first : (b : List ℕ) (meta : Meta) (d : Dictionaries) (x : Block) (xs : List Block) → dictionaries_given b meta d (x ∷ xs) ≡ bind (given x (block_values b meta d)) (λ values. dictionaries_given b meta (values ∷ d) xs)
unfolding dictionaries_given
given_first b meta d x xs = refl

-- one more is
pub one_given : (content after : Option (List ℕ)) (meta : Meta) (xs : List Block) (x : Block) (rest : List Block) (h h' : Held) (u : Unit {0}) → after ≡ content → GivenSoFar content meta xs (x ∷ rest) h
    → IfSome after (λ b. (d : Dictionaries) → HoldsCells d h → AddsDictionary d h' (Ok u) (given x (block_values b meta d))) → GivenSoFar content meta xs rest h'
one_given None after meta xs x rest h h' u same read adds = tt
one_given (Some b) after meta xs x rest h h' u same read adds =
    let here = subst (λ o. IfSome o (λ b. (d : Dictionaries) → HoldsCells d h → AddsDictionary d h' (Ok u) (given x (block_values b meta d)))) same adds in
    let added = (here read.0 read.2).ok in
    (added.0 ∷ read.0, read.1 ∙ given_first b meta read.0 x rest ∙ on (given x (block_values b meta read.0)) (λ v. dictionaries_given b meta (v ∷ read.0) rest) added.0 added.1, added.2)

-- what one refuses, all refuse
pub one_refused : (content after : Option (List ℕ)) (meta : Meta) (xs : List Block) (x : Block) (rest : List Block) (h h' : Held) (result : Result (BTreeMap ℤ (Vec Array Global)) IpcError) (e : IpcError) → after ≡ content → result ≡ Err e → GivenSoFar content meta xs (x ∷ rest) h
    → IfSome after (λ b. (d : Dictionaries) → HoldsCells d h → AddsDictionary d h' (Err e) (given x (block_values b meta d))) → IfSome content (λ b. ReadsDictionaries b meta xs result)
one_refused None after meta xs x rest h h' result e same is read adds = tt
one_refused (Some b) after meta xs x rest h h' result e same is read adds =
    let here = subst (λ o. IfSome o (λ b. (d : Dictionaries) → HoldsCells d h → AddsDictionary d h' (Err e) (given x (block_values b meta d)))) same adds in
    let refused : Refuses e (refusals (dictionaries_given b meta [] xs)) =
    subst (λ r. Refuses e (refusals r)) (sym (read.1 ∙ given_first b meta read.0 x rest)) (refused_first e (given x (block_values b meta read.0)) (λ v. dictionaries_given b meta (v ∷ read.0) rest) (here read.0 read.2).err) in
    subst (λ r. ReadsDictionaries b meta xs r) (sym is) (record { ok = tt; said = tt; steps = tt; err = refused })

pub all_read : (content : Option (List ℕ)) (meta : Meta) (xs rest : List Block) (others : List FileBlock) (m : BTreeMap ℤ (Vec Array Global)) → meta.dictionaries ≡ map file_block xs → rest ≡ [] → others ≡ [] → GivenSoFar content meta xs rest (held_in m) → HeldSoFar content meta others (held_in m)
    → IfSome content (λ b. ReadsDictionaries b meta xs (Ok m))
unfolding dictionaries_of dictionaries_given
all_read None meta xs rest others m same none empty read held = tt
all_read (Some b) meta xs rest others m same none empty read held =
    let all : dictionaries_of b meta [] meta.dictionaries ≡ Ok held.0 = held.1 ∙ ap (dictionaries_of b meta held.0) empty in
    let whole : dictionaries_of b meta [] (map file_block xs) ≡ Ok held.0 = subst (λ bs. dictionaries_of b meta [] bs ≡ Ok held.0) same all in
    record {
      ok = (read.0, read.1 ∙ ap (dictionaries_given b meta read.0) none, read.2);
      said = (held.0, whole, steps_cells b meta held.0 (held_in m) held.2);
      steps = λ d is. let same : held.0 ≡ d = let both = sym whole ∙ is in cc in subst (λ e. AreHeld b meta e (held_in m)) same held.2;
      err = tt;
    }

-- blocks of a file, none of whose numbers is negative
pub given_in_file : (b : List ℕ) (meta : Meta) (d : Dictionaries) (xs : List Block) → All IsNatural xs → dictionaries_given b meta d xs ≡ dictionaries_of b meta d (map file_block xs)
unfolding dictionaries_given dictionaries_of bind
given_in_file b meta d [] h = refl
given_in_file b meta d (x ∷ xs) h =
    given_first b meta d x xs
    ∙ ap (λ r. bind r (λ values. dictionaries_given b meta (values ∷ d) xs)) (given_is x (block_values b meta d) (natural_given x (All-head IsNatural x xs h)))
    ∙ by (λ v. given_in_file b meta (v ∷ d) xs (All-tail IsNatural x xs h)) (block_values b meta d (file_block x)) ∙ sym (values_first b meta d (file_block x) (map file_block xs))
  where
    by : ((v : HeldDictionary) → dictionaries_given b meta (v ∷ d) xs ≡ dictionaries_of b meta (v ∷ d) (map file_block xs)) → (r : Reading HeldDictionary) → bind r (λ values. dictionaries_given b meta (values ∷ d) xs) ≡ bind r (λ values. dictionaries_of b meta (values ∷ d) (map file_block xs))
    by others (Ok v) = others v
    by others (Err es) = refl

-- what refuses them refuses the file's
pub refused_in_file : (b : List ℕ) (meta : Meta) (d : Dictionaries) (xs : List Block) (e : IpcError) → All IsNatural xs → Refuses e (refusals (dictionaries_given b meta d xs)) → Refuses e (refusals (dictionaries_of b meta d (map file_block xs)))
refused_in_file b meta d xs e natural h = subst (λ r. Refuses e (refusals r)) (given_in_file b meta d xs natural) h
