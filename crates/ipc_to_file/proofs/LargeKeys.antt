-- Whether a key of a stream is too large is told by its arrays, and by how many dictionaries its schema has: their kinds are those of lists without values, which have no keys. Both are told by the bytes.
use Rattle.std.proofs.Common.{◌≡◌, ◌∙◌, ℕ, suc, ◌+◌, ◌/◌, List, [], ◌∷◌, ◌++◌, length, Bool, false, ◌||◌, Some, refl, sym, ap, arith, length-append}
use Rattle.std.proofs.lemmas.List.{length-map}
use Rattle.std.specs.Rc.{rc_value}
use Rattle.std.specs.Prelude.{nat_eq, if◌then◌else◌, true}
use Rattle.arrow_spec.specs.declared.types.UnionMode.TheVariants.{Dense, Sparse}
use Rattle.arrow_spec.specs.Arrays.{from_on, keyed}
use Rattle.arrow_spec.specs.Cells.{Cell}
use Rattle.arrow_spec.specs.Kinds as kind
use Rattle.arrow_spec.specs.Kinds.{Fields, Kind, dictionary_count, uses_in, uses_of}
use Rattle.arrow_types.specs.Schemas.{Keyed, fields_in}
use Rattle.arrow_types.specs.declared.physical.PhysicalType.{PhysicalType}
use Rattle.arrow_types.specs.declared.physical.PhysicalType.TheVariants as physical
use Rattle.arrow_types.specs.Physical.{physical_of}
use Rattle.arrow_buffers.specs.Layouts.{binary_size}
use Rattle.arrow_buffers.specs.Rows.{masked}
use Rattle.arrow_arrays.specs.Batches.{Batch}
use Rattle.arrow_arrays.specs.EmptyParts.{empty_forest, empty_leaf, empty_parts, empty_under}
use Rattle.arrow_arrays.specs.Heads.{head_cells, indexed, number_at, listed, mapped, sized, structured, tagged}
use Rattle.arrow_arrays.specs.LeafParts.{leaf_cells_in}
use Rattle.arrow_arrays.specs.Parts.{Forest, Parts, also, cells_each, cells_in, forest, kind_in, leaf, nested, none}
use Rattle.ipc_append.specs.Below.{Start, StreamMetadata, arrays_of, plain_fields, plain_kind, stream_schema}
use Rattle.ipc_append.proofs.Below.{plain_fields_with}
use Rattle.ipc_append.proofs.WholeArrays.{are_alike}
use Rattle.ipc_fields.specs.IpcFields.{ids_of}
use Rattle.ipc_to_file.specs.Laws.{ArraysAreOfTheBytes, FilesHaveNoLargeKey, LargeKeysAreOfTheBytes}
use Rattle.ipc_to_file.specs.Streams.{schema_of}
use Rattle.laws_unify.specs.Lists.{fit}
use Rattle.laws_unify.specs.Over.{Lists, are_large, has_large_key, is_large, is_same_cell, moved, over, over_each, over_parts, parts_large, values_of}
use Rattle.laws_unify.specs.United.{all_taken, batches_large, finished, has_large_keys, lists_large, put, some_part, taken_batches, taken_each, united, values_kinds}

-- ── lists with the same values ──

abbrev SameValues : Lists → Lists → Type 0
SameValues us ws = (q : ℕ) → values_of (us q) ≡ values_of (ws q)

mutual
  large_by_values : (us ws : Lists) → SameValues us ws → (p : Parts) (id : ℕ) → is_large us p id ≡ is_large ws p id
  large_by_values us ws e (leaf l) id = refl
  large_by_values us ws e (nested (indexed d) parts) id = ap (λ (u : List Cell). has_large_key (fit is_same_cell u (values_of parts)) d) (e id)
  large_by_values us ws e (nested (listed l) cs) id = each_large_by_values us ws e cs id
  large_by_values us ws e (nested (mapped l) cs) id = each_large_by_values us ws e cs id
  large_by_values us ws e (nested (sized l) cs) id = each_large_by_values us ws e cs id
  large_by_values us ws e (nested (structured l) cs) id = each_large_by_values us ws e cs id
  large_by_values us ws e (nested (tagged l) cs) id = each_large_by_values us ws e cs id

  each_large_by_values : (us ws : Lists) → SameValues us ws → (ps : Forest) (id : ℕ) → are_large us ps id ≡ are_large ws ps id
  each_large_by_values us ws e none id = refl
  each_large_by_values us ws e (also p ps) id =
      let next = id + dictionary_count (kind_in p) in
      ap (λ b. b || are_large us ps next) (large_by_values us ws e p id) ∙ ap (λ b. is_large ws p id || b) (each_large_by_values us ws e ps next)

parts_large_by_values : (us ws : Lists) → SameValues us ws → (ps : Forest) (id : ℕ) → parts_large us ps id ≡ parts_large ws ps id
parts_large_by_values us ws e none id = refl
parts_large_by_values us ws e (also p ps) id = ap (λ b. b || parts_large us ps id) (large_by_values us ws e p id) ∙ ap (λ b. is_large ws p id || b) (parts_large_by_values us ws e ps id)

batches_large_by_values : (us ws : Lists) → SameValues us ws → (bs : List Batch) → batches_large us bs ≡ batches_large ws bs
batches_large_by_values us ws e [] = refl
batches_large_by_values us ws e (b ∷ bs) =
    ap (λ t. t || batches_large us bs) (each_large_by_values us ws e (forest b.arrays) 0) ∙ ap (λ t. are_large ws (forest b.arrays) 0 || t) (batches_large_by_values us ws e bs)

mutual
  cells_by_values : (us ws : Lists) → SameValues us ws → (p : Parts) (id : ℕ) → cells_in (over us p id) ≡ cells_in (over ws p id)
  cells_by_values us ws e (leaf l) id = refl
  cells_by_values us ws e (nested (indexed d) parts) id =
      ap (λ (u : List Cell). let m = moved (fit is_same_cell u (values_of parts)) d in masked m.validity (from_on (λ row. keyed (Some u) (number_at m.keys row)) 0 (length m.keys))) (e id)
  cells_by_values us ws e (nested (listed l) cs) id = ap (head_cells (listed l)) (each_cells_by_values us ws e cs id)
  cells_by_values us ws e (nested (mapped l) cs) id = ap (head_cells (mapped l)) (each_cells_by_values us ws e cs id)
  cells_by_values us ws e (nested (sized l) cs) id = ap (head_cells (sized l)) (each_cells_by_values us ws e cs id)
  cells_by_values us ws e (nested (structured l) cs) id = ap (head_cells (structured l)) (each_cells_by_values us ws e cs id)
  cells_by_values us ws e (nested (tagged l) cs) id = ap (head_cells (tagged l)) (each_cells_by_values us ws e cs id)

  each_cells_by_values : (us ws : Lists) → SameValues us ws → (ps : Forest) (id : ℕ) → cells_each (over_each us ps id) ≡ cells_each (over_each ws ps id)
  each_cells_by_values us ws e none id = refl
  each_cells_by_values us ws e (also p ps) id =
      let next = id + dictionary_count (kind_in p) in
      ap (λ x. x ∷ cells_each (over_each us ps next)) (cells_by_values us ws e p id) ∙ ap (λ xs. cells_in (over ws p id) ∷ xs) (each_cells_by_values us ws e ps next)

parts_by_values : (us ws : Lists) → SameValues us ws → (ps : Forest) (id : ℕ) → values_of (over_parts us ps id) ≡ values_of (over_parts ws ps id)
parts_by_values us ws e none id = refl
parts_by_values us ws e (also p ps) id =
    ap (λ xs. xs ++ values_of (over_parts us ps id)) (cells_by_values us ws e p id) ∙ ap (λ xs. cells_in (over ws p id) ++ xs) (parts_by_values us ws e ps id)

-- ── lists without values ──

leaf_none : (p : PhysicalType) (k : Kind) → leaf_cells_in (empty_leaf p k) ≡ []
leaf_none physical.Null k = refl
leaf_none physical.Boolean k = refl
leaf_none (physical.Primitive t) k = refl
leaf_none physical.FixedSizeBinary k = let z : 0 / binary_size k ≡ 0 = omega arith in rw z refl
leaf_none physical.Binary k = refl
leaf_none physical.LargeBinary k = refl
leaf_none physical.Utf8 k = refl
leaf_none physical.LargeUtf8 k = refl
leaf_none physical.BinaryView k = refl
leaf_none physical.Utf8View k = refl
leaf_none p k = refl

no_cells : (us : Lists) (l k : Kind) (id : ℕ) → cells_in (over us (empty_under l k) id) ≡ []
no_cells us l (kind.«list» o fs) id = refl
no_cells us l (kind.map sorted fs) id = refl
no_cells us l (kind.fixed_size_list size fs) id = refl
no_cells us l (kind.struct fs) id = refl
no_cells us l (kind.union Sparse stated ids fs) id = refl
no_cells us l (kind.union Dense stated ids fs) id = refl
no_cells us l (kind.dictionary t ordered i k) id = refl
no_cells us l (kind.extension name metadata k) id = no_cells us l k id
no_cells us l k id = leaf_none (physical_of k) l

mutual
  no_keys : (us : Lists) (l k : Kind) (id : ℕ) → is_large us (empty_under l k) id ≡ false
  no_keys us l (kind.«list» o fs) id = no_keys_in us fs id
  no_keys us l (kind.map sorted fs) id = no_keys_in us fs id
  no_keys us l (kind.fixed_size_list size fs) id = no_keys_in us fs id
  no_keys us l (kind.struct fs) id = no_keys_in us fs id
  no_keys us l (kind.union Sparse stated ids fs) id = no_keys_in us fs id
  no_keys us l (kind.union Dense stated ids fs) id = no_keys_in us fs id
  no_keys us l (kind.dictionary t ordered i k) id = refl
  no_keys us l (kind.extension name metadata k) id = no_keys us l k id
  no_keys us l k id = refl

  no_keys_in : (us : Lists) (fs : Fields) (id : ℕ) → are_large us (empty_forest fs) id ≡ false
  no_keys_in us kind.none id = refl
  no_keys_in us (kind.field name nullable metadata k fs) id =
      let next = id + dictionary_count (kind_in (empty_parts k)) in
      ap (λ b. b || are_large us (empty_forest fs) next) (no_keys us k k id) ∙ no_keys_in us fs next

-- ── all lists ──

one_list : (us ws : Lists) → SameValues us ws → (k l : Kind) (ps : Forest) (id : ℕ) → values_of (over_parts us (some_part k ps) id) ≡ values_of (over_parts ws (some_part l ps) id)
one_list us ws e k l none id = ap (λ xs. xs ++ []) (no_cells us k k id ∙ sym (no_cells ws l l id))
one_list us ws e k l (also p ps) id = parts_by_values us ws e (also p ps) id

put_values : (i q : ℕ) (ps qs : Forest) (us ws : Lists) → values_of ps ≡ values_of qs → SameValues us ws → values_of (put i ps us q) ≡ values_of (put i qs ws q)
put_values i q ps qs us ws here e = by (nat_eq i q)
  where
    by : (t : Bool) → values_of (if t then ps else us q) ≡ values_of (if t then qs else ws q)
    by true = here
    by false = e q

same_lists : (ks ls : List Kind) (id : ℕ) (raw : Lists) → length ks ≡ length ls → SameValues (finished ks id raw) (finished ls id raw)
same_lists [] [] id raw n = λ q. refl
same_lists [] (l ∷ ls) id raw n = cc
same_lists (k ∷ ks) [] id raw n = cc
same_lists (k ∷ ks) (l ∷ ls) id raw n =
    let m : length ks ≡ length ls = cc in
    let e = same_lists ks ls (suc id) raw m in
    λ q. put_values id q _ _ (finished ks (suc id) raw) (finished ls (suc id) raw) (one_list (finished ks (suc id) raw) (finished ls (suc id) raw) e k l (raw id) (suc id)) e

one_large : (us ws : Lists) → SameValues us ws → (k l : Kind) (ps : Forest) (id : ℕ) → parts_large us (some_part k ps) id ≡ parts_large ws (some_part l ps) id
one_large us ws e k l none id = ap (λ b. b || false) (no_keys us k k id ∙ sym (no_keys ws l l id))
one_large us ws e k l (also p ps) id = parts_large_by_values us ws e (also p ps) id

lists_by_values : (us ws : Lists) → SameValues us ws → (ks ls : List Kind) (id : ℕ) (raw : Lists) → length ks ≡ length ls → lists_large us ks id raw ≡ lists_large ws ls id raw
lists_by_values us ws e [] [] id raw n = refl
lists_by_values us ws e [] (l ∷ ls) id raw n = cc
lists_by_values us ws e (k ∷ ks) [] id raw n = cc
lists_by_values us ws e (k ∷ ks) (l ∷ ls) id raw n =
    let m : length ks ≡ length ls = cc in
    ap (λ b. b || lists_large us ks (suc id) raw) (one_large us ws e k l (raw id) (suc id)) ∙ ap (λ b. parts_large ws (some_part l (raw id)) (suc id) || b) (lists_by_values us ws e ks ls (suc id) raw m)

-- ── batches with the same arrays ──

same_taken : (cs bs : List Batch) (us : Lists) → arrays_of cs ≡ arrays_of bs → taken_batches cs us ≡ taken_batches bs us
same_taken [] [] us e = refl
same_taken [] (b ∷ bs) us e = cc
same_taken (c ∷ cs) [] us e = cc
same_taken (c ∷ cs) (b ∷ bs) us e =
    let here : c.arrays ≡ b.arrays = cc in
    let others : arrays_of cs ≡ arrays_of bs = cc in
    same_taken cs bs (taken_each (forest c.arrays) 0 us) others ∙ ap (λ (xs : List Parts). taken_batches bs (taken_each (forest xs) 0 us)) here

same_large : (us : Lists) (cs bs : List Batch) → arrays_of cs ≡ arrays_of bs → batches_large us cs ≡ batches_large us bs
same_large us [] [] e = refl
same_large us [] (b ∷ bs) e = cc
same_large us (c ∷ cs) [] e = cc
same_large us (c ∷ cs) (b ∷ bs) e =
    let here : c.arrays ≡ b.arrays = cc in
    let others : arrays_of cs ≡ arrays_of bs = cc in
    ap (λ (xs : List Parts). are_large us (forest xs) 0 || batches_large us cs) here ∙ ap (λ t. are_large us (forest b.arrays) 0 || t) (same_large us cs bs others)

large_by_arrays : (s t : List Keyed) (cs bs : List Batch) → arrays_of cs ≡ arrays_of bs → length (values_kinds (fields_in s)) ≡ length (values_kinds (fields_in t)) → has_large_keys s cs ≡ has_large_keys t bs
large_by_arrays s t cs bs arrays count =
    let raw : all_taken cs ≡ all_taken bs = same_taken cs bs (λ q. none) arrays in
    let ks = values_kinds (fields_in s) in
    let ls = values_kinds (fields_in t) in
    let e : SameValues (united s bs) (united t bs) = same_lists ks ls 0 (all_taken bs) count in
    ap (λ (r : Lists). batches_large (finished ks 0 r) cs || lists_large (finished ks 0 r) ks 0 r) raw
    ∙ ap (λ b. b || lists_large (united s bs) ks 0 (all_taken bs)) (same_large (united s bs) cs bs arrays ∙ batches_large_by_values (united s bs) (united t bs) e bs)
    ∙ ap (λ b. batches_large (united t bs) bs || b) (lists_by_values (united s bs) (united t bs) e ks ls 0 (all_taken bs) count)

-- ── as many dictionaries ──

mutual
  uses_plain : (k : Kind) → length (uses_of (plain_kind k)) ≡ length (uses_of k)
  uses_plain (kind.«list» o fs) = uses_plain_in fs
  uses_plain (kind.map sorted fs) = uses_plain_in fs
  uses_plain (kind.fixed_size_list size fs) = uses_plain_in fs
  uses_plain (kind.struct fs) = uses_plain_in fs
  uses_plain (kind.union mode stated ids fs) = uses_plain_in fs
  uses_plain (kind.dictionary t ordered id k) = ap suc (uses_plain k)
  uses_plain (kind.extension name metadata k) = uses_plain k
  uses_plain k = refl

  uses_plain_in : (fs : Fields) → length (uses_in (plain_fields fs)) ≡ length (uses_in fs)
  uses_plain_in kind.none = refl
  uses_plain_in (kind.field name nullable metadata k fs) =
      let first = uses_plain k in
      let others = uses_plain_in fs in
      omega (arith, length-append (uses_of (plain_kind k)) (uses_in (plain_fields fs)), length-append (uses_of k) (uses_in fs), first, others)

-- the dictionaries of a schema are as many as those of its fields with the ids of their IPC fields
count_of : (m : StreamMetadata) → length (values_kinds (fields_in (rc_value m.schema))) ≡ length (uses_in (plain_fields (stream_schema m).fields))
count_of m =
    let fs = fields_in (rc_value m.schema) in
    length-map (uses_in fs) (λ u. u.values) ∙ sym (uses_plain_in fs) ∙ ap (λ (gs : Fields). length (uses_in gs)) (sym (plain_fields_with fs (ids_of m.ipc_schema.fields.items)))

-- ── the laws ──

pub arrays_of_bytes : ArraysAreOfTheBytes
arrays_of_bytes b s t v w = (are_alike b s t v w).arrays

pub large_of_bytes : LargeKeysAreOfTheBytes
large_of_bytes b s t v w =
    let a = are_alike b s t v w in
    large_by_arrays (schema_of s) (schema_of t) s.batches.items t.batches.items a.arrays
    (count_of s.metadata ∙ ap (λ (x : Start). length (uses_in (plain_fields x.schema.fields))) a.start ∙ sym (count_of t.metadata))

pub no_large_key : FilesHaveNoLargeKey
no_large_key s b text old new made large =
    let same : has_large_keys (schema_of made.read) made.read.batches.items ≡ has_large_keys (schema_of large.stream) large.stream.batches.items = large_of_bytes b made.read large.stream made.whole large.whole in
    let no : false ≡ true = sym made.made.fits ∙ same ∙ large.large in
    cc
