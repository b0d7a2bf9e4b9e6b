-- Dictionary messages that are read, and what is held behind them.
use Rattle.std.proofs.Common.{◌≡◌, ◌⊎◌, ◌+◌, ◌≤◌, inr, not, is_some, nat_eq, IfOk, IfErr, IfSome, Result, inl, ℕ, suc, List, [], ◌∷◌, ◌++◌, ◌||◌, Bool, true, false, Option, Some, None, Ok, Err, ℤ, pos, negsuc, if◌then◌else◌, refl, sym, ap, ◌∙◌, subst, append-nil, append_assoc, add-one}
use Rattle.std.proofs.Common.{Vec}
use Rattle.std.specs.BTreeMap.{BTreeMap, get}
use Rattle.std.specs.Option.{option_map}
use Rattle.std.specs.Ordering.{int_cmp}
use Rattle.std.specs.declared.alloc.Global.{Global}
use Rattle.std.specs.List.{list_all}
use Rattle.std.proofs.lemmas.Bool.{eqb-true, and_parts, and_from}
use Rattle.arrow_spec.specs.declared.error.IpcError.{IpcError}
use Rattle.arrow_spec.specs.declared.error.IpcError.TheVariants.{OutOfSpec, Memory}
use Rattle.arrow_spec.specs.declared.error.OutOfSpecKind.TheVariants.{InvalidId, DuplicateDictionary}
use Rattle.arrow_spec.specs.declared.message.MetadataVersion.{MetadataVersion}
use Rattle.arrow_spec.specs.Schema.{is_struct_of_two, first_is_struct_of_two}
use Rattle.arrow_spec.specs.Readings.{Reading, Refuses, refusals, free_of, bind, ◌>>=◌, is_absent}
use Rattle.arrow_spec.specs.Kinds as kind
use Rattle.arrow_spec.specs.Kinds.{Kind, Fields, Use, none, field, width, same, is_same_kind, uses_of, uses_in, values_under}
use Rattle.arrow_spec.specs.Flat.{order_by}
use Rattle.arrow_spec.specs.Messages.{DictionaryBatch}
use Rattle.arrow_spec.specs.Counts.{RecordBatch, first_place}
use Rattle.arrow_spec.specs.Cells.{Cell}
use Rattle.arrow_spec.specs.Arrays.{Dictionaries, HeldDictionary, cells_before, found}
use Rattle.arrow_spec.specs.Features.{float_faults, chosen_floats}
use Rattle.arrow_spec.specs.Sent.{written}
use Rattle.arrow_spec.specs.Files.{TableBatch, batch_of_tables, to_read, record_batch_of, first_column, dictionary_of}
use Rattle.arrow_types.specs.Schemas.{Keyed, fields_in}
use Rattle.arrow_arrays.specs.Heads.{joined}
use Rattle.arrow_arrays.specs.PartsOf.{parts_of, forest_of}
use Rattle.arrow_arrays.specs.declared.array.Array.{Array}
use Rattle.arrow_arrays.specs.Parts as parts
use Rattle.arrow_arrays.specs.Parts.{Parts, Forest, also, forest, either, fault_in, fault_each, kind_in, kinds_each, cells_in, cells_each}
use Rattle.ipc_fields.specs.IpcFields.{Ids, Tree, no_fields, ids, ids_of, tree_of, kind_with, fields_with}
use Rattle.ipc_fields.specs.declared.ipc_field.IpcField.{IpcField}
use Rattle.ipc_read_laws.specs.Held.{Held, HoldsCells, HasKind, HasKinds, HasFields, values_of_id, HasKindOf}
use Rattle.ipc_read_laws.specs.PlainKinds.{plain_kind}
use Rattle.ipc_read_laws.specs.PartsRead.{parts_read}
use Rattle.ipc_read_laws.proofs.PlainKinds.{width_plain}
use Rattle.ipc_read.specs.Batches.{batch_reading, batch_fetched, columns_asked, chosen_read, is_column_kind, are_column_fields, are_column_kinds, kinds_of, schema_fields}
use Rattle.ipc_read.specs.Held.{held_in}
use Rattle.ipc_read.specs.DictionaryBatches.{one_column, with_part, parts_before, dictionary_reading, dictionary_fetched, AddsDictionary, HoldsPart}
use Rattle.arrow_types.specs.Child.{Child}
use Rattle.ipc_read.proofs.BatchTables.{refused_first}
use Rattle.ipc_read.proofs.Refusals.{memory_refuses}
use Rattle.ipc_read_laws.proofs.PlainTypes.{plain_fields_with}
use Rattle.ipc_read.proofs.LeftFields.{dropped, StandsIn, dropped_end}

-- ── what is held ──

same_is : (x y : ℤ) → same x y ≡ true → x ≡ y
same_is (pos a) (pos b) h = ap pos (eqb-true a b h)
same_is (negsuc a) (negsuc b) h = ap negsuc (eqb-true a b h)
same_is (pos a) (negsuc b) h = cc
same_is (negsuc a) (pos b) h = cc

cells_with : (xs : Forest) (p : Parts) → joined (cells_each (with_part xs p)) ≡ joined (cells_each xs) ++ cells_in p
cells_with parts.none p = append-nil (cells_in p)
cells_with (also x xs) p = ap (λ cs. cells_in x ++ cs) (cells_with xs p) ∙ sym (append_assoc (cells_in x) (joined (cells_each xs)) (cells_in p))

-- parts behind others have the cells of all
before_cells : (is_delta : Bool) (o : Option Forest) (p : Parts) → joined (cells_each (parts_before is_delta o p)) ≡ cells_before is_delta (option_map (λ xs. joined (cells_each xs)) o) ++ cells_in p
before_cells false o p = append-nil (cells_in p)
before_cells true None p = append-nil (cells_in p)
before_cells true (Some xs) p = cells_with xs p

-- a message's parts put under its id hold its cells
pub holds_more : (d : Dictionaries) (h h' : Held) (x : HeldDictionary) (p : Parts) → x.cells ≡ cells_in p → h' x.id ≡ Some (parts_before x.is_delta (h x.id) p) → ((q : ℤ) → same x.id q ≡ false → h' q ≡ h q) → HoldsCells d h → HoldsCells (x ∷ d) h'
holds_more d h h' x p cells here others holds q = by (same x.id q) refl
  where
    seen : Forest → List Cell
    seen xs = joined (cells_each xs)

    by : (b : Bool) → same x.id q ≡ b → (if b then Some (cells_before x.is_delta (found d q) ++ x.cells) else found d q) ≡ option_map seen (h' q)
    by false e = holds q ∙ ap (option_map seen) (sym (others q e))
    by true e =
        let i : x.id ≡ q = same_is x.id q e in
        ap (λ o. Some (cells_before x.is_delta o ++ x.cells)) (holds q) ∙ ap (λ cs. Some (cells_before x.is_delta (option_map seen (h q)) ++ cs)) cells
        ∙ ap Some (sym (before_cells x.is_delta (h q) p))
        ∙ ap (λ z. Some (seen (parts_before x.is_delta (h z) p))) (sym i) ∙ ap (option_map seen) (sym here) ∙ ap (λ z. option_map seen (h' z)) i

-- an array put behind those under an id is a part behind theirs
with_array : (xs : List Array) (p : Array) → forest_of (xs ++ p ∷ []) ≡ with_part (forest_of xs) (parts_of p)
with_array [] p = refl
with_array (x ∷ xs) p = ap (also (parts_of x)) (with_array xs p)

pub appended : (m n : BTreeMap ℤ (Vec Array Global)) (i : ℤ) (v w : Vec Array Global) (p : Array) → Some v ≡ get int_cmp m i → get int_cmp n i ≡ Some w → w.items ≡ v.items ++ p ∷ [] → held_in n i ≡ Some (parts_before true (held_in m i) (parts_of p))
appended m n i v w p a b e =
    ap (option_map (λ x. forest_of x.items)) b ∙ ap (λ xs. Some (forest_of xs)) e ∙ ap Some (with_array v.items p)
    ∙ ap (λ o. Some (parts_before true (option_map (λ x. forest_of x.items) o) (parts_of p))) a

pub if_one : (r : Result (Vec Array Global) IpcError) (p : Array) → IfOk r (λ v. forest_of v.items ≡ also (parts_of p) parts.none) → fault_in (parts_of p) ≡ None → IfOk r (λ v. fault_each (forest_of v.items) ≡ None)
if_one (Ok v) p e f = ap fault_each e ∙ ap (λ x. either x None) f
if_one (Err e) p x f = tt

-- a message may be held where it says so
pub free_as : (d : Dictionaries) (m : BTreeMap ℤ (Vec Array Global)) (id : ℤ) (is_delta may_replace : Bool) → HoldsCells d (held_in m) → (is_delta || may_replace || not (is_some (get int_cmp m id))) ≡ (is_delta || may_replace || is_absent (found d id))
free_as d m id is_delta may_replace holds = ap (λ b. is_delta || may_replace || b) (by (get int_cmp m id) ∙ ap is_absent (sym (holds id)))
  where
    by : (o : Option (Vec Array Global)) → not (is_some o) ≡ is_absent (option_map (λ parts. joined (cells_each parts)) (option_map (λ v. forest_of v.items) o))
    by None = refl
    by (Some v) = refl

-- ── of which kind it is ──

each_with : (k : Kind) (xs : Forest) (p : Parts) → is_same_kind k (kind_in p) ≡ true → list_all (is_same_kind k) (kinds_each xs) ≡ true → list_all (is_same_kind k) (kinds_each (with_part xs p)) ≡ true
each_with k parts.none p e v = and_from (is_same_kind k (kind_in p)) true e refl
each_with k (also x xs) p e v =
    let s = and_parts (is_same_kind k (kind_in x)) (list_all (is_same_kind k) (kinds_each xs)) v in
    and_from (is_same_kind k (kind_in x)) (list_all (is_same_kind k) (kinds_each (with_part xs p))) s.0 (each_with k xs p e s.1)

kinds_before : (k : Kind) (is_delta : Bool) (o : Option Forest) (p : Parts) → is_same_kind (plain_kind k) (kind_in p) ≡ true → IfSome o (HasKind k) → HasKind k (parts_before is_delta o p)
kinds_before k false o p e v = and_from (is_same_kind (plain_kind k) (kind_in p)) true e refl
kinds_before k true None p e v = and_from (is_same_kind (plain_kind k) (kind_in p)) true e refl
kinds_before k true (Some parts.none) p e v = and_from (is_same_kind (plain_kind k) (kind_in p)) true e refl
kinds_before k true (Some (also x xs)) p e v = each_with (plain_kind k) (also x xs) p e v

pub kind_held : (fs : Fields) (h h' : Held) (id : ℤ) (is_delta : Bool) (k : Kind) (p : Parts) → values_of_id fs id ≡ Some k → is_same_kind (plain_kind k) (kind_in p) ≡ true → h' id ≡ Some (parts_before is_delta (h id) p) → HasKindOf fs h id → HasKindOf fs h' id
kind_held fs h h' id is_delta k p u e here v =
    subst (λ o. IfSome o (λ k. IfSome (h' id) (HasKind k))) (sym u)
    (subst (λ o. IfSome o (HasKind k)) (sym here) (kinds_before k is_delta (h id) p e (subst (λ o. IfSome o (λ k. IfSome (h id) (HasKind k))) u v)))

-- ── one column of its values ──

pub one_values : (s : List Keyed) (ts : List IpcField) (key : List ℕ) (x : Child) (t : IpcField) (k : Kind) (below : Ids) → s ≡ (key, x) ∷ [] → ts ≡ t ∷ [] → tree_of t ≡ record { id = None; children = below } → x ≡ record { name = []; kind = k; nullable = true; metadata = [] } → schema_fields s ts ≡ one_column (kind_with k None below)
one_values s ts key x t k below e f g h =
    ap (λ s. schema_fields s ts) e ∙ ap (schema_fields ((key, x) ∷ [])) f
    ∙ ap (λ (r : Tree). fields_with (field x.name x.nullable x.metadata x.kind none) (ids r.id r.children no_fields)) g
    ∙ ap (λ (c : Child). fields_with (field c.name c.nullable c.metadata c.kind none) (ids None below no_fields)) h

pub one_kind : (s : List Keyed) (key : List ℕ) (x : Child) (k : Kind) → s ≡ (key, x) ∷ [] → x ≡ record { name = []; kind = k; nullable = true; metadata = [] } → kinds_of s ≡ k ∷ []
one_kind s key x k e h = ap kinds_of e ∙ ap (λ (c : Child). c.kind ∷ []) h

width_with : (fs : Fields) (below : Ids) → width (fields_with fs below) ≡ width fs
width_with fs below = sym (width_plain (fields_with fs below)) ∙ ap width (plain_fields_with fs below) ∙ width_plain fs

struct_of_two_with : (k : Kind) (id : Option ℤ) (below : Ids) → is_struct_of_two (kind_with k id below) ≡ is_struct_of_two k
struct_of_two_with (kind.struct fs) id below = ap (λ n. nat_eq n 2) (width_with fs below)
struct_of_two_with (kind.extension name metadata k) id below = struct_of_two_with k id below
struct_of_two_with k id below = refl

first_with : (fs : Fields) (below : Ids) → first_is_struct_of_two (fields_with fs below) ≡ first_is_struct_of_two fs
first_with none below = refl
first_with (field name nullable metadata k others) no_fields = struct_of_two_with k None no_fields
first_with (field name nullable metadata k others) (ids id below rest) = struct_of_two_with k id below

mutual
  pub column_with : (k : Kind) (id : Option ℤ) (below : Ids) → is_column_kind (kind_with k id below) ≡ is_column_kind k
  column_with (kind.«list» o fs) id below = rw (width_with fs below, columns_with fs below) refl
  column_with (kind.map sorted fs) id below = rw (width_with fs below, first_with fs below, columns_with fs below) refl
  column_with (kind.fixed_size_list size fs) id below = rw (width_with fs below, columns_with fs below) refl
  column_with (kind.struct fs) id below = columns_with fs below
  column_with (kind.union mode stated types fs) id below = rw (width_with fs below, columns_with fs below) refl
  column_with (kind.dictionary t ordered old k) id below = column_with k None below
  column_with (kind.extension name metadata k) id below = column_with k id below
  column_with k id below = refl

  columns_with : (fs : Fields) (below : Ids) → are_column_fields (fields_with fs below) ≡ are_column_fields fs
  columns_with none below = refl
  columns_with (field name nullable metadata k others) no_fields = rw (column_with k None no_fields, columns_with others no_fields) refl
  columns_with (field name nullable metadata k others) (ids id below rest) = rw (column_with k id below, columns_with others rest) refl

one_read : (s : List Keyed) (ks : List Kind) (l : Kind) → kinds_of s ≡ ks → ks ≡ l ∷ [] → is_column_kind l ≡ true → are_column_kinds None 0 s ≡ true
one_read [] [] l e f c = cc
one_read [] (k ∷ ks) l e f c = cc
one_read (x ∷ []) ks l e f c =
    let g : x.1.kind ≡ l = cc in
    and_from (is_column_kind x.1.kind) true (ap is_column_kind g ∙ c) refl
one_read (x ∷ y ∷ s) ks l e f c = cc

-- the kind of the values is one that is read
pub values_column : (s : List Keyed) (o : Option Kind) (l k : Kind) (below : Ids) → kinds_of s ≡ l ∷ [] → o ≡ Some k → k ≡ kind_with l None below → IfSome o (λ k. is_column_kind k ≡ true) → are_column_kinds None 0 s ≡ true
values_column s o l k below e f g c = one_read s (l ∷ []) l e refl (sym (column_with l None below) ∙ ap is_column_kind (sym g) ∙ subst (λ o. IfSome o (λ k. is_column_kind k ≡ true)) f c)

-- and what is held of its dictionaries is of their kinds
pub values_kinds : (h : Held) (o : Option Kind) (k : Kind) (fs : Fields) → o ≡ Some k → fs ≡ one_column k → IfSome o (λ k. HasKinds h k) → HasFields h fs
values_kinds h o k fs e f v = subst (HasFields h) (sym f) (subst (λ o. IfSome o (λ k. HasKinds h k)) e v, tt)

pub one_is : {A : Type 0} → (x y : A) → x ∷ [] ≡ y ∷ [] → x ≡ y
one_is x y e = cc

-- the only array of a batch of one column
pub only_part : (ps : List Parts) (p : Parts) → forest ps ≡ also p parts.none → ps ≡ p ∷ []
only_part [] p e = cc
only_part (x ∷ []) p e = cc
only_part (x ∷ y ∷ ps) p e = cc

-- ── what the message says ──

-- no column has the id
pub no_id : (s : List Keyed) (below : Ids) (is_little_endian : Bool) (d : Dictionaries) (most : ℕ) (x : DictionaryBatch) (version : MetadataVersion) (body : List ℕ) (may_replace : Bool) → values_of_id (fields_with (fields_in s) below) x.id ≡ None
    → Refuses (OutOfSpec (InvalidId x.id)) (refusals (dictionary_reading s below is_little_endian d most x version body may_replace))
unfolding dictionary_of bind
no_id s below is_little_endian d most x version body may_replace h = rw h (inl refl)

-- values stand under the id that may not be replaced
pub no_place : (s : List Keyed) (below : Ids) (is_little_endian : Bool) (d : Dictionaries) (most : ℕ) (x : DictionaryBatch) (version : MetadataVersion) (body : List ℕ) (may_replace : Bool) (k : Kind) → values_of_id (fields_with (fields_in s) below) x.id ≡ Some k → (x.is_delta || may_replace || is_absent (found d x.id)) ≡ false
    → Refuses (OutOfSpec DuplicateDictionary) (refusals (dictionary_reading s below is_little_endian d most x version body may_replace))
unfolding dictionary_of bind
no_place s below is_little_endian d most x version body may_replace k h free = rw (h, free) (inl refl)

-- its values are the one column of its batch
abbrev pub message_read : Bool → DictionaryBatch → MetadataVersion → List ℕ → Kind → TableBatch → HeldDictionary
message_read is_little_endian x version body k values = record {
  id = x.id;
  is_delta = x.is_delta;
  cells = first_column values.columns;
  written = written (record_batch_of (order_by is_little_endian) version x.values body) k first_place values.rows 0 values.rows;
}

one_float : (k : Kind) → chosen_floats None (one_column k) 0 ≡ float_faults k
one_float k = append-nil (float_faults k)

reading_as : {A B C E : Type 0} (r : Result A E) (b : Result B E) (f : B → Result C E) → (r >>= λ x. b >>= f) ≡ ((r >>= λ x. b) >>= f)
unfolding bind
reading_as (Ok x) b f = refl
reading_as (Err e) b f = refl

message_as : (is_little_endian : Bool) (d : Dictionaries) (most : ℕ) (x : DictionaryBatch) (version : MetadataVersion) (body : List ℕ) (k : Kind)
    → (free_of (float_faults k) >>= λ floats. batch_of_tables to_read (columns_asked None (order_by is_little_endian) (one_column k) d most) version [] x.values body None >>= λ values. Ok (message_read is_little_endian x version body k values)) ≡ (batch_reading None None is_little_endian (one_column k) d most version x.values body >>= λ values. Ok (message_read is_little_endian x version body k values))
message_as is_little_endian d most x version body k =
    let batch = batch_of_tables to_read (columns_asked None (order_by is_little_endian) (one_column k) d most) version [] x.values body None in
    reading_as (free_of (float_faults k)) batch (λ values. Ok (message_read is_little_endian x version body k values))
    ∙ ap (λ es. (free_of es >>= λ readable. batch) >>= λ values. Ok (message_read is_little_endian x version body k values)) (sym (one_float k))

pub message_is : (s : List Keyed) (below : Ids) (is_little_endian : Bool) (d : Dictionaries) (most : ℕ) (x : DictionaryBatch) (version : MetadataVersion) (body : List ℕ) (may_replace : Bool) (k : Kind) → values_of_id (fields_with (fields_in s) below) x.id ≡ Some k → (x.is_delta || may_replace || is_absent (found d x.id)) ≡ true
    → dictionary_reading s below is_little_endian d most x version body may_replace ≡ (batch_reading None None is_little_endian (one_column k) d most version x.values body >>= λ values. Ok (message_read is_little_endian x version body k values))
unfolding dictionary_of bind
message_is s below true d most x version body may_replace k h free = rw (h, free) (message_as true d most x version body k)
message_is s below false d most x version body may_replace k h free = rw (h, free) (message_as false d most x version body k)

-- what refuses the batch refuses the message
pub message_refused : (s : List Keyed) (below : Ids) (is_little_endian : Bool) (d : Dictionaries) (most : ℕ) (x : DictionaryBatch) (version : MetadataVersion) (body : List ℕ) (may_replace : Bool) (k : Kind) (e : IpcError) → values_of_id (fields_with (fields_in s) below) x.id ≡ Some k → (x.is_delta || may_replace || is_absent (found d x.id)) ≡ true
    → Refuses e (refusals (batch_reading None None is_little_endian (one_column k) d most version x.values body)) → Refuses e (refusals (dictionary_reading s below is_little_endian d most x version body may_replace))
message_refused s below is_little_endian d most x version body may_replace k e h free r =
    subst (λ z. Refuses e (refusals z)) (sym (message_is s below is_little_endian d most x version body may_replace k h free)) (refused_first (batch_reading None None is_little_endian (one_column k) d most version x.values body) _ e r)

-- and what it means is held, where the array of its cells is put behind the parts before it
pub message_held : (s : List Keyed) (below : Ids) (is_little_endian : Bool) (d : Dictionaries) (h h' : Held) (most : ℕ) (x : DictionaryBatch) (version : MetadataVersion) (body : List ℕ) (may_replace : Bool) (k : Kind) (values : TableBatch) (p : Parts) → values_of_id (fields_with (fields_in s) below) x.id ≡ Some k → (x.is_delta || may_replace || is_absent (found d x.id)) ≡ true
    → batch_reading None None is_little_endian (one_column k) d most version x.values body ≡ Ok values → first_column values.columns ≡ cells_in p
    → h' x.id ≡ Some (parts_before x.is_delta (h x.id) p) → ((q : ℤ) → same x.id q ≡ false → h' q ≡ h q) → HoldsCells d h → AddsDictionary d h' (Ok tt) (dictionary_reading s below is_little_endian d most x version body may_replace)
unfolding bind
message_held s below is_little_endian d h h' most x version body may_replace k values p u free read cells here others holds = record {
  ok = (
    message_read is_little_endian x version body k values,
    message_is s below is_little_endian d most x version body may_replace k u free ∙ ap (λ r. r >>= λ values. Ok (message_read is_little_endian x version body k values)) read,
    holds_more d h h' (message_read is_little_endian x version body k values) p cells here others holds,
  );
  err = tt;
}

-- a refusal that the message says, where the source tells its bytes
pub adds_refused : (content : Option (List ℕ)) (r : Result (Unit {0}) IpcError) (e : IpcError) (h h' : Held) (read : Dictionaries → List ℕ → Reading HeldDictionary) → r ≡ Err e → ((d : Dictionaries) (b : List ℕ) → HoldsCells d h → Refuses e (refusals (read d b))) → IfSome content (λ b. (d : Dictionaries) → HoldsCells d h → AddsDictionary d h' r (read d b))
adds_refused None r e h h' read p f = tt
adds_refused (Some b) r e h h' read p f = λ d holds. subst (λ r. AddsDictionary d h' r (read d b)) (sym p) (record { ok = tt; err = f d b holds })

-- what refuses the batch of its values, where it may be held
pub adds_batch : (content : Option (List ℕ)) (r : Result (Unit {0}) IpcError) (e : IpcError) (h h' : Held) (batch : Dictionaries → List ℕ → Reading TableBatch) (read : Dictionaries → List ℕ → Reading HeldDictionary) → r ≡ Err e
    → IfSome content (λ b. (d : Dictionaries) → HoldsCells d h → Refuses e (refusals (batch d b))) → ((d : Dictionaries) (b : List ℕ) → HoldsCells d h → Refuses e (refusals (batch d b)) → Refuses e (refusals (read d b)))
    → IfSome content (λ b. (d : Dictionaries) → HoldsCells d h → AddsDictionary d h' r (read d b))
adds_batch None r e h h' batch read p g f = tt
adds_batch (Some b) r e h h' batch read p g f = λ d holds. subst (λ r. AddsDictionary d h' r (read d b)) (sym p) (record { ok = tt; err = f d b holds (g d holds) })

-- the array of a batch that is read is held, or there is no memory for it
pub adds_held : (content : Option (List ℕ)) (r : Result (Unit {0}) IpcError) (h h' : Held) (batch : Dictionaries → List ℕ → Reading TableBatch) (values : TableBatch) (read : Dictionaries → List ℕ → Reading HeldDictionary) (Here : Type 0) → IfErr r (λ e. e ≡ Memory) → IfOk r (λ _. Here)
    → IfSome content (λ b. (d : Dictionaries) → HoldsCells d h → batch d b ≡ Ok values) → ((d : Dictionaries) (b : List ℕ) → HoldsCells d h → batch d b ≡ Ok values → Here → AddsDictionary d h' (Ok tt) (read d b))
    → IfSome content (λ b. (d : Dictionaries) → HoldsCells d h → AddsDictionary d h' r (read d b))
adds_held None r h h' batch values read Here memory here g f = tt
adds_held (Some b) (Ok u) h h' batch values read Here memory here g f = λ d holds. f d b holds (g d holds) here
adds_held (Some b) (Err e) h h' batch values read Here memory here g f = λ d holds. record { ok = tt; err = memory_refuses e _ memory }

-- the array of its values is the one of its buffers
pub part_held : (content : Option (List ℕ)) (r : Result (Unit {0}) IpcError) (h h' : Held) (id : ℤ) (is_delta is_little_endian other : Bool) (m : Bool → List ℕ → RecordBatch) (o : Option Kind) (k : Kind) (p : Parts) (ps : List Parts) (fs : Fields) (rows height : ℕ) → o ≡ Some k → other ≡ is_little_endian → fs ≡ one_column k → height ≡ rows → ps ≡ p ∷ []
    → IfSome content (λ b. (d : Dictionaries) → HoldsCells d h → ps ≡ chosen_read (m other b) h None fs 0 first_place height) → IfOk r (λ _. h' id ≡ Some (parts_before is_delta (h id) p))
    → IfOk r (λ _. IfSome content (λ b. (d : Dictionaries) → HoldsCells d h → HoldsPart h h' id is_delta o (m is_little_endian b) rows))
part_held content (Err e) h h' id is_delta is_little_endian other m o k p ps fs rows height u order column count one read here = tt
part_held None (Ok x) h h' id is_delta is_little_endian other m o k p ps fs rows height u order column count one read here = tt
part_held (Some b) (Ok x) h h' id is_delta is_little_endian other m o k p ps fs rows height u order column count one read here = λ d holds.
    let only : p ∷ [] ≡ parts_read (m is_little_endian b) h k first_place rows ∷ [] =
    sym one ∙ read d holds ∙ ap (λ z. chosen_read (m z b) h None fs 0 first_place height) order ∙ ap (λ gs. chosen_read (m is_little_endian b) h None gs 0 first_place height) column
    ∙ ap (λ n. parts_read (m is_little_endian b) h k first_place n ∷ []) count in
    subst (λ z. HoldsPart h h' id is_delta z (m is_little_endian b) rows) (sym u) (here ∙ ap (λ q. Some (parts_before is_delta (h id) q)) (one_is p (parts_read (m is_little_endian b) h k first_place rows) only))

pub use_refused : (s s' : List Keyed) (ts ts' : List IpcField) (i : ℤ) (is_little_endian : Bool) (d : Dictionaries) (most : ℕ) (x : DictionaryBatch) (version : MetadataVersion) (body : List ℕ) (may_replace : Bool) (e : IpcError) → s' ≡ s → ts' ≡ ts → i ≡ x.id
    → (e ≡ Memory) ⊎ ((e ≡ OutOfSpec (InvalidId i)) × (values_of_id (schema_fields s' ts') i ≡ None)) → Refuses e (refusals (dictionary_reading s (ids_of ts) is_little_endian d most x version body may_replace))
use_refused s s' ts ts' i is_little_endian d most x version body may_replace e u v w (inl memory) = memory_refuses e _ memory
use_refused s s' ts ts' i is_little_endian d most x version body may_replace e u v w (inr missing) =
    let a : e ≡ OutOfSpec (InvalidId x.id) = missing.0 ∙ ap (λ z. OutOfSpec (InvalidId z)) w in
    subst (λ y. Refuses y (refusals (dictionary_reading s (ids_of ts) is_little_endian d most x version body may_replace))) (sym a)
    (no_id s (ids_of ts) is_little_endian d most x version body may_replace (ap (values_of_id (schema_fields s ts)) (sym w) ∙ ap (λ z. values_of_id (schema_fields s z) i) (sym v) ∙ ap (λ z. values_of_id (schema_fields z ts') i) (sym u) ∙ missing.1))

pub use_found : (s s' : List Keyed) (ts ts' : List IpcField) (i id : ℤ) (k : Kind) → s' ≡ s → ts' ≡ ts → i ≡ id → values_of_id (schema_fields s' ts') i ≡ Some k → values_of_id (schema_fields s ts) id ≡ Some k
use_found s s' ts ts' i id k u v w e = ap (values_of_id (schema_fields s ts)) (sym w) ∙ ap (λ z. values_of_id (schema_fields s z) i) (sym v) ∙ ap (λ z. values_of_id (schema_fields z ts') i) (sym u) ∙ e

-- what is fetched of the batch is what is of the message
pub fetched_as : (old new : ℕ) (m : Bool → RecordBatch) (is_little_endian other : Bool) (o : Option Kind) (k : Kind) (fs : Fields) (rows : ℕ) → o ≡ Some k → other ≡ is_little_endian → fs ≡ one_column k → new ≤ old + batch_fetched (m other) None fs rows → new ≤ old + dictionary_fetched (m is_little_endian) o rows
fetched_as old new m is_little_endian other o k fs rows e f g h =
    subst (λ o. new ≤ old + dictionary_fetched (m is_little_endian) o rows) (sym e)
    (subst (λ b. new ≤ old + batch_fetched (m b) None (one_column k) rows) f (subst (λ fs. new ≤ old + batch_fetched (m other) None fs rows) g h))

pub if_held : (r : Result (Unit {0}) IpcError) (A B : Type 0) → IfOk r (λ _. A) → (A → B) → IfOk r (λ _. B)
if_held (Ok u) A B a f = f a
if_held (Err e) A B a f = tt

-- ── the uses of a schema ──

pub next_uses : (fs : Fields) (i : ℕ) (x : Child) (old new : List Use) → StandsIn fs i x → old ++ uses_in (dropped i fs) ≡ uses_in fs → new ≡ old ++ uses_of x.kind → new ++ uses_in (dropped (i + 1) fs) ≡ uses_in fs
next_uses fs i x old new e before g =
    ap (λ j. new ++ uses_in (dropped j fs)) (add-one i) ∙ ap (λ us. us ++ uses_in (dropped (suc i) fs)) g ∙ append_assoc old (uses_of x.kind) (uses_in (dropped (suc i) fs))
    ∙ ap (λ us. old ++ us) (sym (ap uses_in e)) ∙ before

pub all_uses : (fs : Fields) (i : ℕ) (us : List Use) → width fs ≤ i → us ++ uses_in (dropped i fs) ≡ uses_in fs → us ≡ uses_in fs
all_uses fs i us h e = sym (append-nil us) ∙ ap (λ gs. us ++ uses_in gs) (sym (dropped_end fs i h)) ∙ e

-- the first use under an id, of those that are left
pub found_here : (id : ℤ) (u : Use) (us : List Use) → same u.id id ≡ true → values_under id (u ∷ us) ≡ Some u.values
found_here id u us e = ap (λ b. if b then Some u.values else values_under id us) e

pub not_here : (id : ℤ) (u : Use) (us : List Use) → same u.id id ≡ false → values_under id (u ∷ us) ≡ values_under id us
not_here id u us e = ap (λ b. if b then Some u.values else values_under id us) e
