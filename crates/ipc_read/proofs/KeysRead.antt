-- Arrays of dictionaries over the parts that are held.
use Rattle.std.proofs.Common.{◌≡◌, ◌⊎◌, inl, inr, ℕ, zero, suc, ◌+◌, ◌*◌, ◌≤◌, List, [], ◌∷◌, ◌++◌, length, map, Bool, true, false, ◌&&◌, Option, Some, None, IfOk, IfErr, IfSome, Result, Ok, Err, ℤ, pos, if◌then◌else◌, refl, sym, ap, ◌∙◌, arith, subst}
use Rattle.arrow_spec.specs.declared.error.IpcError.{IpcError}
use Rattle.arrow_spec.specs.declared.error.IpcError.TheVariants.{Memory}
use Rattle.arrow_spec.specs.declared.message.FieldNode.{FieldNode}
use Rattle.arrow_spec.specs.declared.message.IpcBuffer.{IpcBuffer}
use Rattle.arrow_spec.specs.declared.message.MetadataVersion.{MetadataVersion}
use Rattle.arrow_spec.specs.declared.types.IntegerType.{IntegerType}
use Rattle.arrow_spec.specs.Readings.{IsAmong, Refuses, is_absent}
use Rattle.arrow_spec.specs.Kinds as kind
use Rattle.arrow_spec.specs.Kinds.{Kind, integer, dictionary}
use Rattle.arrow_spec.specs.Counts.{RecordBatch, Place, after, nodes, buffers, views}
use Rattle.arrow_spec.specs.Arrays.{Dictionaries, buf, or_0, from_on, unsigned_in, signed_in, integer_in, integer_width, is_unsigned, found}
use Rattle.arrow_spec.specs.Flat.{num}
use Rattle.arrow_spec.specs.ArrayCells.{cell}
use Rattle.arrow_spec.specs.Faults.{if_sound, node_faults, validity_faults, fixed_faults, key_faults, array_faults, count_faults}
use Rattle.std.specs.Int.{Width, byte_len}
use Rattle.std.specs.List.{sum}
use Rattle.std.specs.Prelude.{not, is_some}
use Rattle.std.specs.Option.{option_map}
use Rattle.std.proofs.lemmas.Bool.{and_from}
use Rattle.arrow_spec.proofs.CellLists.{from_on-same}
use Rattle.arrow_types.specs.NumberLaws.{unsigned_agrees}
use Rattle.arrow_types.specs.Numbers.{signed_from_bytes, unsigned_from_bytes}
use Rattle.arrow_types.specs.Physical.{under_extensions}
use Rattle.arrow_buffers.specs.Leaf.{Leaf}
use Rattle.arrow_buffers.specs.Rows.{has_rows}
use Rattle.arrow_buffers.specs.declared.error.ArrayError.{ArrayError}
use Rattle.arrow_buffers.specs.declared.error.ArrayError.TheVariants.{Key}
use Rattle.arrow_arrays.specs.Carried.{is_carried}
use Rattle.arrow_arrays.specs.Heads.{Indexed, indexed, is_dictionary, values_kind, each_of, have_keys}
use Rattle.arrow_arrays.specs.KeysOf.{indexed_by}
use Rattle.arrow_arrays.specs.EmptyParts.{empty_parts}
use Rattle.arrow_arrays.specs.Parts as parts_spec
use Rattle.arrow_arrays.specs.Parts.{Forest, nested, also, cells_in, kinds_each, rows_each, fault_in, fault_each}
use Rattle.arrow_arrays.specs.PartsOf.{parts_of}
use Rattle.arrow_arrays.specs.declared.array.Array.TheVariants as arrays
use Rattle.arrow_arrays.specs.declared.array.DictionaryArray.{DictionaryArray}
use Rattle.arrow_arrays.specs.declared.keys.DictionaryKeys.{DictionaryKeys}
use Rattle.arrow_arrays.proofs.EmptyParts.{kind-empty, each_itself, dictionary_itself}
use Rattle.arrow_arrays.proofs.Labels.{by_under, is_dictionary_under, values_under}
use Rattle.ipc_fields.specs.IpcFields.{Ids, kind_with}
use Rattle.ipc_fields.specs.Uses.{id_under}
use Rattle.arrow_spec.specs.Needed.{looked_at}
use Rattle.ipc_read_laws.specs.Faults.{read_faults, fetched_at_most, stated_of}
use Rattle.ipc_read_laws.specs.Held.{Held, HoldsCells, AllHeld, AreValuesOf, HasKind}
use Rattle.ipc_read_laws.specs.Laws.{key_refusal, keys_buffers_faults}
use Rattle.ipc_read_laws.specs.PartsRead.{item_bytes, items_read, primitive_read, validity_read, indexed_read, parts_or_empty, parts_under, parts_read, HaveBytes}
use Rattle.ipc_read_laws.specs.PlainKinds.{plain_kind}
use Rattle.ipc_read_laws.proofs.Buffers.{map-from_on, numbers_held}
use Rattle.ipc_read_laws.proofs.Keys.{keys_found, dictionary_fault, only_keys, values_held}
use Rattle.ipc_read_laws.proofs.TreesCells.{cells_read}
use Rattle.ipc_read_laws.proofs.PlainKinds.{nodes_plain, buffers_plain, views_plain}
use Rattle.ipc_read_laws.proofs.Labels.{Label, label_plain}
use Rattle.ipc_read.specs.Held.{is_any_dictionary, ordered_in, id_in, dictionary_as}
use Rattle.ipc_read.specs.Queues.{At, Shortened, ShortenedBy}
use Rattle.ipc_read.specs.Sources.{Answers}
use Rattle.ipc_read_laws.proofs.PlainTypes.{plain_with}
use Rattle.ipc_read.proofs.ColumnIds.{counts_with, carried_with}
use Rattle.ipc_read.proofs.Nested.{wrapped, wrapped_reads, carried_under, array_none, shortened_under}
use Rattle.ipc_read.proofs.OffsetReads.{signed_is}
use Rattle.ipc_read.proofs.Parts.{item_fits}
use Rattle.ipc_read.proofs.Refusals.{memory_refuses, refuses_left, refuses_right, refuses_by, refuses_sound, among_right, both_none, none_of_both}

-- ── kinds of dictionaries that differ by the ids below their values ──

-- what holds by the values' kinds without ids is held of each
pub keys_held : (P : Kind → Forest → Type 0) → ((k l : Kind) (parts : Forest) → plain_kind k ≡ plain_kind l → P k parts → P l parts) → (h : Held) (k : Kind) (i j : Option ℤ) (a b : Ids) → id_under i ≡ id_under j → is_any_dictionary k ≡ true
    → AllHeld P h (kind_with k i a) → AllHeld P h (kind_with k j b)
keys_held P f h (kind.extension name metadata k) i j a b e is v = keys_held P f h k i j a b e is v
keys_held P f h (kind.dictionary t ordered id k) i j a b e is v = subst (λ z. IfSome (h z) (P (kind_with k None b))) e (of_option (h (id_under i)) v)
  where
    of_option : (o : Option Forest) → IfSome o (P (kind_with k None a)) → IfSome o (P (kind_with k None b))
    of_option None w = tt
    of_option (Some parts) w = f (kind_with k None a) (kind_with k None b) parts (plain_with k None a ∙ sym (plain_with k None b)) w
keys_held P f h k i j a b e is v = cc

pub same_kinds : (k l : Kind) (parts : Forest) → plain_kind k ≡ plain_kind l → HasKind k parts → HasKind l parts
same_kinds k l parts e v = subst (λ z. each_of z (kinds_each parts) ≡ true) e v

pub same_values : (k l : Kind) (parts : Forest) → plain_kind k ≡ plain_kind l → AreValuesOf k parts → AreValuesOf l parts
same_values k l parts e v = record { kinds = same_kinds k l parts e v.kinds; sound = v.sound }

-- and they are read alike
pub keys_array_faults : (m : RecordBatch) (d : Dictionaries) (k : Kind) (i j : Option ℤ) (a b : Ids) (p : Place) (rows : ℕ) → id_under i ≡ id_under j → is_any_dictionary k ≡ true
    → array_faults m d (kind_with k i a) p rows ≡ array_faults m d (kind_with k j b) p rows
keys_array_faults m d (kind.extension name metadata k) i j a b p rows e is = keys_array_faults m d k i j a b p rows e is
keys_array_faults m d (kind.dictionary t ordered id k) i j a b p zero e is = refl
keys_array_faults m d (kind.dictionary t ordered id k) i j a b p (suc n) e is =
    ap (λ z. node_faults m p (suc n) ++ if_sound (fixed_faults m p (byte_len (integer_width t)) (suc n)) (key_faults m (found d z) t z p (suc n))) e
keys_array_faults m d k i j a b p rows e is = cc

pub parts_same : (o : Option Forest) (k l : Kind) → plain_kind k ≡ plain_kind l → parts_or_empty o k ≡ parts_or_empty o l
parts_same None k l e = ap (λ z. also (empty_parts z) parts_spec.none) e
parts_same (Some parts) k l e = refl

pub keys_parts : (l : Kind) (m : RecordBatch) (h : Held) (k : Kind) (i j : Option ℤ) (a b : Ids) (p : Place) (rows : ℕ) → id_under i ≡ id_under j → is_any_dictionary k ≡ true
    → parts_under l m h (kind_with k i a) p rows ≡ parts_under l m h (kind_with k j b) p rows
keys_parts l m h (kind.extension name metadata k) i j a b p rows e is = keys_parts l m h k i j a b p rows e is
keys_parts l m h (kind.dictionary t ordered id k) i j a b p rows e is =
    ap (λ z. nested (indexed (indexed_read m l t p rows)) (parts_or_empty (h z) (kind_with k None a))) e
    ∙ ap (nested (indexed (indexed_read m l t p rows))) (parts_same (h (id_under j)) (kind_with k None a) (kind_with k None b) (plain_with k None a ∙ sym (plain_with k None b)))
keys_parts l m h k i j a b p rows e is = cc

pub keys_reads : (m : RecordBatch) (d : Dictionaries) (k : Kind) (i j : Option ℤ) (a b : Ids) (p : Place) (rows : ℕ) → id_under i ≡ id_under j → is_any_dictionary k ≡ true → read_faults m d (kind_with k i a) p rows ≡ read_faults m d (kind_with k j b) p rows
unfolding read_faults
keys_reads m d k i j a b p rows e is =
    ap (λ es. es ++ array_faults m d (kind_with k i a) p rows) (counts_with m k i a p ∙ sym (counts_with m k j b p))
    ∙ ap (λ es. count_faults m (kind_with k j b) p ++ es) (keys_array_faults m d k i j a b p rows e is)

pub keys_parts_read : (m : RecordBatch) (h : Held) (k : Kind) (i j : Option ℤ) (a b : Ids) (p : Place) (rows : ℕ) → id_under i ≡ id_under j → is_any_dictionary k ≡ true → parts_read m h (kind_with k i a) p rows ≡ parts_read m h (kind_with k j b) p rows
keys_parts_read m h k i j a b p rows e is =
    ap (λ l. parts_under l m h (kind_with k i a) p rows) (plain_with k i a ∙ sym (plain_with k j b)) ∙ keys_parts (plain_kind (kind_with k j b)) m h k i j a b p rows e is

pub answers_like : {X Y : Type 0} → (view : X → Y) (r : Result X IpcError) (es fs : List IpcError) (v w : Y) → es ≡ fs → v ≡ w → Answers view r es v → Answers view r fs w
answers_like view r es fs v w e f a = subst (λ x. Answers view r fs x) f (subst (λ x. Answers view r x v) e a)

-- they take no view count, and have no numbers of their own
pub keys_views : (k : Kind) → is_any_dictionary k ≡ true → views k ≡ 0
keys_views (kind.dictionary t ordered id k) is = refl
keys_views (kind.extension name metadata k) is = keys_views k is
keys_views k is = cc

pub keys_bytes : (m : RecordBatch) (k : Kind) (i : Option ℤ) (a : Ids) (p : Place) (rows : ℕ) → is_any_dictionary k ≡ true → HaveBytes m (kind_with k i a) p rows
keys_bytes m (kind.dictionary t ordered id k) i a p rows is = tt
keys_bytes m (kind.extension name metadata k) i a p rows is = keys_bytes m k i a p rows is
keys_bytes m k i a p rows is = cc

pub keys_fetched : (m : RecordBatch) (k : Kind) (i : Option ℤ) (a : Ids) (p : Place) (rows : ℕ) → is_any_dictionary k ≡ true → fetched_at_most m (kind_with k i a) p rows ≡ fetched_at_most m k p rows
keys_fetched m k i a p zero is = refl
keys_fetched m k i a p (suc n) is = ap (stated_of m) (by k is)
  where
    by : (k : Kind) → is_any_dictionary k ≡ true → looked_at m (kind_with k i a) p ≡ looked_at m k p
    by (kind.dictionary t ordered id k) is = refl
    by (kind.extension name metadata k) is = by k is
    by k is = cc

-- ── what is wrong ──

integer_faults : (m : RecordBatch) (t : IntegerType) (p : Place) (rows : ℕ) → array_faults m [] (integer t) p rows ≡ node_faults m p rows ++ keys_buffers_faults m t p rows
integer_faults m t p zero = refl
integer_faults m t p (suc n) = refl

-- what is wrong with the keys' node and buffers is wrong with the array
keys_refused_at : (m : RecordBatch) (d : Dictionaries) (t : IntegerType) (ordered : Bool) (id : ℤ) (k : Kind) (p : Place) (rows : ℕ) (e : IpcError) → Refuses e (read_faults m [] (integer t) p rows) → Refuses e (read_faults m d (dictionary t ordered id k) p rows)
unfolding read_faults count_faults
keys_refused_at m d t ordered id k p zero e r = r
keys_refused_at m d t ordered id k p (suc n) e r =
    refuses_by (count_faults m (integer t) p) (node_faults m p (suc n) ++ fixed_faults m p (byte_len (integer_width t)) (suc n)) (read_faults m d (dictionary t ordered id k) p (suc n)) e
    (λ s. refuses_left (count_faults m (integer t) p) _ e s)
    (λ s. refuses_right (count_faults m (integer t) p) _ e
    (refuses_by (node_faults m p (suc n)) (fixed_faults m p (byte_len (integer_width t)) (suc n)) _ e (λ t. refuses_left (node_faults m p (suc n)) _ e t)
    (λ u. refuses_right (node_faults m p (suc n)) _ e (refuses_sound (fixed_faults m p (byte_len (integer_width t)) (suc n)) _ e u)) s)) r

pub keys_refused : (m : RecordBatch) (d : Dictionaries) (l : Kind) (t : IntegerType) (ordered : Bool) (id : ℤ) (k : Kind) (p : Place) (rows : ℕ) (e : IpcError) → under_extensions l ≡ dictionary t ordered id k → Refuses e (read_faults m [] (integer t) p rows) → Refuses e (read_faults m d l p rows)
keys_refused m d l t ordered id k p rows e u r = wrapped_reads (Refuses e) m d l (dictionary t ordered id k) p rows u (keys_refused_at m d t ordered id k p rows e r)

pub keys_after : (m : RecordBatch) (l : Kind) (t : IntegerType) (ordered : Bool) (id : ℤ) (k : Kind) (p : Place) → under_extensions l ≡ dictionary t ordered id k → after m (integer t) p ≡ after m l p
keys_after m l t ordered id k p u = wrapped (λ l. after m (integer t) p ≡ after m l p) (λ name metadata k h. h) l (dictionary t ordered id k) u refl

pub keys_taken : (m : RecordBatch) (l : Kind) (t : IntegerType) (ordered : Bool) (id : ℤ) (k : Kind) (p : Place) (ns : List FieldNode) (bs : List IpcBuffer) → under_extensions l ≡ dictionary t ordered id k → At m (after m (integer t) p) ns bs → At m (after m l p) ns bs
keys_taken m l t ordered id k p ns bs u a = subst (λ q. At m q ns bs) (keys_after m l t ordered id k p u) a

pub keys_shortened : (l : Kind) (t : IntegerType) (ordered : Bool) (id : ℤ) (k : Kind) (version : MetadataVersion) (ns ns' : List FieldNode) (bs bs' : List IpcBuffer) (vs vs' : List ℤ) → under_extensions l ≡ dictionary t ordered id k → ShortenedBy (integer t) version ns ns' bs bs' vs vs' → ShortenedBy l version ns ns' bs bs' vs vs'
keys_shortened l t ordered id k version ns ns' bs bs' vs vs' u s = shortened_under l (dictionary t ordered id k) version ns ns' bs bs' vs vs' u (record { nodes = s.nodes; buffers = s.buffers; views = s.views })

keys_looked_at : (m : RecordBatch) (l : Kind) (t : IntegerType) (ordered : Bool) (id : ℤ) (k : Kind) (p : Place) (rows : ℕ) → under_extensions l ≡ dictionary t ordered id k → fetched_at_most m (integer t) p rows ≡ fetched_at_most m l p rows
keys_looked_at m l t ordered id k p zero u = refl
keys_looked_at m l t ordered id k p (suc n) u = ap (stated_of m) (wrapped (λ l. looked_at m (integer t) p ≡ looked_at m l p) (λ name metadata k h. h) l (dictionary t ordered id k) u refl)

pub keys_fetched_by : (m : RecordBatch) (l : Kind) (t : IntegerType) (ordered : Bool) (id : ℤ) (k : Kind) (p : Place) (rows x y : ℕ) → under_extensions l ≡ dictionary t ordered id k → x ≤ y + fetched_at_most m (integer t) p rows → x ≤ y + fetched_at_most m l p rows
keys_fetched_by m l t ordered id k p rows x y u h = subst (λ n. x ≤ y + n) (keys_looked_at m l t ordered id k p rows u) h

-- ── the array ──

under_plain : (k : Kind) → under_extensions (plain_kind k) ≡ plain_kind (under_extensions k)
under_plain (kind.extension name metadata k) = under_plain k
under_plain k = refl

dictionary_label : (k : Kind) (t : IntegerType) (ordered : Bool) (id : ℤ) (values : Kind) → under_extensions k ≡ dictionary t ordered id values → Label (plain_kind k) (dictionary t ordered id values)
dictionary_label k t ordered id values u = record { under = under_plain k ∙ ap plain_kind u }

dictionary_parts : (l : Kind) (m : RecordBatch) (h : Held) (k : Kind) (t : IntegerType) (ordered : Bool) (id : ℤ) (values : Kind) (p : Place) (rows : ℕ) → under_extensions k ≡ dictionary t ordered id values
    → nested (indexed (indexed_read m l t p rows)) (parts_or_empty (h id) values) ≡ parts_under l m h k p rows
dictionary_parts l m h k t ordered id values p rows u =
    wrapped (λ k. nested (indexed (indexed_read m l t p rows)) (parts_or_empty (h id) values) ≡ parts_under l m h k p rows) (λ name metadata k g. g) k (dictionary t ordered id values) u refl

-- the fault of parts is the same under each label
fault_as : (m : RecordBatch) (h : Held) (k : Kind) (t : IntegerType) (ordered : Bool) (id : ℤ) (values : Kind) (p : Place) (rows : ℕ) → under_extensions k ≡ dictionary t ordered id values → is_carried values ≡ true → IfSome (h id) (AreValuesOf values)
    → fault_in (parts_read m h (dictionary t ordered id values) p rows) ≡ fault_in (nested (indexed (indexed_read m (plain_kind k) t p rows)) (parts_or_empty (h id) values))
fault_as m h k t ordered id values p rows u c v =
    let cs = parts_or_empty (h id) values in
    let w = values_held (h id) values c v in
    dictionary_fault m (plain_kind (dictionary t ordered id values)) t ordered id values p rows cs (label_plain (dictionary t ordered id values)) w
    ∙ sym (dictionary_fault m (plain_kind k) t ordered id values p rows cs (dictionary_label k t ordered id values u) w)

-- the keys' node and buffers are right
pub record KeysRight (m : RecordBatch) (t : IntegerType) (p : Place) (rows : ℕ) : Type 0 where
  pub counts : count_faults m (integer t) p ≡ []
  pub node : node_faults m p rows ≡ []
  pub buffers : keys_buffers_faults m t p rows ≡ []

keys_right : (m : RecordBatch) (t : IntegerType) (p : Place) (rows : ℕ) → read_faults m [] (integer t) p rows ≡ [] → KeysRight m t p rows
unfolding read_faults
keys_right m t p rows none =
    let a = none_of_both (count_faults m (integer t) p) _ none in
    let b = none_of_both (node_faults m p rows) _ (sym (integer_faults m t p rows) ∙ a.1) in
    record { counts = a.0; node = b.0; buffers = b.1 }

well_at : (m : RecordBatch) (d : Dictionaries) (t : IntegerType) (ordered : Bool) (id : ℤ) (k : Kind) (p : Place) (rows : ℕ) → count_faults m (integer t) p ≡ [] → array_faults m d (dictionary t ordered id k) p rows ≡ [] → read_faults m d (dictionary t ordered id k) p rows ≡ []
unfolding read_faults count_faults
well_at m d t ordered id k p rows a b = both_none (count_faults m (integer t) p) _ a b

refused_at : (m : RecordBatch) (d : Dictionaries) (t : IntegerType) (ordered : Bool) (id : ℤ) (k : Kind) (p : Place) (rows : ℕ) (e : IpcError) → IsAmong (array_faults m d (dictionary t ordered id k) p rows) e → IsAmong (read_faults m d (dictionary t ordered id k) p rows) e
unfolding read_faults
refused_at m d t ordered id k p rows e a = among_right (count_faults m (dictionary t ordered id k) p) _ e a

among_refuses : (b : Bool) (id : ℤ) (es : List IpcError) → IsAmong es (key_refusal b id) → Refuses (key_refusal b id) es
among_refuses true id es a = a
among_refuses false id es a = a

-- the answer of the call that makes it
pub keys_made : (r : Result DictionaryArray IpcError) (m : RecordBatch) (d : Dictionaries) (h : Held) (k : Kind) (t : IntegerType) (ordered : Bool) (id : ℤ) (values : Kind) (p : Place) (rows : ℕ) (keys : Indexed) (cs : Forest) (absent : Bool) (sent : ℤ)
    → under_extensions k ≡ dictionary t ordered id values → is_carried values ≡ true → HoldsCells d h → IfSome (h id) (AreValuesOf values)
    → read_faults m [] (integer t) p rows ≡ [] → keys ≡ indexed_read m (plain_kind k) t p rows → cs ≡ parts_or_empty (h id) values → absent ≡ is_absent (h id) → sent ≡ id
    → IfOk r (λ a. parts_of (arrays.Dictionary a) ≡ nested (indexed keys) cs) → IfOk r (λ _. fault_in (nested (indexed keys) cs) ≡ None)
    → IfErr r (λ e. (e ≡ Memory) ⊎ ((e ≡ key_refusal absent sent) × (fault_in (nested (indexed keys) cs) ≡ Some Key)))
    → Answers (λ a. parts_of (arrays.Dictionary a)) r (read_faults m d k p rows) (parts_read m h k p rows)
keys_made (Ok x) m d h k t ordered id values p rows keys cs absent sent u c holds v none e f g i made fine err =
    let same : nested (indexed keys) cs ≡ nested (indexed (indexed_read m (plain_kind k) t p rows)) (parts_or_empty (h id) values) = ap (λ z. nested (indexed z) cs) e ∙ ap (nested (indexed (indexed_read m (plain_kind k) t p rows))) f in
    let right = keys_right m t p rows none in
    let laws = keys_found m d h t ordered id values p rows holds v c right.node right.buffers in
    let well = well_at m d t ordered id values p rows right.counts (laws.none (fault_as m h k t ordered id values p rows u c v ∙ sym (ap fault_in same) ∙ fine)) in
    record { ok = (wrapped_reads (λ es. es ≡ []) m d k (dictionary t ordered id values) p rows u well, made ∙ same ∙ dictionary_parts (plain_kind k) m h k t ordered id values p rows u); err = tt }
keys_made (Err x) m d h k t ordered id values p rows keys cs absent sent u c holds v none e f g i made fine (inl memory) = record { ok = tt; err = memory_refuses x _ memory }
keys_made (Err x) m d h k t ordered id values p rows keys cs absent sent u c holds v none e f g i made fine (inr bad) =
    let same : nested (indexed keys) cs ≡ nested (indexed (indexed_read m (plain_kind k) t p rows)) (parts_or_empty (h id) values) = ap (λ z. nested (indexed z) cs) e ∙ ap (nested (indexed (indexed_read m (plain_kind k) t p rows))) f in
    let right = keys_right m t p rows none in
    let laws = keys_found m d h t ordered id values p rows holds v c right.node right.buffers in
    let among = (laws.some Key (fault_as m h k t ordered id values p rows u c v ∙ sym (ap fault_in same) ∙ bad.1)).1 in
    record {
      ok = tt;
      err = subst (λ y. Refuses y (read_faults m d k p rows)) (sym (bad.0 ∙ ap (λ b. key_refusal b sent) g ∙ ap (key_refusal (is_absent (h id))) i))
          (wrapped_reads (Refuses (key_refusal (is_absent (h id)) id)) m d k (dictionary t ordered id values) p rows u (among_refuses (is_absent (h id)) id _ (refused_at m d t ordered id values p rows _ among)));
    }

pub absent_is : {A B : Type 0} (f : A → B) (o : Option A) → not (is_some o) ≡ is_absent (option_map f o)
absent_is f None = refl
absent_is f (Some x) = refl

-- ── which parts make it ──

not_not : (b : Bool) → b ≡ not (not b)
not_not true = refl
not_not false = refl

key_alone : (b : Bool) (e : ArrayError) → (if b then Some Key else None) ≡ Some e → e ≡ Key
key_alone true e h = cc
key_alone false e h = cc

-- keys of the type over sound parts of the values' kind have no fault but that one of them is none of their rows
pub only_key : (d : Indexed) (cs : Forest) (e : ArrayError) → is_dictionary d.index d.kind ≡ true → each_of (values_kind d.kind) (kinds_each cs) ≡ true → has_rows d.validity (length d.keys) ≡ true → fault_each cs ≡ None → fault_in (nested (indexed d) cs) ≡ Some e → e ≡ Key
only_key d cs e keyed values marks sound fault =
    let good = have_keys (sum (rows_each cs)) d.keys d.validity in
    key_alone (not good) e (sym (only_keys (is_dictionary d.index d.kind && each_of (values_kind d.kind) (kinds_each cs)) _ good (not good) (fault_each cs) (and_from (is_dictionary d.index d.kind) _ keyed values) marks (not_not good) sound) ∙ fault)

pub dictionary_keys : (k : Kind) (t : IntegerType) (values : Kind) → under_extensions k ≡ dictionary_as k t values → is_dictionary t k ≡ true
dictionary_keys k t values u = by_under (is_dictionary t) (is_dictionary_under t) k (dictionary_as k t values) u ∙ dictionary_itself t (ordered_in k) (id_in k) values

pub dictionary_values : (k : Kind) (t : IntegerType) (values : Kind) → under_extensions k ≡ dictionary_as k t values → values_kind k ≡ values
dictionary_values k t values u = by_under values_kind values_under k (dictionary_as k t values) u

pub dictionary_carried : (k : Kind) (t : IntegerType) (values : Kind) → under_extensions k ≡ dictionary_as k t values → is_carried k ≡ true → is_carried values ≡ true
dictionary_carried k t values u c = sym (carried_under k ∙ ap is_carried u) ∙ c

pub dictionary_is : (k : Kind) (t : IntegerType) (values : Kind) → under_extensions k ≡ dictionary_as k t values → is_any_dictionary k ≡ true
dictionary_is k t values u = wrapped (λ k. is_any_dictionary k ≡ true) (λ name metadata k g. g) k (dictionary_as k t values) u refl

-- each part is of the values' kind, also where none is held
pub parts_kind : (o : Option Forest) (k : Kind) → IfSome o (HasKind k) → each_of (plain_kind k) (kinds_each (parts_or_empty o k)) ≡ true
parts_kind None k v = ap (λ x. each_of (plain_kind k) (x ∷ [])) (kind-empty (plain_kind k) (plain_kind k)) ∙ each_itself (plain_kind k)
parts_kind (Some parts) k v = v

-- and those that are held are sound
pub held_sound : (o : Option Forest) (k : Kind) → IfSome o (HasKind k) → fault_each (parts_or_empty o k) ≡ None → IfSome o (AreValuesOf k)
held_sound None k v s = tt
held_sound (Some parts) k v s = record { kinds = v; sound = s }

-- ── the keys ──

none_or : (x : Option ℕ) (y : ℕ) → x ≡ Some y → or_0 x ≡ y
none_or None y h = cc
none_or (Some n) y h = cc

unsigned_is : (m : RecordBatch) (w : Width) (i j : ℕ) → byte_len w * j + byte_len w ≤ length (buf m i) → unsigned_from_bytes w m.order (item_bytes m i (byte_len w) j) ≡ unsigned_in m w i j
unfolding unsigned_in
unsigned_is m w i j h = sym (none_or (num (buf m i) (byte_len w * j) w m.order) _ (unsigned_agrees w (buf m i) (byte_len w * j) m.order h))

-- where nothing is wrong with the buffers, there are as many numbers as rows
keys_fit : (m : RecordBatch) (t : IntegerType) (p : Place) (rows : ℕ) → keys_buffers_faults m t p rows ≡ [] → byte_len (integer_width t) * rows ≤ length (buf m (p.buffer + 1))
keys_fit m t p zero h = omega arith
keys_fit m t p (suc n) h = numbers_held m (p.buffer + 1) (byte_len (integer_width t)) (suc n) (none_of_both (validity_faults m p (suc n)) _ h).1

signed_keys : (m : RecordBatch) (t : IntegerType) (p : Place) (rows : ℕ) → is_unsigned t ≡ false → keys_buffers_faults m t p rows ≡ []
    → items_read (signed_from_bytes (integer_width t)) (byte_len (integer_width t)) m (p.buffer + 1) rows ≡ from_on (λ j. integer_in m t (p.buffer + 1) j) 0 rows
signed_keys m t p rows s h =
    let w = integer_width t in
    let i = p.buffer + 1 in
    from_on-same (λ j. signed_from_bytes w m.order (item_bytes m i (byte_len w) j)) (λ j. integer_in m t i j) 0 rows
    (λ j below. signed_is m w i j (item_fits (byte_len w) j rows (length (buf m i)) (omega (arith, below)) (keys_fit m t p rows h)) ∙ sym (ap (λ b. if b then pos (unsigned_in m w i j) else signed_in m w i j) s))

unsigned_keys : (m : RecordBatch) (t : IntegerType) (p : Place) (rows : ℕ) → is_unsigned t ≡ true → keys_buffers_faults m t p rows ≡ []
    → map pos (items_read (unsigned_from_bytes (integer_width t)) (byte_len (integer_width t)) m (p.buffer + 1) rows) ≡ from_on (λ j. integer_in m t (p.buffer + 1) j) 0 rows
unsigned_keys m t p rows s h =
    let w = integer_width t in
    let i = p.buffer + 1 in
    map-from_on pos (λ j. unsigned_from_bytes w m.order (item_bytes m i (byte_len w) j)) 0 rows
    ∙ from_on-same (λ j. pos (unsigned_from_bytes w m.order (item_bytes m i (byte_len w) j))) (λ j. integer_in m t i j) 0 rows
    (λ j below. ap pos (unsigned_is m w i j (item_fits (byte_len w) j rows (length (buf m i)) (omega (arith, below)) (keys_fit m t p rows h))) ∙ sym (ap (λ b. if b then pos (unsigned_in m w i j) else signed_in m w i j) s))

keys_are : (m : RecordBatch) (l : Kind) (t : IntegerType) (p : Place) (rows : ℕ) (xs : List ℤ) → xs ≡ from_on (λ j. integer_in m t (p.buffer + 1) j) 0 rows → record { kind = l; index = t; keys = xs; validity = validity_read m p rows } ≡ indexed_read m l t p rows
keys_are m l t p rows xs e = ap (λ ys. record { kind = l; index = t; keys = ys; validity = validity_read m p rows }) e

-- the answer of a call that reads numbers of the keys' type is one of keys
signed_answer : (l : Kind) (t : IntegerType) (m : RecordBatch) (p : Place) (rows : ℕ) (x : Leaf ℤ) (keys : DictionaryKeys) → is_unsigned t ≡ false → indexed_by l keys ≡ record { kind = l; index = t; keys = x.values; validity = x.validity }
    → Answers (λ a. a) (Ok x) (read_faults m [] (integer t) p rows) (primitive_read (signed_from_bytes (integer_width t)) (byte_len (integer_width t)) m (integer t) p rows) → Answers (λ k. indexed_by l k) (Ok keys) (read_faults m [] (integer t) p rows) (indexed_read m l t p rows)
signed_answer l t m p rows x keys s e a =
    let right = keys_right m t p rows a.ok.0 in
    record { ok = (a.ok.0, e ∙ ap (λ (y : Leaf ℤ). record { kind = l; index = t; keys = y.values; validity = y.validity }) a.ok.1 ∙ keys_are m l t p rows _ (signed_keys m t p rows s right.buffers)); err = tt }

unsigned_answer : (l : Kind) (t : IntegerType) (m : RecordBatch) (p : Place) (rows : ℕ) (x : Leaf ℕ) (keys : DictionaryKeys) → is_unsigned t ≡ true → indexed_by l keys ≡ record { kind = l; index = t; keys = map pos x.values; validity = x.validity }
    → Answers (λ a. a) (Ok x) (read_faults m [] (integer t) p rows) (primitive_read (unsigned_from_bytes (integer_width t)) (byte_len (integer_width t)) m (integer t) p rows) → Answers (λ k. indexed_by l k) (Ok keys) (read_faults m [] (integer t) p rows) (indexed_read m l t p rows)
unsigned_answer l t m p rows x keys s e a =
    let right = keys_right m t p rows a.ok.0 in
    record { ok = (a.ok.0, e ∙ ap (λ (y : Leaf ℕ). record { kind = l; index = t; keys = map pos y.values; validity = y.validity }) a.ok.1 ∙ keys_are m l t p rows _ (unsigned_keys m t p rows s right.buffers)); err = tt }

-- the same where the type is known to be one
pub signed_keys_read : (l : Kind) (t s : IntegerType) (m : RecordBatch) (p : Place) (rows : ℕ) (x : Leaf ℤ) (keys : DictionaryKeys) → t ≡ s → is_unsigned s ≡ false → indexed_by l keys ≡ record { kind = l; index = s; keys = x.values; validity = x.validity }
    → Answers (λ a. a) (Ok x) (read_faults m [] (integer t) p rows) (primitive_read (signed_from_bytes (integer_width s)) (byte_len (integer_width s)) m (integer t) p rows) → Answers (λ k. indexed_by l k) (Ok keys) (read_faults m [] (integer t) p rows) (indexed_read m l t p rows)
signed_keys_read l t s m p rows x keys e u i a =
    subst (λ t. Answers (λ a. a) (Ok x) (read_faults m [] (integer t) p rows) (primitive_read (signed_from_bytes (integer_width s)) (byte_len (integer_width s)) m (integer t) p rows) → Answers (λ k. indexed_by l k) (Ok keys) (read_faults m [] (integer t) p rows) (indexed_read m l t p rows))
    (sym e) (signed_answer l s m p rows x keys u i) a

pub unsigned_keys_read : (l : Kind) (t s : IntegerType) (m : RecordBatch) (p : Place) (rows : ℕ) (x : Leaf ℕ) (keys : DictionaryKeys) → t ≡ s → is_unsigned s ≡ true → indexed_by l keys ≡ record { kind = l; index = s; keys = map pos x.values; validity = x.validity }
    → Answers (λ a. a) (Ok x) (read_faults m [] (integer t) p rows) (primitive_read (unsigned_from_bytes (integer_width s)) (byte_len (integer_width s)) m (integer t) p rows) → Answers (λ k. indexed_by l k) (Ok keys) (read_faults m [] (integer t) p rows) (indexed_read m l t p rows)
unsigned_keys_read l t s m p rows x keys e u i a =
    subst (λ t. Answers (λ a. a) (Ok x) (read_faults m [] (integer t) p rows) (primitive_read (unsigned_from_bytes (integer_width s)) (byte_len (integer_width s)) m (integer t) p rows) → Answers (λ k. indexed_by l k) (Ok keys) (read_faults m [] (integer t) p rows) (indexed_read m l t p rows))
    (sym e) (unsigned_answer l s m p rows x keys u i) a

-- what was taken of the queues is told of a kind that is known to be another
pub shortened_of : (k l : Kind) (version : MetadataVersion) (ns ns' : List FieldNode) (bs bs' : List IpcBuffer) (vs : List ℤ) → k ≡ l → ShortenedBy k version ns ns' bs bs' vs vs → ShortenedBy l version ns ns' bs bs' vs vs
shortened_of k l version ns ns' bs bs' vs e s = subst (λ k. ShortenedBy k version ns ns' bs bs' vs vs) e s

-- and without ids
pub shortened_with : (k : Kind) (id : Option ℤ) (below : Ids) (version : MetadataVersion) (ns ns' : List FieldNode) (bs bs' : List IpcBuffer) (vs vs' : List ℤ) → ShortenedBy k version ns ns' bs bs' vs vs' → ShortenedBy (kind_with k id below) version ns ns' bs bs' vs vs'
shortened_with k id below version ns ns' bs bs' vs vs' s = record {
  nodes = subst (λ n. Shortened ns n ns') (sym (sym (nodes_plain (kind_with k id below)) ∙ ap nodes (plain_with k id below) ∙ nodes_plain k)) s.nodes;
  buffers = subst (λ n. Shortened bs n bs') (sym (sym (buffers_plain version vs (kind_with k id below) 0) ∙ ap (λ l. buffers version vs l 0) (plain_with k id below) ∙ buffers_plain version vs k 0)) s.buffers;
  views = subst (λ n. Shortened vs n vs') (sym (sym (views_plain (kind_with k id below)) ∙ ap views (plain_with k id below) ∙ views_plain k)) s.views;
}

-- ── cells ──

keys_cells : (r : Result DictionaryArray IpcError) (m : RecordBatch) (d : Dictionaries) (h : Held) (k : Kind) (i : Option ℤ) (a : Ids) (p : Place) (rows : ℕ) → is_carried k ≡ true → is_any_dictionary k ≡ true → HoldsCells d h → IfOk r (λ _. AllHeld AreValuesOf h (kind_with k i a))
    → Answers (λ x. parts_of (arrays.Dictionary x)) r (read_faults m d (kind_with k i a) p rows) (parts_read m h (kind_with k i a) p rows)
    → Answers (λ x. cells_in (parts_of (arrays.Dictionary x))) r (read_faults m d (kind_with k i a) p rows) (from_on (cell m d (kind_with k i a) p) 0 rows)
keys_cells (Err e) m d h k i a p rows c is holds v x = record { ok = tt; err = x.err }
keys_cells (Ok y) m d h k i a p rows c is holds v x =
    record { ok = (x.ok.0, ap cells_in x.ok.1 ∙ cells_read m d h (kind_with k i a) p rows holds v (carried_with k i a ∙ c) (keys_bytes m k i a p rows is) (array_none m d (kind_with k i a) p rows x.ok.0)); err = tt }

-- the same where the id was passed on
pub keys_cells_as : (r : Result DictionaryArray IpcError) (m : RecordBatch) (d : Dictionaries) (h : Held) (k : Kind) (sent id : ℤ) (a : Ids) (p : Place) (rows : ℕ) → sent ≡ id → is_carried k ≡ true → is_any_dictionary k ≡ true → HoldsCells d h → IfOk r (λ _. AllHeld AreValuesOf h (kind_with k (Some sent) a))
    → Answers (λ x. parts_of (arrays.Dictionary x)) r (read_faults m d (kind_with k (Some sent) a) p rows) (parts_read m h (kind_with k (Some sent) a) p rows)
    → Answers (λ x. cells_in (parts_of (arrays.Dictionary x))) r (read_faults m d (kind_with k (Some id) a) p rows) (from_on (cell m d (kind_with k (Some id) a) p) 0 rows)
keys_cells_as r m d h k sent id a p rows e c is holds v x =
    subst (λ z. Answers (λ x. cells_in (parts_of (arrays.Dictionary x))) r (read_faults m d (kind_with k (Some z) a) p rows) (from_on (cell m d (kind_with k (Some z) a) p) 0 rows)) e (keys_cells r m d h k (Some sent) a p rows c is holds v x)
