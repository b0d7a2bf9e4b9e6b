-- Dictionaries as they are read: their parts have as many rows as cells, and a key is refused where it is none of the rows.
use Rattle.std.proofs.Common.{◌≡◌, ℕ, zero, suc, ◌+◌, ◌<◌, [], ◌∷◌, ◌++◌, ◌&&◌, Bool, true, false, Option, Some, None, ℤ, pos, negsuc, length, not, refl, sym, ap, ◌∙◌, subst, arith, length-append, inl}
use Rattle.std.specs.Prelude.{if◌then◌else◌}
use Rattle.std.specs.Int.{byte_len}
use Rattle.std.specs.List.{sum}
use Rattle.std.specs.Option.{IfSome, option_map}
use Rattle.std.proofs.lemmas.Bool.{and_from, le-leb}
use Rattle.std.proofs.lemmas.List.Sums.{sum_by-cons}
use Rattle.arrow_spec.specs.declared.error.IpcError.{IpcError}
use Rattle.arrow_spec.specs.declared.error.IpcError.TheVariants.{OutOfSpec}
use Rattle.arrow_spec.specs.declared.error.OutOfSpecKind.TheVariants.{InvalidId, InvalidKey}
use Rattle.arrow_spec.specs.declared.types.IntegerType.{IntegerType}
use Rattle.arrow_spec.specs.Readings.{IsAmong, is_absent}
use Rattle.arrow_spec.specs.Kinds as kind
use Rattle.arrow_spec.specs.Kinds.{Kind, Fields, dictionary, dictionary_count, dictionary_counts}
use Rattle.arrow_spec.specs.Cells.{Cell}
use Rattle.arrow_spec.specs.Counts.{RecordBatch, Place}
use Rattle.arrow_spec.specs.Arrays.{Dictionaries, found, keyed, valid, integer_in, integer_width, from_on}
use Rattle.arrow_spec.specs.ArrayCells.{cell}
use Rattle.arrow_spec.specs.Faults.{cause, if_sound, some_row, some_valid_row, node_faults, fixed_faults, key_faults, array_faults}
use Rattle.arrow_spec.proofs.Fewer.{cause-none, none_first, none_second, sound_first}
use Rattle.arrow_buffers.specs.declared.error.ArrayError.{ArrayError}
use Rattle.arrow_buffers.specs.declared.error.ArrayError.TheVariants.{DataType, Length, Offsets as BadOffsets, UnionType, Key}
use Rattle.arrow_buffers.specs.Rows.{has_rows, is_valid, masked}
use Rattle.arrow_buffers.proofs.Parts.{length-from_on}
use Rattle.arrow_arrays.specs.Carried.{is_carried}
use Rattle.arrow_arrays.specs.EmptyParts.{empty_parts}
use Rattle.arrow_arrays.specs.Heads.{indexed, is_dictionary, values_kind, each_of, is_bad_key, have_keys, number_at, joined, indexed_cell}
use Rattle.arrow_arrays.specs.Parts.{Forest, nested, none, also, cells_in, rows_in, kinds_each, rows_each, cells_each, fault_in, fault_each, either}
use Rattle.arrow_arrays.proofs.EmptyParts.{kind-empty, rows-empty, sound-empty, cells-empty, each_itself, dictionary_itself}
use Rattle.arrow_arrays.proofs.Sliced.{neither, length-cells}
use Rattle.ipc_read_laws.specs.Held.{Held, none_held, HoldsCells, AllHeld, AllHeldIn, AreValuesOf}
use Rattle.ipc_read_laws.specs.Laws.{KeysAreFound, key_refusal, keys_buffers_faults}
use Rattle.ipc_read_laws.specs.PartsRead.{validity_read, indexed_read, parts_or_empty, parts_read}
use Rattle.ipc_read_laws.specs.PlainKinds.{plain_kind}
use Rattle.ipc_read_laws.proofs.Buffers.{get-told, some_row-same}
use Rattle.ipc_read_laws.proofs.CellLaws.{masked_same}
use Rattle.ipc_read_laws.proofs.Labels.{Label, label_plain, label_values, label_dictionary}
use Rattle.ipc_read_laws.proofs.PlainKinds.{carried_plain, none_left}
use Rattle.ipc_read_laws.proofs.Trees.{SoundAs, both_none}
use Rattle.ipc_read_laws.proofs.Validities.{has_rows-read, valid-read}

-- ── what is held ──

-- what holds of parts that are held holds under another predicate that it implies
mutual
  pub held_then : (P Q : Kind → Forest → Type 0) (h : Held) → ((k : Kind) (parts : Forest) → P k parts → Q k parts) → (k : Kind) → AllHeld P h k → AllHeld Q h k
  held_then P Q h f (kind.«list» o fs) v = held_then_in P Q h f fs v
  held_then P Q h f (kind.fixed_size_list size fs) v = held_then_in P Q h f fs v
  held_then P Q h f (kind.struct fs) v = held_then_in P Q h f fs v
  held_then P Q h f (kind.map sorted fs) v = held_then_in P Q h f fs v
  held_then P Q h f (kind.union mode stated ids fs) v = held_then_in P Q h f fs v
  held_then P Q h f (kind.dictionary t ordered id k) v = of_option (h id) v
    where
      of_option : (o : Option Forest) → IfSome o (P k) → IfSome o (Q k)
      of_option None w = tt
      of_option (Some parts) w = f k parts w
  held_then P Q h f (kind.extension name metadata k) v = held_then P Q h f k v
  held_then P Q h f k v = tt

  pub held_then_in : (P Q : Kind → Forest → Type 0) (h : Held) → ((k : Kind) (parts : Forest) → P k parts → Q k parts) → (fs : Fields) → AllHeldIn P h fs → AllHeldIn Q h fs
  held_then_in P Q h f kind.none v = tt
  held_then_in P Q h f (kind.field name nullable metadata k others) v = (held_then P Q h f k v.0, held_then_in P Q h f others v.1)

-- where no dictionary was read none is held, and a kind without dictionaries asks for none
pub holds_none : HoldsCells [] none_held
holds_none id = refl

mutual
  pub held_without : (P : Kind → Forest → Type 0) (h : Held) (k : Kind) → dictionary_count k ≡ 0 → AllHeld P h k
  held_without P h (kind.«list» o fs) e = fields_held_without P h fs e
  held_without P h (kind.fixed_size_list size fs) e = fields_held_without P h fs e
  held_without P h (kind.struct fs) e = fields_held_without P h fs e
  held_without P h (kind.map sorted fs) e = fields_held_without P h fs e
  held_without P h (kind.union mode stated ids fs) e = fields_held_without P h fs e
  held_without P h (kind.dictionary t ordered id k) e = cc
  held_without P h (kind.extension name metadata k) e = held_without P h k e
  held_without P h k e = tt

  pub fields_held_without : (P : Kind → Forest → Type 0) (h : Held) (fs : Fields) → dictionary_counts fs ≡ 0 → AllHeldIn P h fs
  fields_held_without P h kind.none e = tt
  fields_held_without P h (kind.field name nullable metadata k others) e =
      let s = none_left (dictionary_count k) (dictionary_counts others) e in
      (held_without P h k s.0, fields_held_without P h others s.1)

-- also where none is, the parts are of the kind of the values and sound
pub values_held : (o : Option Forest) (k : Kind) → is_carried k ≡ true → IfSome o (λ parts. AreValuesOf k parts) → AreValuesOf k (parts_or_empty o k)
values_held None k c v =
    let l = plain_kind k in
    record {
      kinds = ap (λ x. each_of l (x ∷ [])) (kind-empty l l) ∙ each_itself l;
      sound = both_none (fault_in (empty_parts l)) None (sound-empty l l refl (carried_plain k ∙ c)) refl;
    }
values_held (Some parts) k c v = v

-- parts that are sound have as many cells as rows
pub length-joined : (cs : Forest) → fault_each cs ≡ None → length (joined (cells_each cs)) ≡ sum (rows_each cs)
length-joined none f = refl
length-joined (also p cs) f =
    let s = neither (fault_in p) (fault_each cs) f in
    length-append (cells_in p) (joined (cells_each cs))
    ∙ omega (arith, length-cells p s.0, length-joined cs s.1, sum_by-cons (λ n. n) (rows_in p) (rows_each cs))

none_rows : (k : Kind) → sum (rows_each (parts_or_empty None k)) ≡ 0
none_rows k = ap (λ n. sum (n ∷ [])) (rows-empty (plain_kind k) (plain_kind k))

-- ── keys ──

key_told : (m : RecordBatch) (l : Kind) (t : IntegerType) (p : Place) (rows row : ℕ) → row < rows → number_at (indexed_read m l t p rows).keys row ≡ integer_in m t (p.buffer + 1) row
key_told m l t p rows row lt = let e : 0 + row ≡ row = omega arith in get-told (λ j. integer_in m t (p.buffer + 1) j) 0 rows row (pos 0) lt ∙ ap (λ j. integer_in m t (p.buffer + 1) j) e

pub keys_count : (m : RecordBatch) (l : Kind) (t : IntegerType) (p : Place) (rows : ℕ) → length (indexed_read m l t p rows).keys ≡ rows
keys_count m l t p rows = length-from_on (λ j. integer_in m t (p.buffer + 1) j) 0 rows

-- a key of a row that is not null is none of so many rows
abbrev bad_keys : RecordBatch → IntegerType → Place → ℕ → ℕ → Bool
bad_keys m t p rows held = some_valid_row m p (λ row. is_bad_key held (integer_in m t (p.buffer + 1) row)) rows

keys_read : (m : RecordBatch) (l : Kind) (t : IntegerType) (p : Place) (rows held : ℕ) → have_keys held (indexed_read m l t p rows).keys (validity_read m p rows) ≡ not (bad_keys m t p rows held)
keys_read m l t p rows held =
    let mine : ℕ → Bool = λ row. is_valid (validity_read m p rows) row && is_bad_key held (number_at (indexed_read m l t p rows).keys row) in
    let told : ℕ → Bool = λ row. valid m p row && is_bad_key held (integer_in m t (p.buffer + 1) row) in
    let same : (row : ℕ) → row < rows → mine row ≡ told row = λ row lt.
    ap (λ b. b && is_bad_key held (number_at (indexed_read m l t p rows).keys row)) (valid-read m p rows row lt) ∙ ap (λ z. valid m p row && is_bad_key held z) (key_told m l t p rows row lt) in
    ap (λ n. not (some_row mine n)) (keys_count m l t p rows) ∙ ap not (some_row-same mine told rows same)

-- each key is none of no rows
none_good : (held : ℕ) (key : ℤ) → held ≡ 0 → true ≡ is_bad_key held key
none_good held (pos n) e = sym (le-leb held n (omega (arith, e)))
none_good held (negsuc n) e = refl

keys_of : (m : RecordBatch) (o : Option Forest) (t : IntegerType) (id : ℤ) (k : Kind) (p : Place) (rows : ℕ) → IfSome o (λ parts. AreValuesOf k parts)
    → key_faults m (option_map (λ parts. joined (cells_each parts)) o) t id p rows ≡ cause (bad_keys m t p rows (sum (rows_each (parts_or_empty o k)))) (key_refusal (is_absent o) id)
unfolding key_faults
keys_of m None t id k p rows v =
    let held = sum (rows_each (parts_or_empty None k)) in
    let told : ℕ → Bool = λ row. valid m p row && true in
    let mine : ℕ → Bool = λ row. valid m p row && is_bad_key held (integer_in m t (p.buffer + 1) row) in
    ap (λ b. cause b (OutOfSpec (InvalidId id))) (some_row-same told mine rows (λ row lt. ap (λ b. valid m p row && b) (none_good held (integer_in m t (p.buffer + 1) row) (none_rows k))))
keys_of m (Some parts) t id k p rows v = ap (λ n. cause (bad_keys m t p rows n) (OutOfSpec InvalidKey)) (length-joined parts v.sound)

-- what is wrong with keys is that one of a row that is not null is none of the rows of the parts
keys_faults : (m : RecordBatch) (d : Dictionaries) (h : Held) (t : IntegerType) (id : ℤ) (k : Kind) (p : Place) (rows : ℕ) → HoldsCells d h → IfSome (h id) (λ parts. AreValuesOf k parts)
    → key_faults m (found d id) t id p rows ≡ cause (bad_keys m t p rows (sum (rows_each (parts_or_empty (h id) k)))) (key_refusal (is_absent (h id)) id)
keys_faults m d h t id k p rows c v = ap (λ f. key_faults m f t id p rows) (c id) ∙ keys_of m (h id) t id k p rows v

-- and with a dictionary, where nothing is with its node and buffers
dictionary_faults : (m : RecordBatch) (d : Dictionaries) (h : Held) (t : IntegerType) (ordered : Bool) (id : ℤ) (k : Kind) (p : Place) (rows : ℕ) → HoldsCells d h → IfSome (h id) (λ parts. AreValuesOf k parts)
    → node_faults m p rows ≡ [] → keys_buffers_faults m t p rows ≡ [] → array_faults m d (dictionary t ordered id k) p rows ≡ cause (bad_keys m t p rows (sum (rows_each (parts_or_empty (h id) k)))) (key_refusal (is_absent (h id)) id)
dictionary_faults m d h t ordered id k p zero c v node buffers = ap (λ es. es ++ []) node
dictionary_faults m d h t ordered id k p (suc n) c v node buffers =
    let keys = key_faults m (found d id) t id p (suc n) in
    ap (λ es. es ++ if_sound (fixed_faults m p (byte_len (integer_width t)) (suc n)) keys) node
    ∙ ap (λ es. if_sound es keys) buffers
    ∙ keys_faults m d h t id k p (suc n) c v

-- ── the array ──

pub only_keys : (s v k b : Bool) (e : Option ArrayError) → s ≡ true → v ≡ true → k ≡ not b → e ≡ None
    → either (if not s then Some DataType else (if not (v && true) then Some Length else (if not true then Some BadOffsets else (if not true then Some UnionType else (if not k then Some Key else None))))) e ≡ (if b then Some Key else None)
only_keys s v k true None p q r f = rw (p, q, r) refl
only_keys s v k false None p q r f = rw (p, q, r) refl
only_keys s v k b (Some x) p q r f = cc

-- what is found in the parts is such a key
pub dictionary_fault : (m : RecordBatch) (l : Kind) (t : IntegerType) (ordered : Bool) (id : ℤ) (k : Kind) (p : Place) (rows : ℕ) (cs : Forest) → Label l (dictionary t ordered id k) → AreValuesOf k cs
    → fault_in (nested (indexed (indexed_read m l t p rows)) cs) ≡ (if bad_keys m t p rows (sum (rows_each cs)) then Some Key else None)
dictionary_fault m l t ordered id k p rows cs e v =
    let dict = dictionary t ordered id k in
    let keyed : is_dictionary t l ≡ true = label_dictionary t l dict e ∙ dictionary_itself t ordered id k in
    let values : each_of (values_kind l) (kinds_each cs) ≡ true = ap (λ x. each_of x (kinds_each cs)) (label_values l dict e) ∙ v.kinds in
    let marks : has_rows (validity_read m p rows) (length (indexed_read m l t p rows).keys) ≡ true = ap (has_rows (validity_read m p rows)) (keys_count m l t p rows) ∙ has_rows-read m p rows in
    only_keys (is_dictionary t l && each_of (values_kind l) (kinds_each cs)) _ _ _ (fault_each cs) (and_from (is_dictionary t l) _ keyed values) marks (keys_read m l t p rows (sum (rows_each cs))) v.sound

none_found : (b : Bool) (e : IpcError) → (if b then Some Key else None) ≡ None → cause b e ≡ []
none_found true e h = cc
none_found false e h = refl

one_found : (b : Bool) (e : IpcError) (x : ArrayError) → (if b then Some Key else None) ≡ Some x → (x ≡ Key) × IsAmong (cause b e) e
one_found true e x h = (cc, inl refl)
one_found false e x h = cc

pub keys_found : KeysAreFound
keys_found m d h t ordered id k p rows c v carried node buffers =
    let dict = dictionary t ordered id k in
    let cs = parts_or_empty (h id) k in
    let refusal = key_refusal (is_absent (h id)) id in
    let fault : fault_in (parts_read m h dict p rows) ≡ (if bad_keys m t p rows (sum (rows_each cs)) then Some Key else None) = dictionary_fault m (plain_kind dict) t ordered id k p rows cs (label_plain dict) (values_held (h id) k carried v) in
    let faults = dictionary_faults m d h t ordered id k p rows c v node buffers in
    record {
      none = λ f. faults ∙ none_found (bad_keys m t p rows (sum (rows_each cs))) refusal (sym fault ∙ f);
      some = λ x f.
          let there = one_found (bad_keys m t p rows (sum (rows_each cs))) refusal x (sym fault ∙ f) in
          (there.0, subst (λ es. IsAmong es refusal) (sym faults) there.1);
    }

-- a dictionary that is not refused is read as sound parts
all_good : (m : RecordBatch) (d : Dictionaries) (h : Held) (t : IntegerType) (ordered : Bool) (id : ℤ) (k : Kind) (p : Place) (rows : ℕ) → HoldsCells d h → IfSome (h id) (λ parts. AreValuesOf k parts)
    → array_faults m d (dictionary t ordered id k) p rows ≡ [] → bad_keys m t p rows (sum (rows_each (parts_or_empty (h id) k))) ≡ false
all_good m d h t ordered id k p zero c v fine = refl
all_good m d h t ordered id k p (suc n) c v fine =
    let own = none_second (node_faults m p (suc n)) _ fine in
    cause-none _ _ (sym (dictionary_faults m d h t ordered id k p (suc n) c v (none_first _ _ fine) (sound_first _ _ own)) ∙ fine)

pub dictionary_sound : (m : RecordBatch) (d : Dictionaries) (h : Held) (l : Kind) (t : IntegerType) (ordered : Bool) (id : ℤ) (k : Kind) (p : Place) (rows : ℕ) → Label l (dictionary t ordered id k) → is_carried k ≡ true → HoldsCells d h → IfSome (h id) (λ parts. AreValuesOf k parts)
    → array_faults m d (dictionary t ordered id k) p rows ≡ [] → SoundAs l rows (nested (indexed (indexed_read m l t p rows)) (parts_or_empty (h id) k))
dictionary_sound m d h l t ordered id k p rows e carried c v fine = record {
  kind_is = refl;
  rows_are = keys_count m l t p rows;
  none = dictionary_fault m l t ordered id k p rows (parts_or_empty (h id) k) e (values_held (h id) k carried v) ∙ ap (λ b. if b then Some Key else None) (all_good m d h t ordered id k p rows c v fine);
}

-- ── cells ──

keyed_held : (o : Option Forest) (k : Kind) (key : ℤ) → is_carried k ≡ true → keyed (Some (joined (cells_each (parts_or_empty o k)))) key ≡ keyed (option_map (λ parts. joined (cells_each parts)) o) key
keyed_held None k key c = ap (λ xs. keyed (Some (xs ++ [])) key) (cells-empty (plain_kind k) (carried_plain k ∙ c))
keyed_held (Some parts) k key c = refl

-- its cells are those of the parts at its keys
pub dictionary_cells : (m : RecordBatch) (d : Dictionaries) (h : Held) (l : Kind) (t : IntegerType) (ordered : Bool) (id : ℤ) (k : Kind) (p : Place) (rows : ℕ) → is_carried k ≡ true → HoldsCells d h
    → cells_in (nested (indexed (indexed_read m l t p rows)) (parts_or_empty (h id) k)) ≡ from_on (cell m d (dictionary t ordered id k) p) 0 rows
dictionary_cells m d h l t ordered id k p rows carried c =
    let css = cells_each (parts_or_empty (h id) k) in
    let read : ℕ → Cell = indexed_cell (indexed_read m l t p rows).keys css in
    ap (λ n. masked (validity_read m p rows) (from_on read 0 n)) (keys_count m l t p rows)
    ∙ masked_same m p rows read (λ row. keyed (found d id) (integer_in m t (p.buffer + 1) row)) (λ row lt v.
    ap (keyed (Some (joined css))) (key_told m l t p rows row lt)
    ∙ keyed_held (h id) k (integer_in m t (p.buffer + 1) row) carried
    ∙ ap (λ f. keyed f (integer_in m t (p.buffer + 1) row)) (sym (c id)))
