-- Children that are read one after another, and structs of them.
use Rattle.std.proofs.Common.{◌≡◌, ℕ, zero, suc, ◌+◌, ◌≤◌, ◌<◌, ◌&&◌, List, [], ◌∷◌, ◌++◌, length, drop, get_or, map, true, false, Option, Some, None, Result, Ok, Err, IfOk, IfSome, Bool, false, nat_eq, nat_lt, refl, sym, ap, ◌∙◌, arith, subst, append_assoc, append-nil, add-one, drop-cons, ℤ}
use Rattle.std.proofs.lemmas.Bool.{and_parts, and_from, eq-eqb}
use Rattle.std.proofs.lemmas.List.{length-map}
use Rattle.arrow_spec.specs.declared.error.IpcError.{IpcError}
use Rattle.arrow_spec.specs.declared.message.FieldNode.{FieldNode}
use Rattle.arrow_spec.specs.declared.message.IpcBuffer.{IpcBuffer}
use Rattle.arrow_spec.specs.declared.message.MetadataVersion.{MetadataVersion}
use Rattle.arrow_spec.specs.declared.types.IntegerType.{IntegerType}
use Rattle.arrow_spec.specs.declared.types.UnionMode.{UnionMode}
use Rattle.arrow_spec.specs.Laws.{AreBytes}
use Rattle.arrow_spec.specs.Readings.{IsAmong, Refuses}
use Rattle.arrow_spec.specs.Kinds as kind
use Rattle.arrow_spec.specs.Kinds.{Kind, Fields, Offsets, none, field, width, struct, extension}
use Rattle.arrow_spec.specs.Counts.{RecordBatch, Place, first_place, after, inside, buffers, views}
use Rattle.arrow_spec.specs.Arrays.{from_on, Dictionaries}
use Rattle.arrow_spec.specs.Schema.{first_is_struct_of_two}
use Rattle.arrow_spec.specs.ArrayCells.{cell}
use Rattle.arrow_spec.specs.Faults.{if_sound, node_faults, validity_faults, counts_faults, count_faults, view_count_faults, array_faults, child_faults, place_in}
use Rattle.arrow_types.specs.Child.{Child, one_field}
use Rattle.arrow_types.specs.KindOf.{kind_of, child_of, fields_of}
use Rattle.arrow_types.specs.KindCode.{kind_eq}
use Rattle.arrow_types.specs.Physical.{under_extensions}
use Rattle.arrow_types.specs.declared.data_type.Field.{Field}
use Rattle.arrow_arrays.specs.declared.array.Array.{Array}
use Rattle.arrow_buffers.specs.declared.error.ArrayError.{ArrayError}
use Rattle.arrow_arrays.specs.Heads.{head_kind, head_rows, is_struct, is_sized, list_size, suits, child_fields, are_of, are_all}
use Rattle.arrow_arrays.specs.LeafKinds.{is_leaf_kind}
use Rattle.arrow_arrays.specs.Parts.{Parts, nested, also, forest, kind_in, rows_in, cells_in, fault_in, fault_each, kinds_each, rows_each, either}
use Rattle.arrow_arrays.specs.PartsOf.{parts_of, all_parts_of, forest_of}
use Rattle.arrow_arrays.specs.Carried.{is_carried, are_carried}
use Rattle.arrow_spec.specs.Needed.{looked_at, looked_at_in, validity_looked_at}
use Rattle.ipc_read_laws.specs.Faults.{read_faults, fetched_at_most, stated_of}
use Rattle.ipc_read_laws.specs.Held.{Held, HoldsCells, HoldsKinds}
use Rattle.ipc_read_laws.specs.PartsRead.{parts_read, parts_under, forest_read, counted_read, numbers_bytes, HaveBytes, AllHaveBytes}
use Rattle.ipc_read_laws.proofs.LayoutLaws.{faults_told}
use Rattle.ipc_read_laws.proofs.Trees.{same_kind}
use Rattle.ipc_read_laws.proofs.TreesCells.{cells_read, plain_bytes}
use Rattle.ipc_read.specs.Batches.{columns_fetched}
use Rattle.ipc_read.specs.ChildRows.{rows_of_each}
use Rattle.ipc_read.specs.Places.{behind, IsBehind, place_faults}
use Rattle.ipc_read.specs.Queues.{Left, AllAt, BatchAt, Shortened, ShortenedBy, short_of}
use Rattle.ipc_read.specs.Held.{is_any_dictionary, dictionary_as}
use Rattle.ipc_read.specs.Lists.{is_any_list, as_lists}
use Rattle.ipc_read.specs.Unions.{is_any_union, union_as}
use Rattle.ipc_read.specs.CountedArrays.{is_any_counted, counted_kind, counted_rows, counted_head}
use Rattle.ipc_read.specs.Readers.{ShortenedByAll}
use Rattle.ipc_read.specs.Sources.{Answers, head_faults, validity_fetched}
use Rattle.ipc_read.proofs.Refusals.{refuses_left, refuses_right, refuses_more, refuses_by, both_none, none_of_both, among_left, among_right}
use Rattle.arrow_types.proofs.DataTypes.{kind_of_child}
use Rattle.ipc_read.proofs.Places.{behind_itself, after_is_behind, fields_behind, wider_refuses, AreNatural, are_natural, none_missing, natural_then, natural_itself, counts_between, first_place_in}
use Rattle.ipc_read.proofs.LeftFields.{dropped, StandsIn, stands_within, dropped_end, next_in, last_in, within_all, place_behind, place_within}
use Rattle.ipc_read.proofs.Passed.{Opens, after_opens, buffers_dropped, only_tables, batch_from_first}
use Rattle.ipc_read.proofs.Shortened.{none_taken, all_taken, taken_more, taken_then}
use Rattle.ipc_read.proofs.Counted.{lacks_in}

-- ── kinds that are read ──

pub carried_leaf : (k : Kind) → is_carried k ≡ true → is_any_counted k ≡ false → is_any_list k ≡ false → is_any_union k ≡ false → is_any_dictionary k ≡ false → is_leaf_kind k ≡ true
carried_leaf (struct fs) h s l u d = cc
carried_leaf (kind.fixed_size_list size fs) h s l u d = cc
carried_leaf (kind.«list» o fs) h s l u d = cc
carried_leaf (kind.map sorted fs) h s l u d = cc
carried_leaf (kind.union mode stated ids fs) h s l u d = cc
carried_leaf (kind.dictionary t ordered id k) h s l u d = cc
carried_leaf (extension name metadata k) h s l u d = carried_leaf k h s l u d
carried_leaf k h s l u d = h

pub carried_under : (k : Kind) → is_carried k ≡ is_carried (under_extensions k)
carried_under (extension name metadata k) = carried_under k
carried_under k = refl

pub counted_carried : (k : Kind) (s : Option ℕ) (fs : Fields) → under_extensions k ≡ counted_kind s fs → is_carried k ≡ true → are_carried fs ≡ true
counted_carried k None fs e h = sym (carried_under k ∙ ap is_carried e) ∙ h
counted_carried k (Some size) fs e h = (and_parts (nat_eq (width fs) 1 && nat_lt 0 size) (are_carried fs) (sym (carried_under k ∙ ap is_carried e) ∙ h)).1

carried_lists : (k : Kind) → is_carried k ≡ true → is_carried (as_lists k) ≡ true
carried_lists (kind.map sorted fs) h =
    let a = and_parts (nat_eq (width fs) 1 && first_is_struct_of_two fs) (are_carried fs) h in
    and_from (nat_eq (width fs) 1) (are_carried fs) (and_parts (nat_eq (width fs) 1) (first_is_struct_of_two fs) a.0).0 a.1
carried_lists (extension name metadata k) h = carried_lists k h
carried_lists k h = h

pub list_carried : (k : Kind) (o : Offsets) (x : Field) → as_lists k ≡ kind.«list» o (one_field (child_of x)) → is_carried k ≡ true → is_carried (kind_of x.dtype) ≡ true
list_carried k o x e h =
    let f : are_carried (one_field (child_of x)) ≡ true = (and_parts (nat_eq (width (one_field (child_of x))) 1) (are_carried (one_field (child_of x))) (sym (ap is_carried e) ∙ carried_lists k h)).1 in
    ap is_carried (sym (kind_of_child x)) ∙ (and_parts (is_carried (child_of x).kind) true f).0

-- what holds of a kind holds of the extensions above it
wrap : (P : Kind → Type 0) → ((name : List ℕ) (metadata : Option (List ℕ)) (k : Kind) → P k → P (extension name metadata k)) → (k : Kind) → P (under_extensions k) → P k
wrap P f (extension name metadata k) h = f name metadata k (wrap P f k h)
wrap P f k h = h

pub wrapped : (P : Kind → Type 0) → ((name : List ℕ) (metadata : Option (List ℕ)) (k : Kind) → P k → P (extension name metadata k)) → (k l : Kind) → under_extensions k ≡ l → P l → P k
wrapped P f k l e h = wrap P f k (subst P (sym e) h)

-- and what holds of lists holds of maps that lie in buffers as they do
lists_wrap : (P : Kind → Type 0) → ((name : List ℕ) (metadata : Option (List ℕ)) (k : Kind) → P k → P (extension name metadata k)) → ((sorted : Bool) (fs : Fields) → P (kind.«list» kind.small fs) → P (kind.map sorted fs)) → (k : Kind) → P (as_lists k) → P k
lists_wrap P f g (extension name metadata k) h = f name metadata k (lists_wrap P f g k h)
lists_wrap P f g (kind.map sorted fs) h = g sorted fs h
lists_wrap P f g k h = h

pub of_lists : (P : Kind → Type 0) → ((name : List ℕ) (metadata : Option (List ℕ)) (k : Kind) → P k → P (extension name metadata k)) → ((sorted : Bool) (fs : Fields) → P (kind.«list» kind.small fs) → P (kind.map sorted fs)) → (k l : Kind) → as_lists k ≡ l → P l → P k
of_lists P f g k l e h = lists_wrap P f g k (subst P (sym e) h)

pub counted_is : (k : Kind) (s : Option ℕ) (fs : Fields) → under_extensions k ≡ counted_kind s fs → child_fields k ≡ fs
counted_is k None fs e = wrapped (λ k. child_fields k ≡ fs) (λ name metadata k h. h) k (struct fs) e refl
counted_is k (Some size) fs e = wrapped (λ k. child_fields k ≡ fs) (λ name metadata k h. h) k (kind.fixed_size_list size fs) e refl

pub counted_suits : (k : Kind) (s : Option ℕ) (fs : Fields) (rows : ℕ) (v : Option (List Bool)) → under_extensions k ≡ counted_kind s fs → is_carried k ≡ true → suits (counted_head s (record { kind = k; rows = rows; validity = v })) ≡ true
counted_suits k None fs rows v e h = wrapped (λ k. is_struct k ≡ true) (λ name metadata k h. h) k (struct fs) e refl
counted_suits k (Some zero) fs rows v e h =
    let a = (and_parts (nat_eq (width fs) 1) false (and_parts (nat_eq (width fs) 1 && false) (are_carried fs) (sym (carried_under k ∙ ap is_carried e) ∙ h)).0).1 in cc
counted_suits k (Some (suc n)) fs rows v e h = wrapped (λ k. is_sized k ≡ true) (λ name metadata k h. h) k (kind.fixed_size_list (suc n) fs) e refl

-- lists of one size have one child, of that size
pub counted_size : (k : Kind) (s : Option ℕ) (fs : Fields) → under_extensions k ≡ counted_kind s fs → IfSome s (λ size. list_size k ≡ size)
counted_size k None fs e = tt
counted_size k (Some size) fs e = wrapped (λ k. list_size k ≡ size) (λ name metadata k h. h) k (kind.fixed_size_list size fs) e refl

eq_of : (a b : ℕ) → nat_eq a b ≡ true → a ≡ b
eq_of a b h = grind (arith, h)

of_width : (fs : Fields) (ps : List Parts) → are_of fs (kinds_each (forest ps)) ≡ true → length ps ≡ width fs
of_width none [] h = refl
of_width none (x ∷ ps) h = cc
of_width (field name nullable metadata k others) [] h = cc
of_width (field name nullable metadata k others) (x ∷ ps) h = ap suc (of_width others ps (and_parts (kind_eq k (kind_in x)) (are_of others (kinds_each (forest ps))) h).1)

pub counted_one : (k : Kind) (s : Option ℕ) (fs : Fields) (xs : List Array) → under_extensions k ≡ counted_kind s fs → is_carried k ≡ true → are_of fs (kinds_each (forest_of xs)) ≡ true → IfSome s (λ size. length xs ≡ 1)
counted_one k None fs xs e h a = tt
counted_one k (Some size) fs xs e h a =
    let b = (and_parts (nat_eq (width fs) 1) (nat_lt 0 size) (and_parts (nat_eq (width fs) 1 && nat_lt 0 size) (are_carried fs) (sym (carried_under k ∙ ap is_carried e) ∙ h)).0).0 in
    sym (length-map xs parts_of) ∙ of_width fs (all_parts_of xs) a ∙ eq_of (width fs) 1 b

-- ── sizes of types ──

abbrev mutual
  pub kind_size : Kind → ℕ
  kind_size (kind.«list» o fs) = suc (fields_size fs)
  kind_size (kind.map sorted fs) = suc (fields_size fs)
  kind_size (kind.fixed_size_list size fs) = suc (fields_size fs)
  kind_size (struct fs) = suc (fields_size fs)
  kind_size (kind.union mode stated ids fs) = suc (fields_size fs)
  kind_size (kind.dictionary t ordered id k) = suc (kind_size k)
  kind_size (extension name metadata k) = kind_size k
  kind_size k = 0

  pub fields_size : Fields → ℕ
  fields_size none = 0
  fields_size (field name nullable metadata k others) = kind_size k + fields_size others

size_under : (k : Kind) → kind_size k ≡ kind_size (under_extensions k)
size_under (extension name metadata k) = size_under k
size_under k = refl

pub counted_tree : (k : Kind) (s : Option ℕ) (fs : Fields) → under_extensions k ≡ counted_kind s fs → kind_size k ≡ suc (fields_size fs)
counted_tree k None fs e = size_under k ∙ ap kind_size e
counted_tree k (Some size) fs e = size_under k ∙ ap kind_size e

pub list_tree : (k : Kind) (o : Offsets) (x : Field) → as_lists k ≡ kind.«list» o (one_field (child_of x)) → kind_size k ≡ suc (kind_size (kind_of x.dtype))
list_tree k o x e =
    let all : kind_size k ≡ suc (kind_size (child_of x).kind + 0) = of_lists (λ k. kind_size k ≡ suc (kind_size (child_of x).kind + 0)) (λ name metadata k h. h) (λ sorted fs h. h) k (kind.«list» o (one_field (child_of x))) e refl in
    omega (arith, all, ap kind_size (kind_of_child x))

pub union_tree : (k : Kind) (mode : UnionMode) (fs : Fields) → under_extensions k ≡ union_as k mode fs → kind_size k ≡ suc (fields_size fs)
union_tree k mode fs e = size_under k ∙ ap kind_size e

pub dictionary_tree : (k : Kind) (t : IntegerType) (values : Kind) → under_extensions k ≡ dictionary_as k t values → kind_size k ≡ suc (kind_size values)
dictionary_tree k t values e = size_under k ∙ ap kind_size e

pub child_size : (cs : List Field) (i : ℕ) (x : Field) → i < length cs → x ≡ get_or cs i x → kind_size (kind_of x.dtype) ≤ fields_size (fields_of cs)
child_size [] i x h e = absurd (omega (arith, h))
child_size (c ∷ cs) zero x h e = let k : (child_of c).kind ≡ kind_of x.dtype = ap (λ f. (child_of f).kind) (sym e) ∙ kind_of_child x in omega (arith, ap kind_size k)
child_size (c ∷ cs) (suc i) x h e = omega (arith, child_size cs i x (omega (arith, h)) e)

pub child_carried : (cs : List Field) (i : ℕ) (x : Field) → i < length cs → x ≡ get_or cs i x → are_carried (fields_of cs) ≡ true → is_carried (kind_of x.dtype) ≡ true
child_carried [] i x h e f = absurd (omega (arith, h))
child_carried (c ∷ cs) zero x h e f =
    let k : (child_of c).kind ≡ kind_of x.dtype = ap (λ y. (child_of y).kind) (sym e) ∙ kind_of_child x in
    ap is_carried (sym k) ∙ (and_parts (is_carried (child_of c).kind) (are_carried (fields_of cs)) f).0
child_carried (c ∷ cs) (suc i) x h e f = child_carried cs i x (omega (arith, h)) e (and_parts (is_carried (child_of c).kind) (are_carried (fields_of cs)) f).1

-- ── what is left of children ──

pub drop_all : {A : Type 0} → (xs : List A) (i : ℕ) → length xs ≤ i → drop i xs ≡ []
drop_all [] zero h = refl
drop_all [] (suc i) h = refl
drop_all (x ∷ xs) zero h = absurd (omega (arith, h))
drop_all (x ∷ xs) (suc i) h = drop_all xs i (omega (arith, h))

-- children are read as a forest is
abbrev pub trees_read : RecordBatch → Held → Fields → Place → (Place → ℕ) → List Parts
trees_read m h none p rows = []
trees_read m h (field name nullable metadata k others) p rows = parts_read m h k p (rows p) ∷ trees_read m h others (after m k p) rows

forest_is : (m : RecordBatch) (h : Held) (fs : Fields) (p : Place) (rows : Place → ℕ) → forest (trees_read m h fs p rows) ≡ forest_read m h fs p rows
forest_is m h none p rows = refl
forest_is m h (field name nullable metadata k others) p rows = ap (also (parts_read m h k p (rows p))) (forest_is m h others (after m k p) rows)

-- the first children were read as these parts, and nothing is wrong with them
pub record ChildrenDone (m : RecordBatch) (d : Dictionaries) (h : Held) (fs : Fields) (i : ℕ) (rows : Place → ℕ) (p : Place) (ps : List Parts) : Type 0 where
  pub natural : AreNatural m p (place_in m fs i p)
  pub none : child_faults m d fs p rows ≡ child_faults m d (dropped i fs) (place_in m fs i p) rows
  pub parts : trees_read m h fs p rows ≡ ps ++ trees_read m h (dropped i fs) (place_in m fs i p) rows

-- and their numbers are of bytes where those of the others are
abbrev pub BytesDone : RecordBatch → Fields → ℕ → (Place → ℕ) → Place → Type 0
BytesDone m fs i rows p = AllHaveBytes m (dropped i fs) (place_in m fs i p) rows → AllHaveBytes m fs p rows

pub none_children : (m : RecordBatch) (d : Dictionaries) (h : Held) (fs : Fields) (rows : Place → ℕ) (p : Place) → ChildrenDone m d h fs 0 rows p []
none_children m d h fs rows p =
    let e = first_place_in m fs p in
    record {
      natural = subst (λ q. AreNatural m p q) (sym e) (natural_itself m p);
      none = ap (λ q. child_faults m d fs q rows) (sym e);
      parts = ap (λ q. trees_read m h fs q rows) (sym e);
    }

pub none_bytes : (m : RecordBatch) (fs : Fields) (rows : Place → ℕ) (p : Place) → BytesDone m fs 0 rows p
none_bytes m fs rows p = subst (λ q. AllHaveBytes m fs q rows → AllHaveBytes m fs p rows) (sym (first_place_in m fs p)) (λ b. b)

pub counts_none : (m : RecordBatch) (d : Dictionaries) (k : Kind) (p : Place) (rows : ℕ) → read_faults m d k p rows ≡ [] → count_faults m k p ≡ []
unfolding read_faults
counts_none m d k p rows h = (none_of_both (count_faults m k p) _ h).0

pub array_none : (m : RecordBatch) (d : Dictionaries) (k : Kind) (p : Place) (rows : ℕ) → read_faults m d k p rows ≡ [] → array_faults m d k p rows ≡ []
unfolding read_faults
array_none m d k p rows h = (none_of_both (count_faults m k p) _ h).1

pub views_none : (m : RecordBatch) (d : Dictionaries) (k : Kind) (p : Place) (rows : ℕ) → read_faults m d k p rows ≡ [] → view_count_faults m k p ≡ []
unfolding count_faults
views_none m d k p rows h = (none_of_both (counts_faults m (after m k p)) _ (counts_none m d k p rows h)).1

-- the first of the fields that are left
left_faults : (m : RecordBatch) (d : Dictionaries) (fs : Fields) (i : ℕ) (rows : Place → ℕ) (x : Child) (q : Place) → StandsIn fs i x
    → child_faults m d (dropped i fs) q rows ≡ array_faults m d x.kind q (rows q) ++ if_sound (view_count_faults m x.kind q) (child_faults m d (dropped (suc i) fs) (after m x.kind q) rows)
left_faults m d fs i rows x q e = ap (λ gs. child_faults m d gs q rows) e

left_parts : (m : RecordBatch) (h : Held) (fs : Fields) (i : ℕ) (rows : Place → ℕ) (x : Child) (q : Place) → StandsIn fs i x
    → trees_read m h (dropped i fs) q rows ≡ parts_read m h x.kind q (rows q) ∷ trees_read m h (dropped (suc i) fs) (after m x.kind q) rows
left_parts m h fs i rows x q e = ap (λ gs. trees_read m h gs q rows) e

pub left_fetched : (m : RecordBatch) (fs : Fields) (i : ℕ) (rows : Place → ℕ) (x : Child) (p : Place) → StandsIn fs i x
    → columns_fetched m (dropped i fs) (place_in m fs i p) rows ≡ fetched_at_most m x.kind (place_in m fs i p) (rows (place_in m fs i p)) + columns_fetched m (dropped (suc i) fs) (place_in m fs (suc i) p) rows
left_fetched m fs i rows x p e =
    let q = place_in m fs i p in
    ap (λ gs. columns_fetched m gs q rows) e
    ∙ ap (λ z. fetched_at_most m x.kind q (rows q) + columns_fetched m (dropped (suc i) fs) z rows) (sym (next_in m fs i x p e))

-- one more was read, for so many rows
pub next_child : (m : RecordBatch) (d : Dictionaries) (h : Held) (fs : Fields) (i n : ℕ) (rows : Place → ℕ) (p : Place) (ps : List Parts) (x : Child) (a : Parts) → StandsIn fs i x → n ≡ rows (place_in m fs i p)
    → read_faults m d x.kind (place_in m fs i p) n ≡ [] → a ≡ parts_read m h x.kind (place_in m fs i p) n
    → ChildrenDone m d h fs i rows p ps → ChildrenDone m d h fs (suc i) rows p (ps ++ a ∷ [])
next_child m d h fs i n rows p ps x a e w f g done =
    let q = place_in m fs i p in
    let k = x.kind in
    let z = next_in m fs i x p e in
    let within = stands_within fs i x e in
    let none : read_faults m d k q (rows q) ≡ [] = subst (λ c. read_faults m d k q c ≡ []) w f in
    let same : a ≡ parts_read m h k q (rows q) = g ∙ ap (parts_read m h k q) w in
    let counts : place_faults m q (after m k q) ≡ [] = sym (counts_between m k q) ∙ counts_none m d k q (rows q) none in
    let rest = child_faults m d (dropped (suc i) fs) (after m k q) rows in
    record {
      natural = subst (λ r. AreNatural m p r) (sym z) (natural_then m p q (after m k q) (place_behind m fs i p (omega (arith, within))).views (after_is_behind m k q).views done.natural (are_natural m q (after m k q) counts));
      none = done.none ∙ left_faults m d fs i rows x q e ∙ ap (λ es. es ++ if_sound (view_count_faults m k q) rest) (array_none m d k q (rows q) none) ∙ ap (λ es. if_sound es rest) (views_none m d k q (rows q) none)
          ∙ ap (λ r. child_faults m d (dropped (suc i) fs) r rows) (sym z);
      parts = done.parts ∙ ap (λ ys. ps ++ ys) (left_parts m h fs i rows x q e ∙ ap (λ y. y ∷ trees_read m h (dropped (suc i) fs) (after m k q) rows) (sym same)) ∙ sym (append_assoc ps (a ∷ []) (trees_read m h (dropped (suc i) fs) (after m k q) rows))
          ∙ ap (λ r. (ps ++ a ∷ []) ++ trees_read m h (dropped (suc i) fs) r rows) (sym z);
    }

pub next_bytes : (m : RecordBatch) (fs : Fields) (i n : ℕ) (rows : Place → ℕ) (p : Place) (x : Child) → StandsIn fs i x → n ≡ rows (place_in m fs i p) → HaveBytes m x.kind (place_in m fs i p) n → BytesDone m fs i rows p → BytesDone m fs (suc i) rows p
next_bytes m fs i n rows p x e w b d = λ c.
    let q = place_in m fs i p in
    d (subst (λ gs. AllHaveBytes m gs q rows) (sym e)
    (subst (λ r. HaveBytes m x.kind q r) w b, subst (λ r. AllHaveBytes m (dropped (suc i) fs) r rows) (next_in m fs i x p e) c))

-- what refuses the next child refuses all
pub child_refused : (m : RecordBatch) (d : Dictionaries) (h : Held) (fs : Fields) (i n : ℕ) (rows : Place → ℕ) (p : Place) (ps : List Parts) (x : Child) (e : IpcError) → StandsIn fs i x → n ≡ rows (place_in m fs i p) → ChildrenDone m d h fs i rows p ps
    → Refuses e (read_faults m d x.kind (place_in m fs i p) n) → Refuses e (place_faults m p (behind m fs p) ++ child_faults m d fs p rows)
unfolding read_faults
child_refused m d h fs i n rows p ps x e g w done r =
    let q = place_in m fs i p in
    let k = x.kind in
    let within = stands_within fs i x g in
    refuses_by (count_faults m k q) (array_faults m d k q (rows q)) _ e
    (λ s. refuses_left (place_faults m p (behind m fs p)) _ e (wider_refuses m p (behind m fs p) q (after m k q) e (place_behind m fs i p (omega (arith, within))) (after_is_behind m k q).views (within_all m fs i x p g)
    (subst (λ es. Refuses e es) (counts_between m k q) s)))
    (λ s. refuses_right (place_faults m p (behind m fs p)) _ e (subst (λ es. Refuses e es) (sym (done.none ∙ left_faults m d fs i rows x q g)) (refuses_left (array_faults m d k q (rows q)) _ e s)))
    (subst (λ c. Refuses e (count_faults m k q ++ array_faults m d k q c)) w r)

-- all were read
pub all_children : (m : RecordBatch) (d : Dictionaries) (h : Held) (fs : Fields) (i : ℕ) (rows : Place → ℕ) (p : Place) (ps : List Parts) (ns : List FieldNode) (bs : List IpcBuffer) (vs : List ℤ) → width fs ≤ i → i ≤ width fs → AllAt m (place_in m fs i p) ns bs vs → ChildrenDone m d h fs i rows p ps
    → (place_faults m p (behind m fs p) ++ child_faults m d fs p rows ≡ []) × (forest ps ≡ forest_read m h fs p rows)
all_children m d h fs i rows p ps ns bs vs g j a done =
    let l = last_in m fs i p g j in
    let e = dropped_end fs i g in
    let q = place_in m fs i p in
    let places : place_faults m p (behind m fs p) ≡ [] = none_missing m p (behind m fs p) ns bs vs (subst (λ r. AllAt m r ns bs vs) l a) (subst (λ r. AreNatural m p r) l done.natural) in
    let children : child_faults m d fs p rows ≡ [] = done.none ∙ ap (λ gs. child_faults m d gs q rows) e in
    let parts : trees_read m h fs p rows ≡ ps = done.parts ∙ ap (λ gs. ps ++ trees_read m h gs q rows) e ∙ append-nil ps in
    (both_none _ _ places children, ap forest (sym parts) ∙ forest_is m h fs p rows)

pub all_bytes : (m : RecordBatch) (fs : Fields) (i : ℕ) (rows : Place → ℕ) (p : Place) → width fs ≤ i → BytesDone m fs i rows p → AllHaveBytes m fs p rows
all_bytes m fs i rows p h d = d (subst (λ gs. AllHaveBytes m gs (place_in m fs i p) rows) (sym (dropped_end fs i h)) tt)

-- the first children have the rows that are said
abbrev pub RowsDone : RecordBatch → Fields → ℕ → (Place → ℕ) → Place → List Parts → Type 0
RowsDone m fs i rows p ps = rows_of_each m fs p rows ≡ rows_each (forest ps) ++ rows_of_each m (dropped i fs) (place_in m fs i p) rows

pub no_rows_done : (m : RecordBatch) (fs : Fields) (rows : Place → ℕ) (p : Place) → RowsDone m fs 0 rows p []
no_rows_done m fs rows p = ap (λ q. rows_of_each m fs q rows) (sym (first_place_in m fs p))

rows_more : (ps : List Parts) (a : Parts) (ns : List ℕ) → rows_each (forest ps) ++ rows_in a ∷ ns ≡ rows_each (forest (ps ++ a ∷ [])) ++ ns
rows_more [] a ns = refl
rows_more (x ∷ ps) a ns = ap (λ zs. rows_in x ∷ zs) (rows_more ps a ns)

pub next_rows_done : (m : RecordBatch) (fs : Fields) (i n : ℕ) (rows : Place → ℕ) (p : Place) (ps : List Parts) (x : Child) (a : Parts) → StandsIn fs i x → n ≡ rows (place_in m fs i p) → rows_in a ≡ n
    → RowsDone m fs i rows p ps → RowsDone m fs (suc i) rows p (ps ++ a ∷ [])
next_rows_done m fs i n rows p ps x a e w r d =
    let q = place_in m fs i p in
    let k = x.kind in
    let left : rows_of_each m (dropped i fs) q rows ≡ rows q ∷ rows_of_each m (dropped (suc i) fs) (after m k q) rows = ap (λ gs. rows_of_each m gs q rows) e in
    d ∙ ap (λ ns. rows_each (forest ps) ++ ns) (left ∙ ap (λ c. c ∷ rows_of_each m (dropped (suc i) fs) (after m k q) rows) (sym (r ∙ w)))
    ∙ rows_more ps a _ ∙ ap (λ z. rows_each (forest (ps ++ a ∷ [])) ++ rows_of_each m (dropped (suc i) fs) z rows) (sym (next_in m fs i x p e))

pub all_rows_done : (m : RecordBatch) (fs : Fields) (i : ℕ) (rows : Place → ℕ) (p : Place) (ps : List Parts) → width fs ≤ i → RowsDone m fs i rows p ps → rows_each (forest ps) ≡ rows_of_each m fs p rows
all_rows_done m fs i rows p ps h d = sym (d ∙ ap (λ gs. rows_each (forest ps) ++ rows_of_each m gs (place_in m fs i p) rows) (dropped_end fs i h) ∙ append-nil (rows_each (forest ps)))

-- the same rows are those of all
pub each_same : (m : RecordBatch) (fs : Fields) (p : Place) (n : ℕ) → are_all n (rows_of_each m fs p (λ q. n)) ≡ true
each_same m none p n = refl
each_same m (field name nullable metadata k others) p n = and_from (nat_eq n n) _ (eq-eqb n n refl) (each_same m others (after m k p) n)

-- and so they are without a batch
pub all_same : (fs : Fields) (version : MetadataVersion) (ns : List FieldNode) (bs : List IpcBuffer) (vs : List ℤ) (n : ℕ) (held : List ℕ) → ((m : RecordBatch) (p : Place) → BatchAt version m p ns bs vs → held ≡ rows_of_each m fs p (λ q. n)) → are_all n held ≡ true
all_same fs version ns bs vs n held h =
    let m = only_tables version ns bs vs in
    ap (are_all n) (h m first_place (batch_from_first version ns bs vs)) ∙ each_same m fs first_place n

-- ── what is known of the arrays without the source ──

pub kinds_are : (ps : List Parts) → kinds_each (forest ps) ≡ map kind_in ps
kinds_are [] = refl
kinds_are (x ∷ ps) = ap (λ ks. kind_in x ∷ ks) (kinds_are ps)

pub left_child : (cs : List Field) (i : ℕ) (x : Field) → i < length cs → x ≡ get_or cs i x → drop i cs ≡ x ∷ drop (i + 1) cs
left_child cs i x h e = drop-cons cs i x h ∙ ap (λ y. y ∷ drop (suc i) cs) (sym e) ∙ ap (λ n. x ∷ drop n cs) (sym (add-one i))

-- arrays of the first fields' kinds
abbrev pub KindsDone : List Field → ℕ → List Parts → Type 0
KindsDone cs i ps = (ks : List Kind) → are_of (fields_of (drop i cs)) ks ≡ true → are_of (fields_of cs) (map kind_in ps ++ ks) ≡ true

map_more : (ps : List Parts) (a : Parts) (ks : List Kind) → map kind_in (ps ++ a ∷ []) ++ ks ≡ map kind_in ps ++ (kind_in a ∷ ks)
map_more [] a ks = refl
map_more (x ∷ ps) a ks = ap (λ zs. kind_in x ∷ zs) (map_more ps a ks)

pub next_kind : (cs : List Field) (i : ℕ) (ps : List Parts) (x : Field) (a : Parts) → i < length cs → x ≡ get_or cs i x → kind_in a ≡ kind_of x.dtype → KindsDone cs i ps → KindsDone cs (i + 1) (ps ++ a ∷ [])
next_kind cs i ps x a h e k d = λ ks f.
    let one : kind_eq (child_of x).kind (kind_in a) ≡ true = same_kind (child_of x).kind (kind_in a) (k ∙ sym (kind_of_child x)) in
    let here : are_of (fields_of (drop i cs)) (kind_in a ∷ ks) ≡ true = ap (λ ys. are_of (fields_of ys) (kind_in a ∷ ks)) (left_child cs i x h e) ∙ and_from _ _ one f in
    ap (are_of (fields_of cs)) (map_more ps a ks) ∙ d (kind_in a ∷ ks) here

pub all_kinds : (cs : List Field) (i : ℕ) (ps : List Parts) → length cs ≤ i → KindsDone cs i ps → are_of (fields_of cs) (kinds_each (forest ps)) ≡ true
all_kinds cs i ps h d = ap (are_of (fields_of cs)) (kinds_are ps ∙ sym (append-nil (map kind_in ps))) ∙ d [] (ap (λ ys. are_of (fields_of ys) []) (drop_all cs i h))

pub next_sound : (ps : List Parts) (a : Parts) → fault_each (forest ps) ≡ None → fault_in a ≡ None → fault_each (forest (ps ++ a ∷ [])) ≡ None
next_sound [] a h k = rw k refl
next_sound (x ∷ ps) a h k = by (fault_in x) (fault_each (forest ps)) (fault_each (forest (ps ++ a ∷ []))) h (λ g. next_sound ps a g k)
  where
    by : (f g g' : Option ArrayError) → either f g ≡ None → (g ≡ None → g' ≡ None) → either f g' ≡ None
    by None g g' e n = n e
    by (Some z) g g' e n = cc

-- ── queues ──

-- the queues stand at the place of a field
abbrev pub StandAt : MetadataVersion → Fields → ℕ → List FieldNode → List FieldNode → List IpcBuffer → List IpcBuffer → List ℤ → List ℤ → Type 0
StandAt version fs i ns ns' bs bs' vs vs' = (m : RecordBatch) (p : Place) → BatchAt version m p ns bs vs → AllAt m (place_in m fs i p) ns' bs' vs'

pub children_taken : (fs : Fields) (i : ℕ) (version : MetadataVersion) (ns ns' : List FieldNode) (bs bs' : List IpcBuffer) (vs vs' : List ℤ) → i ≤ width fs → StandAt version fs i ns ns' bs bs' vs vs' → ShortenedByAll fs version ns ns' bs bs' vs vs'
children_taken fs i version ns ns' bs bs' vs vs' h q =
    let m = only_tables version ns bs vs in
    let left = q m first_place (batch_from_first version ns bs vs) in
    let most = place_within m fs i first_place h in
    record {
      nodes = taken_more (all_taken _ ns ns' left.nodes.is) (omega (arith, most.nodes));
      buffers = taken_more (all_taken _ bs bs' left.buffers.is) (omega (arith, most.buffers));
      views = taken_more (all_taken _ vs vs' left.views.is) (omega (arith, most.views));
    }

pub children_until : (fs : Fields) (i : ℕ) (x : Child) (version : MetadataVersion) (ns ns' ns'' : List FieldNode) (bs bs' bs'' : List IpcBuffer) (vs vs' vs'' : List ℤ) → StandsIn fs i x → StandAt version fs i ns ns' bs bs' vs vs'
    → ShortenedBy x.kind version ns' ns'' bs' bs'' vs' vs'' → ShortenedByAll fs version ns ns'' bs bs'' vs vs''
children_until fs i x version ns ns' ns'' bs bs' bs'' vs vs' vs'' g q s =
    let k = x.kind in
    let m = only_tables version ns bs vs in
    let here = place_in m fs i first_place in
    let left = q m first_place (batch_from_first version ns bs vs) in
    let most = within_all m fs i x first_place g in
    let taken : buffers version vs' k 0 ≡ buffers version vs k here.view = ap (λ z. buffers version z k 0) left.views.is ∙ buffers_dropped version vs here.view k 0 ∙ ap (buffers version vs k) (omega arith) in
    record {
      nodes = taken_then (all_taken here.node ns ns' left.nodes.is) s.nodes (omega (arith, most.nodes));
      buffers = taken_then (all_taken here.buffer bs bs' left.buffers.is) s.buffers (omega (arith, most.buffers, taken));
      views = taken_then (all_taken here.view vs vs' left.views.is) s.views (omega (arith, most.views));
    }

-- ── structs, and lists of one size ──

pub shortened_under : (k l : Kind) (version : MetadataVersion) (ns ns' : List FieldNode) (bs bs' : List IpcBuffer) (vs vs' : List ℤ) → under_extensions k ≡ l → ShortenedBy l version ns ns' bs bs' vs vs' → ShortenedBy k version ns ns' bs bs' vs vs'
shortened_under k l version ns ns' bs bs' vs vs' e h = wrapped (λ k. ShortenedBy k version ns ns' bs bs' vs vs') (λ name metadata k s. record { nodes = s.nodes; buffers = s.buffers; views = s.views }) k l e h

counted_opens : (version : MetadataVersion) (s : Option ℕ) (fs : Fields) → Opens (counted_kind s fs) version 1 fs
counted_opens version None fs = record { nodes = refl; buffers = λ vs v. refl; views = refl }
counted_opens version (Some size) fs = record { nodes = refl; buffers = λ vs v. refl; views = refl }

-- a top was taken, and what was taken of its children
pub opened_shortened : (k l : Kind) (own : ℕ) (fs : Fields) (version : MetadataVersion) (ns ns' ns'' : List FieldNode) (bs bs' bs'' : List IpcBuffer) (vs vs' vs'' : List ℤ) → under_extensions k ≡ l → Opens l version own fs → Shortened ns 1 ns' → Shortened bs own bs' → vs' ≡ vs → ShortenedByAll fs version ns' ns'' bs' bs'' vs' vs'' → ShortenedBy k version ns ns'' bs bs'' vs vs''
opened_shortened k l own fs version ns ns' ns'' bs bs' bs'' vs vs' vs'' u o a b e r =
    let t : ShortenedByAll fs version ns' ns'' bs' bs'' vs vs'' = subst (λ z. ShortenedByAll fs version ns' ns'' bs' bs'' z vs'') e r in
    shortened_under k l version ns ns'' bs bs'' vs vs'' u (record { nodes = taken_then a t.nodes (omega (arith, o.nodes)); buffers = taken_then b t.buffers (omega (arith, o.buffers vs 0)); views = taken_more t.views (omega (arith, o.views)) })

pub top_shortened : (k l : Kind) (own : ℕ) (fs : Fields) (version : MetadataVersion) (ns ns' : List FieldNode) (bs bs' : List IpcBuffer) (vs vs' : List ℤ) → under_extensions k ≡ l → Opens l version own fs → Shortened ns 1 ns' → Shortened bs own bs' → vs' ≡ vs → ShortenedBy k version ns ns' bs bs' vs vs'
top_shortened k l own fs version ns ns' bs bs' vs vs' u o a b e =
    shortened_under k l version ns ns' bs bs' vs vs' u (record { nodes = taken_more a (omega (arith, o.nodes)); buffers = taken_more b (omega (arith, o.buffers vs 0)); views = subst (λ z. Shortened vs (views l) z) (sym e) (none_taken _ vs) })

pub counted_shortened : (k : Kind) (s : Option ℕ) (fs : Fields) (version : MetadataVersion) (ns ns' ns'' : List FieldNode) (bs bs' bs'' : List IpcBuffer) (vs vs' vs'' : List ℤ) → under_extensions k ≡ counted_kind s fs → Shortened ns 1 ns' → Shortened bs 1 bs' → vs' ≡ vs → ShortenedByAll fs version ns' ns'' bs' bs'' vs' vs'' → ShortenedBy k version ns ns'' bs bs'' vs vs''
counted_shortened k s fs version ns ns' ns'' bs bs' bs'' vs vs' vs'' u a b e r = opened_shortened k (counted_kind s fs) 1 fs version ns ns' ns'' bs bs' bs'' vs vs' vs'' u (counted_opens version s fs) a b e r

pub head_shortened : (k : Kind) (s : Option ℕ) (fs : Fields) (version : MetadataVersion) (ns ns' : List FieldNode) (bs bs' : List IpcBuffer) (vs vs' : List ℤ) → under_extensions k ≡ counted_kind s fs → Shortened ns 1 ns' → Shortened bs 1 bs' → vs' ≡ vs → ShortenedBy k version ns ns' bs bs' vs vs'
head_shortened k s fs version ns ns' bs bs' vs vs' u a b e = top_shortened k (counted_kind s fs) 1 fs version ns ns' bs bs' vs vs' u (counted_opens version s fs) a b e

pub head_behind : (m : RecordBatch) (p : Place) (ns : List FieldNode) (bs : List IpcBuffer) (vs vs' : List ℤ) → Left m.nodes (suc p.node) ns × Left m.buffers (p.buffer + 1) bs → vs' ≡ vs → Left m.variadic p.view vs → AllAt m (inside 1 p) ns bs vs'
head_behind m p ns bs vs vs' h e v = record { nodes = h.0; buffers = h.1; views = subst (λ z. Left m.variadic p.view z) (sym e) v }

-- ── what is fetched ──

pub counted_after : (m : RecordBatch) (k : Kind) (s : Option ℕ) (fs : Fields) (p : Place) → under_extensions k ≡ counted_kind s fs → behind m fs (inside 1 p) ≡ after m k p
counted_after m k s fs p e = wrapped (λ k. behind m fs (inside 1 p) ≡ after m k p) (λ name metadata k h. h) k (counted_kind s fs) e (after_opens m (counted_kind s fs) 1 fs p (counted_opens m.version s fs))

pub inside_behind : (own : ℕ) (p : Place) → IsBehind p (inside own p)
inside_behind own p = record { nodes = omega arith; buffers = omega arith; views = omega arith }

counted_counts : (m : RecordBatch) (s : Option ℕ) (fs : Fields) (p : Place) → count_faults m (counted_kind s fs) p ≡ place_faults m p (behind m fs (inside 1 p))
counted_counts m s fs p = counts_between m (counted_kind s fs) p ∙ ap (place_faults m p) (sym (after_opens m (counted_kind s fs) 1 fs p (counted_opens m.version s fs)))

counted_faults : (m : RecordBatch) (d : Dictionaries) (s : Option ℕ) (fs : Fields) (p : Place) (rows : ℕ) → array_faults m d (counted_kind s fs) p rows ≡ node_faults m p rows ++ validity_faults m p rows ++ child_faults m d fs (inside 1 p) (λ q. counted_rows s rows)
counted_faults m d None fs p rows = refl
counted_faults m d (Some size) fs p rows = refl

pub wrapped_reads : (P : List IpcError → Type 0) (m : RecordBatch) (d : Dictionaries) (k l : Kind) (p : Place) (rows : ℕ) → under_extensions k ≡ l → P (read_faults m d l p rows) → P (read_faults m d k p rows)
unfolding read_faults count_faults
wrapped_reads P m d k l p rows e h = wrapped (λ k. P (read_faults m d k p rows)) (λ name metadata k h. h) k l e h

pub among_array : (m : RecordBatch) (d : Dictionaries) (k : Kind) (p : Place) (rows : ℕ) (x : IpcError) → IsAmong (array_faults m d k p rows) x → IsAmong (read_faults m d k p rows) x
unfolding read_faults
among_array m d k p rows x h = among_right (count_faults m k p) _ x h

-- what is wrong with the top itself
counted_own : (m : RecordBatch) (d : Dictionaries) (s : Option ℕ) (fs : Fields) (p : Place) (rows : ℕ) (x : IpcError) → IsAmong (node_faults m p rows ++ validity_faults m p rows) x → IsAmong (read_faults m d (counted_kind s fs) p rows) x
counted_own m d s fs p rows x a =
    among_array m d (counted_kind s fs) p rows x (subst (λ es. IsAmong es x) (sym (counted_faults m d s fs p rows)) (among_left (node_faults m p rows ++ validity_faults m p rows) _ x a))

counted_top : (m : RecordBatch) (d : Dictionaries) (s : Option ℕ) (fs : Fields) (p : Place) (rows : ℕ) (e : IpcError) → Refuses e (head_faults m p rows) → Refuses e (read_faults m d (counted_kind s fs) p rows)
counted_top m d s fs p rows e r =
    let k = counted_kind s fs in
    let within : p.buffer < (after m k p).buffer = omega (arith, (counted_opens m.version s fs).buffers m.variadic p.view) in
    refuses_by (node_faults m p rows) _ (read_faults m d k p rows) e
    (λ t. refuses_more (node_faults m p rows) _ e (λ x a. counted_own m d s fs p rows x (among_left (node_faults m p rows) (validity_faults m p rows) x a)) t)
    (λ t. refuses_by (short_of m.buffers p.buffer) (validity_faults m p rows) (read_faults m d k p rows) e
    (λ u. refuses_more (short_of m.buffers p.buffer) _ e (λ x a. lacks_in m d k p rows p.buffer x within a) u)
    (λ u. refuses_more (validity_faults m p rows) _ e (λ x a. counted_own m d s fs p rows x (among_right (node_faults m p rows) (validity_faults m p rows) x a)) u) t) r

pub counted_head_refused : (m : RecordBatch) (d : Dictionaries) (k : Kind) (s : Option ℕ) (fs : Fields) (p : Place) (rows : ℕ) (e : IpcError) → under_extensions k ≡ counted_kind s fs → Refuses e (head_faults m p rows) → Refuses e (read_faults m d k p rows)
counted_head_refused m d k s fs p rows e u r = wrapped_reads (Refuses e) m d k (counted_kind s fs) p rows u (counted_top m d s fs p rows e r)

counted_children : (m : RecordBatch) (d : Dictionaries) (s : Option ℕ) (fs : Fields) (p : Place) (rows : ℕ) (e : IpcError) → Refuses e (place_faults m (inside 1 p) (behind m fs (inside 1 p)) ++ child_faults m d fs (inside 1 p) (λ q. counted_rows s rows)) → Refuses e (read_faults m d (counted_kind s fs) p rows)
unfolding read_faults
counted_children m d s fs p rows e r =
    let b = behind m fs (inside 1 p) in
    let k = counted_kind s fs in
    refuses_by (place_faults m (inside 1 p) b) _ (read_faults m d k p rows) e
    (λ t. refuses_left (count_faults m k p) _ e (subst (λ es. Refuses e es) (sym (counted_counts m s fs p)) (wider_refuses m p b (inside 1 p) b e (inside_behind 1 p) (fields_behind m fs (inside 1 p)).views (behind_itself b) t)))
    (λ t. refuses_right (count_faults m k p) _ e (subst (λ es. Refuses e es) (sym (counted_faults m d s fs p rows)) (refuses_right (node_faults m p rows ++ validity_faults m p rows) _ e t))) r

pub counted_children_refused : (m : RecordBatch) (d : Dictionaries) (k : Kind) (s : Option ℕ) (fs : Fields) (p : Place) (rows : ℕ) (e : IpcError) → under_extensions k ≡ counted_kind s fs → Refuses e (place_faults m (inside 1 p) (behind m fs (inside 1 p)) ++ child_faults m d fs (inside 1 p) (λ q. counted_rows s rows)) → Refuses e (read_faults m d k p rows)
counted_children_refused m d k s fs p rows e u r = wrapped_reads (Refuses e) m d k (counted_kind s fs) p rows u (counted_children m d s fs p rows e r)

counted_none : (m : RecordBatch) (d : Dictionaries) (s : Option ℕ) (fs : Fields) (p : Place) (rows : ℕ) (ns : List FieldNode) (bs : List IpcBuffer) (vs : List ℤ) → AllAt m (behind m fs (inside 1 p)) ns bs vs → head_faults m p rows ≡ [] → place_faults m (inside 1 p) (behind m fs (inside 1 p)) ++ child_faults m d fs (inside 1 p) (λ q. counted_rows s rows) ≡ [] → read_faults m d (counted_kind s fs) p rows ≡ []
unfolding read_faults
counted_none m d s fs p rows ns bs vs a h c =
    let b = behind m fs (inside 1 p) in
    let head = none_of_both (node_faults m p rows) _ h in
    let valid = none_of_both (short_of m.buffers p.buffer) _ head.1 in
    let parts = none_of_both (place_faults m (inside 1 p) b) _ c in
    both_none (count_faults m (counted_kind s fs) p) _ (counted_counts m s fs p ∙ none_missing m p b ns bs vs a (are_natural m (inside 1 p) b parts.0))
    (counted_faults m d s fs p rows ∙ both_none _ _ (both_none _ _ head.0 valid.1) parts.1)

pub counted_well : (m : RecordBatch) (d : Dictionaries) (k : Kind) (s : Option ℕ) (fs : Fields) (p : Place) (rows : ℕ) (ns : List FieldNode) (bs : List IpcBuffer) (vs : List ℤ) → under_extensions k ≡ counted_kind s fs → AllAt m (behind m fs (inside 1 p)) ns bs vs → head_faults m p rows ≡ [] → place_faults m (inside 1 p) (behind m fs (inside 1 p)) ++ child_faults m d fs (inside 1 p) (λ q. counted_rows s rows) ≡ [] → read_faults m d k p rows ≡ []
counted_well m d k s fs p rows ns bs vs u a h c = wrapped_reads (λ es. es ≡ []) m d k (counted_kind s fs) p rows u (counted_none m d s fs p rows ns bs vs a h c)

pub counted_parts : (m : RecordBatch) (h : Held) (l k : Kind) (s : Option ℕ) (fs : Fields) (p : Place) (rows : ℕ) → under_extensions k ≡ counted_kind s fs → nested (counted_head s (counted_read m l p rows)) (forest_read m h fs (inside 1 p) (λ q. counted_rows s rows)) ≡ parts_under l m h k p rows
counted_parts m h l k s fs p rows u = wrapped (λ k. nested (counted_head s (counted_read m l p rows)) (forest_read m h fs (inside 1 p) (λ q. counted_rows s rows)) ≡ parts_under l m h k p rows) (λ name metadata k g. g) k (counted_kind s fs) u (by s)
  where
    by : (s : Option ℕ) → nested (counted_head s (counted_read m l p rows)) (forest_read m h fs (inside 1 p) (λ q. counted_rows s rows)) ≡ parts_under l m h (counted_kind s fs) p rows
    by None = refl
    by (Some size) = refl

pub counted_bytes : (m : RecordBatch) (k : Kind) (s : Option ℕ) (fs : Fields) (p : Place) (rows : ℕ) → under_extensions k ≡ counted_kind s fs → AllHaveBytes m fs (inside 1 p) (λ q. counted_rows s rows) → HaveBytes m k p rows
counted_bytes m k None fs p rows u b = wrapped (λ k. HaveBytes m k p rows) (λ name metadata k h. h) k (struct fs) u b
counted_bytes m k (Some size) fs p rows u b = wrapped (λ k. HaveBytes m k p rows) (λ name metadata k h. h) k (kind.fixed_size_list size fs) u b

-- the kind and the rows of the top
pub counted_shape : (s : Option ℕ) (k : Kind) (rows : ℕ) (v : Option (List Bool)) → (head_kind (counted_head s (record { kind = k; rows = rows; validity = v })) ≡ k) × (head_rows (counted_head s (record { kind = k; rows = rows; validity = v })) ≡ rows)
counted_shape None k rows v = (refl, refl)
counted_shape (Some size) k rows v = (refl, refl)

pub fetched_under : (m : RecordBatch) (k l : Kind) (p : Place) (rows : ℕ) → under_extensions k ≡ l → fetched_at_most m k p rows ≡ fetched_at_most m l p rows
fetched_under m k l p zero e = refl
fetched_under m k l p (suc n) e = wrapped (λ k. stated_of m (looked_at m k p) ≡ stated_of m (looked_at m l p)) (λ name metadata k h. h) k l e refl

pub stated_append : (m : RecordBatch) (is js : List ℕ) → stated_of m (is ++ js) ≡ stated_of m is + stated_of m js
stated_append m [] js = omega arith
stated_append m (i ∷ is) js = omega (arith, stated_append m is js)

pub columns_none : (m : RecordBatch) (fs : Fields) (p : Place) → columns_fetched m fs p (λ q. 0) ≡ 0
columns_none m none p = refl
columns_none m (field name nullable metadata k others) p = omega (arith, columns_none m others (after m k p))

pub looked_most : (m : RecordBatch) (k : Kind) (p : Place) (n : ℕ) → fetched_at_most m k p n ≤ stated_of m (looked_at m k p)
looked_most m k p zero = omega arith
looked_most m k p (suc n) = omega arith

pub columns_most : (m : RecordBatch) (fs : Fields) (p : Place) (rows : Place → ℕ) → columns_fetched m fs p rows ≤ stated_of m (looked_at_in m fs p)
columns_most m none p rows = omega arith
columns_most m (field name nullable metadata k others) p rows =
    omega (arith, looked_most m k p (rows p), columns_most m others (after m k p) rows, stated_append m (looked_at m k p) (looked_at_in m others (after m k p)))

none_under : (s : Option ℕ) → counted_rows s 0 ≡ 0
none_under None = refl
none_under (Some size) = omega arith

counted_looked : (m : RecordBatch) (s : Option ℕ) (fs : Fields) (p : Place) → looked_at m (counted_kind s fs) p ≡ validity_looked_at m p ++ looked_at_in m fs (inside 1 p)
counted_looked m None fs p = refl
counted_looked m (Some size) fs p = refl

pub counted_fetched : (m : RecordBatch) (k : Kind) (s : Option ℕ) (fs : Fields) (p : Place) (rows : ℕ) → under_extensions k ≡ counted_kind s fs → validity_fetched m p rows + columns_fetched m fs (inside 1 p) (λ q. counted_rows s rows) ≤ fetched_at_most m k p rows
counted_fetched m k s fs p zero u = let e : columns_fetched m fs (inside 1 p) (λ q. counted_rows s 0) ≡ 0 = ap (λ n. columns_fetched m fs (inside 1 p) (λ q. n)) (none_under s) ∙ columns_none m fs (inside 1 p) in omega (arith, e)
counted_fetched m k s fs p (suc n) u =
    let most = columns_most m fs (inside 1 p) (λ q. counted_rows s (suc n)) in
    let all : stated_of m (looked_at m (counted_kind s fs) p) ≡ stated_of m (validity_looked_at m p) + stated_of m (looked_at_in m fs (inside 1 p)) = ap (stated_of m) (counted_looked m s fs p) ∙ stated_append m (validity_looked_at m p) (looked_at_in m fs (inside 1 p)) in
    omega (arith, most, all, fetched_under m k (counted_kind s fs) p (suc n) u)

-- ── cells ──

pub tree_cells_of : (r : Result Array IpcError) (m : RecordBatch) (d : Dictionaries) (h : Held) (k : Kind) (p : Place) (rows : ℕ) → is_carried k ≡ true → HoldsCells d h → IfOk r (λ _. HoldsKinds h k) → IfOk r (λ _. HaveBytes m k p rows) → Answers (λ a. parts_of a) r (read_faults m d k p rows) (parts_read m h k p rows) → Answers (λ a. cells_in (parts_of a)) r (read_faults m d k p rows) (from_on (cell m d k p) 0 rows)
tree_cells_of (Err e) m d h k p rows f c v b a = record { ok = tt; err = a.err }
tree_cells_of (Ok x) m d h k p rows f c v b a = record { ok = (a.ok.0, ap cells_in a.ok.1 ∙ cells_read m d h k p rows c v f b (array_none m d k p rows a.ok.0)); err = tt }

-- a kind without children has no tree
pub tree_bytes : (m : RecordBatch) (k : Kind) (p : Place) (rows : ℕ) → is_leaf_kind k ≡ true → AreBytes (numbers_bytes m k p rows) → HaveBytes m k p rows
tree_bytes m k p rows is b = subst (λ (x : Type 0). x) (plain_bytes m k p rows is) b

pub answers_to : {X Y : Type 0} → (view : X → Y) (r : Result X IpcError) (es : List IpcError) (v w : Y) → v ≡ w → Answers view r es v → Answers view r es w
answers_to view r es v w e a = subst (λ x. Answers view r es x) e a

-- and is read alike whatever was read of dictionaries
pub leaf_reads : (m : RecordBatch) (d : Dictionaries) (k : Kind) (p : Place) (rows : ℕ) → is_leaf_kind k ≡ true → read_faults m [] k p rows ≡ read_faults m d k p rows
unfolding read_faults
leaf_reads m d k p rows is = ap (λ es. count_faults m k p ++ es) ((faults_told m [] k p rows is).all_told ∙ sym (faults_told m d k p rows is).all_told)
