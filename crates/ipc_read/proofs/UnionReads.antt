-- Arrays of unions over children that were read.
use Rattle.std.proofs.lemmas.Bool.{and_parts, and_from, eq-eqb, eqb-true}
use Rattle.std.proofs.Common.{◌≡◌, ◌⊎◌, inl, inr, ℕ, zero, suc, ◌+◌, ◌≤◌, ◌<◌, List, [], ◌++◌, length, Option, Some, None, IfSome, IfOk, IfErr, Result, Ok, Err, Bool, true, false, ◌&&◌, ◌||◌, nat_eq, ℤ, pos, refl, sym, ap, ◌∙◌, arith, subst}
use Rattle.std.specs.Prelude.{nat_le, nat_lt, not, slice_index_or}
use Rattle.std.specs.Int.{w8, w32}
use Rattle.arrow_spec.specs.declared.error.IpcError.{IpcError}
use Rattle.arrow_spec.specs.declared.error.IpcError.TheVariants.{OutOfSpec, Unsupported, Memory}
use Rattle.arrow_spec.specs.declared.error.OutOfSpecKind.TheVariants as out
use Rattle.arrow_spec.specs.declared.error.Feature.TheVariants.{UnionNulls}
use Rattle.arrow_spec.specs.declared.message.FieldNode.{FieldNode}
use Rattle.arrow_spec.specs.declared.message.IpcBuffer.{IpcBuffer}
use Rattle.arrow_spec.specs.declared.message.MetadataVersion.{MetadataVersion}
use Rattle.arrow_spec.specs.declared.types.UnionMode.{UnionMode}
use Rattle.arrow_spec.specs.declared.types.UnionMode.TheVariants.{Dense, Sparse}
use Rattle.arrow_spec.specs.Readings.{IsAmong, Refuses}
use Rattle.arrow_spec.specs.Kinds.{Kind, Fields, none, field, width, union}
use Rattle.arrow_spec.specs.Schema.{are_ids}
use Rattle.arrow_spec.specs.Counts.{RecordBatch, Place, magnitude, is_negative, after, inside, union_buffers}
use Rattle.arrow_spec.specs.Arrays.{Dictionaries, node_of, from_on, signed_in, has_nulls, types_buffer, id_place}
use Rattle.arrow_spec.specs.Faults.{cause, if_sound, place_in, node_faults, numbers_faults, is_no_id, end_of, is_bad_row, some_row, dense_buffer_faults, dense_faults, union_faults, count_faults, array_faults, child_faults}
use Rattle.arrow_spec.proofs.Fewer.{child_ends}
use Rattle.arrow_spec.specs.Needed.{looked_at, looked_at_in, union_looked_at}
use Rattle.arrow_types.specs.Physical.{under_extensions}
use Rattle.arrow_types.specs.UnionIds.{are_right}
use Rattle.arrow_buffers.proofs.Parts.{length-from_on}
use Rattle.arrow_arrays.specs.Heads.{tagged, is_mode, is_union, is_bad_place, has_offsets, tagged_rows, are_all, fits_places, have_ids, ids_in, number_at, child_fields}
use Rattle.arrow_arrays.specs.Parts.{Forest, nested}
use Rattle.arrow_arrays.specs.PartsOf.{parts_of}
use Rattle.arrow_arrays.specs.declared.array.Array.{Array}
use Rattle.arrow_arrays.proofs.UnionPlaces.{id_below}
use Rattle.arrow_arrays.specs.Carried.{is_carried, are_carried}
use Rattle.ipc_read_laws.specs.Faults.{read_faults, fetched_at_most, stated_of}
use Rattle.ipc_read_laws.specs.Held.{Held}
use Rattle.ipc_read_laws.specs.PlainKinds.{plain_kind}
use Rattle.ipc_read_laws.specs.PartsRead.{parts_read, parts_under, forest_read, HaveBytes, AllHaveBytes}
use Rattle.ipc_read_laws.proofs.Buffers.{get-told, some_row-same}
use Rattle.ipc_read.specs.Batches.{columns_fetched}
use Rattle.ipc_read.specs.ChildRows.{rows_by, rows_of_each}
use Rattle.ipc_read.specs.Places.{behind, place_faults}
use Rattle.ipc_read.specs.Queues.{Left, AllAt, BatchAt, Shortened, ShortenedBy, short_of}
use Rattle.ipc_read.specs.Readers.{ShortenedByAll}
use Rattle.ipc_read.specs.Sources.{Answers, faults_where}
use Rattle.ipc_read.specs.Unions.{stated_in, union_as, is_dense, union_validity_faults, rows_faults, places_faults, union_parts_faults, UnionTop, tagged_by, types_in, places_in, union_top_read, union_fetched, children_rows}
use Rattle.ipc_read.proofs.UnionParts.{top_end, top_many}
use Rattle.ipc_read.proofs.Refusals.{memory_refuses, refuses_left, refuses_more, refuses_by, both_none, none_of_both, no_cause, among_left, among_right, among_split, among_sound, among_cause}
use Rattle.ipc_read.proofs.Places.{behind_itself, fields_behind, wider_refuses, are_natural, none_missing, counts_between}
use Rattle.ipc_read.proofs.Passed.{Opens, after_opens}
use Rattle.ipc_read.proofs.Counted.{lacks_in}
use Rattle.ipc_read.proofs.Nested.{wrapped, carried_under, stated_append, columns_none, columns_most, inside_behind, fetched_under, wrapped_reads, among_array, all_same, opened_shortened, top_shortened}

-- ── kinds ──

pub union_right : (k : Kind) (mode : UnionMode) (fs : Fields) → under_extensions k ≡ union_as k mode fs → is_carried k ≡ true → (are_right (ids_in k) (width fs) ≡ true) × (are_carried fs ≡ true)
union_right k mode fs u h = and_parts (are_right (ids_in k) (width fs)) (are_carried fs) (sym (carried_under k ∙ ap is_carried u) ∙ h)

-- there are as many ids as fields
ids_many : (ids : List ℤ) (n : ℕ) → are_right ids n ≡ true → length ids ≡ n
ids_many ids n h =
    let l = (and_parts (are_ids ids && nat_eq (length ids) n) (nat_lt 0 n) h).0 in
    eqb-true (length ids) n (and_parts (are_ids ids) (nat_eq (length ids) n) l).1

modes_are : (mode : UnionMode) → is_mode (is_dense mode) mode ≡ true
modes_are Sparse = refl
modes_are Dense = refl

pub union_suits : (k : Kind) (mode : UnionMode) (fs : Fields) (dense : Bool) → under_extensions k ≡ union_as k mode fs → is_carried k ≡ true → dense ≡ is_dense mode → is_union dense k ≡ true
union_suits k mode fs dense u h d = wrapped (λ k. is_union dense k ≡ true) (λ name metadata k h. h) k (union_as k mode fs) u (and_from _ _ (ap (λ b. is_mode b mode) d ∙ modes_are mode) (union_right k mode fs u h).0)

pub union_is : (k : Kind) (mode : UnionMode) (fs : Fields) → under_extensions k ≡ union_as k mode fs → child_fields k ≡ fs
union_is k mode fs u = wrapped (λ k. child_fields k ≡ fs) (λ name metadata k h. h) k (union_as k mode fs) u refl

-- ── queues ──

pub union_opens : (k : Kind) (mode : UnionMode) (fs : Fields) (version : MetadataVersion) → Opens (union_as k mode fs) version (union_buffers version mode) fs
union_opens k mode fs version = record { nodes = refl; buffers = λ vs v. refl; views = refl }

pub union_after : (m : RecordBatch) (k : Kind) (mode : UnionMode) (fs : Fields) (p : Place) → under_extensions k ≡ union_as k mode fs → behind m fs (inside (union_buffers m.version mode) p) ≡ after m k p
union_after m k mode fs p u =
    let own = union_buffers m.version mode in
    let l = union_as k mode fs in
    wrapped (λ k. behind m fs (inside own p) ≡ after m k p) (λ name metadata k h. h) k l u (after_opens m l own fs p (union_opens k mode fs m.version))

pub top_behind : (m : RecordBatch) (own : ℕ) (p : Place) (ns : List FieldNode) (bs : List IpcBuffer) (vs vs' : List ℤ) → Left m.nodes (suc p.node) ns × Left m.buffers (p.buffer + own) bs → vs' ≡ vs → Left m.variadic p.view vs → AllAt m (inside own p) ns bs vs'
top_behind m own p ns bs vs vs' h e v = record { nodes = h.0; buffers = h.1; views = subst (λ z. Left m.variadic p.view z) (sym e) v }

pub union_shortened : (k : Kind) (mode : UnionMode) (fs : Fields) (version : MetadataVersion) (ns ns' ns'' : List FieldNode) (bs bs' bs'' : List IpcBuffer) (vs vs' vs'' : List ℤ) → under_extensions k ≡ union_as k mode fs → Shortened ns 1 ns' → Shortened bs (union_buffers version mode) bs' → vs' ≡ vs → ShortenedByAll fs version ns' ns'' bs' bs'' vs' vs'' → ShortenedBy k version ns ns'' bs bs'' vs vs''
union_shortened k mode fs version ns ns' ns'' bs bs' bs'' vs vs' vs'' u a b e r = opened_shortened k (union_as k mode fs) (union_buffers version mode) fs version ns ns' ns'' bs bs' bs'' vs vs' vs'' u (union_opens k mode fs version) a b e r

pub union_top_shortened : (k : Kind) (mode : UnionMode) (fs : Fields) (version : MetadataVersion) (ns ns' : List FieldNode) (bs bs' : List IpcBuffer) (vs vs' : List ℤ) → under_extensions k ≡ union_as k mode fs → Shortened ns 1 ns' → Shortened bs (union_buffers version mode) bs' → vs' ≡ vs → ShortenedBy k version ns ns' bs bs' vs vs'
union_top_shortened k mode fs version ns ns' bs bs' vs vs' u a b e = top_shortened k (union_as k mode fs) (union_buffers version mode) fs version ns ns' bs bs' vs vs' u (union_opens k mode fs version) a b e

-- ── what is wrong ──

abbrev below : RecordBatch → Dictionaries → UnionMode → Fields → Place → ℕ → List IpcError
below m d mode fs p rows = child_faults m d fs (inside (union_buffers m.version mode) p) (rows_by (children_rows mode rows) m)

-- what is wrong with an array of unions that has rows
array_is : (m : RecordBatch) (d : Dictionaries) (mode : UnionMode) (stated : Bool) (ids : List ℤ) (fs : Fields) (p : Place) (n : ℕ) → array_faults m d (union mode stated ids fs) p (suc n) ≡ node_faults m p (suc n) ++ union_faults m mode ids fs p (suc n) ++ below m d mode fs p (suc n)
array_is m d Sparse stated ids fs p n = refl
array_is m d Dense stated ids fs p n = refl

-- and one that has none
array_none : (m : RecordBatch) (d : Dictionaries) (mode : UnionMode) (stated : Bool) (ids : List ℤ) (fs : Fields) (p : Place) → array_faults m d (union mode stated ids fs) p 0 ≡ node_faults m p 0 ++ below m d mode fs p 0
array_none m d Sparse stated ids fs p = refl
array_none m d Dense stated ids fs p = refl

node_in : (m : RecordBatch) (d : Dictionaries) (mode : UnionMode) (stated : Bool) (ids : List ℤ) (fs : Fields) (p : Place) (rows : ℕ) (x : IpcError) → IsAmong (node_faults m p rows) x → IsAmong (read_faults m d (union mode stated ids fs) p rows) x
node_in m d mode stated ids fs p zero x a = among_array m d (union mode stated ids fs) p 0 x (subst (λ es. IsAmong es x) (sym (array_none m d mode stated ids fs p)) (among_left (node_faults m p 0) _ x a))
node_in m d mode stated ids fs p (suc n) x a =
    among_array m d (union mode stated ids fs) p (suc n) x (subst (λ es. IsAmong es x) (sym (array_is m d mode stated ids fs p n))
    (among_left (node_faults m p (suc n) ++ union_faults m mode ids fs p (suc n)) _ x (among_left (node_faults m p (suc n)) _ x a)))

-- where there are rows, what is wrong with the types or the offsets
own_in : (m : RecordBatch) (d : Dictionaries) (mode : UnionMode) (stated : Bool) (ids : List ℤ) (fs : Fields) (p : Place) (n : ℕ) (x : IpcError) → IsAmong (union_faults m mode ids fs p (suc n)) x → IsAmong (read_faults m d (union mode stated ids fs) p (suc n)) x
own_in m d mode stated ids fs p n x a =
    among_array m d (union mode stated ids fs) p (suc n) x (subst (λ es. IsAmong es x) (sym (array_is m d mode stated ids fs p n))
    (among_left (node_faults m p (suc n) ++ union_faults m mode ids fs p (suc n)) _ x (among_right (node_faults m p (suc n)) _ x a)))

child_in : (m : RecordBatch) (d : Dictionaries) (mode : UnionMode) (stated : Bool) (ids : List ℤ) (fs : Fields) (p : Place) (rows : ℕ) (x : IpcError) → IsAmong (below m d mode fs p rows) x → IsAmong (read_faults m d (union mode stated ids fs) p rows) x
child_in m d mode stated ids fs p zero x a = among_array m d (union mode stated ids fs) p 0 x (subst (λ es. IsAmong es x) (sym (array_none m d mode stated ids fs p)) (among_right (node_faults m p 0) _ x a))
child_in m d mode stated ids fs p (suc n) x a =
    among_array m d (union mode stated ids fs) p (suc n) x (subst (λ es. IsAmong es x) (sym (array_is m d mode stated ids fs p n))
    (among_right (node_faults m p (suc n) ++ union_faults m mode ids fs p (suc n)) _ x a))

-- a buffer of a union's own is missing
short_in : (m : RecordBatch) (d : Dictionaries) (mode : UnionMode) (stated : Bool) (ids : List ℤ) (fs : Fields) (p : Place) (rows i : ℕ) (x : IpcError) → i < p.buffer + union_buffers m.version mode → IsAmong (short_of m.buffers i) x → IsAmong (read_faults m d (union mode stated ids fs) p rows) x
short_in m d mode stated ids fs p rows i x h a = lacks_in m d (union mode stated ids fs) p rows i x (omega (arith, h)) a

cause_second : (a b : Bool) (e x : IpcError) → IsAmong (cause (a && b) e) x → IsAmong (cause b e) x
cause_second true b e x h = h
cause_second false b e x h = absurd h

types_low : (m : RecordBatch) (p : Place) (mode : UnionMode) → types_buffer m p < p.buffer + union_buffers m.version mode
types_low m p mode = omega (arith, top_end m p mode)

places_low : (m : RecordBatch) (p : Place) → suc (types_buffer m p) < p.buffer + union_buffers m.version Dense
places_low m p = omega (arith, top_end m p Dense)

first_low : (m : RecordBatch) (p : Place) (mode : UnionMode) → p.buffer < p.buffer + union_buffers m.version mode
first_low m p mode = omega (arith, top_many m.version mode)

-- a row's type is no id
abbrev ids_bad : RecordBatch → List ℤ → Place → ℕ → Bool
ids_bad m ids p rows = some_row (λ row. is_no_id (id_place ids (signed_in m w8 (types_buffer m p) row))) rows

-- a row's offset is none of the rows of its child
abbrev places_bad : RecordBatch → List ℤ → Fields → Place → ℕ → Bool
places_bad m ids fs p rows = some_row (λ row. is_bad_row m fs (inside (union_buffers m.version Dense) p) (id_place ids (signed_in m w8 (types_buffer m p) row)) (signed_in m w32 (suc (types_buffer m p)) row)) rows

abbrev buffers_bad : RecordBatch → UnionMode → Place → ℕ → List IpcError
buffers_bad m mode p rows = numbers_faults m (types_buffer m p) 1 rows ++ dense_buffer_faults m mode p rows

abbrev rows_bad : RecordBatch → UnionMode → List ℤ → Fields → Place → ℕ → List IpcError
rows_bad m mode ids fs p rows = cause (ids_bad m ids p rows) (OutOfSpec out.InvalidUnion) ++ dense_faults m mode ids fs p rows

own_are : (m : RecordBatch) (mode : UnionMode) (ids : List ℤ) (fs : Fields) (p : Place) (rows : ℕ) → union_faults m mode ids fs p rows ≡ cause (nat_lt p.buffer (types_buffer m p) && has_nulls m p) (Unsupported UnionNulls) ++ if_sound (buffers_bad m mode p rows) (rows_bad m mode ids fs p rows)
unfolding union_faults
own_are m mode ids fs p rows = refl

nulls_in : (m : RecordBatch) (d : Dictionaries) (mode : UnionMode) (stated : Bool) (ids : List ℤ) (fs : Fields) (p : Place) (rows : ℕ) (x : IpcError) → IsAmong (faults_where rows (cause (nat_lt p.buffer (types_buffer m p) && has_nulls m p) (Unsupported UnionNulls))) x → IsAmong (read_faults m d (union mode stated ids fs) p rows) x
nulls_in m d mode stated ids fs p zero x a = absurd a
nulls_in m d mode stated ids fs p (suc n) x a = own_in m d mode stated ids fs p n x (subst (λ es. IsAmong es x) (sym (own_are m mode ids fs p (suc n))) (among_left (cause (nat_lt p.buffer (types_buffer m p) && has_nulls m p) (Unsupported UnionNulls)) _ x a))

validity_in : (m : RecordBatch) (d : Dictionaries) (mode : UnionMode) (stated : Bool) (ids : List ℤ) (fs : Fields) (p : Place) (rows : ℕ) (x : IpcError) → IsAmong (union_validity_faults m p rows) x → IsAmong (read_faults m d (union mode stated ids fs) p rows) x
validity_in m d mode stated ids fs p rows x a =
    among_split (cause (nat_lt p.buffer (types_buffer m p) && nat_le (length m.buffers) p.buffer) (OutOfSpec out.ExpectedBuffer)) _ (read_faults m d (union mode stated ids fs) p rows) x
    (λ y b. short_in m d mode stated ids fs p rows p.buffer y (first_low m p mode) (cause_second _ _ _ y b))
    (λ y b. nulls_in m d mode stated ids fs p rows y b) a

-- where there are rows, what is wrong with a buffer of its own
buffers_in : (m : RecordBatch) (d : Dictionaries) (mode : UnionMode) (stated : Bool) (ids : List ℤ) (fs : Fields) (p : Place) (n : ℕ) (x : IpcError) → IsAmong (buffers_bad m mode p (suc n)) x → IsAmong (read_faults m d (union mode stated ids fs) p (suc n)) x
buffers_in m d mode stated ids fs p n x a =
    own_in m d mode stated ids fs p n x (subst (λ es. IsAmong es x) (sym (own_are m mode ids fs p (suc n)))
    (among_right (cause (nat_lt p.buffer (types_buffer m p) && has_nulls m p) (Unsupported UnionNulls)) _ x (among_sound (buffers_bad m mode p (suc n)) _ x a)))

types_where : (m : RecordBatch) (d : Dictionaries) (mode : UnionMode) (stated : Bool) (ids : List ℤ) (fs : Fields) (p : Place) (rows : ℕ) (x : IpcError) → IsAmong (faults_where rows (numbers_faults m (types_buffer m p) 1 rows)) x → IsAmong (read_faults m d (union mode stated ids fs) p rows) x
types_where m d mode stated ids fs p zero x a = absurd a
types_where m d mode stated ids fs p (suc n) x a = buffers_in m d mode stated ids fs p n x (among_left (numbers_faults m (types_buffer m p) 1 (suc n)) _ x a)

types_in_all : (m : RecordBatch) (d : Dictionaries) (mode : UnionMode) (stated : Bool) (ids : List ℤ) (fs : Fields) (p : Place) (rows : ℕ) (x : IpcError) → IsAmong (rows_faults m (types_buffer m p) 1 rows) x → IsAmong (read_faults m d (union mode stated ids fs) p rows) x
types_in_all m d mode stated ids fs p rows x a =
    among_split (short_of m.buffers (types_buffer m p)) _ (read_faults m d (union mode stated ids fs) p rows) x
    (λ y b. short_in m d mode stated ids fs p rows (types_buffer m p) y (types_low m p mode) b)
    (λ y b. types_where m d mode stated ids fs p rows y b) a

places_where : (m : RecordBatch) (d : Dictionaries) (stated : Bool) (ids : List ℤ) (fs : Fields) (p : Place) (rows : ℕ) (x : IpcError) → IsAmong (faults_where rows (numbers_faults m (suc (types_buffer m p)) 4 rows)) x → IsAmong (read_faults m d (union Dense stated ids fs) p rows) x
places_where m d stated ids fs p zero x a = absurd a
places_where m d stated ids fs p (suc n) x a = buffers_in m d Dense stated ids fs p n x (among_right (numbers_faults m (types_buffer m p) 1 (suc n)) _ x a)

places_in_all : (m : RecordBatch) (d : Dictionaries) (mode : UnionMode) (stated : Bool) (ids : List ℤ) (fs : Fields) (p : Place) (rows : ℕ) (x : IpcError) → IsAmong (places_faults m mode (suc (types_buffer m p)) rows) x → IsAmong (read_faults m d (union mode stated ids fs) p rows) x
places_in_all m d Sparse stated ids fs p rows x a = absurd a
places_in_all m d Dense stated ids fs p rows x a =
    among_split (short_of m.buffers (suc (types_buffer m p))) _ (read_faults m d (union Dense stated ids fs) p rows) x
    (λ y b. short_in m d Dense stated ids fs p rows (suc (types_buffer m p)) y (places_low m p) b)
    (λ y b. places_where m d stated ids fs p rows y b) a

top_in : (m : RecordBatch) (d : Dictionaries) (mode : UnionMode) (stated : Bool) (ids : List ℤ) (fs : Fields) (p : Place) (rows : ℕ) (x : IpcError) → IsAmong (union_parts_faults m mode p rows) x → IsAmong (read_faults m d (union mode stated ids fs) p rows) x
top_in m d mode stated ids fs p rows x a =
    let es = read_faults m d (union mode stated ids fs) p rows in
    among_split (node_faults m p rows) _ es x (λ y b. node_in m d mode stated ids fs p rows y b)
    (λ y b. among_split (union_validity_faults m p rows) _ es y (λ z c. validity_in m d mode stated ids fs p rows z c)
    (λ z c. among_split (rows_faults m (types_buffer m p) 1 rows) _ es z (λ w v. types_in_all m d mode stated ids fs p rows w v) (λ w v. places_in_all m d mode stated ids fs p rows w v) c) b) a

pub union_parts_refused : (m : RecordBatch) (d : Dictionaries) (k : Kind) (mode : UnionMode) (fs : Fields) (p : Place) (rows : ℕ) (e : IpcError) → under_extensions k ≡ union_as k mode fs → Refuses e (union_parts_faults m mode p rows) → Refuses e (read_faults m d k p rows)
union_parts_refused m d k mode fs p rows e u r =
    let l = union_as k mode fs in
    wrapped_reads (Refuses e) m d k l p rows u (refuses_more (union_parts_faults m mode p rows) (read_faults m d l p rows) e (λ x a. top_in m d mode (stated_in k) (ids_in k) fs p rows x a) r)

union_counts : (m : RecordBatch) (k : Kind) (mode : UnionMode) (fs : Fields) (p : Place) → count_faults m (union_as k mode fs) p ≡ place_faults m p (behind m fs (inside (union_buffers m.version mode) p))
union_counts m k mode fs p =
    let l = union_as k mode fs in
    counts_between m l p ∙ ap (place_faults m p) (sym (after_opens m l (union_buffers m.version mode) fs p (union_opens k mode fs m.version)))

children_at : (m : RecordBatch) (d : Dictionaries) (k : Kind) (mode : UnionMode) (fs : Fields) (p : Place) (rows : ℕ) (e : IpcError) → Refuses e (place_faults m (inside (union_buffers m.version mode) p) (behind m fs (inside (union_buffers m.version mode) p)) ++ below m d mode fs p rows) → Refuses e (read_faults m d (union_as k mode fs) p rows)
unfolding read_faults
children_at m d k mode fs p rows e r =
    let own = union_buffers m.version mode in
    let b = behind m fs (inside own p) in
    let l = union_as k mode fs in
    refuses_by (place_faults m (inside own p) b) _ (read_faults m d l p rows) e
    (λ t. refuses_left (count_faults m l p) _ e (subst (λ es. Refuses e es) (sym (union_counts m k mode fs p)) (wider_refuses m p b (inside own p) b e (inside_behind own p) (fields_behind m fs (inside own p)).views (behind_itself b) t)))
    (λ t. refuses_more (below m d mode fs p rows) (read_faults m d l p rows) e (λ x a. child_in m d mode (stated_in k) (ids_in k) fs p rows x a) t) r

pub union_children_refused : (m : RecordBatch) (d : Dictionaries) (k : Kind) (mode : UnionMode) (fs : Fields) (p : Place) (rows : ℕ) (e : IpcError) → under_extensions k ≡ union_as k mode fs
    → Refuses e (place_faults m (inside (union_buffers m.version mode) p) (behind m fs (inside (union_buffers m.version mode) p)) ++ child_faults m d fs (inside (union_buffers m.version mode) p) (rows_by (children_rows mode rows) m)) → Refuses e (read_faults m d k p rows)
union_children_refused m d k mode fs p rows e u r = wrapped_reads (Refuses e) m d k (union_as k mode fs) p rows u (children_at m d k mode fs p rows e r)

-- ── types and offsets ──

type_at : (m : RecordBatch) (i rows row : ℕ) → row < rows → number_at (types_in m i rows) row ≡ signed_in m w8 i row
type_at m i rows row lt = let e : 0 + row ≡ row = omega arith in get-told (λ j. signed_in m w8 i j) 0 rows row (pos 0) lt ∙ ap (λ j. signed_in m w8 i j) e

types_many : (m : RecordBatch) (i rows : ℕ) → length (types_in m i rows) ≡ rows
types_many m i rows = length-from_on (λ j. signed_in m w8 i j) 0 rows

place_at : (m : RecordBatch) (i rows row : ℕ) → row < rows → number_at (from_on (λ j. signed_in m w32 i j) 0 rows) row ≡ signed_in m w32 i row
place_at m i rows row lt = let e : 0 + row ≡ row = omega arith in get-told (λ j. signed_in m w32 i j) 0 rows row (pos 0) lt ∙ ap (λ j. signed_in m w32 i j) e

-- each type is an id, or one is none
ids_are : (m : RecordBatch) (ids : List ℤ) (p : Place) (rows : ℕ) → have_ids ids (types_in m (types_buffer m p) rows) ≡ not (ids_bad m ids p rows)
ids_are m ids p rows =
    let ts = types_in m (types_buffer m p) rows in
    ap (λ c. not (some_row (λ row. is_no_id (id_place ids (number_at ts row))) c)) (types_many m (types_buffer m p) rows)
    ∙ ap not (some_row-same (λ row. is_no_id (id_place ids (number_at ts row))) (λ row. is_no_id (id_place ids (signed_in m w8 (types_buffer m p) row))) rows (λ row lt. ap (λ t. is_no_id (id_place ids t)) (type_at m (types_buffer m p) rows row lt)))

child_rows_at : (m : RecordBatch) (fs : Fields) (q : Place) (i : ℕ) → i < width fs → slice_index_or (rows_of_each m fs q (λ q. magnitude (node_of m q.node).length)) i 0 ≡ magnitude (node_of m (place_in m fs i q).node).length
child_rows_at m none q i h = absurd (omega (arith, h))
child_rows_at m (field name nullable metadata k others) q zero h = refl
child_rows_at m (field name nullable metadata k others) q (suc i) h = child_rows_at m others (after m k q) i (omega (arith, h))

-- each child has the rows that its node says
abbrev Ends : RecordBatch → Fields → Place → Type 0
Ends m fs q = (i : ℕ) → i < width fs → end_of m (place_in m fs i q).node ≡ magnitude (node_of m (place_in m fs i q).node).length

bad_same : (m : RecordBatch) (ids : List ℤ) (fs : Fields) (q : Place) (t at : ℤ) (r : Option ℕ) → id_place ids t ≡ r → length ids ≡ width fs → Ends m fs q → is_bad_place (rows_of_each m fs q (λ q. magnitude (node_of m q.node).length)) r at ≡ is_bad_row m fs q r at
bad_same m ids fs q t at None e h ends = refl
bad_same m ids fs q t at (Some i) e h ends =
    let below : i < width fs = omega (arith, id_below ids t i e, h) in
    ap (λ n. is_negative at || nat_le n (magnitude at)) (child_rows_at m fs q i below ∙ sym (ends i below))

-- each offset is a row of its child, or one is none
places_are : (m : RecordBatch) (ids : List ℤ) (fs : Fields) (p : Place) (rows : ℕ) → length ids ≡ width fs → Ends m fs (inside (union_buffers m.version Dense) p)
    → fits_places ids (types_in m (types_buffer m p) rows) (places_in m Dense (suc (types_buffer m p)) rows) (rows_of_each m fs (inside (union_buffers m.version Dense) p) (λ q. magnitude (node_of m q.node).length)) ≡ not (places_bad m ids fs p rows)
places_are m ids fs p rows h ends =
    let i = types_buffer m p in
    let ts = types_in m i rows in
    let os = from_on (λ j. signed_in m w32 (suc i) j) 0 rows in
    let q = inside (union_buffers m.version Dense) p in
    let ns = rows_of_each m fs q (λ q. magnitude (node_of m q.node).length) in
    ap (λ c. not (some_row (λ row. is_bad_place ns (id_place ids (number_at ts row)) (number_at os row)) c)) (types_many m i rows)
    ∙ ap not (some_row-same (λ row. is_bad_place ns (id_place ids (number_at ts row)) (number_at os row)) (λ row. is_bad_row m fs q (id_place ids (signed_in m w8 i row)) (signed_in m w32 (suc i) row)) rows
    (λ row lt. ap (λ t. is_bad_place ns (id_place ids t) (number_at os row)) (type_at m i rows row lt) ∙ ap (is_bad_place ns (id_place ids (signed_in m w8 i row))) (place_at m (suc i) rows row lt)
    ∙ bad_same m ids fs q (signed_in m w8 i row) (signed_in m w32 (suc i) row) (id_place ids (signed_in m w8 i row)) refl h ends))

-- what the array that was made says of them
pub record Fits (k : Kind) (top : UnionTop) (held : List ℕ) : Type 0 where
  pub places : fits_places (ids_in k) top.types top.offsets held ≡ true
  pub ids : have_ids (ids_in k) top.types ≡ true

not_false : (b c : Bool) → c ≡ not b → c ≡ true → b ≡ false
not_false true c e h = cc
not_false false c e h = refl

not_true : (b c : Bool) → c ≡ not b → c ≡ false → b ≡ true
not_true true c e h = refl
not_true false c e h = cc

dense_none : (m : RecordBatch) (mode : UnionMode) (k : Kind) (fs : Fields) (p : Place) (n : ℕ) (held : List ℕ) → length (ids_in k) ≡ width fs → held ≡ rows_of_each m fs (inside (union_buffers m.version mode) p) (rows_by (children_rows mode (suc n)) m)
    → Ends m fs (inside (union_buffers m.version mode) p) → fits_places (ids_in k) (types_in m (types_buffer m p) (suc n)) (places_in m mode (suc (types_buffer m p)) (suc n)) held ≡ true → dense_faults m mode (ids_in k) fs p (suc n) ≡ []
dense_none m Sparse k fs p n held i e ends h = refl
dense_none m Dense k fs p n held i e ends h =
    no_cause (places_bad m (ids_in k) fs p (suc n)) _ (not_false _ _ (places_are m (ids_in k) fs p (suc n) i ends) (ap (fits_places (ids_in k) (types_in m (types_buffer m p) (suc n)) (places_in m Dense (suc (types_buffer m p)) (suc n))) (sym e) ∙ h))

where_none : (n : ℕ) (m : RecordBatch) (mode : UnionMode) (p : Place) → union_parts_faults m mode p (suc n) ≡ [] → (node_faults m p (suc n) ≡ []) × ((cause (nat_lt p.buffer (types_buffer m p) && has_nulls m p) (Unsupported UnionNulls) ≡ []) × (buffers_bad m mode p (suc n) ≡ []))
where_none n m mode p h =
    let a = none_of_both (node_faults m p (suc n)) _ h in
    let b = none_of_both (union_validity_faults m p (suc n)) _ a.1 in
    let v = none_of_both (cause (nat_lt p.buffer (types_buffer m p) && nat_le (length m.buffers) p.buffer) (OutOfSpec out.ExpectedBuffer)) _ b.0 in
    let c = none_of_both (rows_faults m (types_buffer m p) 1 (suc n)) _ b.1 in
    let t = none_of_both (short_of m.buffers (types_buffer m p)) _ c.0 in
    (a.0, (v.1, both_none _ _ t.1 (dense mode c.1)))
  where
    dense : (mode : UnionMode) → places_faults m mode (suc (types_buffer m p)) (suc n) ≡ [] → dense_buffer_faults m mode p (suc n) ≡ []
    dense Sparse g = refl
    dense Dense g = (none_of_both (short_of m.buffers (suc (types_buffer m p))) _ g).1

own_none : (m : RecordBatch) (mode : UnionMode) (k : Kind) (fs : Fields) (p : Place) (n : ℕ) (held : List ℕ) → length (ids_in k) ≡ width fs → held ≡ rows_of_each m fs (inside (union_buffers m.version mode) p) (rows_by (children_rows mode (suc n)) m)
    → Ends m fs (inside (union_buffers m.version mode) p) → Fits k (union_top_read m mode p (suc n)) held → union_parts_faults m mode p (suc n) ≡ [] → union_faults m mode (ids_in k) fs p (suc n) ≡ []
own_none m mode k fs p n held i e ends f h =
    let w = where_none n m mode p h in
    let ids = no_cause (ids_bad m (ids_in k) p (suc n)) (OutOfSpec out.InvalidUnion) (not_false _ _ (ids_are m (ids_in k) p (suc n)) f.ids) in
    own_are m mode (ids_in k) fs p (suc n)
    ∙ both_none _ _ w.1.0 (ap (λ es. if_sound es (rows_bad m mode (ids_in k) fs p (suc n))) w.1.1 ∙ both_none _ _ ids (dense_none m mode k fs p n held i e ends f.places))

union_none : (m : RecordBatch) (d : Dictionaries) (mode : UnionMode) (k : Kind) (fs : Fields) (p : Place) (rows : ℕ) (held : List ℕ) → length (ids_in k) ≡ width fs → held ≡ rows_of_each m fs (inside (union_buffers m.version mode) p) (rows_by (children_rows mode rows) m)
    → Fits k (union_top_read m mode p rows) held → union_parts_faults m mode p rows ≡ [] → below m d mode fs p rows ≡ [] → array_faults m d (union_as k mode fs) p rows ≡ []
union_none m d mode k fs p zero held i e f h c = array_none m d mode (stated_in k) (ids_in k) fs p ∙ both_none _ _ (none_of_both (node_faults m p 0) _ h).0 c
union_none m d mode k fs p (suc n) held i e f h c =
    let ends = child_ends m d fs (inside (union_buffers m.version mode) p) (rows_by (children_rows mode (suc n)) m) c in
    array_is m d mode (stated_in k) (ids_in k) fs p n ∙ both_none _ _ (both_none _ _ (where_none n m mode p h).0 (own_none m mode k fs p n held i e ends f h)) c

well_at : (m : RecordBatch) (d : Dictionaries) (k : Kind) (mode : UnionMode) (fs : Fields) (p : Place) (rows : ℕ) (held : List ℕ) (ns : List FieldNode) (bs : List IpcBuffer) (vs : List ℤ) → length (ids_in k) ≡ width fs → AllAt m (behind m fs (inside (union_buffers m.version mode) p)) ns bs vs
    → held ≡ rows_of_each m fs (inside (union_buffers m.version mode) p) (rows_by (children_rows mode rows) m) → Fits k (union_top_read m mode p rows) held → union_parts_faults m mode p rows ≡ []
    → place_faults m (inside (union_buffers m.version mode) p) (behind m fs (inside (union_buffers m.version mode) p)) ++ below m d mode fs p rows ≡ [] → read_faults m d (union_as k mode fs) p rows ≡ []
unfolding read_faults
well_at m d k mode fs p rows held ns bs vs i a e f h c =
    let own = union_buffers m.version mode in
    let b = behind m fs (inside own p) in
    let parts = none_of_both (place_faults m (inside own p) b) _ c in
    both_none (count_faults m (union_as k mode fs) p) _ (union_counts m k mode fs p ∙ none_missing m p b ns bs vs a (are_natural m (inside own p) b parts.0)) (union_none m d mode k fs p rows held i e f h parts.1)

pub union_well : (m : RecordBatch) (d : Dictionaries) (k : Kind) (mode : UnionMode) (fs : Fields) (p : Place) (rows : ℕ) (top : UnionTop) (held : List ℕ) (ns : List FieldNode) (bs : List IpcBuffer) (vs : List ℤ) → under_extensions k ≡ union_as k mode fs → is_carried k ≡ true → AllAt m (behind m fs (inside (union_buffers m.version mode) p)) ns bs vs
    → top ≡ union_top_read m mode p rows → held ≡ rows_of_each m fs (inside (union_buffers m.version mode) p) (rows_by (children_rows mode rows) m) → Fits k top held → union_parts_faults m mode p rows ≡ []
    → place_faults m (inside (union_buffers m.version mode) p) (behind m fs (inside (union_buffers m.version mode) p)) ++ child_faults m d fs (inside (union_buffers m.version mode) p) (rows_by (children_rows mode rows) m) ≡ [] → read_faults m d k p rows ≡ []
union_well m d k mode fs p rows top held ns bs vs u g a t e f h c =
    wrapped_reads (λ es. es ≡ []) m d k (union_as k mode fs) p rows u
    (well_at m d k mode fs p rows held ns bs vs (ids_many (ids_in k) (width fs) (union_right k mode fs u g).0) a e (subst (λ z. Fits k z held) t f) h c)

-- ── the array that was refused ──

rows_in_all : (m : RecordBatch) (d : Dictionaries) (mode : UnionMode) (k : Kind) (fs : Fields) (p : Place) (n : ℕ) (x : IpcError) → union_parts_faults m mode p (suc n) ≡ [] → IsAmong (rows_bad m mode (ids_in k) fs p (suc n)) x → IsAmong (read_faults m d (union_as k mode fs) p (suc n)) x
rows_in_all m d mode k fs p n x h a =
    own_in m d mode (stated_in k) (ids_in k) fs p n x (subst (λ es. IsAmong es x) (sym (own_are m mode (ids_in k) fs p (suc n)))
    (among_right (cause (nat_lt p.buffer (types_buffer m p) && has_nulls m p) (Unsupported UnionNulls)) _ x (subst (λ es. IsAmong (if_sound es (rows_bad m mode (ids_in k) fs p (suc n))) x) (sym (where_none n m mode p h).1.1) a)))

type_refused : (m : RecordBatch) (d : Dictionaries) (mode : UnionMode) (k : Kind) (fs : Fields) (p : Place) (rows : ℕ) → union_parts_faults m mode p rows ≡ [] → have_ids (ids_in k) (types_in m (types_buffer m p) rows) ≡ false → IsAmong (read_faults m d (union_as k mode fs) p rows) (OutOfSpec out.InvalidUnion)
type_refused m d mode k fs p zero h f = cc
type_refused m d mode k fs p (suc n) h f =
    rows_in_all m d mode k fs p n _ h (among_left (cause (ids_bad m (ids_in k) p (suc n)) (OutOfSpec out.InvalidUnion)) _ _ (among_cause _ _ (not_true _ _ (ids_are m (ids_in k) p (suc n)) f)))

place_refused : (m : RecordBatch) (d : Dictionaries) (mode : UnionMode) (k : Kind) (fs : Fields) (p : Place) (rows : ℕ) (held : List ℕ) → length (ids_in k) ≡ width fs → held ≡ rows_of_each m fs (inside (union_buffers m.version mode) p) (rows_by (children_rows mode rows) m) → union_parts_faults m mode p rows ≡ []
    → Ends m fs (inside (union_buffers m.version mode) p) → fits_places (ids_in k) (types_in m (types_buffer m p) rows) (places_in m mode (suc (types_buffer m p)) rows) held ≡ false → IsAmong (read_faults m d (union_as k mode fs) p rows) (OutOfSpec out.InvalidOffsets)
place_refused m d Sparse k fs p rows held i e h ends f = cc
place_refused m d Dense k fs p zero held i e h ends f = cc
place_refused m d Dense k fs p (suc n) held i e h ends f =
    rows_in_all m d Dense k fs p n _ h (among_right (cause (ids_bad m (ids_in k) p (suc n)) (OutOfSpec out.InvalidUnion)) _ _ (among_cause _ _ (not_true _ _ (places_are m (ids_in k) fs p (suc n) i ends)
    (ap (fits_places (ids_in k) (types_in m (types_buffer m p) (suc n)) (places_in m Dense (suc (types_buffer m p)) (suc n))) (sym e) ∙ f))))

-- why an array of these parts is not made
abbrev pub WhyRefused : Kind → UnionTop → List ℕ → IpcError → Type 0
WhyRefused k top held e = (e ≡ Memory) ⊎ (((e ≡ OutOfSpec out.InvalidOffsets) × (fits_places (ids_in k) top.types top.offsets held ≡ false)) ⊎ ((e ≡ OutOfSpec out.InvalidUnion) × (have_ids (ids_in k) top.types ≡ false)))

made_refused : (m : RecordBatch) (d : Dictionaries) (mode : UnionMode) (k : Kind) (fs : Fields) (p : Place) (rows : ℕ) (held : List ℕ) (e : IpcError) → length (ids_in k) ≡ width fs → held ≡ rows_of_each m fs (inside (union_buffers m.version mode) p) (rows_by (children_rows mode rows) m) → union_parts_faults m mode p rows ≡ []
    → Ends m fs (inside (union_buffers m.version mode) p) → WhyRefused k (union_top_read m mode p rows) held e → Refuses e (read_faults m d (union_as k mode fs) p rows)
made_refused m d mode k fs p rows held e i g h ends (inl x) = memory_refuses e _ x
made_refused m d mode k fs p rows held e i g h ends (inr (inl x)) = subst (λ f. Refuses f (read_faults m d (union_as k mode fs) p rows)) (sym x.0) (place_refused m d mode k fs p rows held i g h ends x.1)
made_refused m d mode k fs p rows held e i g h ends (inr (inr x)) = subst (λ f. Refuses f (read_faults m d (union_as k mode fs) p rows)) (sym x.0) (type_refused m d mode k fs p rows h x.1)

pub union_refused : (m : RecordBatch) (d : Dictionaries) (k : Kind) (mode : UnionMode) (fs : Fields) (p : Place) (rows : ℕ) (top : UnionTop) (held : List ℕ) (e : IpcError) → under_extensions k ≡ union_as k mode fs → is_carried k ≡ true
    → top ≡ union_top_read m mode p rows → held ≡ rows_of_each m fs (inside (union_buffers m.version mode) p) (rows_by (children_rows mode rows) m) → union_parts_faults m mode p rows ≡ [] → Ends m fs (inside (union_buffers m.version mode) p) → WhyRefused k top held e → Refuses e (read_faults m d k p rows)
union_refused m d k mode fs p rows top held e u g t w h ends y =
    wrapped_reads (Refuses e) m d k (union_as k mode fs) p rows u
    (made_refused m d mode k fs p rows held e (ids_many (ids_in k) (width fs) (union_right k mode fs u g).0) w h ends (subst (λ z. WhyRefused k z held e) t y))

-- ── the array ──

pub union_parts : (m : RecordBatch) (hs : Held) (l k : Kind) (mode : UnionMode) (fs : Fields) (p : Place) (rows : ℕ) (top : UnionTop) (cs : Forest) → under_extensions k ≡ union_as k mode fs → top ≡ union_top_read m mode p rows → cs ≡ forest_read m hs fs (inside (union_buffers m.version mode) p) (rows_by (children_rows mode rows) m)
    → nested (tagged (tagged_by l top)) cs ≡ parts_under l m hs k p rows
union_parts m hs l k mode fs p rows top cs u t f =
    ap (λ z. nested (tagged (tagged_by l z)) cs) t ∙ ap (nested (tagged (tagged_by l (union_top_read m mode p rows)))) f
    ∙ wrapped (λ j. nested (tagged (tagged_by l (union_top_read m mode p rows))) (forest_read m hs fs (inside (union_buffers m.version mode) p) (rows_by (children_rows mode rows) m)) ≡ parts_under l m hs j p rows) (λ name metadata j h. h) k (union_as k mode fs) u (by mode rows)
  where
    by : (mode : UnionMode) (rows : ℕ) → nested (tagged (tagged_by l (union_top_read m mode p rows))) (forest_read m hs fs (inside (union_buffers m.version mode) p) (rows_by (children_rows mode rows) m)) ≡ parts_under l m hs (union_as k mode fs) p rows
    by Sparse rows = refl
    by Dense zero = refl
    by Dense (suc n) = refl

-- the answer of the call that makes it
pub union_made : (r : Result Array IpcError) (m : RecordBatch) (d : Dictionaries) (hs : Held) (l k : Kind) (mode : UnionMode) (fs : Fields) (p : Place) (rows : ℕ) (top : UnionTop) (held : List ℕ) (cs : Forest) (ns : List FieldNode) (bs : List IpcBuffer) (vs : List ℤ) → under_extensions k ≡ union_as k mode fs → is_carried k ≡ true → ids_in l ≡ ids_in k → plain_kind k ≡ l
    → AllAt m (behind m fs (inside (union_buffers m.version mode) p)) ns bs vs → top ≡ union_top_read m mode p rows → held ≡ rows_of_each m fs (inside (union_buffers m.version mode) p) (rows_by (children_rows mode rows) m) → union_parts_faults m mode p rows ≡ []
    → place_faults m (inside (union_buffers m.version mode) p) (behind m fs (inside (union_buffers m.version mode) p)) ++ child_faults m d fs (inside (union_buffers m.version mode) p) (rows_by (children_rows mode rows) m) ≡ []
    → cs ≡ forest_read m hs fs (inside (union_buffers m.version mode) p) (rows_by (children_rows mode rows) m)
    → IfOk r (λ a. parts_of a ≡ nested (tagged (tagged_by l top)) cs) → IfOk r (λ _. fits_places (ids_in l) top.types top.offsets held ≡ true) → IfOk r (λ _. have_ids (ids_in l) top.types ≡ true) → IfErr r (λ e. WhyRefused l top held e)
    → Answers (λ a. parts_of a) r (read_faults m d k p rows) (parts_read m hs k p rows)
union_made (Ok x) m d hs l k mode fs p rows top held cs ns bs vs u g same plain a t w h c f made places ids y = record {
  ok = (
    union_well m d k mode fs p rows top held ns bs vs u g a t w (record { places = subst (λ z. fits_places z top.types top.offsets held ≡ true) same places; ids = subst (λ z. have_ids z top.types ≡ true) same ids }) h c,
    made ∙ union_parts m hs l k mode fs p rows top cs u t f ∙ ap (λ z. parts_under z m hs k p rows) (sym plain),
  );
  err = tt;
}
union_made (Err e) m d hs l k mode fs p rows top held cs ns bs vs u g same plain a t w h c f made places ids y =
    let q = inside (union_buffers m.version mode) p in
    let ends = child_ends m d fs q (rows_by (children_rows mode rows) m) (none_of_both (place_faults m q (behind m fs q)) _ c).1 in
    record { ok = tt; err = union_refused m d k mode fs p rows top held e u g t w h ends (subst (λ z. (e ≡ Memory) ⊎ (((e ≡ OutOfSpec out.InvalidOffsets) × (fits_places z top.types top.offsets held ≡ false)) ⊎ ((e ≡ OutOfSpec out.InvalidUnion) × (have_ids z top.types ≡ false)))) same y) }

pub union_bytes : (m : RecordBatch) (k : Kind) (mode : UnionMode) (fs : Fields) (p : Place) (rows : ℕ) → under_extensions k ≡ union_as k mode fs → AllHaveBytes m fs (inside (union_buffers m.version mode) p) (rows_by (children_rows mode rows) m) → HaveBytes m k p rows
union_bytes m k mode fs p rows u b = wrapped (λ j. HaveBytes m j p rows) (λ name metadata j h. h) k (union_as k mode fs) u (by mode rows b)
  where
    by : (mode : UnionMode) (rows : ℕ) → AllHaveBytes m fs (inside (union_buffers m.version mode) p) (rows_by (children_rows mode rows) m) → HaveBytes m (union_as k mode fs) p rows
    by Sparse rows b = b
    by Dense zero b = b
    by Dense (suc n) b = b

-- its children have the rows that are asked
pub union_rows : (mode : UnionMode) (fs : Fields) (version : MetadataVersion) (ns : List FieldNode) (bs : List IpcBuffer) (vs : List ℤ) (rows : ℕ) (types : List ℤ) (offsets : Option (List ℤ)) (held : List ℕ) → has_offsets offsets ≡ is_dense mode → length types ≡ rows → IfSome offsets (λ xs. length xs ≡ rows)
    → ((m : RecordBatch) (p : Place) → BatchAt version m p ns bs vs → held ≡ rows_of_each m fs p (rows_by (children_rows mode rows) m)) → tagged_rows offsets (length types) held ≡ true
union_rows Sparse fs version ns bs vs rows types None held d t o h = ap (λ n. are_all n held) t ∙ all_same fs version ns bs vs rows held h
union_rows Sparse fs version ns bs vs rows types (Some xs) held d t o h = cc
union_rows Dense fs version ns bs vs rows types None held d t o h = cc
union_rows Dense fs version ns bs vs rows types (Some xs) held d t o h = eq-eqb (length xs) (length types) (o ∙ sym t)

-- ── what is fetched ──

pub union_fetches : (m : RecordBatch) (k : Kind) (mode : UnionMode) (fs : Fields) (p : Place) (rows : ℕ) → under_extensions k ≡ union_as k mode fs → union_fetched m mode p rows + columns_fetched m fs (inside (union_buffers m.version mode) p) (rows_by (children_rows mode rows) m) ≤ fetched_at_most m k p rows
union_fetches m k mode fs p zero u = let e : columns_fetched m fs (inside (union_buffers m.version mode) p) (rows_by (children_rows mode 0) m) ≡ 0 = by mode in omega (arith, e)
  where
    by : (mode : UnionMode) → columns_fetched m fs (inside (union_buffers m.version mode) p) (rows_by (children_rows mode 0) m) ≡ 0
    by Sparse = columns_none m fs (inside (union_buffers m.version Sparse) p)
    by Dense = columns_none m fs (inside (union_buffers m.version Dense) p)
union_fetches m k mode fs p (suc n) u =
    let q = inside (union_buffers m.version mode) p in
    let most = columns_most m fs q (rows_by (children_rows mode (suc n)) m) in
    let all : stated_of m (looked_at m (union_as k mode fs) p) ≡ stated_of m (union_looked_at m mode p) + stated_of m (looked_at_in m fs q) = stated_append m (union_looked_at m mode p) (looked_at_in m fs q) in
    omega (arith, most, all, fetched_under m k (union_as k mode fs) p (suc n) u)
