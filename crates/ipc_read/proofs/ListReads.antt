-- Arrays of lists and of maps over a child that was read.
use Rattle.std.proofs.lemmas.Bool.{and_parts}
use Rattle.std.proofs.Common.{◌≡◌, ℕ, zero, suc, ◌+◌, ◌≤◌, List, [], ◌∷◌, ◌++◌, length, Option, Bool, true, false, ◌&&◌, nat_eq, ℤ, refl, sym, ap, ◌∙◌, arith, subst, append-nil}
use Rattle.arrow_spec.specs.declared.error.IpcError.{IpcError}
use Rattle.arrow_spec.specs.declared.message.FieldNode.{FieldNode}
use Rattle.arrow_spec.specs.declared.message.IpcBuffer.{IpcBuffer}
use Rattle.arrow_spec.specs.declared.message.MetadataVersion.{MetadataVersion}
use Rattle.arrow_spec.specs.Readings.{IsAmong, Refuses}
use Rattle.arrow_spec.specs.Kinds.{Kind, Fields, Offsets, small, large, width, «list», map, extension}
use Rattle.arrow_spec.specs.Schema.{first_is_struct_of_two}
use Rattle.arrow_spec.specs.Counts.{RecordBatch, Place, after, inside, views}
use Rattle.arrow_spec.specs.Arrays.{offset, Dictionaries}
use Rattle.arrow_spec.specs.Faults.{if_sound, node_faults, validity_faults, offsets_buffer_faults, end_of, offsets_faults, count_faults, view_count_faults, array_faults, child_faults}
use Rattle.arrow_spec.specs.Needed.{looked_at, validity_looked_at}
use Rattle.arrow_spec.specs.Sent.{offset_read}
use Rattle.arrow_types.specs.Child.{Child, one_field}
use Rattle.arrow_buffers.specs.Variable.{place_at, variable_rows}
use Rattle.arrow_arrays.specs.Heads.{Head, Listed, suits, is_list, is_map, child_fields, head_kind, head_rows}
use Rattle.arrow_arrays.specs.Parts.{Parts, nested, also}
use Rattle.ipc_read_laws.specs.Faults.{read_faults, fetched_at_most, stated, stated_of}
use Rattle.arrow_arrays.specs.Carried.{is_carried, are_carried}
use Rattle.ipc_read_laws.specs.Held.{Held}
use Rattle.ipc_read_laws.specs.PartsRead.{parts_read, parts_under, forest_read, listed_read, validity_read, HaveBytes}
use Rattle.ipc_read_laws.proofs.OffsetsRead.{place-told}
use Rattle.ipc_read.specs.Lists.{is_any_list, is_any_map, as_lists, list_head, list_faults, list_top}
use Rattle.ipc_read.specs.Places.{IsBehind, place_faults}
use Rattle.ipc_read.specs.Queues.{Left, AllAt, Shortened, ShortenedBy, short_of}
use Rattle.ipc_read.specs.Sources.{head_faults, bytes_where, validity_fetched, offsets_of_rows}
use Rattle.ipc_read.proofs.Refusals.{refuses_left, refuses_right, refuses_more, refuses_by, refuses_none, both_none, none_of_both, among_left, among_right}
use Rattle.ipc_read.proofs.Places.{after_is_behind, same_place, wider_refuses, AreNatural, are_natural, none_missing, counts_between}
use Rattle.ipc_read.proofs.Counted.{lacks_in}
use Rattle.ipc_read.proofs.Shortened.{none_taken, taken_more, taken_then}
use Rattle.ipc_read.proofs.Nested.{of_lists, stated_append, looked_most, inside_behind, counts_none, array_none, views_none, among_array}

-- ── places ──

abbrev pub ListOf : Offsets → Child → Kind
ListOf o x = «list» o (one_field x)

child_after : (m : RecordBatch) (o : Offsets) (x : Child) (p : Place) → after m x.kind (inside 2 p) ≡ after m (ListOf o x) p
child_after m o x p = same_place (omega arith) (omega arith) (omega arith)

pub list_after : (m : RecordBatch) (k : Kind) (o : Offsets) (x : Child) (p : Place) → as_lists k ≡ ListOf o x → after m x.kind (inside 2 p) ≡ after m k p
list_after m k o x p u = of_lists (λ k. after m x.kind (inside 2 p) ≡ after m k p) (λ name metadata k h. h) (λ sorted fs h. h) k (ListOf o x) u (child_after m o x p)

pub parts_behind : (m : RecordBatch) (p : Place) (ns : List FieldNode) (bs : List IpcBuffer) (vs vs' : List ℤ) → Left m.nodes (suc p.node) ns × Left m.buffers (p.buffer + 2) bs → vs' ≡ vs → Left m.variadic p.view vs → AllAt m (inside 2 p) ns bs vs'
parts_behind m p ns bs vs vs' h e v = record { nodes = h.0; buffers = h.1; views = subst (λ z. Left m.variadic p.view z) (sym e) v }

pub last_read : (m : RecordBatch) (o : Offsets) (p : Place) (rows last : ℕ) (os : List ℤ) → last ≡ place_at os rows → os ≡ offsets_of_rows m o (p.buffer + 1) rows → last ≡ offset_read m o p rows
last_read m o p zero last os e f = e ∙ ap (λ xs. place_at xs 0) f
last_read m o p (suc n) last os e f = e ∙ ap (λ xs. place_at xs (suc n)) f ∙ place-told m o (p.buffer + 1) (suc n) (suc n) (omega arith)

-- ── what is wrong ──

map_faults : (m : RecordBatch) (d : Dictionaries) (sorted : Bool) (fs : Fields) (p : Place) (rows : ℕ) → array_faults m d («list» small fs) p rows ≡ array_faults m d (map sorted fs) p rows
map_faults m d sorted fs p zero = refl
map_faults m d sorted fs p (suc n) = refl

map_reads : (m : RecordBatch) (d : Dictionaries) (sorted : Bool) (fs : Fields) (p : Place) (rows : ℕ) → read_faults m d («list» small fs) p rows ≡ read_faults m d (map sorted fs) p rows
unfolding read_faults count_faults
map_reads m d sorted fs p rows = ap (λ es. count_faults m (map sorted fs) p ++ es) (map_faults m d sorted fs p rows)

list_reads : (P : List IpcError → Type 0) (m : RecordBatch) (d : Dictionaries) (k l : Kind) (p : Place) (rows : ℕ) → as_lists k ≡ l → P (read_faults m d l p rows) → P (read_faults m d k p rows)
unfolding read_faults count_faults
list_reads P m d k l p rows e h = of_lists (λ k. P (read_faults m d k p rows)) (λ name metadata k h. h) (λ sorted fs h. subst P (map_reads m d sorted fs p rows) h) k l e h

sound_more : (xs ys zs : List IpcError) (e : IpcError) → IsAmong (if_sound xs ys) e → IsAmong (if_sound xs (ys ++ zs)) e
sound_more [] ys zs e h = among_left ys zs e h
sound_more (x ∷ xs) ys zs e h = h

list_top_refused : (m : RecordBatch) (d : Dictionaries) (o : Offsets) (x : Child) (p : Place) (rows : ℕ) (e : IpcError) → Refuses e (list_faults m p rows o) → Refuses e (read_faults m d (ListOf o x) p rows)
unfolding validity_faults
list_top_refused m d o x p zero e r =
    let k = ListOf o x in
    let es = read_faults m d k p 0 in
    refuses_by (head_faults m p 0) _ es e
    (λ s. refuses_by (node_faults m p 0) _ es e (λ t. refuses_more (node_faults m p 0) es e (λ y a. among_array m d k p 0 y (among_left (node_faults m p 0) _ y a)) t)
    (λ s. refuses_by (short_of m.buffers p.buffer) _ es e (λ t. refuses_more (short_of m.buffers p.buffer) es e (λ y a. lacks_in m d k p 0 p.buffer y (omega arith) a) t) (λ t. refuses_none es e t) s) s)
    (λ s. refuses_by (short_of m.buffers (p.buffer + 1)) _ es e (λ t. refuses_more (short_of m.buffers (p.buffer + 1)) es e (λ y a. lacks_in m d k p 0 (p.buffer + 1) y (omega arith) a) t) (λ t. refuses_none es e t) s) r
list_top_refused m d o x p (suc n) e r =
    let k = ListOf o x in
    let es = read_faults m d k p (suc n) in
    let own = node_faults m p (suc n) ++ validity_faults m p (suc n) in
    let bad = offsets_faults m o (p.buffer + 1) (suc n) (end_of m (suc p.node)) in
    let buffer = offsets_buffer_faults m o (p.buffer + 1) (suc n) in
    let children = child_faults m d (one_field x) (inside 2 p) (λ q. offset m o (p.buffer + 1) (suc n)) in
    refuses_by (head_faults m p (suc n)) _ es e
    (λ s. refuses_by (node_faults m p (suc n)) _ es e (λ t. refuses_more (node_faults m p (suc n)) es e (λ y a. among_array m d k p (suc n) y (among_left own (if_sound buffer (bad ++ children)) y (among_left (node_faults m p (suc n)) (validity_faults m p (suc n)) y a))) t)
    (λ s. refuses_by (short_of m.buffers p.buffer) (validity_faults m p (suc n)) es e (λ t. refuses_more (short_of m.buffers p.buffer) es e (λ y a. lacks_in m d k p (suc n) p.buffer y (omega arith) a) t)
    (λ t. refuses_more (validity_faults m p (suc n)) es e (λ y a. among_array m d k p (suc n) y (among_left own (if_sound buffer (bad ++ children)) y (among_right (node_faults m p (suc n)) (validity_faults m p (suc n)) y a))) t) s) s)
    (λ s. refuses_by (short_of m.buffers (p.buffer + 1)) _ es e (λ t. refuses_more (short_of m.buffers (p.buffer + 1)) es e (λ y a. lacks_in m d k p (suc n) (p.buffer + 1) y (omega arith) a) t)
    (λ t. refuses_more (if_sound buffer bad) es e (λ y a. among_array m d k p (suc n) y (among_right own (if_sound buffer (bad ++ children)) y (sound_more buffer bad children y a))) t) s) r

pub list_parts_refused : (m : RecordBatch) (d : Dictionaries) (k : Kind) (o : Offsets) (x : Child) (p : Place) (rows : ℕ) (e : IpcError) → as_lists k ≡ ListOf o x → Refuses e (list_faults m p rows o) → Refuses e (read_faults m d k p rows)
list_parts_refused m d k o x p rows e u r = list_reads (Refuses e) m d k (ListOf o x) p rows u (list_top_refused m d o x p rows e r)

-- nothing is wrong with the offsets
buffer_none : (m : RecordBatch) (o : Offsets) (p : Place) (n : ℕ) → list_faults m p (suc n) o ≡ [] → (offsets_buffer_faults m o (p.buffer + 1) (suc n) ≡ []) × (offsets_faults m o (p.buffer + 1) (suc n) (end_of m (suc p.node)) ≡ [])
buffer_none m o p n h = by (offsets_buffer_faults m o (p.buffer + 1) (suc n)) (none_of_both (short_of m.buffers (p.buffer + 1)) _ (none_of_both (head_faults m p (suc n)) _ h).1).1
  where
    by : (es : List IpcError) → if_sound es (offsets_faults m o (p.buffer + 1) (suc n) (end_of m (suc p.node))) ≡ [] → (es ≡ []) × (offsets_faults m o (p.buffer + 1) (suc n) (end_of m (suc p.node)) ≡ [])
    by [] g = (refl, g)
    by (y ∷ es) g = cc

one_child : (m : RecordBatch) (d : Dictionaries) (x : Child) (q : Place) (n : ℕ) → child_faults m d (one_field x) q (λ q. n) ≡ array_faults m d x.kind q n ++ if_sound (view_count_faults m x.kind q) []
one_child m d x q n = refl

child_in : (m : RecordBatch) (d : Dictionaries) (o : Offsets) (x : Child) (p : Place) (rows : ℕ) (e : IpcError) → list_faults m p rows o ≡ [] → IsAmong (child_faults m d (one_field x) (inside 2 p) (λ q. offset_read m o p rows)) e → IsAmong (array_faults m d (ListOf o x) p rows) e
child_in m d o x p zero e h a = among_right (node_faults m p 0) _ e a
child_in m d o x p (suc n) e h a =
    let bad = offsets_faults m o (p.buffer + 1) (suc n) (end_of m (suc p.node)) in
    let children = child_faults m d (one_field x) (inside 2 p) (λ q. offset m o (p.buffer + 1) (suc n)) in
    among_right (node_faults m p (suc n) ++ validity_faults m p (suc n)) _ e (subst (λ es. IsAmong (if_sound es (bad ++ children)) e) (sym (buffer_none m o p n h).0) (among_right bad children e a))

list_child_at : (m : RecordBatch) (d : Dictionaries) (o : Offsets) (x : Child) (p : Place) (rows : ℕ) (e : IpcError) → list_faults m p rows o ≡ [] → Refuses e (read_faults m d x.kind (inside 2 p) (offset_read m o p rows)) → Refuses e (read_faults m d (ListOf o x) p rows)
unfolding read_faults
list_child_at m d o x p rows e h r =
    let k = x.kind in
    let q = inside 2 p in
    let next = after m (ListOf o x) p in
    refuses_by (count_faults m k q) _ (read_faults m d (ListOf o x) p rows) e
    (λ s. refuses_left (count_faults m (ListOf o x) p) _ e (subst (λ es. Refuses e es) (sym (counts_between m (ListOf o x) p)) (wider_refuses m p next q (after m k q) e (inside_behind 2 p) (after_is_behind m k q).views (subst (λ z. IsBehind (after m k q) z) (child_after m o x p) (record { nodes = omega arith; buffers = omega arith; views = omega arith })) (subst (λ es. Refuses e es) (counts_between m k q) s))))
    (λ s. refuses_right (count_faults m (ListOf o x) p) _ e (refuses_more (array_faults m d k q (offset_read m o p rows)) _ e (λ y a. child_in m d o x p rows y h (subst (λ es. IsAmong es y) (sym (one_child m d x q (offset_read m o p rows))) (among_left (array_faults m d k q (offset_read m o p rows)) _ y a))) s)) r

pub list_child_refused : (m : RecordBatch) (d : Dictionaries) (k : Kind) (o : Offsets) (x : Child) (p : Place) (rows : ℕ) (e : IpcError) → as_lists k ≡ ListOf o x → list_faults m p rows o ≡ [] → Refuses e (read_faults m d x.kind (inside 2 p) (offset_read m o p rows)) → Refuses e (read_faults m d k p rows)
list_child_refused m d k o x p rows e u h r = list_reads (Refuses e) m d k (ListOf o x) p rows u (list_child_at m d o x p rows e h r)

list_array_none : (m : RecordBatch) (d : Dictionaries) (o : Offsets) (x : Child) (p : Place) (rows : ℕ) → list_faults m p rows o ≡ [] → child_faults m d (one_field x) (inside 2 p) (λ q. offset_read m o p rows) ≡ [] → array_faults m d (ListOf o x) p rows ≡ []
list_array_none m d o x p zero h c = let head = none_of_both (head_faults m p 0) _ h in both_none _ _ (none_of_both (node_faults m p 0) _ head.0).0 c
list_array_none m d o x p (suc n) h c =
    let head = none_of_both (node_faults m p (suc n)) _ (none_of_both (head_faults m p (suc n)) _ h).0 in
    let valid = none_of_both (short_of m.buffers p.buffer) _ head.1 in
    let b = buffer_none m o p n h in
    let children = child_faults m d (one_field x) (inside 2 p) (λ q. offset m o (p.buffer + 1) (suc n)) in
    both_none _ _ (both_none _ _ head.0 valid.1) (ap (λ es. if_sound es (offsets_faults m o (p.buffer + 1) (suc n) (end_of m (suc p.node)) ++ children)) b.0 ∙ both_none _ _ b.1 c)

list_none : (m : RecordBatch) (d : Dictionaries) (o : Offsets) (x : Child) (p : Place) (rows : ℕ) (ns : List FieldNode) (bs : List IpcBuffer) (vs : List ℤ) → AllAt m (after m x.kind (inside 2 p)) ns bs vs → list_faults m p rows o ≡ [] → read_faults m d x.kind (inside 2 p) (offset_read m o p rows) ≡ [] → read_faults m d (ListOf o x) p rows ≡ []
unfolding read_faults
list_none m d o x p rows ns bs vs a h r =
    let k = x.kind in
    let q = inside 2 p in
    let n = offset_read m o p rows in
    let counts : place_faults m q (after m k q) ≡ [] = sym (counts_between m k q) ∙ counts_none m d k q n r in
    let natural : AreNatural m p (after m k q) = are_natural m q (after m k q) counts in
    let child : child_faults m d (one_field x) q (λ q. n) ≡ [] = one_child m d x q n ∙ both_none _ _ (array_none m d k q n r) (ap (λ es. if_sound es []) (views_none m d k q n r)) in
    both_none (count_faults m (ListOf o x) p) _ (counts_between m (ListOf o x) p ∙ ap (place_faults m p) (sym (child_after m o x p)) ∙ none_missing m p (after m k q) ns bs vs a natural)
    (list_array_none m d o x p rows h child)

pub list_well : (m : RecordBatch) (d : Dictionaries) (k : Kind) (o : Offsets) (x : Child) (p : Place) (rows : ℕ) (ns : List FieldNode) (bs : List IpcBuffer) (vs : List ℤ) → as_lists k ≡ ListOf o x → AllAt m (after m x.kind (inside 2 p)) ns bs vs → list_faults m p rows o ≡ [] → read_faults m d x.kind (inside 2 p) (offset_read m o p rows) ≡ [] → read_faults m d k p rows ≡ []
list_well m d k o x p rows ns bs vs u a h r = list_reads (λ es. es ≡ []) m d k (ListOf o x) p rows u (list_none m d o x p rows ns bs vs a h r)

-- ── the array ──

listed_is : (m : RecordBatch) (l : Kind) (o : Offsets) (p : Place) (rows : ℕ) → record { kind = l; width = o; offsets = offsets_of_rows m o (p.buffer + 1) rows; validity = validity_read m p rows } ≡ listed_read m l o p rows
listed_is m l o p zero = refl
listed_is m l o p (suc n) = refl

-- the array of a kind that lies in buffers as lists do
abbrev tree_from : RecordBatch → Held → Kind → Place → ℕ → (Listed → Head) → Kind → Parts
tree_from m held l p rows h («list» o fs) = nested (h (listed_read m l o p rows)) (forest_read m held fs (inside 2 p) (λ q. offset_read m o p rows))
tree_from m held l p rows h k = parts_under l m held k p rows

tree_as : (m : RecordBatch) (held : Held) (l : Kind) (p : Place) (rows : ℕ) (k : Kind) → is_any_list k ≡ true → tree_from m held l p rows (list_head (is_any_map k)) (as_lists k) ≡ parts_under l m held k p rows
tree_as m held l p rows («list» o fs) h = refl
tree_as m held l p rows (map sorted fs) h = refl
tree_as m held l p rows (extension name metadata k) h = tree_as m held l p rows k h
tree_as m held l p rows k h = cc

any_list : (k : Kind) (o : Offsets) (x : Child) → as_lists k ≡ ListOf o x → is_any_list k ≡ true
any_list k o x u = of_lists (λ k. is_any_list k ≡ true) (λ name metadata k h. h) (λ sorted fs h. h) k (ListOf o x) u refl

pub list_parts : (m : RecordBatch) (held : Held) (l k : Kind) (o w : Offsets) (x : Child) (p : Place) (rows : ℕ) (os : List ℤ) (v : Option (List Bool)) (a : Parts) → as_lists k ≡ ListOf o x → w ≡ o → list_top os v ≡ list_top (offsets_of_rows m o (p.buffer + 1) rows) (validity_read m p rows) → a ≡ parts_read m held x.kind (inside 2 p) (offset_read m o p rows)
    → nested (list_head (is_any_map k) (record { kind = l; width = w; offsets = os; validity = v })) (also a Rattle.arrow_arrays.specs.Parts.none) ≡ parts_under l m held k p rows
list_parts m held l k o w x p rows os v a u e t f =
    let n = offset_read m o p rows in
    let q = inside 2 p in
    let h = list_head (is_any_map k) in
    let top : record { kind = l; width = w; offsets = os; validity = v } ≡ listed_read m l o p rows =
    ap (λ z. record { kind = l; width = z; offsets = os; validity = v }) e ∙ ap (λ (z : Rattle.ipc_read.specs.Lists.ListTop). record { kind = l; width = o; offsets = z.offsets; validity = z.validity }) t ∙ listed_is m l o p rows in
    ap (λ z. nested (h z) (also a Rattle.arrow_arrays.specs.Parts.none)) top ∙ ap (λ z. nested (h (listed_read m l o p rows)) (also z Rattle.arrow_arrays.specs.Parts.none)) f
    ∙ sym (ap (tree_from m held l p rows h) u) ∙ tree_as m held l p rows k (any_list k o x u)

pub list_bytes : (m : RecordBatch) (k : Kind) (o : Offsets) (x : Child) (p : Place) (rows : ℕ) → as_lists k ≡ ListOf o x → HaveBytes m x.kind (inside 2 p) (offset_read m o p rows) → HaveBytes m k p rows
list_bytes m k o x p rows u b = of_lists (λ k. HaveBytes m k p rows) (λ name metadata k h. h) (λ sorted fs h. h) k (ListOf o x) u (b, tt)

pub list_fields : (k : Kind) (o : Offsets) (x : Child) → as_lists k ≡ ListOf o x → child_fields k ≡ one_field x
list_fields k o x u = of_lists (λ k. child_fields k ≡ one_field x) (λ name metadata k h. h) (λ sorted fs h. h) k (ListOf o x) u refl

-- the top's kind is one of its layout
abbrev fits_head : Bool → Offsets → Kind → Bool
fits_head true o k = is_map o k
fits_head false o k = is_list o k

fits_under : (b : Bool) (o : Offsets) (name : List ℕ) (metadata : Option (List ℕ)) (k : Kind) → fits_head b o k ≡ true → fits_head b o (extension name metadata k) ≡ true
fits_under true small name metadata k h = h
fits_under true large name metadata k h = h
fits_under false small name metadata k h = h
fits_under false large name metadata k h = h

list_fits : (k : Kind) (o : Offsets) (fs : Fields) → as_lists k ≡ «list» o fs → is_carried k ≡ true → fits_head (is_any_map k) o k ≡ true
list_fits («list» small gs) small fs u h = refl
list_fits («list» small gs) large fs u h = cc
list_fits («list» large gs) small fs u h = cc
list_fits («list» large gs) large fs u h = refl
list_fits (map sorted gs) small fs u h = (and_parts (nat_eq (width gs) 1) (first_is_struct_of_two gs) (and_parts (nat_eq (width gs) 1 && first_is_struct_of_two gs) (are_carried gs) h).0).1
list_fits (map sorted gs) large fs u h = cc
list_fits (extension name metadata k) o fs u h = fits_under (is_any_map k) o name metadata k (list_fits k o fs u h)
list_fits k o fs u h = cc

suits_by : (b : Bool) (l : Listed) → fits_head b l.width l.kind ≡ true → suits (list_head b l) ≡ true
suits_by true l h = h
suits_by false l h = h

pub list_suits : (k : Kind) (o w : Offsets) (x : Child) (os : List ℤ) (v : Option (List Bool)) → as_lists k ≡ ListOf o x → w ≡ o → is_carried k ≡ true → suits (list_head (is_any_map k) (record { kind = k; width = w; offsets = os; validity = v })) ≡ true
list_suits k o w x os v u e h = suits_by (is_any_map k) (record { kind = k; width = w; offsets = os; validity = v }) (ap (λ z. fits_head (is_any_map k) z k) e ∙ list_fits k o (one_field x) u h)

pub list_shape : (b : Bool) (l : Listed) → (head_kind (list_head b l) ≡ l.kind) × (head_rows (list_head b l) ≡ variable_rows l.offsets)
list_shape true l = (refl, refl)
list_shape false l = (refl, refl)

-- ── queues, and what is fetched ──

lists_shortened : (k l : Kind) (version : MetadataVersion) (ns ns' : List FieldNode) (bs bs' : List IpcBuffer) (vs vs' : List ℤ) → as_lists k ≡ l → ShortenedBy l version ns ns' bs bs' vs vs' → ShortenedBy k version ns ns' bs bs' vs vs'
lists_shortened k l version ns ns' bs bs' vs vs' e h = of_lists (λ k. ShortenedBy k version ns ns' bs bs' vs vs') (λ name metadata k s. record { nodes = s.nodes; buffers = s.buffers; views = s.views }) (λ sorted fs s. record { nodes = s.nodes; buffers = s.buffers; views = s.views }) k l e h

pub list_shortened : (k : Kind) (o : Offsets) (x : Child) (version : MetadataVersion) (ns ns' ns'' : List FieldNode) (bs bs' bs'' : List IpcBuffer) (vs vs' vs'' : List ℤ) → as_lists k ≡ ListOf o x → Shortened ns 1 ns' → Shortened bs 2 bs' → vs' ≡ vs → ShortenedBy x.kind version ns' ns'' bs' bs'' vs' vs'' → ShortenedBy k version ns ns'' bs bs'' vs vs''
list_shortened k o x version ns ns' ns'' bs bs' bs'' vs vs' vs'' u a b e s =
    let t : ShortenedBy x.kind version ns' ns'' bs' bs'' vs vs'' = subst (λ z. ShortenedBy x.kind version ns' ns'' bs' bs'' z vs'') e s in
    lists_shortened k (ListOf o x) version ns ns'' bs bs'' vs vs'' u (record { nodes = taken_then a t.nodes (omega arith); buffers = taken_then b t.buffers (omega arith); views = taken_more t.views (omega arith) })

pub list_parts_shortened : (k : Kind) (o : Offsets) (x : Child) (version : MetadataVersion) (ns ns' : List FieldNode) (bs bs' : List IpcBuffer) (vs vs' : List ℤ) → as_lists k ≡ ListOf o x → Shortened ns 1 ns' → Shortened bs 2 bs' → vs' ≡ vs → ShortenedBy k version ns ns' bs bs' vs vs'
list_parts_shortened k o x version ns ns' bs bs' vs vs' u a b e =
    lists_shortened k (ListOf o x) version ns ns' bs bs' vs vs' u (record { nodes = taken_more a (omega arith); buffers = taken_more b (omega arith); views = subst (λ z. Shortened vs (views (ListOf o x)) z) (sym e) (none_taken _ vs) })

pub list_fetched : (m : RecordBatch) (k : Kind) (o : Offsets) (x : Child) (p : Place) (rows last : ℕ) → as_lists k ≡ ListOf o x → (rows ≡ 0 → last ≡ 0) → validity_fetched m p rows + bytes_where rows (stated m (p.buffer + 1)) + fetched_at_most m x.kind (inside 2 p) last ≤ fetched_at_most m k p rows
list_fetched m k o x p zero last u z = let e : last ≡ 0 = z refl in omega (arith, ap (fetched_at_most m x.kind (inside 2 p)) e)
list_fetched m k o x p (suc n) last u z =
    let below = looked_at m x.kind (inside 2 p) in
    let few : fetched_at_most m x.kind (inside 2 p) last ≤ stated_of m (looked_at m x.kind (inside 2 p)) = looked_most m x.kind (inside 2 p) last in
    let all : stated_of m (looked_at m (ListOf o x) p) ≡ stated_of m (validity_looked_at m p) + (stated m (p.buffer + 1) + stated_of m (below ++ [])) = stated_append m (validity_looked_at m p) ((p.buffer + 1) ∷ below ++ []) in
    let end : stated_of m (below ++ []) ≡ stated_of m below = ap (stated_of m) (append-nil below) in
    let top : stated_of m (looked_at m k p) ≡ stated_of m (looked_at m (ListOf o x) p) = of_lists (λ k. stated_of m (looked_at m k p) ≡ stated_of m (looked_at m (ListOf o x) p)) (λ name metadata k h. h) (λ sorted fs h. h) k (ListOf o x) u refl in
    omega (arith, few, all, end, top)

pub list_rows_of : (rows : ℕ) (os : List ℤ) → length os ≡ rows + 1 → variable_rows os ≡ rows
list_rows_of rows os h = omega (arith, h)
