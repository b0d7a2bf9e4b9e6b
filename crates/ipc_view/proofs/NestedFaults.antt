-- What is wrong with an array is told by its parts and its children.
use Rattle.std.proofs.Common.{◌≡◌, ℕ, zero, suc, ◌+◌, ◌*◌, ◌^◌, ◌≤◌, ◌<◌, List, [], ◌∷◌, ◌++◌, Option, Some, None, IfSome, refl, sym, ap, subst, ◌∙◌, arith}
use Rattle.std.specs.Prelude.{slice_get}
use Rattle.arrow_spec.specs.declared.error.IpcError.{IpcError}
use Rattle.arrow_spec.specs.declared.types.UnionMode.TheVariants.{Dense, Sparse}
use Rattle.arrow_spec.specs.Readings.{Refuses}
use Rattle.arrow_spec.specs.Kinds as kind
use Rattle.arrow_spec.specs.Kinds.{Kind, Fields, Offsets, width}
use Rattle.arrow_spec.specs.Counts.{RecordBatch, Place, inside}
use Rattle.arrow_spec.specs.Arrays.{Dictionaries}
use Rattle.arrow_spec.specs.Faults.{array_faults, child_faults, end_of, if_sound, node_causes, node_faults, offsets_buffer_faults, offsets_faults, union_faults, validity_faults, view_count_faults}
use Rattle.arrow_spec.proofs.Fewer.{none_first, none_second, sound_both, sound_first, sound_second}
use Rattle.ipc_read.specs.CountedArrays.{counted_kind, counted_rows}
use Rattle.ipc_read.proofs.Refusals.{both_none, refuses_by, refuses_left, refuses_none, refuses_right}
use Rattle.ipc_view.specs.Nested.{seen_faults}
use Rattle.ipc_view.specs.Lists.{list_last, list_top_faults}

-- a refusal of an array's node is one of the array
pub node_refused : (m : RecordBatch) (d : Dictionaries) (k : Kind) (p : Place) (rows : ℕ) (e : IpcError) → Refuses e (node_faults m p rows) → Refuses e (array_faults m d k p rows)
node_refused m d (kind.«list» o fs) p zero e h = refuses_left (node_faults m p 0) _ e h
node_refused m d (kind.«list» o fs) p (suc n) e h = refuses_left (node_faults m p (suc n) ++ validity_faults m p (suc n)) _ e (refuses_left (node_faults m p (suc n)) _ e h)
node_refused m d (kind.map sorted fs) p zero e h = refuses_left (node_faults m p 0) _ e h
node_refused m d (kind.map sorted fs) p (suc n) e h = refuses_left (node_faults m p (suc n) ++ validity_faults m p (suc n)) _ e (refuses_left (node_faults m p (suc n)) _ e h)
node_refused m d (kind.fixed_size_list size fs) p rows e h = refuses_left (node_faults m p rows ++ validity_faults m p rows) _ e (refuses_left (node_faults m p rows) _ e h)
node_refused m d (kind.struct fs) p rows e h = refuses_left (node_faults m p rows ++ validity_faults m p rows) _ e (refuses_left (node_faults m p rows) _ e h)
node_refused m d (kind.union mode stated ids fs) p zero e h = refuses_left (node_faults m p 0) _ e h
node_refused m d (kind.union Sparse stated ids fs) p (suc n) e h = refuses_left (node_faults m p (suc n) ++ union_faults m Sparse ids fs p (suc n)) _ e (refuses_left (node_faults m p (suc n)) _ e h)
node_refused m d (kind.union Dense stated ids fs) p (suc n) e h = refuses_left (node_faults m p (suc n) ++ union_faults m Dense ids fs p (suc n)) _ e (refuses_left (node_faults m p (suc n)) _ e h)
node_refused m d (kind.extension name metadata k) p rows e h = node_refused m d k p rows e h
node_refused m d (kind.dictionary t ordered id k) p rows e h = refuses_left (node_faults m p rows) _ e h
node_refused m d k p rows e h = refuses_left (node_faults m p rows) _ e h

-- ── structs and lists of one size ──

pub counted_told : (m : RecordBatch) (d : Dictionaries) (size : Option ℕ) (fs : Fields) (p : Place) (rows : ℕ)
    → array_faults m d (counted_kind size fs) p rows ≡ node_faults m p rows ++ validity_faults m p rows ++ child_faults m d fs (inside 1 p) (λ q. counted_rows size rows)
counted_told m d None fs p rows = refl
counted_told m d (Some size) fs p rows = refl

abbrev parts : RecordBatch → Place → ℕ → List IpcError
parts m p rows = node_faults m p rows ++ validity_faults m p rows

counted_in : (m : RecordBatch) (d : Dictionaries) (size : Option ℕ) (fs : Fields) (p : Place) (rows : ℕ) (e : IpcError) → Refuses e (parts m p rows ++ child_faults m d fs (inside 1 p) (λ q. counted_rows size rows)) → Refuses e (seen_faults m d (counted_kind size fs) p rows)
counted_in m d size fs p rows e h = refuses_left (array_faults m d (counted_kind size fs) p rows) (view_count_faults m (counted_kind size fs) p) e (subst (λ es. Refuses e es) (sym (counted_told m d size fs p rows)) h)

pub counted_node : (m : RecordBatch) (d : Dictionaries) (size : Option ℕ) (fs : Fields) (p : Place) (rows : ℕ) (e : IpcError) → Refuses e (node_faults m p rows) → Refuses e (seen_faults m d (counted_kind size fs) p rows)
counted_node m d size fs p rows e h = counted_in m d size fs p rows e (refuses_left (parts m p rows) _ e (refuses_left (node_faults m p rows) (validity_faults m p rows) e h))

pub counted_validity : (m : RecordBatch) (d : Dictionaries) (size : Option ℕ) (fs : Fields) (p : Place) (rows : ℕ) (e : IpcError) → Refuses e (validity_faults m p rows) → Refuses e (seen_faults m d (counted_kind size fs) p rows)
counted_validity m d size fs p rows e h = counted_in m d size fs p rows e (refuses_left (parts m p rows) _ e (refuses_right (node_faults m p rows) (validity_faults m p rows) e h))

pub counted_child : (m : RecordBatch) (d : Dictionaries) (size : Option ℕ) (fs : Fields) (p : Place) (rows under : ℕ) (e : IpcError) → under ≡ counted_rows size rows → Refuses e (child_faults m d fs (inside 1 p) (λ q. under)) → Refuses e (seen_faults m d (counted_kind size fs) p rows)
counted_child m d size fs p rows under e u h = counted_in m d size fs p rows e (refuses_right (parts m p rows) _ e (subst (λ n. Refuses e (child_faults m d fs (inside 1 p) (λ q. n))) u h))

pub counted_fits : (m : RecordBatch) (d : Dictionaries) (size : Option ℕ) (fs : Fields) (p : Place) (rows under : ℕ) → under ≡ counted_rows size rows → node_faults m p rows ≡ [] → validity_faults m p rows ≡ [] → child_faults m d fs (inside 1 p) (λ q. under) ≡ [] → array_faults m d (counted_kind size fs) p rows ≡ []
counted_fits m d size fs p rows under u node bits children =
    counted_told m d size fs p rows ∙ both_none (parts m p rows) _ (both_none (node_faults m p rows) (validity_faults m p rows) node bits) (ap (λ n. child_faults m d fs (inside 1 p) (λ q. n)) (sym u) ∙ children)

first_refused : (m : RecordBatch) (d : Dictionaries) (fs : Fields) (p : Place) (rows : Place → ℕ) (e : IpcError) → width fs ≡ 1 → Refuses e (node_faults m p (rows p)) → Refuses e (child_faults m d fs p rows)
first_refused m d kind.none p rows e one h = cc
first_refused m d (kind.field name nullable metadata k others) p rows e one h = refuses_left (array_faults m d k p (rows p)) _ e (node_refused m d k p (rows p) e h)

-- items that are too many
pub counted_many : (m : RecordBatch) (d : Dictionaries) (size : ℕ) (fs : Fields) (p : Place) (rows : ℕ) (e : IpcError) → width fs ≡ 1 → Refuses e (node_faults m (inside 1 p) (size * rows)) → Refuses e (seen_faults m d (counted_kind (Some size) fs) p rows)
counted_many m d size fs p rows e one h = counted_in m d (Some size) fs p rows e (refuses_right (parts m p rows) _ e (first_refused m d fs (inside 1 p) (λ q. size * rows) e one h))

node_by : (m : RecordBatch) (p : Place) (rows : ℕ) (e : IpcError) → Refuses e (node_causes (slice_get m.nodes p.node) rows) → Refuses e (node_faults m p rows)
unfolding node_faults
node_by m p rows e h = h

pub counted_over : (m : RecordBatch) (d : Dictionaries) (size : Option ℕ) (fs : Fields) (p : Place) (rows : ℕ) (e : IpcError) → IfSome size (λ n. width fs ≡ 1) → rows < 2 ^ 63 → 2 ^ 63 ≤ counted_rows size rows
    → Refuses e (node_causes (slice_get m.nodes (suc p.node)) (counted_rows size rows)) → Refuses e (seen_faults m d (counted_kind size fs) p rows)
counted_over m d None fs p rows e one few many h = absurd (omega (arith, few, many))
counted_over m d (Some size) fs p rows e one few many h = counted_many m d size fs p rows e one (node_by m (inside 1 p) (size * rows) e h)

-- ── lists ──

pub list_node : (m : RecordBatch) (d : Dictionaries) (o : Offsets) (fs : Fields) (p : Place) (rows : ℕ) (e : IpcError) → Refuses e (node_faults m p rows) → Refuses e (seen_faults m d (kind.«list» o fs) p rows)
list_node m d o fs p rows e h = refuses_left (array_faults m d (kind.«list» o fs) p rows) _ e (node_refused m d (kind.«list» o fs) p rows e h)

some_behind : (xs ys zs : List IpcError) (e : IpcError) → Refuses e (if_sound xs ys) → Refuses e (if_sound xs (ys ++ zs))
some_behind [] ys zs e h = refuses_left ys zs e h
some_behind (x ∷ xs) ys zs e h = h

pub list_top : (m : RecordBatch) (d : Dictionaries) (o : Offsets) (fs : Fields) (p : Place) (rows : ℕ) (e : IpcError) → Refuses e (list_top_faults m o p rows) → Refuses e (seen_faults m d (kind.«list» o fs) p rows)
list_top m d o fs p zero e h = refuses_left (array_faults m d (kind.«list» o fs) p 0) _ e (refuses_left (node_faults m p 0) _ e (refuses_none _ e h))
list_top m d o fs p (suc n) e h = refuses_left (array_faults m d (kind.«list» o fs) p (suc n)) _ e
    (refuses_by (validity_faults m p (suc n)) (if_sound (offsets_buffer_faults m o (p.buffer + 1) (suc n)) (offsets_faults m o (p.buffer + 1) (suc n) (end_of m (suc p.node)))) (array_faults m d (kind.«list» o fs) p (suc n)) e
    (λ r. refuses_left (parts m p (suc n)) _ e (refuses_right (node_faults m p (suc n)) (validity_faults m p (suc n)) e r))
    (λ r. refuses_right (parts m p (suc n)) _ e (some_behind (offsets_buffer_faults m o (p.buffer + 1) (suc n)) (offsets_faults m o (p.buffer + 1) (suc n) (end_of m (suc p.node))) _ e r)) h)

-- the parts of what is wrong with lists that have nothing wrong at their top
record TopFine (m : RecordBatch) (o : Offsets) (p : Place) (n : ℕ) : Type 0 where
  pub bits : validity_faults m p (suc n) ≡ []
  pub buffer : offsets_buffer_faults m o (p.buffer + 1) (suc n) ≡ []
  pub offsets : offsets_faults m o (p.buffer + 1) (suc n) (end_of m (suc p.node)) ≡ []

top_fine : (m : RecordBatch) (o : Offsets) (p : Place) (n : ℕ) → list_top_faults m o p (suc n) ≡ [] → TopFine m o p n
top_fine m o p n h =
    let sound = none_second (validity_faults m p (suc n)) (if_sound (offsets_buffer_faults m o (p.buffer + 1) (suc n)) (offsets_faults m o (p.buffer + 1) (suc n) (end_of m (suc p.node)))) h in
    record { bits = none_first (validity_faults m p (suc n)) _ h; buffer = sound_first _ _ sound; offsets = sound_second (offsets_buffer_faults m o (p.buffer + 1) (suc n)) _ sound }

sound_is : (xs ys : List IpcError) → xs ≡ [] → ys ≡ if_sound xs ys
sound_is xs ys h = rw h refl

pub list_child : (m : RecordBatch) (d : Dictionaries) (o : Offsets) (fs : Fields) (p : Place) (rows last : ℕ) (e : IpcError) → last ≡ list_last m o p rows → list_top_faults m o p rows ≡ [] → Refuses e (child_faults m d fs (inside 2 p) (λ q. last)) → Refuses e (seen_faults m d (kind.«list» o fs) p rows)
list_child m d o fs p zero last e l top h =
    refuses_left (array_faults m d (kind.«list» o fs) p 0) _ e (refuses_right (node_faults m p 0) _ e (subst (λ n. Refuses e (child_faults m d fs (inside 2 p) (λ q. n))) l h))
list_child m d o fs p (suc n) last e l top h =
    let f = top_fine m o p n top in
    let children = child_faults m d fs (inside 2 p) (λ q. list_last m o p (suc n)) in
    let offsets = offsets_faults m o (p.buffer + 1) (suc n) (end_of m (suc p.node)) in
    refuses_left (array_faults m d (kind.«list» o fs) p (suc n)) _ e (refuses_right (parts m p (suc n)) _ e
    (subst (λ es. Refuses e es) (sound_is (offsets_buffer_faults m o (p.buffer + 1) (suc n)) (offsets ++ children) f.buffer) (refuses_right offsets children e (subst (λ n. Refuses e (child_faults m d fs (inside 2 p) (λ q. n))) l h))))

pub list_fits : (m : RecordBatch) (d : Dictionaries) (o : Offsets) (fs : Fields) (p : Place) (rows last : ℕ) → last ≡ list_last m o p rows → node_faults m p rows ≡ [] → list_top_faults m o p rows ≡ [] → child_faults m d fs (inside 2 p) (λ q. last) ≡ [] → array_faults m d (kind.«list» o fs) p rows ≡ []
list_fits m d o fs p zero last l node top h = both_none (node_faults m p 0) _ node (ap (λ n. child_faults m d fs (inside 2 p) (λ q. n)) (sym l) ∙ h)
list_fits m d o fs p (suc n) last l node top h =
    let f = top_fine m o p n top in
    both_none (parts m p (suc n)) _ (both_none (node_faults m p (suc n)) _ node f.bits)
    (sound_both (offsets_buffer_faults m o (p.buffer + 1) (suc n)) _ f.buffer (both_none (offsets_faults m o (p.buffer + 1) (suc n) (end_of m (suc p.node))) _ f.offsets (ap (λ n. child_faults m d fs (inside 2 p) (λ q. n)) (sym l) ∙ h)))
