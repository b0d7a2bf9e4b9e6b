-- Fields one after another, those of a list with the ids of their IPC fields too: the one at a place, and what is left from there on.
use Rattle.std.proofs.Common.{◌≡◌, ℕ, zero, suc, ◌≤◌, ◌<◌, List, [], ◌∷◌, length, drop, get_or, map, Bool, Option, ℤ, refl, sym, ap, ◌∙◌, arith, subst, drop-cons}
use Rattle.arrow_spec.specs.Kinds.{Kind, Fields, Metadata, Offsets, none, field, width, «list»}
use Rattle.arrow_spec.specs.Counts.{RecordBatch, Place, after}
use Rattle.arrow_spec.specs.Faults.{place_in}
use Rattle.arrow_types.specs.Child.{Child, fields_from, one_field}
use Rattle.arrow_types.specs.KindOf.{kind_of, child_of}
use Rattle.arrow_types.specs.declared.data_type.ArrowDataType.{ArrowDataType}
use Rattle.arrow_types.specs.declared.data_type.Field.{Field}
use Rattle.ipc_fields.specs.IpcFields.{Ids, no_fields, ids, ids_of, kind_with, fields_with}
use Rattle.ipc_fields.specs.Uses.{first_id, first_ids, other_ids}
use Rattle.ipc_fields.specs.declared.ipc_field.IpcField.{IpcField}
use Rattle.ipc_fields.proofs.UseSteps.{next_ids}
use Rattle.ipc_read.specs.Held.{column_kind, column_fields}
use Rattle.ipc_read.specs.Lists.{as_lists}
use Rattle.ipc_read.specs.Places.{behind, IsBehind}
use Rattle.ipc_read.proofs.ColumnIds.{list_with}
use Rattle.arrow_types.proofs.DataTypes.{kind_of_child}
use Rattle.ipc_read.proofs.Places.{behind_itself, behind_then, after_is_behind, same_place, fields_behind, first_place_in}

-- ── places ──

-- the fields from the i-th on
abbrev pub dropped : ℕ → Fields → Fields
dropped zero fs = fs
dropped (suc i) none = none
dropped (suc i) (field name nullable metadata k others) = dropped i others

-- a field before others
abbrev pub before : Child → Fields → Fields
before c fs = field c.name c.nullable c.metadata c.kind fs

-- a field stands at a place
abbrev pub StandsIn : Fields → ℕ → Child → Type 0
StandsIn fs i c = dropped i fs ≡ before c (dropped (suc i) fs)

pub stands_within : (fs : Fields) (i : ℕ) (c : Child) → StandsIn fs i c → i < width fs
stands_within none zero c h = cc
stands_within none (suc i) c h = cc
stands_within (field name nullable metadata k others) zero c h = omega arith
stands_within (field name nullable metadata k others) (suc i) c h = omega (arith, stands_within others i c h)

pub dropped_end : (fs : Fields) (i : ℕ) → width fs ≤ i → dropped i fs ≡ none
dropped_end none zero h = refl
dropped_end none (suc i) h = refl
dropped_end (field name nullable metadata k others) zero h = absurd (omega (arith, h))
dropped_end (field name nullable metadata k others) (suc i) h = dropped_end others i (omega (arith, h))

first_behind : (m : RecordBatch) (name : List ℕ) (nullable : Bool) (metadata : Metadata) (k : Kind) (fs : Fields) (p : Place) → behind m (field name nullable metadata k fs) p ≡ behind m fs (after m k p)
first_behind m name nullable metadata k fs p = same_place (omega arith) (omega arith) (omega arith)

pub next_in : (m : RecordBatch) (fs : Fields) (i : ℕ) (c : Child) (p : Place) → StandsIn fs i c → place_in m fs (suc i) p ≡ after m c.kind (place_in m fs i p)
next_in m none zero c p h = cc
next_in m none (suc i) c p h = cc
next_in m (field name nullable metadata k others) zero c p h = let e : k ≡ c.kind = cc in first_place_in m others (after m k p) ∙ ap (λ z. after m z p) e
next_in m (field name nullable metadata k others) (suc i) c p h = next_in m others i c (after m k p) h

pub last_in : (m : RecordBatch) (fs : Fields) (i : ℕ) (p : Place) → width fs ≤ i → i ≤ width fs → place_in m fs i p ≡ behind m fs p
last_in m none zero p h g = same_place (omega arith) (omega arith) (omega arith)
last_in m none (suc i) p h g = absurd (omega (arith, g))
last_in m (field name nullable metadata k others) zero p h g = absurd (omega (arith, h))
last_in m (field name nullable metadata k others) (suc i) p h g = last_in m others i (after m k p) (omega (arith, h)) (omega (arith, g)) ∙ sym (first_behind m name nullable metadata k others p)

-- a field's array ends before those of all fields do
pub within_all : (m : RecordBatch) (fs : Fields) (i : ℕ) (c : Child) (p : Place) → StandsIn fs i c → IsBehind (after m c.kind (place_in m fs i p)) (behind m fs p)
within_all m none zero c p h = cc
within_all m none (suc i) c p h = cc
within_all m (field name nullable metadata k others) zero c p h =
    let e : k ≡ c.kind = cc in
    subst (λ z. IsBehind (after m z p) (behind m (field name nullable metadata k others) p)) e
    (subst (λ q. IsBehind (after m k p) q) (sym (first_behind m name nullable metadata k others p)) (fields_behind m others (after m k p)))
within_all m (field name nullable metadata k others) (suc i) c p h =
    subst (λ q. IsBehind (after m c.kind (place_in m others i (after m k p))) q) (sym (first_behind m name nullable metadata k others p)) (within_all m others i c (after m k p) h)

pub place_behind : (m : RecordBatch) (fs : Fields) (i : ℕ) (p : Place) → i ≤ width fs → IsBehind p (place_in m fs i p)
place_behind m none i p h = behind_itself p
place_behind m (field name nullable metadata k others) zero p h = behind_itself p
place_behind m (field name nullable metadata k others) (suc i) p h = behind_then (after_is_behind m k p) (place_behind m others i (after m k p) (omega (arith, h)))

pub place_within : (m : RecordBatch) (fs : Fields) (i : ℕ) (p : Place) → i ≤ width fs → IsBehind (place_in m fs i p) (behind m fs p)
place_within m none i p h = fields_behind m none p
place_within m (field name nullable metadata k others) zero p h = fields_behind m (field name nullable metadata k others) p
place_within m (field name nullable metadata k others) (suc i) p h =
    subst (λ q. IsBehind (place_in m others i (after m k p)) q) (sym (first_behind m name nullable metadata k others p)) (place_within m others i (after m k p) (omega (arith, h)))

-- ── fields of a list, with ids ──

drop_none : {A : Type 0} (i : ℕ) → drop {A = A} i [] ≡ []
drop_none zero = refl
drop_none (suc i) = refl

-- a field with the first ids
abbrev pub child_with : Child → Ids → Child
child_with c below = record { name = c.name; kind = kind_with c.kind (first_id below) (first_ids below); nullable = c.nullable; metadata = c.metadata }

abbrev pub fields_by : {A : Type 0} → (A → Child) → List A → List IpcField → Fields
fields_by f xs ts = fields_with (fields_from (map f xs)) (ids_of ts)

pub dropped_with : {A : Type 0} (f : A → Child) (xs : List A) (ts : List IpcField) (i : ℕ) → dropped i (fields_by f xs ts) ≡ fields_by f (drop i xs) (drop i ts)
dropped_with f xs ts zero = refl
dropped_with f [] ts (suc i) = refl
dropped_with f (x ∷ xs) [] (suc i) = dropped_with f xs [] i ∙ ap (fields_by f (drop i xs)) (drop_none i)
dropped_with f (x ∷ xs) (t ∷ ts) (suc i) = dropped_with f xs ts i

first_with : (c : Child) (fs : Fields) (below : Ids) → fields_with (before c fs) below ≡ before (child_with c below) (fields_with fs (other_ids below))
first_with c fs no_fields = refl
first_with c fs (ids id below others) = refl

pub stands_with : {A : Type 0} (f : A → Child) (xs : List A) (ts : List IpcField) (i : ℕ) (x : A) → drop i xs ≡ x ∷ drop (suc i) xs → StandsIn (fields_by f xs ts) i (child_with (f x) (ids_of (drop i ts)))
stands_with f xs ts i x h =
    let below = ids_of (drop i ts) in
    let rest = fields_from (map f (drop (suc i) xs)) in
    dropped_with f xs ts i ∙ ap (λ ys. fields_with (fields_from (map f ys)) below) h ∙ first_with (f x) rest below
    ∙ ap (λ b. before (child_with (f x) below) (fields_with rest b)) (next_ids ts i) ∙ ap (before (child_with (f x) below)) (sym (dropped_with f xs ts (suc i)))

pub item_at : {A : Type 0} (xs : List A) (i : ℕ) (x : A) → i < length xs → x ≡ get_or xs i x → drop i xs ≡ x ∷ drop (suc i) xs
item_at xs i x h e = drop-cons xs i x h ∙ ap (λ y. y ∷ drop (suc i) xs) (sym e)

-- the child at a place, and its kind by the ids there
abbrev pub child_at : Field → List IpcField → ℕ → Child
child_at x ts i = child_with (child_of x) (ids_of (drop i ts))

pub child_kind : (x : Field) (id : Option ℤ) (fs ts : List IpcField) (i : ℕ) → id ≡ first_id (ids_of (drop i ts)) → ids_of fs ≡ first_ids (ids_of (drop i ts)) → column_kind x.dtype id fs ≡ (child_at x ts i).kind
child_kind x id fs ts i e f =
    ap (λ z. kind_with (kind_of x.dtype) z (ids_of fs)) e ∙ ap (kind_with (kind_of x.dtype) (first_id (ids_of (drop i ts)))) f
    ∙ ap (λ k. kind_with k (first_id (ids_of (drop i ts))) (first_ids (ids_of (drop i ts)))) (sym (kind_of_child x))

-- a field of another kind
abbrev pub child_as : Field → Kind → Child
child_as x k = record { name = (child_of x).name; kind = k; nullable = (child_of x).nullable; metadata = (child_of x).metadata }

pub child_stands : (cs : List Field) (ts : List IpcField) (i : ℕ) (x : Field) (id : Option ℤ) (fs : List IpcField) → i < length cs → x ≡ get_or cs i x → id ≡ first_id (ids_of (drop i ts)) → ids_of fs ≡ first_ids (ids_of (drop i ts)) → StandsIn (column_fields cs ts) i (child_as x (column_kind x.dtype id fs))
child_stands cs ts i x id fs h g e f =
    stands_with child_of cs ts i x (item_at cs i x h g)
    ∙ ap (λ k. before (child_as x k) (dropped (suc i) (column_fields cs ts))) (sym (child_kind x id fs ts i e f))

one_with : (c : Child) (below : Ids) → fields_with (one_field c) below ≡ one_field (child_with c below)
one_with c no_fields = refl
one_with c (ids id below others) = refl

-- the child of lists with the first ids
pub list_child_kind : (dtype : ArrowDataType) (own : Option ℤ) (ts : List IpcField) (o : Offsets) (x : Field) → as_lists (kind_of dtype) ≡ «list» o (one_field (child_of x)) → as_lists (column_kind dtype own ts) ≡ «list» o (one_field (child_with (child_of x) (ids_of ts)))
list_child_kind dtype own ts o x u = list_with (kind_of dtype) own (ids_of ts) o (one_field (child_of x)) u ∙ ap («list» o) (one_with (child_of x) (ids_of ts))

-- and with the ids of its IPC field
pub list_column : (dtype : ArrowDataType) (own : Option ℤ) (ts : List IpcField) (o : Offsets) (x : Field) (id : Option ℤ) (fs : List IpcField) → as_lists (kind_of dtype) ≡ «list» o (one_field (child_of x)) → id ≡ first_id (ids_of (drop 0 ts)) → ids_of fs ≡ first_ids (ids_of (drop 0 ts))
    → as_lists (column_kind dtype own ts) ≡ «list» o (one_field (child_as x (column_kind x.dtype id fs)))
list_column dtype own ts o x id fs u e f =
    list_child_kind dtype own ts o x u ∙ ap (λ k. «list» o (one_field (child_as x k))) (sym (child_kind x id fs ts 0 e f))

width_with : (fs : Fields) (below : Ids) → width (fields_with fs below) ≡ width fs
width_with none below = refl
width_with (field name nullable metadata k others) no_fields = ap suc (width_with others no_fields)
width_with (field name nullable metadata k others) (ids id below rest) = ap suc (width_with others rest)

width_from : {A : Type 0} (f : A → Child) (xs : List A) → width (fields_from (map f xs)) ≡ length xs
width_from f [] = refl
width_from f (x ∷ xs) = ap suc (width_from f xs)

pub width_by : {A : Type 0} (f : A → Child) (xs : List A) (ts : List IpcField) → width (fields_by f xs ts) ≡ length xs
width_by f xs ts = width_with (fields_from (map f xs)) (ids_of ts) ∙ width_from f xs
