-- The parts of arrays, by the parts that their readers give.
use Rattle.std.proofs.Common.{◌≡◌, ◌⊎◌, inl, inr, ℕ, zero, suc, ◌+◌, ◌*◌, ◌<◌, List, [], ◌∷◌, ◌++◌, take, Result, Ok, Err, true, refl, sym, ap, ◌∙◌, subst, arith, map}
use Rattle.std.specs.Prelude.{nat_lt}
use borrow.Author.Tests.{ltb-true}
use Rattle.arrow_spec.specs.declared.error.IpcError.{IpcError}
use Rattle.arrow_spec.specs.Flat.{Order}
use Rattle.arrow_spec.specs.Kinds.{Kind}
use Rattle.arrow_spec.specs.Counts.{RecordBatch, Place}
use Rattle.arrow_spec.specs.Arrays.{from_on, buf}
use Rattle.arrow_spec.specs.ArrayCells.{cell}
use Rattle.arrow_spec.specs.Faults.{count_faults, array_faults}
use Rattle.arrow_spec.specs.Laws.{AreBytes}
use Rattle.ipc_read_laws.specs.Faults.{read_faults}
use Rattle.ipc_read_laws.proofs.CellLaws.{cells_read_of}
use Rattle.arrow_types.specs.Physical.{primitive_size, physical_of}
use Rattle.arrow_types.specs.declared.physical.PhysicalType.{PhysicalType}
use Rattle.arrow_types.specs.declared.physical.PhysicalType.TheVariants.{FixedSizeBinary, Primitive}
use Rattle.arrow_types.specs.declared.physical.PrimitiveType.{PrimitiveType}
use Rattle.arrow_buffers.specs.Layouts.{binary_size}
use Rattle.arrow_arrays.specs.LeafKinds.{is_leaf_kind, is_leaf_layout}
use Rattle.arrow_arrays.specs.LeafParts.{numbers, as_bytes, number_size}
use Rattle.arrow_arrays.specs.Parts.{leaf, cells_in}
use Rattle.arrow_arrays.specs.PartsOf.{parts_of}
use Rattle.arrow_arrays.specs.declared.array.Array.{Array}
use Rattle.ipc_read_laws.specs.PartsRead.{number_read, primitive_read, parts_in, plain_read, numbers_bytes}
use Rattle.std.specs.Prelude.{IfOk, ℤ}
use Rattle.std.proofs.Common.{add-zero}
use Rattle.std.proofs.Math.Nat.{zero-mul}
use Rattle.arrow_types.specs.declared.physical.PhysicalType.TheVariants as physical
use Rattle.arrow_spec.specs.Counts.{after, views}
use Rattle.arrow_spec.specs.declared.message.FieldNode.{FieldNode}
use Rattle.arrow_spec.specs.declared.message.IpcBuffer.{IpcBuffer}
use Rattle.ipc_read.specs.Queues.{NodesAt, At}
use Rattle.ipc_read.specs.Skips.{is_childless_kind, is_childless_layout}
use Rattle.ipc_read.specs.Sources.{Answers}
use Rattle.ipc_read.specs.Readers.{LeafTaken, ColumnTaken, LeafShortened, ColumnShortened}
use Rattle.ipc_read.proofs.Passing.{at_all, left_same, flat_views, own_views, leaf_after}

pub map_from_on : {A B : Type 0} → (g : A → B) (f : ℕ → A) (h : ℕ → B) (i n : ℕ) → ((j : ℕ) → g (f j) ≡ h j) → map g (from_on f i n) ≡ from_on h i n
map_from_on g f h i zero e = refl
map_from_on g f h i (suc n) e = ap (λ x. x ∷ map g (from_on f (suc i) n)) (e i) ∙ ap (λ xs. h i ∷ xs) (map_from_on g f h (suc i) n e)

-- an array's parts are those that are read, where its reader's parts are
pub answers_as : {X Y : Type 0} → (f : X → Y) (x v : X) (es : List IpcError) (w : Y) (Z : Type 0) (view : Z → Y) (z : Z) → Answers (λ a. a) (Ok x) es v → view z ≡ f x → f v ≡ w → Answers view (Ok z) es w
answers_as f x v es w Z view z a e h = record { ok = (a.ok.0, e ∙ ap f a.ok.1 ∙ h); err = tt }

-- numbers that are read are the numbers of their layout
pub number_parts : {T : Type 0} → (write : T → List ℕ) (read : Order → List ℕ → T) (t : PrimitiveType) (m : RecordBatch) (k : Kind) (p : Place) (rows : ℕ) → physical_of k ≡ Primitive t → ((o : Order) (bytes : List ℕ) → write (read o bytes) ≡ number_read t o bytes)
    → leaf (numbers (as_bytes write (primitive_read read (primitive_size t) m k p rows))) ≡ plain_read m k p rows
number_parts write read t m k p rows e law =
    let same = map_from_on write _ (λ j. number_read t m.order (Rattle.ipc_read_laws.specs.PartsRead.item_bytes m (p.buffer + 1) (primitive_size t) j)) 0 rows (λ j. law m.order _) in
    ap (λ vs. leaf (numbers (record { kind = k; values = vs; validity = Rattle.ipc_read_laws.specs.PartsRead.validity_read m p rows }))) same ∙ ap (λ layout. leaf (parts_in layout m k p rows)) (sym e)

pub size_known : (k : Kind) → is_leaf_kind k ≡ true → physical_of k ≡ FixedSizeBinary → 0 < binary_size k
size_known k h e =
    let f : nat_lt 0 (binary_size k) ≡ true = ap (λ layout. is_leaf_layout layout (binary_size k)) (sym e) ∙ h in
    ltb-true _ _ f

-- ── of all queues, where a column takes no view count ──

-- a kind that an array holds has no children
pub leaf_is_flat : (k : Kind) → is_leaf_kind k ≡ true → is_childless_kind k ≡ true
leaf_is_flat k h = layout_is_flat (physical_of k) (binary_size k) h
  where
    layout_is_flat : (layout : PhysicalType) (size : ℕ) → is_leaf_layout layout size ≡ true → is_childless_layout layout ≡ true
    layout_is_flat physical.List size h = cc
    layout_is_flat physical.LargeList size h = cc
    layout_is_flat physical.FixedSizeList size h = cc
    layout_is_flat physical.Struct size h = cc
    layout_is_flat physical.Union size h = cc
    layout_is_flat physical.Map size h = cc
    layout_is_flat (physical.Dictionary i) size h = cc
    layout_is_flat layout size h = refl

pub no_views : (k : Kind) (layout : PhysicalType) → is_leaf_kind k ≡ true → physical_of k ≡ layout → own_views layout ≡ 0 → views k ≡ 0
no_views k layout h e v = flat_views k (leaf_is_flat k h) ∙ ap own_views e ∙ v

pub all_queues : {X : Type 0} → (r : Result X IpcError) (k : Kind) (ns ns' : List FieldNode) (bs bs' : List IpcBuffer) (vs vs' : List ℤ) → views k ≡ 0 → vs' ≡ vs → LeafTaken k ns ns' bs bs' r → ColumnTaken k ns ns' bs bs' vs vs' r
all_queues (Err x) k ns ns' bs bs' vs vs' v e q = tt
all_queues (Ok x) k ns ns' bs bs' vs vs' v e q = λ m p a.
    let c = q m p (at_all a) in
    let l : p.view ≡ p.view + views k = omega (arith, v) in
    record { nodes = c.nodes; buffers = c.buffers; views = rw e (left_same m.variadic p.view (p.view + views k) vs l a.views) }

pub all_shortened : (k : Kind) (ns ns' : List FieldNode) (bs bs' : List IpcBuffer) (vs vs' : List ℤ) → vs' ≡ vs → LeafShortened k ns ns' bs bs' → ColumnShortened k ns ns' bs bs' vs vs'
all_shortened k ns ns' bs bs' vs vs' e h = λ version. rw e (h version vs)

-- the same of nulls, which take a node alone
pub null_at : (m : RecordBatch) (k : Kind) (p : Place) (ns ns' : List FieldNode) (bs : List IpcBuffer) → physical_of k ≡ physical.Null → At m p ns bs → NodesAt m (after m k p) ns' → At m (after m k p) ns' bs
null_at m k p ns ns' bs e a c =
    let l : p.buffer ≡ (after m k p).buffer = sym (ap (λ (q : Place). q.buffer) (leaf_after m k physical.Null 0 p (ap is_childless_layout e) e (λ n. refl) refl) ∙ add-zero p.buffer) in
    record { nodes = c.nodes; buffers = left_same m.buffers p.buffer _ bs l a.buffers; within = c.within }

-- a layout that is read alike takes no view count, and has no numbers
pub values_layout : (l : PhysicalType) → (l ≡ physical.Null) ⊎ ((l ≡ physical.Boolean) ⊎ ((l ≡ physical.FixedSizeBinary) ⊎ ((l ≡ physical.Binary) ⊎ ((l ≡ physical.LargeBinary) ⊎ ((l ≡ physical.Utf8) ⊎ (l ≡ physical.LargeUtf8)))))) → (own_views l ≡ 0) × (number_size l ≡ 0)
values_layout l (inl i) = (ap own_views i, ap number_size i)
values_layout l (inr (inl i)) = (ap own_views i, ap number_size i)
values_layout l (inr (inr (inl i))) = (ap own_views i, ap number_size i)
values_layout l (inr (inr (inr (inl i)))) = (ap own_views i, ap number_size i)
values_layout l (inr (inr (inr (inr (inl i))))) = (ap own_views i, ap number_size i)
values_layout l (inr (inr (inr (inr (inr (inl i)))))) = (ap own_views i, ap number_size i)
values_layout l (inr (inr (inr (inr (inr (inr i)))))) = (ap own_views i, ap number_size i)

pub views_no_numbers : (k : Kind) (l : PhysicalType) → l ≡ physical_of k → (l ≡ physical.BinaryView) ⊎ (l ≡ physical.Utf8View) → number_size (physical_of k) ≡ 0
views_no_numbers k l e (inl i) = ap number_size (sym e ∙ i)
views_no_numbers k l e (inr i) = ap number_size (sym e ∙ i)

-- ── cells ──

-- a layout without numbers has no bytes of them
pub no_numbers : (m : RecordBatch) (k : Kind) (p : Place) (rows : ℕ) → number_size (physical_of k) ≡ 0 → AreBytes (numbers_bytes m k p rows)
no_numbers m k p rows h = let e : number_size (physical_of k) * rows ≡ 0 = ap (λ n. n * rows) h ∙ zero-mul rows in subst (λ n. AreBytes (take n (buf m (p.buffer + 1)))) (sym e) (λ i. omega arith)

none_right : (es fs : List IpcError) → es ++ fs ≡ [] → fs ≡ []
none_right [] fs h = h
none_right (e ∷ es) fs h = cc

none_of_array : (m : RecordBatch) (k : Kind) (p : Place) (rows : ℕ) → read_faults m [] k p rows ≡ [] → array_faults m [] k p rows ≡ []
unfolding read_faults
none_of_array m k p rows h = none_right (count_faults m k p) _ h

-- the cells of an array that is read
pub cells_of : (r : Result Array IpcError) (m : RecordBatch) (k : Kind) (p : Place) (rows : ℕ) → is_leaf_kind k ≡ true → IfOk r (λ _. AreBytes (numbers_bytes m k p rows)) → Answers (λ a. parts_of a) r (read_faults m [] k p rows) (plain_read m k p rows) → Answers (λ a. cells_in (parts_of a)) r (read_faults m [] k p rows) (from_on (cell m [] k p) 0 rows)
cells_of (Err e) m k p rows f b a = record { ok = tt; err = a.err }
cells_of (Ok x) m k p rows f b a = record { ok = (a.ok.0, ap cells_in a.ok.1 ∙ cells_read_of m [] k p rows f b (none_of_array m k p rows a.ok.0)); err = tt }

pub bytes_at : {X : Type 0} → (r : Result X IpcError) (ns : List FieldNode) (bs : List IpcBuffer) (P : RecordBatch → Place → Type 0) (K : RecordBatch → Type 0) → IfOk r (λ _. (m : RecordBatch) (p : Place) → At m p ns bs → K m → P m p) → (m : RecordBatch) (p : Place) → At m p ns bs → K m → IfOk r (λ _. P m p)
bytes_at (Err e) ns bs P K h m p a k = tt
bytes_at (Ok x) ns bs P K h m p a k = h m p a k

pub if_any : {X : Type 0} → (r : Result X IpcError) (P : Type 0) → P → IfOk r (λ _. P)
if_any (Err e) P h = tt
if_any (Ok x) P h = h
