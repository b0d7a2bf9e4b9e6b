-- Arrays of a validity and of values in one buffer: what is wrong with them, by the layout of their kind.
use Rattle.std.proofs.Common.{◌≡◌, ℕ, zero, suc, ◌+◌, ◌*◌, ◌/◌, ◌%◌, ◌<◌, List, [], ◌∷◌, ◌++◌, length, take, Bool, true, Option, Some, refl, sym, ap, ◌∙◌, arith, subst}
use Rattle.std.specs.Prelude.{nat_lt}
use Rattle.std.proofs.lemmas.Bool.{lt-ltb, eq-eqb}
use Rattle.arrow_spec.specs.declared.error.IpcError.{IpcError}
use Rattle.arrow_spec.specs.declared.message.FieldNode.{FieldNode}
use Rattle.arrow_spec.specs.declared.message.IpcBuffer.{IpcBuffer}
use Rattle.arrow_spec.specs.Readings.{IsAmong, Refuses}
use Rattle.arrow_spec.specs.Kinds as kind
use Rattle.arrow_spec.specs.Kinds.{Kind}
use Rattle.arrow_spec.specs.Counts.{RecordBatch, Place, after}
use Rattle.arrow_spec.specs.Laws.{AreBytes}
use Rattle.arrow_spec.specs.Arrays.{buf}
use Rattle.arrow_spec.specs.Faults.{node_faults, validity_faults, bitmap_faults, numbers_faults, array_faults}
use Rattle.arrow_spec.specs.Needed.{validity_looked_at}
use Rattle.arrow_types.specs.Physical.{primitive_size, physical_of}
use Rattle.arrow_types.specs.declared.physical.PhysicalType.{PhysicalType}
use Rattle.arrow_types.specs.declared.physical.PhysicalType.TheVariants as physical
use Rattle.arrow_types.specs.declared.physical.PrimitiveType.{PrimitiveType}
use Rattle.arrow_buffers.specs.Layouts.{is_null, is_boolean, is_primitive, binary_size}
use Rattle.arrow_arrays.specs.LeafParts.{number_size}
use Rattle.arrow_arrays.specs.LeafKinds.{is_leaf_layout}
use Rattle.arrow_arrays.proofs.NumberParts.{layout_size}
use Rattle.ipc_read_laws.specs.Faults.{read_faults, fetched_at_most, stated}
use Rattle.ipc_read_laws.specs.PartsRead.{numbers_bytes}
use Rattle.ipc_read_laws.specs.LayoutFaults.{contents_of}
use Rattle.ipc_read_laws.proofs.LayoutLaws.{faults_by_layout}
use Rattle.arrow_buffers.specs.Leaf.{Leaf, fixed_fault, fixed_rows}
use Rattle.arrow_buffers.specs.Rows.{has_rows}
use Rattle.arrow_buffers.specs.declared.error.ArrayError.{ArrayError}
use Rattle.arrow_buffers.proofs.Fixed.{quotient}
use Rattle.std.proofs.Math.Nat.{mul-mod_right, mul-zero}
use Rattle.ipc_read.specs.Queues.{Left, IsWithin, NodesAt, At, short_of}
use Rattle.ipc_read.specs.Sources.{faults_where, bytes_where, validity_fetched, head_faults}
use Rattle.ipc_read.proofs.Refusals.{among_left, among_right, refuses_left, refuses_by, both_none, none_of_both}
use Rattle.ipc_read.proofs.Counted.{Counted, counted, is_own, own_buffers, own_looked, refused_in, lacks_or, buffer_end, fine_in, at_next, nodes_next, fetched_in}

-- ── layouts ──

pub null_layout : (l : PhysicalType) → is_null l ≡ true → l ≡ physical.Null
null_layout physical.Null h = refl
null_layout l h = cc

boolean_layout : (l : PhysicalType) → is_boolean l ≡ true → l ≡ physical.Boolean
boolean_layout physical.Boolean h = refl
boolean_layout l h = cc

fixed_layout : (k : Kind) → 0 < binary_size k → physical_of k ≡ physical.FixedSizeBinary
fixed_layout (kind.fixed_size_binary n) h = refl
fixed_layout (kind.extension name metadata k) h = fixed_layout k h
fixed_layout k h = absurd (omega (arith, h))

-- ── arrays ──

pub record LeafArray (m : RecordBatch) (k : Kind) (p : Place) (rows : ℕ) (values : ℕ → List IpcError) : Type 0 where
  pub layout : PhysicalType
  pub counted : Counted k layout
  pub two : own_buffers layout ≡ 2
  pub looked : own_looked layout m p ≡ validity_looked_at m p ++ (p.buffer + 1) ∷ []
  pub faults : array_faults m [] k p rows ≡ node_faults m p rows ++ (validity_faults m p rows ++ faults_where rows (values (p.buffer + 1)))

pub by_layout : (m : RecordBatch) (k : Kind) (p : Place) (rows : ℕ) (l : PhysicalType) → physical_of k ≡ l → is_leaf_layout l (binary_size k) ≡ true → array_faults m [] k p rows ≡ node_faults m p rows ++ contents_of l (binary_size k) m p rows
by_layout m k p rows l h f = faults_by_layout m [] k p rows (ap (λ x. is_leaf_layout x (binary_size k)) h ∙ f) ∙ ap (λ x. node_faults m p rows ++ contents_of x (binary_size k) m p rows) h

pub counted_at : (k : Kind) (l : PhysicalType) → physical_of k ≡ l → is_own l ≡ true → Counted k l
counted_at k l h o = subst (Counted k) h (counted k (ap is_own h ∙ o))

boolean_contents : (m : RecordBatch) (size : ℕ) (p : Place) (rows : ℕ) → contents_of physical.Boolean size m p rows ≡ validity_faults m p rows ++ faults_where rows (bitmap_faults m (p.buffer + 1) rows)
unfolding validity_faults
boolean_contents m size p zero = refl
boolean_contents m size p (suc n) = refl

pub leaf_boolean : (m : RecordBatch) (k : Kind) (p : Place) (rows : ℕ) → is_boolean (physical_of k) ≡ true → LeafArray m k p rows (λ i. bitmap_faults m i rows)
leaf_boolean m k p rows h =
    let l = boolean_layout (physical_of k) h in
    record {
      layout = physical.Boolean;
      counted = counted_at k physical.Boolean l refl;
      two = refl;
      looked = refl;
      faults = by_layout m k p rows physical.Boolean l refl ∙ ap (λ es. node_faults m p rows ++ es) (boolean_contents m (binary_size k) p rows);
    }

primitive_contents : (m : RecordBatch) (t : PrimitiveType) (size : ℕ) (p : Place) (rows : ℕ) → contents_of (physical.Primitive t) size m p rows ≡ validity_faults m p rows ++ faults_where rows (numbers_faults m (p.buffer + 1) (primitive_size t) rows)
unfolding validity_faults
primitive_contents m t size p zero = refl
primitive_contents m t size p (suc n) = refl

leaf_of : (m : RecordBatch) (k : Kind) (p : Place) (rows width : ℕ) (t : PrimitiveType) → physical_of k ≡ physical.Primitive t → primitive_size t ≡ width → 0 < width → LeafArray m k p rows (λ i. numbers_faults m i width rows)
leaf_of m k p rows width t l w h =
    let above : nat_lt 0 (primitive_size t) ≡ true = lt-ltb _ _ (omega (arith, w, h)) in
    record {
      layout = physical.Primitive t;
      counted = counted_at k (physical.Primitive t) l refl;
      two = refl;
      looked = refl;
      faults = by_layout m k p rows (physical.Primitive t) l above ∙ ap (λ es. node_faults m p rows ++ es) (primitive_contents m t (binary_size k) p rows ∙ ap (λ n. validity_faults m p rows ++ faults_where rows (numbers_faults m (p.buffer + 1) n rows)) w);
    }

pub leaf_primitive : (m : RecordBatch) (k : Kind) (p : Place) (rows width : ℕ) (t : PrimitiveType) → is_primitive t (physical_of k) ≡ true → primitive_size t ≡ width → 0 < width → LeafArray m k p rows (λ i. numbers_faults m i width rows)
leaf_primitive m k p rows width t h w a = on (physical_of k) refl h (layout_size t (physical_of k) h ∙ w)
  where
    on : (l : PhysicalType) → physical_of k ≡ l → is_primitive t l ≡ true → number_size l ≡ width → LeafArray m k p rows (λ i. numbers_faults m i width rows)
    on (physical.Primitive q) e h s = leaf_of m k p rows width q e s a
    on l e h s = cc

fixed_contents : (m : RecordBatch) (size : ℕ) (p : Place) (rows : ℕ) → contents_of physical.FixedSizeBinary size m p rows ≡ validity_faults m p rows ++ faults_where rows (numbers_faults m (p.buffer + 1) size rows)
unfolding validity_faults
fixed_contents m size p zero = refl
fixed_contents m size p (suc n) = refl

pub leaf_fixed : (m : RecordBatch) (k : Kind) (p : Place) (rows : ℕ) → 0 < binary_size k → LeafArray m k p rows (λ i. numbers_faults m i (binary_size k) rows)
leaf_fixed m k p rows h =
    let l = fixed_layout k h in
    record {
      layout = physical.FixedSizeBinary;
      counted = counted_at k physical.FixedSizeBinary l refl;
      two = refl;
      looked = refl;
      faults = by_layout m k p rows physical.FixedSizeBinary l (lt-ltb _ _ h) ∙ ap (λ es. node_faults m p rows ++ es) (fixed_contents m (binary_size k) p rows);
    }

-- ── what is refused of them ──

node_refused : (m : RecordBatch) (k : Kind) (p : Place) (rows : ℕ) (values : ℕ → List IpcError) (e : IpcError) → LeafArray m k p rows values → Refuses e (node_faults m p rows) → Refuses e (read_faults m [] k p rows)
node_refused m k p rows values e f h = refused_in m k p rows e (subst (λ es. Refuses e es) (sym f.faults) (refuses_left (node_faults m p rows) _ e h))

end_of : (m : RecordBatch) (k : Kind) (p : Place) (rows : ℕ) (values : ℕ → List IpcError) → LeafArray m k p rows values → (after m k p).buffer ≡ p.buffer + 2
end_of m k p rows values f = buffer_end m k f.layout p f.counted ∙ ap (λ n. p.buffer + n) f.two

validity_refused : (m : RecordBatch) (k : Kind) (p : Place) (rows : ℕ) (values : ℕ → List IpcError) (e : IpcError) → LeafArray m k p rows values → Refuses e (short_of m.buffers p.buffer ++ validity_faults m p rows) → Refuses e (read_faults m [] k p rows)
validity_refused m k p rows values e f h =
    lacks_or m k p rows p.buffer e (validity_faults m p rows) (omega (arith, end_of m k p rows values f))
    (λ x a. subst (λ es. IsAmong es x) (sym f.faults) (among_right (node_faults m p rows) _ x (among_left (validity_faults m p rows) _ x a))) h

pub head_refused : (m : RecordBatch) (k : Kind) (p : Place) (rows : ℕ) (values : ℕ → List IpcError) (e : IpcError) → LeafArray m k p rows values → Refuses e (head_faults m p rows) → Refuses e (read_faults m [] k p rows)
head_refused m k p rows values e f h = refuses_by (node_faults m p rows) _ (read_faults m [] k p rows) e (node_refused m k p rows values e f) (validity_refused m k p rows values e f) h

pub values_refused : (m : RecordBatch) (k : Kind) (p : Place) (rows : ℕ) (values : ℕ → List IpcError) (e : IpcError) → LeafArray m k p rows values → Refuses e (short_of m.buffers (p.buffer + 1) ++ faults_where rows (values (p.buffer + 1))) → Refuses e (read_faults m [] k p rows)
values_refused m k p rows values e f h =
    lacks_or m k p rows (p.buffer + 1) e (faults_where rows (values (p.buffer + 1))) (omega (arith, end_of m k p rows values f))
    (λ x a. subst (λ es. IsAmong es x) (sym f.faults) (among_right (node_faults m p rows) _ x (among_right (validity_faults m p rows) _ x a))) h

pub leaf_fine : (m : RecordBatch) (k : Kind) (p : Place) (rows : ℕ) (values : ℕ → List IpcError) (ns : List FieldNode) (bs : List IpcBuffer) → LeafArray m k p rows values → IsWithin m p → Left m.nodes (suc p.node) ns → Left m.buffers (suc (p.buffer + 1)) bs → head_faults m p rows ≡ [] → short_of m.buffers (p.buffer + 1) ++ faults_where rows (values (p.buffer + 1)) ≡ [] → read_faults m [] k p rows ≡ []
leaf_fine m k p rows values ns bs f w n b h z =
    let x = none_of_both (node_faults m p rows) _ h in
    let y = none_of_both (short_of m.buffers p.buffer) _ x.1 in
    let v = none_of_both (short_of m.buffers (p.buffer + 1)) _ z in
    fine_in m k f.layout p rows f.counted n.within (omega (arith, b.within, f.two)) w.views
    (f.faults ∙ both_none (node_faults m p rows) _ x.0 (both_none (validity_faults m p rows) _ y.1 v.1))

pub leaf_next : (m : RecordBatch) (k : Kind) (p : Place) (rows : ℕ) (values : ℕ → List IpcError) (ns : List FieldNode) (bs : List IpcBuffer) → LeafArray m k p rows values → IsWithin m p → Left m.nodes (suc p.node) ns → Left m.buffers (suc (p.buffer + 1)) bs → At m (after m k p) ns bs
leaf_next m k p rows values ns bs f w n b = at_next m k f.layout p ns bs (suc (p.buffer + 1)) f.counted (omega (arith, f.two)) w n b

pub leaf_fetched : (m : RecordBatch) (k : Kind) (p : Place) (rows : ℕ) (values : ℕ → List IpcError) → LeafArray m k p rows values → fetched_at_most m k p rows ≡ validity_fetched m p rows + bytes_where rows (stated m (p.buffer + 1))
leaf_fetched m k p rows values f = fetched_in m k f.layout p rows f.counted f.looked

pub leaf_fixed_of : (m : RecordBatch) (k : Kind) (p : Place) (rows size : ℕ) → 0 < binary_size k → size ≡ binary_size k → LeafArray m k p rows (λ i. numbers_faults m i size rows)
leaf_fixed_of m k p rows size h e = subst (λ n. LeafArray m k p rows (λ i. numbers_faults m i n rows)) (sym e) (leaf_fixed m k p rows h)

-- ── values and sources ──

pub leaf_same : {A : Type 0} → (k : Kind) (xs ys : List A) (v w : Option (List Bool)) → xs ≡ ys → v ≡ w → ◌≡◌ {A = Leaf A} (record { kind = k; values = xs; validity = v }) (record { kind = k; values = ys; validity = w })
leaf_same k xs ys v w p q = rw (p, q) refl

-- ── nulls alone ──

nothing_more : (m : RecordBatch) (k : Kind) (p : Place) (rows : ℕ) → is_null (physical_of k) ≡ true → array_faults m [] k p rows ≡ node_faults m p rows ++ []
nothing_more m k p rows h = by_layout m k p rows physical.Null (null_layout (physical_of k) h) refl ∙ ap (λ es. node_faults m p rows ++ es) (empty rows)
  where
    empty : (n : ℕ) → contents_of physical.Null (binary_size k) m p n ≡ []
    empty zero = refl
    empty (suc n) = refl

pub null_refused : (m : RecordBatch) (k : Kind) (p : Place) (rows : ℕ) (e : IpcError) → is_null (physical_of k) ≡ true → Refuses e (node_faults m p rows) → Refuses e (read_faults m [] k p rows)
null_refused m k p rows e h r = refused_in m k p rows e (subst (λ es. Refuses e es) (sym (nothing_more m k p rows h)) (refuses_left (node_faults m p rows) _ e r))

null_counted : (k : Kind) → is_null (physical_of k) ≡ true → Counted k physical.Null
null_counted k h = counted_at k physical.Null (null_layout (physical_of k) h) refl

pub null_fine : (m : RecordBatch) (k : Kind) (p : Place) (rows : ℕ) (ns : List FieldNode) → is_null (physical_of k) ≡ true → IsWithin m p → Left m.nodes (suc p.node) ns → node_faults m p rows ≡ [] → read_faults m [] k p rows ≡ []
null_fine m k p rows ns h w n z = fine_in m k physical.Null p rows (null_counted k h) n.within (omega (arith, w.buffers)) w.views (nothing_more m k p rows h ∙ both_none (node_faults m p rows) [] z refl)

pub null_next : (m : RecordBatch) (k : Kind) (p : Place) (ns : List FieldNode) → is_null (physical_of k) ≡ true → IsWithin m p → Left m.nodes (suc p.node) ns → NodesAt m (after m k p) ns
null_next m k p ns h w n = nodes_next m k physical.Null p ns (null_counted k h) refl w n

-- ── byte strings of one size ──

pub fixed_none : (k : Kind) (values : List ℕ) (v : Option (List Bool)) (rows : ℕ) (e : ArrayError) → 0 < binary_size k → length values ≡ binary_size k * rows → has_rows v rows ≡ true → fixed_fault (record { kind = k; values = values; validity = v }) ≡ Some e → ⊥
fixed_none k values v rows e s c h f =
    let above : nat_lt 0 (binary_size k) ≡ true = lt-ltb _ _ s in
    let whole : length values % binary_size k ≡ 0 = rw c (mul-mod_right (binary_size k) rows) in
    let count : length values / binary_size k ≡ rows = quotient (binary_size k) rows (length values) s c in
    let g = rw (above, eq-eqb _ _ whole, count, h) at f in
    cc

pub fixed_shape : (k : Kind) (a : Leaf ℕ) (values : List ℕ) (v : Option (List Bool)) (rows : ℕ) → 0 < binary_size k → a ≡ record { kind = k; values = values; validity = v } → length values ≡ binary_size k * rows → (a.kind ≡ k) × (fixed_rows a ≡ rows)
fixed_shape k a values v rows s e c = rw e (refl, quotient (binary_size k) rows (length values) s c)

-- ── rows ──

pub shape_of : {A : Type 0} → (k : Kind) (a : Leaf A) (values : List A) (v : Option (List Bool)) (rows : ℕ) → a ≡ record { kind = k; values = values; validity = v } → length values ≡ rows → (a.kind ≡ k) × (length a.values ≡ rows)
shape_of k a values v rows e c = rw e (refl, c)

pub rows_of : (v : Option (List Bool)) (n rows : ℕ) → has_rows v rows ≡ true → n ≡ rows → has_rows v n ≡ true
rows_of v n rows h e = rw e h

-- ── bytes of numbers ──

pub no_bytes : (m : RecordBatch) (i width rows : ℕ) → rows ≡ 0 → AreBytes (take (width * rows) (buf m i))
no_bytes m i width rows h =
    let e : width * rows ≡ 0 = ap (λ n. width * n) h ∙ mul-zero width in
    subst (λ n. AreBytes (take n (buf m i))) (sym e) (λ j. omega arith)

pub bytes_of_numbers : (m : RecordBatch) (k : Kind) (p : Place) (rows width : ℕ) (t : PrimitiveType) → is_primitive t (physical_of k) ≡ true → primitive_size t ≡ width → AreBytes (take (width * rows) (buf m (p.buffer + 1))) → AreBytes (numbers_bytes m k p rows)
bytes_of_numbers m k p rows width t h w b = subst (λ n. AreBytes (take (n * rows) (buf m (p.buffer + 1)))) (sym (layout_size t (physical_of k) h ∙ w)) b
