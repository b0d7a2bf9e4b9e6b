-- Arrays of views: what is wrong with them, by the layout of their kind.
use Rattle.std.proofs.Common.{◌≡◌, ◌⊎◌, inl, inr, ℕ, zero, suc, ◌+◌, ◌*◌, ◌≤◌, List, [], ◌∷◌, ◌++◌, length, drop, Bool, true, false, Option, Some, None, Result, Ok, Err, IfOk, IfErr, ℤ, not, ◌&&◌, ◌||◌, refl, sym, ap, ◌∙◌, arith, subst}
use Rattle.std.specs.Prelude.{nat_lt, nat_le, take, if◌then◌else◌}
use Rattle.std.proofs.lemmas.Bool.{le-ltb, lt-ltb, le-leb}
use Rattle.arrow_spec.specs.declared.error.IpcError.{IpcError}
use Rattle.arrow_spec.specs.declared.error.IpcError.TheVariants.{OutOfSpec, Unsupported, Memory}
use Rattle.arrow_spec.specs.declared.error.OutOfSpecKind.TheVariants as kinds
use Rattle.arrow_spec.specs.declared.error.Feature.TheVariants as features
use Rattle.arrow_spec.specs.declared.message.FieldNode.{FieldNode}
use Rattle.arrow_spec.specs.declared.message.IpcBuffer.{IpcBuffer}
use Rattle.arrow_spec.specs.declared.message.MetadataVersion.{MetadataVersion}
use Rattle.arrow_spec.specs.Readings.{IsAmong, Refuses}
use Rattle.arrow_spec.specs.Flat.{Order, order_by}
use Rattle.arrow_spec.specs.Kinds as kind
use Rattle.arrow_spec.specs.Kinds.{Kind, small, large, binary_view}
use Rattle.arrow_spec.specs.Counts.{RecordBatch, Place, after, nodes, buffers, views, count_at, count_among}
use Rattle.arrow_spec.specs.Arrays.{buf, view_of}
use Rattle.arrow_spec.specs.Faults.{cause, if_sound, is_big, some_negative, some_valid_row, is_no_text_view, node_faults, validity_faults, numbers_faults, fixed_faults, ranges_faults, data_faults, count_faults, counts_faults, view_count_faults, view_parts_faults, bad_view_faults, views_faults, view_text_faults, array_faults}
use Rattle.arrow_spec.specs.Needed.{looked_at, validity_looked_at, numbers_from}
use Rattle.arrow_spec.proofs.Fewer.{sound_both}
use Rattle.arrow_types.specs.Physical.{physical_of}
use Rattle.arrow_types.specs.declared.physical.PhysicalType.{PhysicalType}
use Rattle.arrow_types.specs.declared.physical.PhysicalType.TheVariants as physical
use Rattle.arrow_buffers.specs.declared.error.ArrayError.{ArrayError}
use Rattle.arrow_buffers.specs.declared.error.ArrayError.TheVariants.{Utf8, View}
use Rattle.arrow_buffers.specs.Layouts.{is_view, binary_size}
use Rattle.arrow_buffers.specs.Views.{Views, view_rows, view_fault, has_bad_view, has_bad_view_text}
use Rattle.ipc_read_laws.specs.Faults.{read_faults, fetched_at_most, stated, stated_of}
use Rattle.ipc_read_laws.specs.PartsRead.{bytes_of_rows, validity_read, views_read}
use Rattle.ipc_read_laws.specs.LayoutFaults.{contents_of}
use Rattle.ipc_read_laws.proofs.ViewsRead.{views_told, buffers_told}
use Rattle.ipc_read_laws.proofs.Sound.{views_held, bad_view_faults-read, bad_text_faults-read, view_fault-read, view_fault-none}
use Rattle.ipc_read.specs.Queues.{Left, AllAt, short_of}
use Rattle.ipc_read.specs.Sources.{Answers, faults_where, bytes_where, validity_fetched}
use Rattle.ipc_read.specs.DataBuffers.{data_causes, data_of}
use Rattle.ipc_read.proofs.Refusals.{among_left, among_right, among_sound, among_cause, no_cause, refuses_left, refuses_right, refuses_more, memory_refuses, both_none}
use Rattle.ipc_read.proofs.Counted.{refused_in, lacks_or, left_next, stated_append}
use Rattle.ipc_read.proofs.LeafArrays.{by_layout}

-- ── layouts ──

abbrev by_text : Bool → PhysicalType
by_text false = physical.BinaryView
by_text true = physical.Utf8View

view_layout : (t : Bool) (l : PhysicalType) → is_view t l ≡ true → l ≡ by_text t
view_layout false physical.BinaryView h = refl
view_layout true physical.Utf8View h = refl
view_layout true l h = cc
view_layout false l h = cc

abbrev is_any_view : PhysicalType → Bool
is_any_view physical.BinaryView = true
is_any_view physical.Utf8View = true
is_any_view layout = false

any_view : (t : Bool) → is_any_view (by_text t) ≡ true
any_view false = refl
any_view true = refl

pub record Viewed (k : Kind) : Type 0 where
  pub nodes : nodes k ≡ 1
  pub buffers : (v : MetadataVersion) (c : List ℤ) (w : ℕ) → buffers v c k w ≡ 2 + count_among c w
  pub views : views k ≡ 1
  pub looked : (m : RecordBatch) (p : Place) → looked_at m k p ≡ validity_looked_at m p ++ numbers_from (p.buffer + 1) (suc (count_at m p.view))

viewed : (k : Kind) → is_any_view (physical_of k) ≡ true → Viewed k
viewed kind.binary_view h = record { nodes = refl; buffers = λ v c w. refl; views = refl; looked = λ m p. refl }
viewed kind.utf8_view h = record { nodes = refl; buffers = λ v c w. refl; views = refl; looked = λ m p. refl }
viewed (kind.extension name metadata k) h = let r = viewed k h in record { nodes = r.nodes; buffers = r.buffers; views = r.views; looked = r.looked }
viewed (kind.binary small) h = cc
viewed (kind.binary large) h = cc
viewed (kind.utf8 small) h = cc
viewed (kind.utf8 large) h = cc
viewed (kind.«list» small fs) h = cc
viewed (kind.«list» large fs) h = cc
viewed k h = cc

-- ── arrays ──

-- what is wrong with the views, and with their texts
abbrev pub bad_faults : Bool → RecordBatch → Place → ℕ → List IpcError
bad_faults false m p rows = bad_view_faults m p rows
bad_faults true m p rows = bad_view_faults m p rows ++ cause (some_valid_row m p (λ row. is_no_text_view m p (view_of m p row)) rows) (OutOfSpec kinds.InvalidUtf8)

pub record ViewArray (t : Bool) (m : RecordBatch) (k : Kind) (p : Place) (rows : ℕ) : Type 0 where
  pub counted : Viewed k
  pub faults : array_faults m [] k p rows ≡ node_faults m p rows ++ faults_where rows (if_sound (view_parts_faults m p rows) (bad_faults t m p rows))

view_contents : (t : Bool) (size : ℕ) (m : RecordBatch) (p : Place) (rows : ℕ) → contents_of (by_text t) size m p rows ≡ faults_where rows (if_sound (view_parts_faults m p rows) (bad_faults t m p rows))
unfolding views_faults view_text_faults
view_contents false size m p zero = refl
view_contents true size m p zero = refl
view_contents false size m p (suc n) = refl
view_contents true size m p (suc n) = refl

pub view_array : (t : Bool) (m : RecordBatch) (k : Kind) (p : Place) (rows : ℕ) → is_view t (physical_of k) ≡ true → ViewArray t m k p rows
view_array false m k p rows h =
    let l = view_layout false (physical_of k) h in
    record { counted = viewed k (ap is_any_view l); faults = by_layout m k p rows physical.BinaryView l refl ∙ ap (λ es. node_faults m p rows ++ es) (view_contents false (binary_size k) m p rows) }
view_array true m k p rows h =
    let l = view_layout true (physical_of k) h in
    record { counted = viewed k (ap is_any_view l); faults = by_layout m k p rows physical.Utf8View l refl ∙ ap (λ es. node_faults m p rows ++ es) (view_contents true (binary_size k) m p rows) }

end_of : (t : Bool) (m : RecordBatch) (k : Kind) (p : Place) (rows : ℕ) → ViewArray t m k p rows → (after m k p).buffer ≡ p.buffer + 2 + count_at m p.view
end_of t m k p rows f = let e = f.counted.buffers m.version m.variadic p.view in omega (arith, e)

counts_same : (t : Bool) (m : RecordBatch) (k : Kind) (p : Place) (rows : ℕ) → ViewArray t m k p rows → view_count_faults m k p ≡ view_count_faults m binary_view p
counts_same t m k p rows f = ap (λ n. cause (nat_lt (length m.variadic) (p.view + n)) (OutOfSpec kinds.MissingVariadicCount) ++ cause (some_negative (take n (drop p.view m.variadic))) (OutOfSpec kinds.UnexpectedNegativeInteger)) f.counted.views

-- ── what is refused of them ──

pub node_refused : (t : Bool) (m : RecordBatch) (k : Kind) (p : Place) (rows : ℕ) (e : IpcError) → ViewArray t m k p rows → Refuses e (node_faults m p rows) → Refuses e (read_faults m [] k p rows)
node_refused t m k p rows e f h = refused_in m k p rows e (subst (λ es. Refuses e es) (sym f.faults) (refuses_left (node_faults m p rows) _ e h))

pub count_refused : (t : Bool) (m : RecordBatch) (k : Kind) (p : Place) (rows : ℕ) (e : IpcError) → ViewArray t m k p rows → Refuses e (view_count_faults m binary_view p) → Refuses e (read_faults m [] k p rows)
unfolding read_faults count_faults
count_refused t m k p rows e f h = refuses_left (count_faults m k p) _ e (refuses_right (counts_faults m (after m k p)) _ e (subst (λ es. Refuses e es) (sym (counts_same t m k p rows f)) h))

parts_among : (t : Bool) (m : RecordBatch) (k : Kind) (p : Place) (rows : ℕ) (x : IpcError) → ViewArray t m k p rows → IsAmong (faults_where rows (view_parts_faults m p rows)) x → IsAmong (array_faults m [] k p rows) x
parts_among t m k p zero x f h = absurd h
parts_among t m k p (suc n) x f h = subst (λ es. IsAmong es x) (sym f.faults) (among_right (node_faults m p (suc n)) _ x (among_sound (view_parts_faults m p (suc n)) _ x h))

some_rows : (n : ℕ) → nat_lt 0 (suc n) ≡ true
some_rows n = lt-ltb 0 (suc n) (omega arith)

no_rows : (b : Bool) → (nat_lt 0 0 && not b) ≡ true → ⊥
no_rows b h = cc

big_order : (n : ℕ) (b : Bool) → (nat_lt 0 (suc n) && not b) ≡ true → b ≡ false
big_order n true h = let e = rw (some_rows n) at h in cc
big_order n false h = refl

little_order : (n : ℕ) (b : Bool) → (nat_lt 0 (suc n) && not b) ≡ false → not b ≡ false
little_order n b h = let e = rw (some_rows n) at h in e

of_order : (m : RecordBatch) (p : Place) (rows : ℕ) (b : Bool) → m.order ≡ order_by b → (nat_lt 0 rows && not b) ≡ true → IsAmong (faults_where rows (view_parts_faults m p rows)) (Unsupported features.ViewBigEndian)
unfolding view_parts_faults
of_order m p zero b o h = absurd (no_rows b h)
of_order m p (suc n) b o h = among_left (cause (is_big m.order) (Unsupported features.ViewBigEndian) ++ fixed_faults m p 16 (suc n)) _ _ (among_left (cause (is_big m.order) (Unsupported features.ViewBigEndian)) _ _ (among_cause (is_big m.order) _ (ap is_big (o ∙ ap order_by (big_order n b h)))))

of_validity : (m : RecordBatch) (p : Place) (rows : ℕ) (x : IpcError) → IsAmong (validity_faults m p rows) x → IsAmong (faults_where rows (view_parts_faults m p rows)) x
unfolding validity_faults view_parts_faults
of_validity m p zero x h = absurd h
of_validity m p (suc n) x h = among_left (cause (is_big m.order) (Unsupported features.ViewBigEndian) ++ fixed_faults m p 16 (suc n)) _ x (among_right (cause (is_big m.order) (Unsupported features.ViewBigEndian)) _ x (among_left (validity_faults m p (suc n)) _ x h))

of_views : (m : RecordBatch) (p : Place) (rows : ℕ) (x : IpcError) → IsAmong (faults_where rows (numbers_faults m (p.buffer + 1) 16 rows)) x → IsAmong (faults_where rows (view_parts_faults m p rows)) x
unfolding view_parts_faults
of_views m p zero x h = absurd h
of_views m p (suc n) x h = among_left (cause (is_big m.order) (Unsupported features.ViewBigEndian) ++ fixed_faults m p 16 (suc n)) _ x (among_right (cause (is_big m.order) (Unsupported features.ViewBigEndian)) _ x (among_right (validity_faults m p (suc n)) _ x h))

data_is : (m : RecordBatch) (p : Place) (n : ℕ) → nat_lt (length m.buffers) (p.buffer + 2 + n) ≡ false → data_faults m p n ≡ ranges_faults m (p.buffer + 2) n
data_is m p n h = let e : nat_le (p.buffer + 2 + n) (length m.buffers) ≡ true = le-leb _ _ (grind (arith, h)) in rw (e, data_faults) refl

of_ranges : (m : RecordBatch) (p : Place) (rows : ℕ) (x : IpcError) → view_count_faults m binary_view p ≡ [] → nat_lt (length m.buffers) (p.buffer + 2 + count_at m p.view) ≡ false → IsAmong (faults_where rows (ranges_faults m (p.buffer + 2) (count_at m p.view))) x → IsAmong (faults_where rows (view_parts_faults m p rows)) x
unfolding view_parts_faults
of_ranges m p zero x c e h = absurd h
of_ranges m p (suc n) x c e h = among_right (cause (is_big m.order) (Unsupported features.ViewBigEndian) ++ fixed_faults m p 16 (suc n)) _ x (subst (λ es. IsAmong (if_sound es (data_faults m p (count_at m p.view))) x) (sym c) (subst (λ es. IsAmong es x) (sym (data_is m p (count_at m p.view) e)) h))

or_true : (a b : Bool) → b ≡ true → (a || b) ≡ true
or_true true b h = refl
or_true false b h = h

lacks_data : (t : Bool) (m : RecordBatch) (k : Kind) (p : Place) (rows : ℕ) (x : IpcError) → ViewArray t m k p rows → nat_lt (length m.buffers) (p.buffer + 2 + count_at m p.view) ≡ true → IsAmong (OutOfSpec kinds.ExpectedBuffer ∷ []) x → IsAmong (read_faults m [] k p rows) x
unfolding read_faults count_faults
lacks_data t m k p rows x f e a =
    let o = or_true (nat_lt (length m.nodes) (after m k p).node) (nat_lt (length m.buffers) (after m k p).buffer) (ap (nat_lt (length m.buffers)) (end_of t m k p rows f) ∙ e) in
    among_left (count_faults m k p) _ x (among_left (counts_faults m (after m k p)) _ x (subst (λ b. IsAmong (cause b (OutOfSpec kinds.ExpectedBuffer)) x) (sym o) a))

data_among : (t : Bool) (m : RecordBatch) (k : Kind) (p : Place) (rows : ℕ) (x : IpcError) → ViewArray t m k p rows → view_count_faults m binary_view p ≡ [] → (b : Bool) → nat_lt (length m.buffers) (p.buffer + 2 + count_at m p.view) ≡ b → IsAmong (if_sound (cause b (OutOfSpec kinds.ExpectedBuffer)) (faults_where rows (ranges_faults m (p.buffer + 2) (count_at m p.view)))) x → IsAmong (read_faults m [] k p rows) x
unfolding read_faults
data_among t m k p rows x f c true e a = lacks_data t m k p rows x f e a
data_among t m k p rows x f c false e a = among_right (count_faults m k p) _ x (parts_among t m k p rows x f (of_ranges m p rows x c e a))

pub order_refused : (t : Bool) (m : RecordBatch) (k : Kind) (p : Place) (rows : ℕ) (b : Bool) → ViewArray t m k p rows → m.order ≡ order_by b → (nat_lt 0 rows && not b) ≡ true → IsAmong (read_faults m [] k p rows) (Unsupported features.ViewBigEndian)
unfolding read_faults
order_refused t m k p rows b f o h = among_right (count_faults m k p) _ _ (parts_among t m k p rows _ f (of_order m p rows b o h))

pub validity_refused : (t : Bool) (m : RecordBatch) (k : Kind) (p : Place) (rows : ℕ) (e : IpcError) → ViewArray t m k p rows → Refuses e (short_of m.buffers p.buffer ++ validity_faults m p rows) → Refuses e (read_faults m [] k p rows)
validity_refused t m k p rows e f h = lacks_or m k p rows p.buffer e _ (omega (arith, end_of t m k p rows f)) (λ x a. parts_among t m k p rows x f (of_validity m p rows x a)) h

pub views_refused : (t : Bool) (m : RecordBatch) (k : Kind) (p : Place) (rows : ℕ) (e : IpcError) → ViewArray t m k p rows → Refuses e (short_of m.buffers (p.buffer + 1) ++ faults_where rows (numbers_faults m (p.buffer + 1) 16 rows)) → Refuses e (read_faults m [] k p rows)
views_refused t m k p rows e f h = lacks_or m k p rows (p.buffer + 1) e _ (omega (arith, end_of t m k p rows f)) (λ x a. parts_among t m k p rows x f (of_views m p rows x a)) h

pub data_refused : (t : Bool) (m : RecordBatch) (k : Kind) (p : Place) (rows count : ℕ) (e : IpcError) → ViewArray t m k p rows → view_count_faults m binary_view p ≡ [] → count ≡ count_at m p.view → Refuses e (data_causes m (p.buffer + 2) rows count) → Refuses e (read_faults m [] k p rows)
data_refused t m k p rows count e f c n h = refuses_more (data_causes m (p.buffer + 2) rows (count_at m p.view)) (read_faults m [] k p rows) e (λ x a. data_among t m k p rows x f c _ refl a) (subst (λ n. Refuses e (data_causes m (p.buffer + 2) rows n)) n h)

pub view_next : (t : Bool) (m : RecordBatch) (k : Kind) (p : Place) (rows count : ℕ) (ns : List FieldNode) (bs : List IpcBuffer) (vs : List ℤ) → ViewArray t m k p rows → count ≡ count_at m p.view → Left m.nodes (suc p.node) ns → Left m.buffers (p.buffer + 2 + count) bs → Left m.variadic (suc p.view) vs → AllAt m (after m k p) ns bs vs
view_next t m k p rows count ns bs vs f e n b v = record {
  nodes = left_next m.nodes (suc p.node) (p.node + nodes k) ns (omega (arith, f.counted.nodes)) n;
  buffers = left_next m.buffers (p.buffer + 2 + count) (after m k p).buffer bs (omega (arith, e, end_of t m k p rows f)) b;
  views = left_next m.variadic (suc p.view) (p.view + views k) vs (omega (arith, f.counted.views)) v;
}

pub view_fetched : (t : Bool) (m : RecordBatch) (k : Kind) (p : Place) (rows count : ℕ) → ViewArray t m k p rows → count ≡ count_at m p.view → fetched_at_most m k p rows ≡ validity_fetched m p rows + bytes_where rows (stated m (p.buffer + 1)) + bytes_where rows (stated_of m (numbers_from (p.buffer + 2) count))
view_fetched t m k p zero count f e = refl
view_fetched t m k p (suc n) count f e =
    let r = stated_append m (validity_looked_at m p) (numbers_from (p.buffer + 1) (suc (count_at m p.view))) in
    let q : stated_of m (looked_at m k p) ≡ stated_of m (validity_looked_at m p ++ numbers_from (p.buffer + 1) (suc (count_at m p.view))) = ap (stated_of m) (f.counted.looked m p) in
    let i : suc (p.buffer + 1) ≡ p.buffer + 2 = omega arith in
    let s : stated_of m (numbers_from (suc (p.buffer + 1)) (count_at m p.view)) ≡ stated_of m (numbers_from (p.buffer + 2) count) = ap (λ j. stated_of m (numbers_from j (count_at m p.view))) i ∙ ap (λ n. stated_of m (numbers_from (p.buffer + 2) n)) (sym e) in
    omega (arith, q, r, s)

-- ── what was read ──

-- the parts are all well, and were read
pub record WasRead (m : RecordBatch) (p : Place) (rows count : ℕ) (is_little_endian : Bool) (a : Views) : Type 0 where
  pub order : m.order ≡ order_by is_little_endian
  pub is_little : (nat_lt 0 rows && not is_little_endian) ≡ false
  pub counts : view_count_faults m binary_view p ≡ []
  pub is_count : count ≡ count_at m p.view
  pub validity : validity_faults m p rows ≡ []
  pub views : faults_where rows (numbers_faults m (p.buffer + 1) 16 rows) ≡ []
  pub buffers : data_causes m (p.buffer + 2) rows count ≡ []
  pub is_views : a.views ≡ bytes_of_rows m 16 (p.buffer + 1) rows
  pub is_buffers : a.buffers ≡ data_of m (p.buffer + 2) rows count
  pub is_validity : a.validity ≡ validity_read m p rows

not_big : (o : Order) (b : Bool) → o ≡ order_by b → not b ≡ false → is_big o ≡ false
not_big o true e h = ap is_big e
not_big o false e h = cc

data_none : (m : RecordBatch) (p : Place) (n : ℕ) (b : Bool) → nat_lt (length m.buffers) (p.buffer + 2 + n) ≡ b → if_sound (cause b (OutOfSpec kinds.ExpectedBuffer)) (ranges_faults m (p.buffer + 2) n) ≡ [] → data_faults m p n ≡ []
data_none m p n true e h = cc
data_none m p n false e h = data_is m p n e ∙ h

parts_none : (m : RecordBatch) (p : Place) (n count : ℕ) (b : Bool) (a : Views) → WasRead m p (suc n) count b a → view_parts_faults m p (suc n) ≡ []
unfolding view_parts_faults
parts_none m p n count b a r =
    both_none (cause (is_big m.order) (Unsupported features.ViewBigEndian) ++ fixed_faults m p 16 (suc n)) _
    (both_none (cause (is_big m.order) (Unsupported features.ViewBigEndian)) _ (no_cause _ _ (not_big m.order b r.order (little_order n b r.is_little))) (both_none (validity_faults m p (suc n)) _ r.validity r.views))
    (sound_both (view_count_faults m binary_view p) _ r.counts (data_none m p (count_at m p.view) _ refl (subst (λ j. data_causes m (p.buffer + 2) (suc n) j ≡ []) r.is_count r.buffers)))

same_parts : (a : Views) (k : Kind) (xs : List ℕ) (ys : List (List ℕ)) (v : Option (List Bool)) → a.kind ≡ k → a.views ≡ xs → a.buffers ≡ ys → a.validity ≡ v → a ≡ record { kind = k; views = xs; buffers = ys; validity = v }
same_parts a k xs ys v e x y z = rw (← e, ← x, ← y, ← z) refl

views_same : (m : RecordBatch) (k : Kind) (p : Place) (rows count : ℕ) (b : Bool) (a : Views) → a.kind ≡ k → WasRead m p rows count b a → a ≡ views_read m k p rows
views_same m k p zero count b a e r = same_parts a k _ _ _ e r.is_views r.is_buffers r.is_validity
views_same m k p (suc n) count b a e r = same_parts a k _ _ _ e r.is_views (r.is_buffers ∙ ap (data_of m (p.buffer + 2) (suc n)) r.is_count) r.is_validity

-- the fault that is found where a text is bad, or a view, and what is refused there
abbrev found : Bool → Bool → Bool → Option ArrayError
found t u v = if t && u then Some Utf8 else (if v then Some View else None)

abbrev told : Bool → Bool → Bool → List IpcError
told false u v = cause v (OutOfSpec kinds.InvalidView)
told true u v = cause v (OutOfSpec kinds.InvalidView) ++ cause u (OutOfSpec kinds.InvalidUtf8)

told_none : (t u v : Bool) → found t u v ≡ None → told t u v ≡ []
told_none false u false h = refl
told_none false u true h = cc
told_none true true v h = cc
told_none true false false h = refl
told_none true false true h = cc

told_text : (t u v : Bool) → found t u v ≡ Some Utf8 → IsAmong (told t u v) (OutOfSpec kinds.InvalidUtf8)
told_text false u false h = cc
told_text false u true h = cc
told_text true true false h = inl refl
told_text true true true h = inr (inl refl)
told_text true false false h = cc
told_text true false true h = cc

told_view : (t u v : Bool) → found t u v ≡ Some View → IsAmong (told t u v) (OutOfSpec kinds.InvalidView)
told_view false u false h = cc
told_view false u true h = inl refl
told_view true true v h = cc
told_view true false false h = cc
told_view true false true h = inl refl

abbrev text_bad : RecordBatch → Place → ℕ → Bool
text_bad m p rows = has_bad_view_text (views_told m p rows) (buffers_told m p) (validity_read m p rows)

abbrev view_bad : RecordBatch → Place → ℕ → Bool
view_bad m p rows = has_bad_view (views_told m p rows) (buffers_told m p) (validity_read m p rows)

bad_are : (t : Bool) (m : RecordBatch) (p : Place) (rows : ℕ) → 16 * rows ≤ length (buf m (p.buffer + 1)) → bad_faults t m p rows ≡ told t (text_bad m p rows) (view_bad m p rows)
bad_are false m p rows h = bad_view_faults-read m p rows h
bad_are true m p rows h = ap (λ es. es ++ cause (some_valid_row m p (λ row. is_no_text_view m p (view_of m p row)) rows) (OutOfSpec kinds.InvalidUtf8)) (bad_view_faults-read m p rows h) ∙ ap (λ es. cause (view_bad m p rows) (OutOfSpec kinds.InvalidView) ++ es) (bad_text_faults-read m p rows h)

held : (m : RecordBatch) (p : Place) (n count : ℕ) (b : Bool) (a : Views) → WasRead m p (suc n) count b a → 16 * suc n ≤ length (buf m (p.buffer + 1))
held m p n count b a r = views_held m p (suc n) (parts_none m p n count b a r)

found_is : (t : Bool) (m : RecordBatch) (k : Kind) (p : Place) (n count : ℕ) (b : Bool) (a : Views) → a.kind ≡ k → WasRead m p (suc n) count b a → view_fault t true a ≡ found t (text_bad m p (suc n)) (view_bad m p (suc n))
found_is t m k p n count b a e r = ap (view_fault t true) (views_same m k p (suc n) count b a e r) ∙ view_fault-read t true m k p n refl (held m p n count b a r)

bad_among : (t : Bool) (m : RecordBatch) (k : Kind) (p : Place) (n count : ℕ) (b : Bool) (a : Views) (x : IpcError) → ViewArray t m k p (suc n) → WasRead m p (suc n) count b a → IsAmong (told t (text_bad m p (suc n)) (view_bad m p (suc n))) x → IsAmong (array_faults m [] k p (suc n)) x
bad_among t m k p n count b a x f r h =
    subst (λ es. IsAmong es x) (sym f.faults) (among_right (node_faults m p (suc n)) _ x
    (subst (λ es. IsAmong (if_sound es (bad_faults t m p (suc n))) x) (sym (parts_none m p n count b a r))
    (subst (λ es. IsAmong es x) (sym (bad_are t m p (suc n) (held m p n count b a r))) h)))

none_found : (t : Bool) (m : RecordBatch) (k : Kind) (p : Place) (count : ℕ) (b : Bool) (a : Views) → a.kind ≡ k → WasRead m p 0 count b a → view_fault t true a ≡ None
none_found t m k p count b a e r = ap (view_fault t true) (views_same m k p 0 count b a e r) ∙ view_fault-none t true m k p refl

no_some : {A : Type 0} → (o : Option A) (x : A) → o ≡ None → o ≡ Some x → ⊥
no_some o x h k = let e = sym h ∙ k in cc

pub make_refused : (t : Bool) (m : RecordBatch) (k : Kind) (p : Place) (rows count : ℕ) (b : Bool) (a : Views) (e : IpcError) → ViewArray t m k p rows → a.kind ≡ k → WasRead m p rows count b a
    → (e ≡ Memory) ⊎ (((e ≡ OutOfSpec kinds.InvalidUtf8) × (view_fault t true a ≡ Some Utf8)) ⊎ ((e ≡ OutOfSpec kinds.InvalidView) × (view_fault t true a ≡ Some View))) → Refuses e (read_faults m [] k p rows)
make_refused t m k p rows count b a e f s r (inl h) = memory_refuses e (read_faults m [] k p rows) h
make_refused t m k p zero count b a e f s r (inr (inl h)) = absurd (no_some (view_fault t true a) Utf8 (none_found t m k p count b a s r) h.1)
make_refused t m k p zero count b a e f s r (inr (inr h)) = absurd (no_some (view_fault t true a) View (none_found t m k p count b a s r) h.1)
make_refused t m k p (suc n) count b a e f s r (inr (inl h)) =
    subst (λ x. Refuses x (read_faults m [] k p (suc n))) (sym h.0) (refused_in m k p (suc n) (OutOfSpec kinds.InvalidUtf8) (bad_among t m k p n count b a _ f r (told_text t _ _ (sym (found_is t m k p n count b a s r) ∙ h.1))))
make_refused t m k p (suc n) count b a e f s r (inr (inr h)) =
    subst (λ x. Refuses x (read_faults m [] k p (suc n))) (sym h.0) (refused_in m k p (suc n) (OutOfSpec kinds.InvalidView) (bad_among t m k p n count b a _ f r (told_view t _ _ (sym (found_is t m k p n count b a s r) ∙ h.1))))

-- ── where nothing is wrong ──

contents_none : (t : Bool) (m : RecordBatch) (k : Kind) (p : Place) (rows count : ℕ) (b : Bool) (a : Views) → a.kind ≡ k → WasRead m p rows count b a → view_fault t true a ≡ None → faults_where rows (if_sound (view_parts_faults m p rows) (bad_faults t m p rows)) ≡ []
contents_none t m k p zero count b a s r h = refl
contents_none t m k p (suc n) count b a s r h = sound_both (view_parts_faults m p (suc n)) _ (parts_none m p n count b a r) (bad_are t m p (suc n) (held m p n count b a r) ∙ told_none t _ _ (sym (found_is t m k p n count b a s r) ∙ h))

counts_none : (t : Bool) (m : RecordBatch) (k : Kind) (p : Place) (rows count : ℕ) → ViewArray t m k p rows → count ≡ count_at m p.view → suc p.node ≤ length m.nodes → p.buffer + 2 + count ≤ length m.buffers → view_count_faults m binary_view p ≡ [] → count_faults m k p ≡ []
unfolding count_faults
counts_none t m k p rows count f e n b c =
    let x : nat_lt (length m.nodes) (after m k p).node ≡ false = le-ltb _ _ (omega (arith, f.counted.nodes, n)) in
    let y : nat_lt (length m.buffers) (after m k p).buffer ≡ false = le-ltb _ _ (omega (arith, end_of t m k p rows f, e, b)) in
    both_none (counts_faults m (after m k p)) _ (no_cause _ _ (or_false _ _ x y)) (counts_same t m k p rows f ∙ c)
  where
    or_false : (u v : Bool) → u ≡ false → v ≡ false → (u || v) ≡ false
    or_false false v h k = k
    or_false true v h k = cc

view_fine : (t : Bool) (m : RecordBatch) (k : Kind) (p : Place) (rows count : ℕ) (b : Bool) (ns : List FieldNode) (bs : List IpcBuffer) (a : Views) → ViewArray t m k p rows → Left m.nodes (suc p.node) ns → Left m.buffers (p.buffer + 2 + count) bs → node_faults m p rows ≡ [] → a.kind ≡ k → WasRead m p rows count b a → view_fault t true a ≡ None → read_faults m [] k p rows ≡ []
unfolding read_faults
view_fine t m k p rows count b ns bs a f n l x s r h = both_none (count_faults m k p) _ (counts_none t m k p rows count f r.is_count n.within l.within r.counts) (f.faults ∙ both_none (node_faults m p rows) _ x (contents_none t m k p rows count b a s r h))

-- an array of parts that are all well, which is made or refused
pub view_made : (t : Bool) (m : RecordBatch) (k : Kind) (p : Place) (rows count : ℕ) (b : Bool) (ns : List FieldNode) (bs : List IpcBuffer) (a : Views) (r : Result Views IpcError) → ViewArray t m k p rows → Left m.nodes (suc p.node) ns → Left m.buffers (p.buffer + 2 + count) bs → node_faults m p rows ≡ [] → a.kind ≡ k → WasRead m p rows count b a
    → IfOk r (λ x. x ≡ a) → IfOk r (λ x. view_fault t true a ≡ None) → IfErr r (λ e. Refuses e (read_faults m [] k p rows)) → Answers (λ x. x) r (read_faults m [] k p rows) (views_read m k p rows)
view_made t m k p rows count b ns bs a (Ok x) f n l node e read is sound err = record { ok = (view_fine t m k p rows count b ns bs a f n l node e read sound, is ∙ views_same m k p rows count b a e read); err = tt }
view_made t m k p rows count b ns bs a (Err x) f n l node e read is sound err = record { ok = tt; err = err }

pub view_shape : (k : Kind) (x : Views) (xs : List ℕ) (ys : List (List ℕ)) (v : Option (List Bool)) (rows : ℕ) → x ≡ record { kind = k; views = xs; buffers = ys; validity = v } → length xs ≡ 16 * rows → (x.kind ≡ k) × (view_rows x.views ≡ rows)
view_shape k x xs ys v rows e c = rw e (refl, omega (arith, c))
