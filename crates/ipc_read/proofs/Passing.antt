-- What is left of queues that are passed over, and the refusals where they are too short.
use Rattle.std.proofs.Common.{◌≡◌, ℕ, zero, suc, ◌+◌, ◌≤◌, ◌<◌, List, [], ◌∷◌, ◌++◌, length, take, drop, Result, Ok, Err, Bool, true, false, refl, sym, ap, ◌∙◌, arith, subst, ℤ}
use Rattle.std.proofs.Common.{length-drop, drop-drop, append-nil}
use Rattle.std.specs.Prelude.{IfOk, IsErr, IsErrAnd, nat_lt, ◌||◌, slice_get, Some}
use Rattle.std.proofs.lemmas.Bool.{lt-ltb, le-ltb}
use Rattle.arrow_spec.specs.declared.error.IpcError.{IpcError}
use Rattle.arrow_spec.specs.declared.error.IpcError.TheVariants.{OutOfSpec}
use Rattle.arrow_spec.specs.declared.error.OutOfSpecKind.TheVariants.{ExpectedBuffer, MissingVariadicCount, UnexpectedNegativeInteger}
use Rattle.arrow_spec.specs.Readings.{Refuses}
use Rattle.arrow_spec.specs.Counts.{RecordBatch, Place, after, magnitude, is_negative, count_at, views}
use Rattle.arrow_spec.specs.Faults.{cause, counts_faults, count_faults, view_count_faults, some_negative}
use Rattle.arrow_spec.specs.Kinds.{Kind, null, boolean, integer, float, date32, date64, time32, time64, timestamp, duration, interval, decimal, decimal256, binary, utf8, binary_view, utf8_view, fixed_size_binary, «list», fixed_size_list, struct, map, union, dictionary, extension, small, large}
use Rattle.arrow_types.specs.Physical.{physical_of}
use Rattle.arrow_types.specs.declared.physical.PhysicalType.{PhysicalType}
use Rattle.arrow_types.specs.declared.physical.PhysicalType.TheVariants as physical
use Rattle.arrow_spec.specs.declared.message.FieldNode.{FieldNode}
use Rattle.arrow_spec.specs.declared.message.IpcBuffer.{IpcBuffer}
use Rattle.ipc_read.specs.Queues.{Left, NodesAt, At, AllAt}
use Rattle.ipc_read.specs.Skips.{moved, is_childless_kind, IsNextCount}
use Rattle.ipc_read.specs.Sources.{Answers}
use Rattle.ipc_read.proofs.Refusals.{refuses_right}

-- ── queues ──

-- n are taken of what is left from place i on
pub left_more : {A : Type 0} → (all : List A) (i n : ℕ) (old new : List A) → Left all i old → n ≤ length old → new ≡ drop n old → Left all (i + n) new
left_more all i n old new l h e = record {
  is = e ∙ ap (drop n) l.is ∙ drop-drop n i all;
  within = omega (arith, ap length l.is, length-drop i all, l.within, h);
}

pub left_same : {A : Type 0} → (all : List A) (i j : ℕ) (rest : List A) → i ≡ j → Left all i rest → Left all j rest
left_same all i j rest e l = subst (λ k. Left all k rest) e l

-- fewer are left than are taken
pub left_short : {A : Type 0} → (all : List A) (i n : ℕ) (old : List A) → Left all i old → length old < n → length all < i + n
left_short all i n old l h = omega (arith, ap length l.is, length-drop i all, l.within, h)

-- ── refusals ──

pub answers_err : {X Y : Type 0} → (view : X → Y) (r : Result X IpcError) (e : IpcError) (es : List IpcError) (y : Y) → r ≡ Err e → Refuses e es → Answers view r es y
answers_err view (Ok x) e es y p h = cc
answers_err view (Err f) e es y p h = record { ok = tt; err = subst (λ g. Refuses g es) (let q : e ≡ f = cc in q) h }

pub counts_short_nodes : (m : RecordBatch) (q : Place) → length m.nodes < q.node → counts_faults m q ≡ OutOfSpec ExpectedBuffer ∷ []
counts_short_nodes m q h = let e : nat_lt (length m.nodes) q.node ≡ true = lt-ltb _ _ h in rw e refl

pub counts_short_buffers : (m : RecordBatch) (q : Place) → length m.buffers < q.buffer → counts_faults m q ≡ OutOfSpec ExpectedBuffer ∷ []
counts_short_buffers m q h = let e : nat_lt (length m.buffers) q.buffer ≡ true = lt-ltb _ _ h in by (nat_lt (length m.nodes) q.node) e
  where
    by : (b : Bool) → nat_lt (length m.buffers) q.buffer ≡ true → cause (b || nat_lt (length m.buffers) q.buffer) (OutOfSpec ExpectedBuffer) ≡ OutOfSpec ExpectedBuffer ∷ []
    by true e = refl
    by false e = rw e refl

pub counts_enough : (m : RecordBatch) (q : Place) → q.node ≤ length m.nodes → q.buffer ≤ length m.buffers → counts_faults m q ≡ []
counts_enough m q h k =
    let e : nat_lt (length m.nodes) q.node ≡ false = le-ltb _ _ h in
    let f : nat_lt (length m.buffers) q.buffer ≡ false = le-ltb _ _ k in
    rw (e, f) refl

pub answers_same : {X Y : Type 0} → (view : X → Y) (r : Result X IpcError) (es fs : List IpcError) (y : Y) → es ≡ fs → Answers view r es y → Answers view r fs y
answers_same view r es fs y e a = subst (λ gs. Answers view r gs y) e a

pub is_err : {X : Type 0} → (r : Result X IpcError) (e : IpcError) (P : IpcError → Type 0) → IsErr r → IsErrAnd r P → ((f : IpcError) → P f → f ≡ e) → r ≡ Err e
is_err (Ok x) e P h p k = cc
is_err (Err f) e P h p k = ap Err (k f p)

-- ── the next view count ──

-- the first of what is left
pub next_of : {A : Type 0} → (all : List A) (i : ℕ) (x : A) (rest : List A) → x ∷ rest ≡ drop i all → (slice_get all i ≡ Some x) × ((take 1 (drop i all) ≡ x ∷ []) × Left all (i + 1) rest)
next_of [] zero x rest h = cc
next_of [] (suc i) x rest h = cc
next_of (y ∷ ys) zero x rest h = (cc, (cc, record { is = cc; within = omega arith }))
next_of (y ∷ ys) (suc i) x rest h =
    let r = next_of ys i x rest h in
    let e : suc i + 1 ≡ suc (i + 1) = omega arith in
    (r.0, (r.1.0, rw e (record { is = r.1.1.is; within = omega (arith, r.1.1.within) })))

pub next_count : (m : RecordBatch) (i n : ℕ) (x : ℤ) (old rest : List ℤ) → Left m.variadic i old → old ≡ x ∷ rest → is_negative x ≡ false → n ≡ magnitude x → IsNextCount m i n rest
next_count m i n x old rest l e p h =
    let r = next_of m.variadic i x rest (sym e ∙ l.is) in
    record { is = rw (r.0) h; natural = rw (r.1.0, p) refl; left = r.1.1 }

-- ── the counts of kinds without children ──

-- the buffers of an array in a layout, which has this view count, and its view counts
abbrev pub own_buffers : PhysicalType → ℕ → ℕ
own_buffers physical.Null count = 0
own_buffers physical.Binary count = 3
own_buffers physical.LargeBinary count = 3
own_buffers physical.Utf8 count = 3
own_buffers physical.LargeUtf8 count = 3
own_buffers physical.BinaryView count = 2 + count
own_buffers physical.Utf8View count = 2 + count
own_buffers layout count = 2

abbrev pub own_views : PhysicalType → ℕ
own_views physical.BinaryView = 1
own_views physical.Utf8View = 1
own_views layout = 0

pub flat_views : (k : Kind) → is_childless_kind k ≡ true → views k ≡ own_views (physical_of k)
flat_views (binary small) h = refl
flat_views (utf8 small) h = refl
flat_views («list» small fs) h = cc
flat_views («list» large fs) h = cc
flat_views (fixed_size_list n fs) h = cc
flat_views (struct fs) h = cc
flat_views (map sorted fs) h = cc
flat_views (union mode stated ids fs) h = cc
flat_views (extension name metadata k) h = flat_views k h
flat_views k h = refl

pub flat_after : (m : RecordBatch) (k : Kind) (p : Place) → is_childless_kind k ≡ true → after m k p ≡ moved 1 (own_buffers (physical_of k) (count_at m p.view)) (own_views (physical_of k)) p
flat_after m (binary small) p h = refl
flat_after m (utf8 small) p h = refl
flat_after m («list» small fs) p h = cc
flat_after m («list» large fs) p h = cc
flat_after m (fixed_size_list n fs) p h = cc
flat_after m (struct fs) p h = cc
flat_after m (map sorted fs) p h = cc
flat_after m (union mode stated ids fs) p h = cc
flat_after m (extension name metadata k) p h = flat_after m k p h
flat_after m k p h = refl

-- ── arrays that are passed over ──

pub at_all : {m : RecordBatch} {p : Place} {ns : List FieldNode} {bs : List IpcBuffer} {vs : List ℤ} → AllAt m p ns bs vs → At m p ns bs
at_all a = record { nodes = a.nodes; buffers = a.buffers; within = record { nodes = a.nodes.within; buffers = a.buffers.within; views = a.views.within } }

pub nodes_at : {m : RecordBatch} {p : Place} {ns : List FieldNode} {bs : List IpcBuffer} → At m p ns bs → NodesAt m p ns
nodes_at a = record { nodes = a.nodes; within = a.within }

-- no view count is needed
pub no_view_faults : (m : RecordBatch) (k : Kind) (p : Place) → views k ≡ 0 → p.view ≤ length m.variadic → view_count_faults m k p ≡ []
no_view_faults m k p e h =
    let f : nat_lt (length m.variadic) (p.view + 0) ≡ false = le-ltb _ _ (omega (arith, h)) in
    rw (e, f) refl

pub leaf_after : (m : RecordBatch) (k : Kind) (layout : PhysicalType) (n : ℕ) (p : Place) → is_childless_kind k ≡ true → physical_of k ≡ layout → ((c : ℕ) → own_buffers layout c ≡ n) → own_views layout ≡ 0 → after m k p ≡ moved 1 n 0 p
leaf_after m k layout n p h e b v = flat_after m k p h ∙ rw (e, v, b (count_at m p.view)) refl

pub leaf_count : (m : RecordBatch) (k : Kind) (layout : PhysicalType) (n : ℕ) (p : Place) → is_childless_kind k ≡ true → physical_of k ≡ layout → ((c : ℕ) → own_buffers layout c ≡ n) → own_views layout ≡ 0 → p.view ≤ length m.variadic → counts_faults m (moved 1 n 0 p) ≡ count_faults m k p
unfolding count_faults
leaf_count m k layout n p h e b v w =
    let none : view_count_faults m k p ≡ [] = no_view_faults m k p (flat_views k h ∙ ap own_views e ∙ v) w in
    sym (append-nil (counts_faults m (moved 1 n 0 p))) ∙ ap (λ es. counts_faults m (moved 1 n 0 p) ++ es) (sym none) ∙ ap (λ q. counts_faults m q ++ view_count_faults m k p) (sym (leaf_after m k layout n p h e b v))

pub leaf_queues : {X : Type 0} → (r : Result X IpcError) (k : Kind) (layout : PhysicalType) (n : ℕ) (ns ns' : List FieldNode) (bs bs' : List IpcBuffer) (vs : List ℤ)
    → is_childless_kind k ≡ true → physical_of k ≡ layout → ((c : ℕ) → own_buffers layout c ≡ n) → own_views layout ≡ 0
    → IfOk r (λ _. (m : RecordBatch) (p : Place) → At m p ns bs → At m (moved 1 n 0 p) ns' bs')
    → IfOk r (λ _. (m : RecordBatch) (p : Place) → AllAt m p ns bs vs → AllAt m (after m k p) ns' bs' vs)
leaf_queues (Err x) k layout n ns ns' bs bs' vs h e b v q = tt
leaf_queues (Ok x) k layout n ns ns' bs bs' vs h e b v q = λ m p a.
    let c = q m p (at_all a) in
    let l : p.view ≡ p.view + 0 = omega arith in
    rw (leaf_after m k layout n p h e b v) (record { nodes = c.nodes; buffers = c.buffers; views = left_same m.variadic p.view (p.view + 0) vs l a.views })

pub leaf_exact : {X Y : Type 0} → (view : X → Y) (y : Y) (r : Result X IpcError) (k : Kind) (layout : PhysicalType) (n : ℕ) (ns : List FieldNode) (bs : List IpcBuffer) (vs : List ℤ)
    → is_childless_kind k ≡ true → physical_of k ≡ layout → ((c : ℕ) → own_buffers layout c ≡ n) → own_views layout ≡ 0
    → ((m : RecordBatch) (p : Place) → At m p ns bs → Answers view r (counts_faults m (moved 1 n 0 p)) y)
    → (m : RecordBatch) (p : Place) → AllAt m p ns bs vs → Answers view r (count_faults m k p) y
leaf_exact view y r k layout n ns bs vs h e b v x m p a = answers_same view r _ _ y (leaf_count m k layout n p h e b v a.views.within) (x m p (at_all a))

-- the same of nulls, which have a node alone
pub null_queues : {X : Type 0} → (r : Result X IpcError) (ns ns' : List FieldNode) (bs : List IpcBuffer)
    → IfOk r (λ _. (m : RecordBatch) (p : Place) → NodesAt m p ns → NodesAt m (moved 1 0 0 p) ns')
    → IfOk r (λ _. (m : RecordBatch) (p : Place) → At m p ns bs → At m (moved 1 0 0 p) ns' bs)
null_queues (Err x) ns ns' bs q = tt
null_queues (Ok x) ns ns' bs q = λ m p a.
    let c = q m p (nodes_at a) in
    let l : p.buffer ≡ p.buffer + 0 = omega arith in
    record { nodes = c.nodes; buffers = left_same m.buffers p.buffer (p.buffer + 0) bs l a.buffers; within = c.within }

-- the same of views
pub views_queues : {X : Type 0} → (r : Result X IpcError) (k : Kind) (layout : PhysicalType) (ns ns' : List FieldNode) (bs bs' : List IpcBuffer) (vs vs' : List ℤ)
    → is_childless_kind k ≡ true → physical_of k ≡ layout → ((c : ℕ) → own_buffers layout c ≡ 2 + c) → own_views layout ≡ 1
    → IfOk r (λ _. (m : RecordBatch) (p : Place) → AllAt m p ns bs vs → AllAt m (moved 1 (2 + count_at m p.view) 1 p) ns' bs' vs')
    → IfOk r (λ _. (m : RecordBatch) (p : Place) → AllAt m p ns bs vs → AllAt m (after m k p) ns' bs' vs')
views_queues (Err x) k layout ns ns' bs bs' vs vs' h e b v q = tt
views_queues (Ok x) k layout ns ns' bs bs' vs vs' h e b v q = λ m p a. rw (flat_after m k p h, e, v, b (count_at m p.view)) (q m p a)

pub views_count : (m : RecordBatch) (k : Kind) (layout : PhysicalType) (p : Place) → is_childless_kind k ≡ true → physical_of k ≡ layout → ((c : ℕ) → own_buffers layout c ≡ 2 + c) → own_views layout ≡ 1 → count_faults m binary_view p ≡ count_faults m k p
unfolding count_faults
views_count m k layout p h e b v =
    let place : after m binary_view p ≡ after m k p = sym (flat_after m k p h ∙ rw (e, v, b (count_at m p.view)) refl) in
    let count : 1 ≡ views k = sym (flat_views k h ∙ ap own_views e ∙ v) in
    ap (λ q. counts_faults m q ++ view_count_faults m binary_view p) place
    ∙ ap (λ n. counts_faults m (after m k p) ++ (cause (nat_lt (length m.variadic) (p.view + n)) (OutOfSpec MissingVariadicCount) ++ cause (some_negative (take n (drop p.view m.variadic))) (OutOfSpec UnexpectedNegativeInteger))) count

-- ── what functions ensure ──

pub parts_queues : {X : Type 0} → (r : Result X IpcError) (n : ℕ) (ns ns' : List FieldNode) (bs bs' : List IpcBuffer)
    → 1 ≤ length ns → ns' ≡ drop 1 ns → IfOk r (λ _. n ≤ length bs) → IfOk r (λ _. bs' ≡ drop n bs)
    → IfOk r (λ _. (m : RecordBatch) (p : Place) → At m p ns bs → At m (moved 1 n 0 p) ns' bs')
parts_queues (Err x) n ns ns' bs bs' h e k f = tt
parts_queues (Ok x) n ns ns' bs bs' h e k f = λ m p a.
    let l = left_more m.nodes p.node 1 ns ns' a.nodes h e in
    let b = left_more m.buffers p.buffer n bs bs' a.buffers k f in
    record { nodes = l; buffers = b; within = record { nodes = l.within; buffers = b.within; views = omega (arith, a.within.views) } }

pub node_queues : {X : Type 0} → (r : Result X IpcError) (ns ns' : List FieldNode)
    → IfOk r (λ _. 1 ≤ length ns) → IfOk r (λ _. ns' ≡ drop 1 ns)
    → IfOk r (λ _. (m : RecordBatch) (p : Place) → NodesAt m p ns → NodesAt m (moved 1 0 0 p) ns')
node_queues (Err x) ns ns' h e = tt
node_queues (Ok x) ns ns' h e = λ m p a.
    let l = left_more m.nodes p.node 1 ns ns' a.nodes h e in
    record { nodes = l; within = record { nodes = l.within; buffers = omega (arith, a.within.buffers); views = omega (arith, a.within.views) } }

pub views_refused : (m : RecordBatch) (p : Place) (e : IpcError) → Refuses e (view_count_faults m binary_view p) → Refuses e (count_faults m binary_view p)
unfolding count_faults
views_refused m p e h = refuses_right (counts_faults m (after m binary_view p)) (view_count_faults m binary_view p) e h

pub count_known : (m : RecordBatch) (p : Place) (n : ℕ) (rest : List ℤ) → IsNextCount m p.view n rest → counts_faults m (moved 1 (2 + n) 0 p) ≡ count_faults m binary_view p
unfolding count_faults
count_known m p n rest c =
    let f : nat_lt (length m.variadic) (p.view + 1) ≡ false = le-ltb _ _ c.left.within in
    rw (c.is, c.natural, f) (sym (append-nil _))
