-- How many nodes and buffers arrays of one node take, and what is refused of them where some are not there.
use Rattle.std.proofs.Common.{◌≡◌, inl, inr, ℕ, zero, suc, ◌+◌, ◌≤◌, ◌<◌, List, [], ◌∷◌, ◌++◌, length, Bool, true, false, refl, ap, ◌∙◌, arith, subst, ◌||◌, ℤ}
use Rattle.std.specs.Prelude.{nat_lt, nat_le}
use Rattle.std.proofs.lemmas.Bool.{le-ltb, lt-ltb}
use Rattle.arrow_spec.specs.declared.error.IpcError.{IpcError}
use Rattle.arrow_spec.specs.declared.error.IpcError.TheVariants.{OutOfSpec}
use Rattle.arrow_spec.specs.declared.error.OutOfSpecKind.TheVariants.{ExpectedBuffer}
use Rattle.arrow_spec.specs.declared.message.FieldNode.{FieldNode}
use Rattle.arrow_spec.specs.declared.message.IpcBuffer.{IpcBuffer}
use Rattle.arrow_spec.specs.declared.message.MetadataVersion.{MetadataVersion}
use Rattle.arrow_spec.specs.Readings.{IsAmong, Refuses}
use Rattle.arrow_spec.specs.Kinds as kind
use Rattle.arrow_spec.specs.Kinds.{Kind, small, large}
use Rattle.arrow_spec.specs.Counts.{RecordBatch, Place, after, nodes, buffers, views}
use Rattle.arrow_spec.specs.Faults.{cause, count_faults, counts_faults, array_faults}
use Rattle.arrow_spec.specs.Arrays.{Dictionaries}
use Rattle.arrow_spec.specs.Needed.{looked_at, validity_looked_at}
use Rattle.arrow_types.specs.Physical.{physical_of}
use Rattle.arrow_types.specs.declared.physical.PhysicalType.{PhysicalType}
use Rattle.arrow_types.specs.declared.physical.PhysicalType.TheVariants as physical
use Rattle.ipc_read_laws.specs.Faults.{read_faults, fetched_at_most, stated, stated_of}
use Rattle.ipc_read.specs.Queues.{Left, IsWithin, NodesAt, At, short_of}
use Rattle.ipc_read.specs.Sources.{bytes_where, validity_fetched}
use Rattle.ipc_read.proofs.Refusals.{among_left, among_right, refuses_right, refuses_more, both_none}

-- the layouts of one node and of so many buffers
abbrev pub is_own : PhysicalType → Bool
is_own physical.Null = true
is_own physical.Boolean = true
is_own (physical.Primitive t) = true
is_own physical.FixedSizeBinary = true
is_own physical.Binary = true
is_own physical.LargeBinary = true
is_own physical.Utf8 = true
is_own physical.LargeUtf8 = true
is_own layout = false

abbrev pub own_buffers : PhysicalType → ℕ
own_buffers physical.Null = 0
own_buffers physical.Boolean = 2
own_buffers (physical.Primitive t) = 2
own_buffers physical.FixedSizeBinary = 2
own_buffers layout = 3

abbrev pub own_looked : PhysicalType → RecordBatch → Place → List ℕ
own_looked physical.Null m p = []
own_looked physical.Boolean m p = validity_looked_at m p ++ (p.buffer + 1) ∷ []
own_looked (physical.Primitive t) m p = validity_looked_at m p ++ (p.buffer + 1) ∷ []
own_looked physical.FixedSizeBinary m p = validity_looked_at m p ++ (p.buffer + 1) ∷ []
own_looked layout m p = validity_looked_at m p ++ (p.buffer + 1) ∷ (p.buffer + 2) ∷ []

pub record Counted (k : Kind) (l : PhysicalType) : Type 0 where
  pub nodes : nodes k ≡ 1
  pub buffers : (v : MetadataVersion) (c : List ℤ) (w : ℕ) → buffers v c k w ≡ own_buffers l
  pub views : views k ≡ 0
  pub looked : (m : RecordBatch) (p : Place) → looked_at m k p ≡ own_looked l m p

pub counted : (k : Kind) → is_own (physical_of k) ≡ true → Counted k (physical_of k)
counted (kind.binary small) h = record { nodes = refl; buffers = λ v c w. refl; views = refl; looked = λ m p. refl }
counted (kind.utf8 small) h = record { nodes = refl; buffers = λ v c w. refl; views = refl; looked = λ m p. refl }
counted kind.binary_view h = cc
counted kind.utf8_view h = cc
counted (kind.«list» small fs) h = cc
counted (kind.«list» large fs) h = cc
counted (kind.fixed_size_list n fs) h = cc
counted (kind.struct fs) h = cc
counted (kind.map sorted fs) h = cc
counted (kind.union mode stated ids fs) h = cc
counted (kind.dictionary t ordered id k) h = cc
counted (kind.extension name metadata k) h = let r = counted k h in record { nodes = r.nodes; buffers = r.buffers; views = r.views; looked = r.looked }
counted k h = record { nodes = refl; buffers = λ v c w. refl; views = refl; looked = λ m p. refl }

-- ── what is refused ──

pub refused_in : (m : RecordBatch) (k : Kind) (p : Place) (rows : ℕ) (e : IpcError) → Refuses e (array_faults m [] k p rows) → Refuses e (read_faults m [] k p rows)
unfolding read_faults
refused_in m k p rows e h = refuses_right (count_faults m k p) _ e h

cause_more : (a b : Bool) (e x : IpcError) → (a ≡ true → b ≡ true) → IsAmong (cause a e) x → IsAmong (cause b e) x
cause_more true b e x h k = rw (h refl) k
cause_more false b e x h k = absurd k

or_second : (a b : Bool) → b ≡ true → (a || b) ≡ true
or_second true b h = refl
or_second false b h = h

ends : (all : List IpcBuffer) (i j : ℕ) → i < j → nat_le (length all) i ≡ true → nat_lt (length all) j ≡ true
ends all i j h k = lt-ltb _ _ (grind (arith, h, k))

-- the buffers end before those of an array do
pub lacks_in : (m : RecordBatch) (d : Dictionaries) (k : Kind) (p : Place) (rows i : ℕ) (x : IpcError) → i < (after m k p).buffer → IsAmong (short_of m.buffers i) x → IsAmong (read_faults m d k p rows) x
unfolding read_faults count_faults
lacks_in m d k p rows i x h a =
    among_left (count_faults m k p) _ x (among_left (counts_faults m (after m k p)) _ x
    (cause_more (nat_le (length m.buffers) i) (nat_lt (length m.nodes) (after m k p).node || nat_lt (length m.buffers) (after m k p).buffer) (OutOfSpec ExpectedBuffer) x
    (λ t. or_second (nat_lt (length m.nodes) (after m k p).node) _ (ends m.buffers i (after m k p).buffer h t)) a))

-- a buffer that is missing, or what stands behind it
pub lacks_or : (m : RecordBatch) (k : Kind) (p : Place) (rows i : ℕ) (e : IpcError) (es : List IpcError) → i < (after m k p).buffer → ((x : IpcError) → IsAmong es x → IsAmong (array_faults m [] k p rows) x) → Refuses e (short_of m.buffers i ++ es) → Refuses e (read_faults m [] k p rows)
unfolding read_faults
lacks_or m k p rows i e es h s r =
    refuses_more (short_of m.buffers i ++ es) (read_faults m [] k p rows) e
    (λ x a. split x (short_of m.buffers i) (λ y b. lacks_in m [] k p rows i y h b) a) r
  where
    split : (x : IpcError) (fs : List IpcError) → ((y : IpcError) → IsAmong fs y → IsAmong (read_faults m [] k p rows) y) → IsAmong (fs ++ es) x → IsAmong (read_faults m [] k p rows) x
    split x [] f a = among_right (count_faults m k p) _ x (s x a)
    split x (g ∷ fs) f (inl a) = f x (inl a)
    split x (g ∷ fs) f (inr a) = split x fs (λ y b. f y (inr b)) a

-- ── where nothing is wrong ──

pub buffer_end : (m : RecordBatch) (k : Kind) (l : PhysicalType) (p : Place) → Counted k l → (after m k p).buffer ≡ p.buffer + own_buffers l
buffer_end m k l p h = ap (λ n. p.buffer + n) (h.buffers m.version m.variadic p.view)

pub counts_fine : (m : RecordBatch) (k : Kind) (l : PhysicalType) (p : Place) → Counted k l → suc p.node ≤ length m.nodes → p.buffer + own_buffers l ≤ length m.buffers → p.view ≤ length m.variadic → count_faults m k p ≡ []
unfolding count_faults
counts_fine m k l p h a b c =
    let x : nat_lt (length m.nodes) (p.node + nodes k) ≡ false = le-ltb _ _ (omega (arith, h.nodes, a)) in
    let y : nat_lt (length m.buffers) (p.buffer + buffers m.version m.variadic k p.view) ≡ false = le-ltb _ _ (omega (arith, h.buffers m.version m.variadic p.view, b)) in
    let z : nat_lt (length m.variadic) (p.view + 0) ≡ false = le-ltb _ _ (omega (arith, c)) in
    rw (x, y, h.views, z) refl

pub fine_in : (m : RecordBatch) (k : Kind) (l : PhysicalType) (p : Place) (rows : ℕ) → Counted k l → suc p.node ≤ length m.nodes → p.buffer + own_buffers l ≤ length m.buffers → p.view ≤ length m.variadic → array_faults m [] k p rows ≡ [] → read_faults m [] k p rows ≡ []
unfolding read_faults
fine_in m k l p rows h a b c d = both_none (count_faults m k p) _ (counts_fine m k l p h a b c) d

-- ── queues ──

pub left_next : {A : Type 0} → (all : List A) (i j : ℕ) (rest : List A) → i ≡ j → Left all i rest → Left all j rest
left_next all i j rest e h = subst (λ n. Left all n rest) e h

pub nodes_next : (m : RecordBatch) (k : Kind) (l : PhysicalType) (p : Place) (ns : List FieldNode) → Counted k l → own_buffers l ≡ 0 → IsWithin m p → Left m.nodes (suc p.node) ns → NodesAt m (after m k p) ns
nodes_next m k l p ns h z w n = record {
  nodes = left_next m.nodes (suc p.node) (p.node + nodes k) ns (omega (arith, h.nodes)) n;
  within = record {
    nodes = omega (arith, n.within, h.nodes);
    buffers = omega (arith, w.buffers, h.buffers m.version m.variadic p.view, z);
    views = omega (arith, w.views, h.views);
  };
}

pub at_next : (m : RecordBatch) (k : Kind) (l : PhysicalType) (p : Place) (ns : List FieldNode) (bs : List IpcBuffer) (i : ℕ) → Counted k l → i ≡ p.buffer + own_buffers l → IsWithin m p → Left m.nodes (suc p.node) ns → Left m.buffers i bs → At m (after m k p) ns bs
at_next m k l p ns bs i h e w n b = record {
  nodes = left_next m.nodes (suc p.node) (p.node + nodes k) ns (omega (arith, h.nodes)) n;
  buffers = left_next m.buffers i (p.buffer + buffers m.version m.variadic k p.view) bs (omega (arith, e, h.buffers m.version m.variadic p.view)) b;
  within = record {
    nodes = omega (arith, n.within, h.nodes);
    buffers = omega (arith, b.within, e, h.buffers m.version m.variadic p.view);
    views = omega (arith, w.views, h.views);
  };
}

-- ── how much is fetched ──

pub stated_append : (m : RecordBatch) (is js : List ℕ) → stated_of m (is ++ js) ≡ stated_of m is + stated_of m js
stated_append m [] js = let e : stated_of m js ≡ 0 + stated_of m js = omega arith in e
stated_append m (i ∷ is) js = let r = stated_append m is js in omega (arith, r)

pub fetched_in : (m : RecordBatch) (k : Kind) (l : PhysicalType) (p : Place) (rows : ℕ) → Counted k l → own_looked l m p ≡ validity_looked_at m p ++ (p.buffer + 1) ∷ [] → fetched_at_most m k p rows ≡ validity_fetched m p rows + bytes_where rows (stated m (p.buffer + 1))
fetched_in m k l p zero h e = refl
fetched_in m k l p (suc n) h e =
    let r = stated_append m (validity_looked_at m p) ((p.buffer + 1) ∷ []) in
    let q : stated_of m (looked_at m k p) ≡ stated_of m (validity_looked_at m p ++ (p.buffer + 1) ∷ []) = ap (stated_of m) (h.looked m p ∙ e) in
    omega (arith, q, r)
