-- Queues that are shorter by their first ones.
use Rattle.std.proofs.Common.{◌≡◌, ℕ, ◌+◌, ◌≤◌, List, [], ◌++◌, drop, Option, Some, None, Result, IfOk, IfErr, true, refl, sym, ap, ◌∙◌, arith, drop-drop, ℤ, Bool}
use Rattle.std.specs.Option.{option_to_list}
use Rattle.arrow_spec.specs.Flat.{little}
use Rattle.arrow_spec.specs.Kinds.{Kind, Offsets, binary_view}
use Rattle.arrow_spec.specs.Counts.{RecordBatch, Place, first_place, count_among, count_at}
use Rattle.arrow_spec.specs.Faults.{counts_faults, count_faults}
use Rattle.arrow_spec.specs.declared.error.IpcError.{IpcError}
use Rattle.arrow_spec.specs.declared.message.FieldNode.{FieldNode}
use Rattle.arrow_spec.specs.declared.message.IpcBuffer.{IpcBuffer}
use Rattle.arrow_spec.specs.declared.message.MetadataVersion.{MetadataVersion}
use Rattle.arrow_spec.specs.declared.message.MetadataVersion.TheVariants.{V5}
use Rattle.arrow_buffers.specs.Layouts.{is_null}
use Rattle.arrow_types.specs.Physical.{physical_of}
use Rattle.arrow_types.specs.declared.physical.PhysicalType.{PhysicalType}
use Rattle.arrow_types.specs.declared.physical.PhysicalType.TheVariants as physical
use Rattle.ipc_read.specs.Queues.{Left, NodesAt, AllAt, Shortened, ShortenedBy}
use Rattle.ipc_read.specs.Sources.{Answers}
use Rattle.ipc_read.specs.Readers.{LeafShortened, ColumnShortened}
use Rattle.ipc_read.specs.Skips.{is_childless_kind, moved, IsDamage, PassesParts, PassesChildless}
use Rattle.ipc_read.proofs.Counted.{Counted}
use Rattle.ipc_read.proofs.LeafArrays.{LeafArray, null_layout, counted_at}
use Rattle.ipc_read.proofs.VariableArrays.{VariableArray}
use Rattle.ipc_read.proofs.ViewArrays.{ViewArray}
use Rattle.ipc_read.proofs.Passing.{flat_after, own_buffers, own_views, null_queues, nodes_at, leaf_queues, leaf_exact, views_queues, views_count, answers_same}

-- ── a queue ──

pub none_taken : {A : Type 0} → (most : ℕ) (xs : List A) → Shortened xs most xs
none_taken most xs = record { taken = 0; few = omega arith; rest = refl }

pub all_taken : {A : Type 0} → (n : ℕ) (xs ys : List A) → ys ≡ drop n xs → Shortened xs n ys
all_taken n xs ys h = record { taken = n; few = omega arith; rest = h }

pub taken_more : {A : Type 0} {xs ys : List A} {n most : ℕ} → Shortened xs n ys → n ≤ most → Shortened xs most ys
taken_more s h = record { taken = s.taken; few = omega (arith, s.few, h); rest = s.rest }

pub taken_then : {A : Type 0} {xs ys zs : List A} {i j most : ℕ} → Shortened xs i ys → Shortened ys j zs → i + j ≤ most → Shortened xs most zs
taken_then {xs = xs} s t h = record { taken = s.taken + t.taken; few = omega (arith, s.few, t.few, h); rest = t.rest ∙ ap (drop t.taken) s.rest ∙ drop-drop t.taken s.taken xs }

pub two_taken : {A : Type 0} {xs ys zs : List A} {i j : ℕ} → Shortened xs i ys → Shortened ys j zs → Shortened xs (i + j) zs
two_taken s t = taken_then s t (omega arith)

-- the first of a queue was taken, if there was one
pub first_taken : {A : Type 0} → (r : Option A) (xs ys : List A) → xs ≡ option_to_list r ++ ys → Shortened xs 1 ys
first_taken (Some x) xs ys h = record { taken = 1; few = omega arith; rest = sym (ap (drop 1) h) }
first_taken None xs ys h = record { taken = 0; few = omega arith; rest = sym h }

-- ── a record batch's queues ──

-- a record batch of a version that has these view counts and nothing else
abbrev pub only_counts : MetadataVersion → List ℤ → RecordBatch
only_counts version vs = record { order = little; version = version; nodes = []; buffers = []; variadic = vs; body = [] }

-- one that has these buffers and nothing else
abbrev pub only_buffers : MetadataVersion → List IpcBuffer → RecordBatch
only_buffers version bs = record { order = little; version = version; nodes = []; buffers = bs; variadic = []; body = [] }

pub from_first : {A : Type 0} → (xs : List A) → Left xs 0 xs
from_first xs = record { is = refl; within = omega arith }

-- what was read of the buffers so far
pub read_so_far : {xs ys : List IpcBuffer} → (n : ℕ) → ((m : RecordBatch) (i : ℕ) → Left m.buffers i xs → Left m.buffers (i + n) ys) → Shortened xs n ys
read_so_far {xs = xs} n h = record { taken = 0 + n; few = omega arith; rest = (h (only_buffers V5 xs) 0 (from_first xs)).is }

pub own_shortened : {k : Kind} {l : PhysicalType} {ns ns' : List FieldNode} {bs bs' : List IpcBuffer} → (version : MetadataVersion) (vs : List ℤ) (n : ℕ) → Counted k l → Rattle.ipc_read.proofs.Counted.own_buffers l ≡ n → Shortened ns 1 ns' → Shortened bs n bs' → ShortenedBy k version ns ns' bs bs' vs vs
own_shortened version vs n c e a b = record {
  nodes = taken_more a (omega (arith, c.nodes));
  buffers = taken_more b (omega (arith, c.buffers version vs 0, e));
  views = none_taken _ vs;
}

pub null_shortened : {ns ns' : List FieldNode} → (version : MetadataVersion) (bs : List IpcBuffer) (vs : List ℤ) (k : Kind) → is_null (physical_of k) ≡ true → Shortened ns 1 ns' → ShortenedBy k version ns ns' bs bs vs vs
null_shortened version bs vs k h a = own_shortened version vs 0 (counted_at k physical.Null (null_layout (physical_of k) h) refl) refl a (none_taken 0 bs)

pub leaf_shortened : {m : RecordBatch} {k : Kind} {p : Place} {rows : ℕ} {values : ℕ → List IpcError} {ns ns' : List FieldNode} {bs bs' : List IpcBuffer} → (version : MetadataVersion) (vs : List ℤ) → LeafArray m k p rows values → Shortened ns 1 ns' → Shortened bs 2 bs' → ShortenedBy k version ns ns' bs bs' vs vs
leaf_shortened version vs f a b = own_shortened version vs 2 f.counted f.two a b

pub variable_shortened : {m : RecordBatch} {k : Kind} {p : Place} {rows : ℕ} {o : Offsets} {more : List IpcError} {ns ns' : List FieldNode} {bs bs' : List IpcBuffer} → (version : MetadataVersion) (vs : List ℤ) → VariableArray m k p rows o more → Shortened ns 1 ns' → Shortened bs 3 bs' → ShortenedBy k version ns ns' bs bs' vs vs
variable_shortened version vs f a b = own_shortened version vs 3 f.counted f.three a b

pub view_shortened : {t : Bool} {m : RecordBatch} {k : Kind} {p : Place} {rows : ℕ} {ns ns' : List FieldNode} {bs bs' : List IpcBuffer} {vs vs' : List ℤ} → (version : MetadataVersion) (n : ℕ) → n ≤ 2 + count_among vs 0 → ViewArray t m k p rows → Shortened ns 1 ns' → Shortened bs n bs' → Shortened vs 1 vs' → ShortenedBy k version ns ns' bs bs' vs vs'
view_shortened {vs = vs} version n h f a b v = record {
  nodes = taken_more a (omega (arith, f.counted.nodes));
  buffers = taken_more b (omega (arith, h, f.counted.buffers version vs 0));
  views = taken_more v (omega (arith, f.counted.views));
}

pub flat_shortened : {ns ns' : List FieldNode} {bs bs' : List IpcBuffer} {vs vs' : List ℤ} → (k : Kind) (layout : PhysicalType) (version : MetadataVersion) (n i : ℕ) → is_childless_kind k ≡ true → physical_of k ≡ layout → own_buffers layout (count_among vs 0) ≡ n → own_views layout ≡ i
    → Shortened ns 1 ns' → Shortened bs n bs' → Shortened vs i vs' → ShortenedBy k version ns ns' bs bs' vs vs'
flat_shortened {vs = vs} k layout version n i h e b w x y z =
    let after = flat_after (only_counts version vs) k first_place h in
    record {
      nodes = taken_more x (omega (arith, ap (λ (q : Place). q.node) after));
      buffers = taken_more y (omega (arith, ap (λ (q : Place). q.buffer) after, ap (λ l. own_buffers l (count_among vs 0)) e, b));
      views = taken_more z (omega (arith, ap (λ (q : Place). q.view) after, ap own_views e, w));
    }

-- the same of queues that are known to be these
pub leaf_shortened_as : (k : Kind) (ns ns' ms : List FieldNode) (bs bs' cs : List IpcBuffer) → ns' ≡ ms → bs' ≡ cs → LeafShortened k ns ms bs cs → LeafShortened k ns ns' bs bs'
leaf_shortened_as k ns ns' ms bs bs' cs e f h = λ version vs. rw (e, f) (h version vs)

pub column_shortened_as : (k : Kind) (ns ns' ms : List FieldNode) (bs bs' cs : List IpcBuffer) (vs vs' ws : List ℤ) → ns' ≡ ms → bs' ≡ cs → vs' ≡ ws → ColumnShortened k ns ms bs cs vs ws → ColumnShortened k ns ns' bs bs' vs vs'
column_shortened_as k ns ns' ms bs bs' cs vs vs' ws e f g h = λ version. rw (e, f, g) (h version)

pub tree_shortened_as : (k : Kind) (version : MetadataVersion) (ns ns' ms : List FieldNode) (bs bs' cs : List IpcBuffer) (vs vs' ws : List ℤ) → ns' ≡ ms → bs' ≡ cs → vs' ≡ ws → ShortenedBy k version ns ms bs cs vs ws → ShortenedBy k version ns ns' bs bs' vs vs'
tree_shortened_as k version ns ns' ms bs bs' cs vs vs' ws e f g h = rw (e, f, g) h

-- ── arrays that are passed over ──

pub null_passes : {ns ns' : List FieldNode} {bs : List IpcBuffer} → (r : Result (Unit {0}) IpcError) → IfOk r (λ _. (m : RecordBatch) (p : Place) → NodesAt m p ns → NodesAt m (moved 1 0 0 p) ns') → ((m : RecordBatch) (p : Place) → NodesAt m p ns → Answers (λ u. u) r (counts_faults m (moved 1 0 0 p)) tt)
    → Shortened ns 1 ns' → IfErr r IsDamage → PassesParts 0 ns ns' bs bs r
null_passes {bs = bs} r q e n d = record { queues = null_queues r _ _ bs q; exact = λ m p a. e m p (nodes_at a); nodes = n; buffers = none_taken 0 bs; damage = d }

pub leaf_passes : {ns ns' : List FieldNode} {bs bs' : List IpcBuffer} {vs : List ℤ} → (r : Result (Unit {0}) IpcError) (k : Kind) (layout : PhysicalType) (n : ℕ) → is_childless_kind k ≡ true → physical_of k ≡ layout → ((c : ℕ) → own_buffers layout c ≡ n) → own_views layout ≡ 0 → PassesParts n ns ns' bs bs' r → PassesChildless k ns ns' bs bs' vs vs r
leaf_passes {ns = ns} {bs = bs} {vs = vs} r k layout n h e b v q = record {
  queues = leaf_queues r k layout n _ _ _ _ vs h e b v q.queues;
  exact = leaf_exact (λ u. u) tt r k layout n ns bs vs h e b v q.exact;
  shortened = λ version. flat_shortened k layout version n 0 h e (b (count_among vs 0)) v q.nodes q.buffers (none_taken 0 vs);
  damage = q.damage;
}

pub views_pass : {ns ns' : List FieldNode} {bs bs' : List IpcBuffer} {vs vs' : List ℤ} → (r : Result (Unit {0}) IpcError) (k : Kind) (layout : PhysicalType) → is_childless_kind k ≡ true → physical_of k ≡ layout → ((c : ℕ) → own_buffers layout c ≡ 2 + c) → own_views layout ≡ 1
    → IfOk r (λ _. (m : RecordBatch) (p : Place) → AllAt m p ns bs vs → AllAt m (moved 1 (2 + count_at m p.view) 1 p) ns' bs' vs') → ((m : RecordBatch) (p : Place) → AllAt m p ns bs vs → Answers (λ u. u) r (count_faults m binary_view p) tt)
    → Shortened ns 1 ns' → Shortened bs (2 + count_among vs 0) bs' → Shortened vs 1 vs' → IfErr r IsDamage → PassesChildless k ns ns' bs bs' vs vs' r
views_pass {vs = vs} r k layout h e b v q x n s w d = record {
  queues = views_queues r k layout _ _ _ _ _ _ h e b v q;
  exact = λ m p a. answers_same _ r _ _ tt (views_count m k layout p h e b v) (x m p a);
  shortened = λ version. flat_shortened k layout version (2 + count_among vs 0) 1 h e (b (count_among vs 0)) v n s w;
  damage = d;
}
