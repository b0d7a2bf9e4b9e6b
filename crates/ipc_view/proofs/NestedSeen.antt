-- What is seen of arrays with children, where nothing is wrong.
use Rattle.std.proofs.Common.{◌≡◌, ℕ, ◌+◌, ◌≤◌, ◌<◌, length, take, drop, List, [], ◌++◌, Bool, true, Option, Some, None, refl, sym, ap, subst, ◌∙◌, arith}
use Rattle.std.specs.Prelude.{nat_lt}
use Rattle.arrow_spec.specs.declared.error.IpcError.TheVariants.{OutOfSpec}
use Rattle.arrow_spec.specs.declared.error.OutOfSpecKind.TheVariants.{MissingVariadicCount, UnexpectedNegativeInteger}
use Rattle.arrow_spec.specs.declared.types.IntervalUnit.TheVariants.{YearMonth, DayTime, MonthDayNano}
use Rattle.arrow_spec.specs.Kinds as kind
use Rattle.arrow_spec.specs.Kinds.{Kind, Fields}
use Rattle.arrow_spec.specs.Counts.{RecordBatch, Place, after, buffers, count_at, inside, nodes}
use Rattle.arrow_spec.specs.Counts.{views as views_in}
use Rattle.arrow_spec.specs.Arrays.{Dictionaries, valid}
use Rattle.arrow_spec.specs.Faults.{array_faults, child_faults, cause, node_faults, some_negative, validity_faults, view_count_faults}
use Rattle.ipc_read.specs.CountedArrays.{counted_kind, counted_rows}
use Rattle.ipc_read.specs.Places.{behind}
use Rattle.ipc_read.proofs.Passing.{no_view_faults}
use Rattle.ipc_read.proofs.Places.{same_place}
use Rattle.ipc_read.proofs.Refusals.{both_none}
use Rattle.view_types.specs.declared.layout.Layout.{Layout}
use Rattle.view_types.specs.declared.layout.Layout.TheVariants as layout
use Rattle.view_types.specs.declared.layout.Range.{Range}
use Rattle.view_types.specs.Views.{Top, View, array, bits_in, is_set, offsets_by, views}
use Rattle.ipc_view.specs.declared.batch.ChildRows.TheVariants.{Same}
use Rattle.ipc_view.specs.Built.{IsViewOf}
use Rattle.ipc_view.specs.Layouts.{is_leaf, kind_layout}
use Rattle.ipc_view.specs.Lists.{IsListTop, list_top_faults}
use Rattle.ipc_view.specs.Nested.{AreSeen, AreViewsOf, CountsAre, IsSeen, layout_count_faults, own_buffers, own_views, seen_faults}
use Rattle.ipc_view.proofs.NestedCells.{counted_shown, counted_top, lists_shown}
use Rattle.ipc_view.proofs.NestedFaults.{counted_fits, list_fits}
use Rattle.ipc_view.proofs.Places.{counts_inside, counts_none, counts_of}

counted_behind : (m : RecordBatch) (size : Option ℕ) (fs : Fields) (p : Place) → behind m fs (inside 1 p) ≡ after m (counted_kind size fs) p
counted_behind m None fs p = same_place (omega arith) (omega arith) (omega arith)
counted_behind m (Some size) fs p = same_place (omega arith) (omega arith) (omega arith)

pub counted_done : (m : RecordBatch) (d : Dictionaries) (size : Option ℕ) (fs : Fields) (p : Place) (rows under : ℕ) (input : List ℕ) (is_big : Bool) (validity : Option Range) (first : Range) (vs : List View) (q : Place)
    → under ≡ counted_rows size rows → node_faults m p rows ≡ [] → validity_faults m p rows ≡ [] → ((row : ℕ) → row < rows → is_set (bits_in input validity) row ≡ valid m p row)
    → child_faults m d fs (inside 1 p) (λ r. under) ≡ [] → AreSeen m d fs (inside 1 p) (Same under) vs q
    → (seen_faults m d (counted_kind size fs) p rows ≡ []) × IsSeen m d (counted_kind size fs) p rows (array (counted_top input is_big size rows validity first) (views vs)) q
counted_done m d size fs p rows under input is_big validity first vs q u node none bits fine seen =
    let k = counted_kind size fs in
    let next = seen.next ∙ counted_behind m size fs p in
    let counts = counts_inside m 1 p q seen.counts in (
      both_none (array_faults m d k p rows) (view_count_faults m k p) (counted_fits m d size fs p rows under u node none fine) (counts_none m k p (subst (CountsAre m p) next counts)),
      record { view = counted_shown m d size fs p rows input is_big validity first (views vs) bits (subst (λ n. AreViewsOf m d fs (inside 1 p) (λ r. n) (views vs)) u seen.children); next = next; counts = counts },
    )

list_behind : (m : RecordBatch) (o : kind.Offsets) (fs : Fields) (p : Place) → behind m fs (inside 2 p) ≡ after m (kind.«list» o fs) p
list_behind m o fs p = same_place (omega arith) (omega arith) (omega arith)

pub list_done : (m : RecordBatch) (d : Dictionaries) (is_large : Bool) (fs : Fields) (p : Place) (rows last : ℕ) (t : Top) (vs : List View) (q : Place)
    → node_faults m p rows ≡ [] → list_top_faults m (offsets_by is_large) p rows ≡ [] → IsListTop m is_large p rows t last
    → child_faults m d fs (inside 2 p) (λ r. last) ≡ [] → AreSeen m d fs (inside 2 p) (Same last) vs q
    → (seen_faults m d (kind.«list» (offsets_by is_large) fs) p rows ≡ []) × IsSeen m d (kind.«list» (offsets_by is_large) fs) p rows (array t (views vs)) q
list_done m d is_large fs p rows last t vs q node top s fine seen =
    let k = kind.«list» (offsets_by is_large) fs in
    let next = seen.next ∙ list_behind m (offsets_by is_large) fs p in
    let counts = counts_inside m 2 p q seen.counts in (
      both_none (array_faults m d k p rows) (view_count_faults m k p) (list_fits m d (offsets_by is_large) fs p rows last s.last_is node top fine) (counts_none m k p (subst (CountsAre m p) next counts)),
      record { view = lists_shown m d is_large fs p rows last t (views vs) s seen.children; next = next; counts = counts },
    )

-- ── arrays without children ──

pub flat_done : (m : RecordBatch) (d : Dictionaries) (k : Kind) (p q : Place) (rows : ℕ) (v : View) → array_faults m d k p rows ≡ [] → view_count_faults m k p ≡ [] → IsViewOf m d k p rows v → q ≡ after m k p
    → (seen_faults m d k p rows ≡ []) × IsSeen m d k p rows v q
flat_done m d k p q rows v fine counted shown next =
    (both_none (array_faults m d k p rows) (view_count_faults m k p) fine counted, record { view = shown; next = next; counts = subst (CountsAre m p) (sym next) (counts_of m k p counted) })

one_node : (k : Kind) → is_leaf k ≡ true → nodes k ≡ 1
one_node (kind.«list» o fs) h = cc
one_node (kind.fixed_size_list n fs) h = cc
one_node (kind.struct fs) h = cc
one_node (kind.map sorted fs) h = cc
one_node (kind.union mode stated ids fs) h = cc
one_node (kind.dictionary t ordered id k) h = cc
one_node (kind.extension name metadata k) h = one_node k h
one_node k h = refl

-- the place behind an array without children
leaf_buffers : (m : RecordBatch) (k : Kind) (p : Place) → is_leaf k ≡ true → own_buffers (kind_layout k) (count_at m p.view) ≡ buffers m.version m.variadic k p.view
leaf_buffers m (kind.«list» o fs) p h = cc
leaf_buffers m (kind.fixed_size_list n fs) p h = cc
leaf_buffers m (kind.struct fs) p h = cc
leaf_buffers m (kind.map sorted fs) p h = cc
leaf_buffers m (kind.union mode stated ids fs) p h = cc
leaf_buffers m (kind.dictionary t ordered id k) p h = cc
leaf_buffers m (kind.float f) p h = cc
leaf_buffers m (kind.decimal256 a b) p h = cc
leaf_buffers m (kind.extension name metadata k) p h = leaf_buffers m k p h
leaf_buffers m (kind.interval YearMonth) p h = refl
leaf_buffers m (kind.interval DayTime) p h = refl
leaf_buffers m (kind.interval MonthDayNano) p h = refl
leaf_buffers m k p h = refl

leaf_views : (k : Kind) → is_leaf k ≡ true → own_views (kind_layout k) ≡ views_in k
leaf_views (kind.«list» o fs) h = cc
leaf_views (kind.fixed_size_list n fs) h = cc
leaf_views (kind.struct fs) h = cc
leaf_views (kind.map sorted fs) h = cc
leaf_views (kind.union mode stated ids fs) h = cc
leaf_views (kind.dictionary t ordered id k) h = cc
leaf_views (kind.float f) h = cc
leaf_views (kind.decimal256 a b) h = cc
leaf_views (kind.extension name metadata k) h = leaf_views k h
leaf_views (kind.interval YearMonth) h = refl
leaf_views (kind.interval DayTime) h = refl
leaf_views (kind.interval MonthDayNano) h = refl
leaf_views k h = refl

pub leaf_behind : (m : RecordBatch) (k : Kind) (l : Layout) (p : Place) (own seen : ℕ) → is_leaf k ≡ true → kind_layout k ≡ l → own ≡ own_buffers l (count_at m p.view) → seen ≡ own_views l
    → let q : Place = record { node = p.node + 1; buffer = p.buffer + own; view = p.view + seen } in q ≡ after m k p
leaf_behind m k l p own seen f is b v = same_place (ap (λ n. p.node + n) (sym (one_node k f)))
    (ap (λ n. p.buffer + n) (b ∙ ap (λ x. own_buffers x (count_at m p.view)) (sym is) ∙ leaf_buffers m k p f)) (ap (λ n. p.view + n) (v ∙ ap own_views (sym is) ∙ leaf_views k f))

-- and what is wrong with its view counts
viewed_counts : (m : RecordBatch) (k : Kind) (p : Place) (is_text : Bool) → is_leaf k ≡ true → kind_layout k ≡ layout.Views is_text → view_count_faults m k p ≡ view_count_faults m kind.binary_view p
viewed_counts m k p is_text f is = let v : views_in k ≡ 1 = sym (leaf_views k f) ∙ ap own_views is in
    ap (λ n. cause (nat_lt (length m.variadic) (p.view + n)) (OutOfSpec MissingVariadicCount) ++ cause (some_negative (take n (drop p.view m.variadic))) (OutOfSpec UnexpectedNegativeInteger)) v

plain_counts : (m : RecordBatch) (k : Kind) (l : Layout) (p : Place) → is_leaf k ≡ true → kind_layout k ≡ l → own_views l ≡ 0 → p.view ≤ length m.variadic → view_count_faults m k p ≡ []
plain_counts m k l p f is none h = no_view_faults m k p (sym (leaf_views k f) ∙ ap own_views is ∙ none) h

pub leaf_counts : (m : RecordBatch) (k : Kind) (l : Layout) (p : Place) → is_leaf k ≡ true → kind_layout k ≡ l → p.view ≤ length m.variadic → view_count_faults m k p ≡ layout_count_faults m l p
leaf_counts m k (layout.Views is_text) p f is h = viewed_counts m k p is_text f is
leaf_counts m k layout.Null p f is h = plain_counts m k layout.Null p f is refl h
leaf_counts m k layout.Boolean p f is h = plain_counts m k layout.Boolean p f is refl h
leaf_counts m k (layout.Number i) p f is h = plain_counts m k (layout.Number i) p f is refl h
leaf_counts m k layout.DayTime p f is h = plain_counts m k layout.DayTime p f is refl h
leaf_counts m k layout.MonthDayNano p f is h = plain_counts m k layout.MonthDayNano p f is refl h
leaf_counts m k (layout.Bytes is_large is_text) p f is h = plain_counts m k (layout.Bytes is_large is_text) p f is refl h
leaf_counts m k (layout.FixedBytes n) p f is h = plain_counts m k (layout.FixedBytes n) p f is refl h
leaf_counts m k (layout.Lists is_large) p f is h = plain_counts m k (layout.Lists is_large) p f is refl h
leaf_counts m k (layout.FixedLists n) p f is h = plain_counts m k (layout.FixedLists n) p f is refl h
leaf_counts m k layout.Struct p f is h = plain_counts m k layout.Struct p f is refl h
leaf_counts m k (layout.Union mode) p f is h = plain_counts m k (layout.Union mode) p f is refl h
leaf_counts m k (layout.Dictionary i) p f is h = plain_counts m k (layout.Dictionary i) p f is refl h
