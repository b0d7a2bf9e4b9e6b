-- Views of arrays of every kind, with their children.
use Rattle.std.specs.Prelude.{◌≡◌, ℕ, ◌+◌, ◌-◌, ◌*◌, ◌^◌, ◌≤◌, List, [], ◌++◌, length, take, drop, Bool, true, false, ◌&&◌, nat_eq, Option, Some, None, Result}
use Rattle.std.specs.declared.alloc.Global.{Global}
use Rattle.std.specs.declared.vec.Vec.{Vec}
use Rattle.arrow_spec.specs.declared.error.IpcError.{IpcError}
use Rattle.arrow_spec.specs.Kinds as kind
use Rattle.arrow_spec.specs.Kinds.{Kind, Fields, Offsets, width}
use Rattle.arrow_spec.specs.Counts.{RecordBatch, Place, after, magnitude}
use Rattle.arrow_spec.specs.Arrays.{Dictionaries, node_of}
use Rattle.arrow_spec.specs.Faults.{array_faults, child_faults, some_negative, view_count_faults}
use Rattle.arrow_types.specs.UnionIds.{are_right}
use Rattle.ipc_read.specs.Places.{behind}
use Rattle.view_types.specs.declared.layout.Range.{Range}
use Rattle.view_types.specs.declared.layout.Layout.{Layout}
use Rattle.view_types.specs.declared.layout.Layout.TheVariants as layout
use Rattle.view_types.specs.Views.{Top, View, Views, none, also, views}
use Rattle.ipc_view.specs.declared.batch.ChildRows.{ChildRows}
use Rattle.ipc_view.specs.declared.batch.ChildRows.TheVariants.{Same, Stated}
use Rattle.ipc_view.specs.declared.batch.BatchTables.{BatchTables}
use Rattle.ipc_view.specs.declared.batch.ArrayPlace.{ArrayPlace}
use Rattle.ipc_view.specs.Answers.{Answers}
use Rattle.ipc_view.specs.Built.{IsViewOf, batch_of, place_of}
use Rattle.ipc_view.specs.Dictionaries.{ShowsCells, shown_in}

-- the same number of rows for each child, or as many as its node says
abbrev pub rows_by : ChildRows → RecordBatch → Place → ℕ
rows_by (Same n) m p = n
rows_by Stated m p = magnitude (node_of m p.node).length

-- ── places ──

-- a place where an array may stand: a damaged count of views may pass any number of buffers, but nodes and view counts are there
pub record IsPlace (t : BatchTables) (p : ArrayPlace) : Type 0 where
  pub bound : p.buffer ≤ 2 ^ 64 * p.node
  pub views : p.view ≤ length t.variadic.now

-- the view counts between two places are there, and none is negative
pub record CountsAre (m : RecordBatch) (p q : Place) : Type 0 where
  pub order : p.view ≤ q.view
  pub within : q.view ≤ length m.variadic
  pub natural : some_negative (take (q.view - p.view) (drop p.view m.variadic)) ≡ false

-- ── one array ──

-- its view, and the place behind it
pub record IsSeen (m : RecordBatch) (d : Dictionaries) (k : Kind) (p : Place) (rows : ℕ) (v : View) (q : Place) : Type 0 where
  pub view : IsViewOf m d k p rows v
  pub next : q ≡ after m k p
  pub counts : CountsAre m p q

-- what is wrong with it, or with its view counts
abbrev pub seen_faults : RecordBatch → Dictionaries → Kind → Place → ℕ → List IpcError
seen_faults m d k p rows = array_faults m d k p rows ++ view_count_faults m k p

abbrev pub Seen : BatchTables → Result (View × ArrayPlace) IpcError → Kind → ArrayPlace → ℕ → Type 0
Seen t result k p rows = (d : Dictionaries) → ShowsCells d (shown_in t.dictionaries.now) → Answers result (seen_faults (batch_of t) d k (place_of p) rows) (λ x. IsSeen (batch_of t) d k (place_of p) rows x.0 (place_of x.1))

-- how many buffers and view counts an array without children has by its layout, and what is wrong with the latter
abbrev pub own_buffers : Layout → ℕ → ℕ
own_buffers layout.Null count = 0
own_buffers (layout.Bytes is_large is_text) count = 3
own_buffers (layout.Views is_text) count = 2 + count
own_buffers l count = 2

abbrev pub own_views : Layout → ℕ
own_views (layout.Views is_text) = 1
own_views l = 0

abbrev pub layout_count_faults : RecordBatch → Layout → Place → List IpcError
layout_count_faults m (layout.Views is_text) p = view_count_faults m kind.binary_view p
layout_count_faults m l p = []

-- ── children ──

-- views of the arrays of fields that stand from a place on, each read for the rows that its place says
abbrev pub AreViewsOf : RecordBatch → Dictionaries → Fields → Place → (Place → ℕ) → Views → Type 0
AreViewsOf m d kind.none p need none = Unit {0}
AreViewsOf m d kind.none p need (also v vs) = ⊥
AreViewsOf m d (kind.field name nullable metadata k others) p need none = ⊥
AreViewsOf m d (kind.field name nullable metadata k others) p need (also v vs) = IsViewOf m d k p (need p) v × AreViewsOf m d others (after m k p) need vs

pub record AreSeen (m : RecordBatch) (d : Dictionaries) (fs : Fields) (p : Place) (rows : ChildRows) (vs : List View) (q : Place) : Type 0 where
  pub children : AreViewsOf m d fs p (rows_by rows m) (views vs)
  pub next : q ≡ behind m fs p
  pub counts : CountsAre m p q

abbrev pub ChildrenSeen : BatchTables → Result (Vec View Global × ArrayPlace) IpcError → Fields → ArrayPlace → ChildRows → Type 0
ChildrenSeen t result fs p rows = (d : Dictionaries) → ShowsCells d (shown_in t.dictionaries.now) → Answers result (child_faults (batch_of t) d fs (place_of p) (rows_by rows (batch_of t))) (λ x. AreSeen (batch_of t) d fs (place_of p) rows x.0.items (place_of x.1))

-- ── kinds ──

-- no float and no decimal of 256 bits stands in it, a dictionary's values aside; lists and maps have one child, and unions right ids
abbrev mutual
  pub is_shown : Kind → Bool
  is_shown (kind.«list» o fs) = nat_eq (width fs) 1 && are_shown fs
  is_shown (kind.map sorted fs) = nat_eq (width fs) 1 && are_shown fs
  is_shown (kind.fixed_size_list n fs) = nat_eq (width fs) 1 && are_shown fs
  is_shown (kind.struct fs) = are_shown fs
  is_shown (kind.union mode stated ids fs) = are_right ids (width fs) && are_shown fs
  is_shown (kind.dictionary t ordered id k) = true
  is_shown (kind.extension name metadata k) = is_shown k
  is_shown (kind.float f) = false
  is_shown (kind.decimal256 precision scale) = false
  is_shown k = true

  pub are_shown : Fields → Bool
  are_shown kind.none = true
  are_shown (kind.field name nullable metadata k others) = is_shown k && are_shown others

-- the layout of structs, or of lists of one size
abbrev pub counted_layout : Option ℕ → Layout
counted_layout None = layout.Struct
counted_layout (Some size) = layout.FixedLists size

-- the parts of a view with children, these aside
abbrev pub nested_top : List ℕ → Bool → Layout → ℕ → Option Range → Range → Top
nested_top input is_big l rows validity first = record {
  input = input;
  is_big = is_big;
  layout = l;
  rows = rows;
  ids = [];
  validity = validity;
  first = first;
  second = record { at = 0; length = 0 };
  buffers = [];
}
