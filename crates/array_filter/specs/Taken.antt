-- The rows of an array at some numbers, as a tree of parts: a validity exactly where it was held, and of each row what it held, null or not.
-- Views keep their buffers, dense unions their children and dictionaries their parts. (Arrow Columnar Format, "Physical Memory Layout".)
use Rattle.std.specs.Prelude.{ℕ, List, length, Option, Some, None, ℤ}
use Rattle.std.specs.List.{flat_map}
use Rattle.std.specs.Option.{option_map}
use Rattle.arrow_buffers.specs.Layouts.{binary_size}
use Rattle.arrow_buffers.specs.Leaf.{Leaf, fixed_row}
use Rattle.arrow_buffers.specs.Variable.{Variable, row_bytes}
use Rattle.arrow_buffers.specs.Views.{Views, view_at}
use Rattle.arrow_arrays.specs.LeafParts.{LeafParts, nulls, bits, numbers, fixed, binary, text, binary_views, text_views}
use Rattle.arrow_arrays.specs.Heads.{Head, Listed, Counted, Tagged, Indexed, listed, mapped, sized, structured, tagged, indexed, list_size}
use Rattle.arrow_arrays.specs.Parts.{Parts, Forest, leaf, nested, none, also}
use Rattle.array_filter.specs.Rows.{taken}
use Rattle.array_filter.specs.Offsets.{offsets_taken, items_taken, sized_items_taken}

-- ── arrays without children ──

abbrev pub leaf_taken : {A : Type 0} → List ℕ → Leaf A → Leaf A
leaf_taken rows f = record { kind = f.kind; values = taken rows f.values; validity = option_map (taken rows) f.validity }

abbrev pub fixed_taken : List ℕ → Leaf ℕ → Leaf ℕ
fixed_taken rows f = record {
  kind = f.kind;
  values = flat_map (fixed_row (binary_size f.kind) f.values) rows;
  validity = option_map (taken rows) f.validity;
}

abbrev pub variable_taken : List ℕ → Variable → Variable
variable_taken rows p = record {
  kind = p.kind;
  offsets = offsets_taken rows p.offsets;
  values = flat_map (row_bytes p.offsets p.values) rows;
  validity = option_map (taken rows) p.validity;
}

abbrev pub views_taken : List ℕ → Views → Views
views_taken rows p = record {
  kind = p.kind;
  views = flat_map (view_at p.views) rows;
  buffers = p.buffers;
  validity = option_map (taken rows) p.validity;
}

abbrev pub leaf_rows_taken : List ℕ → LeafParts → LeafParts
leaf_rows_taken rows (nulls n) = nulls (record { kind = n.kind; rows = length rows })
leaf_rows_taken rows (bits f) = bits (leaf_taken rows f)
leaf_rows_taken rows (numbers f) = numbers (leaf_taken rows f)
leaf_rows_taken rows (fixed f) = fixed (fixed_taken rows f)
leaf_rows_taken rows (binary p) = binary (variable_taken rows p)
leaf_rows_taken rows (text p) = text (variable_taken rows p)
leaf_rows_taken rows (binary_views p) = binary_views (views_taken rows p)
leaf_rows_taken rows (text_views p) = text_views (views_taken rows p)

-- ── arrays with children ──

abbrev pub listed_taken : List ℕ → Listed → Listed
listed_taken rows l = record {
  kind = l.kind;
  width = l.width;
  offsets = offsets_taken rows l.offsets;
  validity = option_map (taken rows) l.validity;
}

abbrev pub counted_taken : List ℕ → Counted → Counted
counted_taken rows c = record { kind = c.kind; rows = length rows; validity = option_map (taken rows) c.validity }

abbrev pub tagged_taken : List ℕ → Tagged → Tagged
tagged_taken rows t = record { kind = t.kind; types = taken rows t.types; offsets = option_map (taken rows) t.offsets }

abbrev pub indexed_taken : List ℕ → Indexed → Indexed
indexed_taken rows d = record {
  kind = d.kind;
  index = d.index;
  keys = taken rows d.keys;
  validity = option_map (taken rows) d.validity;
}

abbrev pub head_taken : List ℕ → Head → Head
head_taken rows (listed l) = listed (listed_taken rows l)
head_taken rows (mapped l) = mapped (listed_taken rows l)
head_taken rows (sized c) = sized (counted_taken rows c)
head_taken rows (structured c) = structured (counted_taken rows c)
head_taken rows (tagged t) = tagged (tagged_taken rows t)
head_taken rows (indexed d) = indexed (indexed_taken rows d)

-- the rows that each child has left: all of them, or those at some numbers
pub data Left : Type 0 where
  all_rows : Left
  these_rows : List ℕ → Left

abbrev pub tagged_left : List ℕ → Option (List ℤ) → Left
tagged_left rows None = these_rows rows
tagged_left rows (Some offsets) = all_rows

abbrev pub left_of : List ℕ → Head → Left
left_of rows (listed l) = these_rows (items_taken rows l.offsets)
left_of rows (mapped l) = these_rows (items_taken rows l.offsets)
left_of rows (sized c) = these_rows (sized_items_taken rows (list_size c.kind))
left_of rows (structured c) = these_rows rows
left_of rows (tagged t) = tagged_left rows t.offsets
left_of rows (indexed d) = all_rows

-- the rows at some numbers
abbrev mutual
  pub rows_taken : List ℕ → Parts → Parts
  rows_taken rows (leaf l) = leaf (leaf_rows_taken rows l)
  rows_taken rows (nested h cs) = nested (head_taken rows h) (each_taken (left_of rows h) cs)

  pub each_taken : Left → Forest → Forest
  each_taken all_rows cs = cs
  each_taken (these_rows rows) none = none
  each_taken (these_rows rows) (also p cs) = also (rows_taken rows p) (each_taken (these_rows rows) cs)
