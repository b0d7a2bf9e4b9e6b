-- What is written of an array: its node, the bytes of its buffers and its view counts. (Arrow Columnar Format, "Buffer Listing for Each Layout", "Dictionary-encoded Layout",
-- "Variadic buffers".)
use Rattle.std.specs.Prelude.{FitsSigned, ◌≡◌, true, length, ℕ, ◌<◌, List, [], ◌∷◌, ◌++◌, Option, Some, None, ℤ, if◌then◌else◌}
use Rattle.std.specs.Int.{w8, w32}
use Rattle.std.specs.List.{flat_map, AllByRecursion}
use Rattle.arrow_spec.specs.declared.message.FieldNode.{FieldNode}
use Rattle.arrow_spec.specs.declared.types.IntegerType.{IntegerType}
use Rattle.arrow_spec.specs.Flat.{Order}
use Rattle.arrow_spec.specs.Kinds.{Kind, Offsets, small, binary, utf8, extension}
use Rattle.arrow_spec.specs.Counts.{magnitude}
use Rattle.arrow_spec.specs.Arrays.{Dictionaries, slice, integer_width, is_unsigned}
use Rattle.arrow_spec.specs.Framing.{packed, validity_bytes}
use Rattle.arrow_types.specs.Numbers.{signed_to_bytes, unsigned_to_bytes}
use Rattle.arrow_types.specs.Physical.{physical_of}
use Rattle.arrow_types.specs.declared.physical.PhysicalType.{PhysicalType}
use Rattle.arrow_types.specs.declared.physical.PhysicalType.TheVariants as physical
use Rattle.arrow_buffers.specs.Variable.{Variable, place_at, variable_rows}
use Rattle.arrow_buffers.specs.Views.{Views}
use Rattle.arrow_arrays.specs.LeafParts.{LeafParts, nulls, bits, numbers, fixed, binary as binaries, text, binary_views, text_views}
use Rattle.arrow_arrays.specs.Heads.{Head, Listed, listed, mapped, sized, structured, tagged, indexed}
use Rattle.arrow_arrays.specs.Parts.{Parts, Forest, leaf, nested, none, also, kind_in, rows_in, cells_in, rows_each}
use Rattle.arrow_arrays.specs.Nodes.{node_in, counts_in}
use Rattle.ipc_bodies.specs.Fitting.{offset_limit}
use Rattle.ipc_bodies.specs.Pieces.{in_order, offset_bytes}
use Rattle.ipc_write_laws.specs.Columns.{WrittenColumn, Means}
use Rattle.ipc_write_arrays.specs.Dictionaries.{KeyFits, is_alike, HoldsValuesAt}
use Rattle.ipc_write_arrays.specs.Trims.{sent}

-- ── numbers ──

-- the bytes of a number of a layout in an order, by those that have the lowest first
abbrev pub layout_in_order : Order → PhysicalType → List ℕ → List ℕ
layout_in_order order (physical.Primitive p) bytes = in_order order p bytes
layout_in_order order layout bytes = bytes

-- ── offsets ──

-- the width of a kind's offsets, extensions looked through
abbrev pub width_of_kind : Kind → Offsets
width_of_kind (binary o) = o
width_of_kind (utf8 o) = o
width_of_kind (extension name metadata k) = width_of_kind k
width_of_kind k = small

-- the bytes between the first offset and the last
abbrev pub bytes_between : List ℤ → List ℕ → List ℕ
bytes_between offsets values = slice values (place_at offsets 0) (place_at offsets (variable_rows offsets))

-- ── buffers ──

-- a validity, offsets and bytes
abbrev pub variable_pieces : Order → Variable → List (List ℕ)
variable_pieces order p = validity_bytes p.validity ∷ offset_bytes order (width_of_kind p.kind) p.offsets ∷ bytes_between p.offsets p.values ∷ []

-- a validity, views, and the buffers as held
abbrev pub view_pieces : Views → List (List ℕ)
view_pieces p = validity_bytes p.validity ∷ p.views ∷ p.buffers

-- the bytes of each buffer, in order, of an array without children; a validity that is not held has none
abbrev pub leaf_pieces : Order → LeafParts → List (List ℕ)
leaf_pieces order (nulls n) = []
leaf_pieces order (bits f) = validity_bytes f.validity ∷ packed f.values ∷ []
leaf_pieces order (numbers f) = validity_bytes f.validity ∷ flat_map (layout_in_order order (physical_of f.kind)) f.values ∷ []
leaf_pieces order (fixed f) = validity_bytes f.validity ∷ f.values ∷ []
leaf_pieces order (binaries p) = variable_pieces order p
leaf_pieces order (text p) = variable_pieces order p
leaf_pieces order (binary_views p) = view_pieces p
leaf_pieces order (text_views p) = view_pieces p

-- lists: a validity and offsets
abbrev pub listed_pieces : Order → Listed → List (List ℕ)
listed_pieces order l = validity_bytes l.validity ∷ offset_bytes order l.width l.offsets ∷ []

-- the places of a dense union's rows
abbrev pub place_pieces : Order → Option (List ℤ) → List (List ℕ)
place_pieces order None = []
place_pieces order (Some offsets) = flat_map (signed_to_bytes w32 order) offsets ∷ []

-- a key of a type
abbrev pub key_written : Order → IntegerType → ℤ → List ℕ
key_written order t key = if is_unsigned t then unsigned_to_bytes (integer_width t) order (magnitude key) else signed_to_bytes (integer_width t) order key

-- the own buffers of an array with children
abbrev pub head_pieces : Order → Head → List (List ℕ)
head_pieces order (listed l) = listed_pieces order l
head_pieces order (mapped l) = listed_pieces order l
head_pieces order (sized c) = validity_bytes c.validity ∷ []
head_pieces order (structured c) = validity_bytes c.validity ∷ []
head_pieces order (tagged t) = flat_map (signed_to_bytes w8 order) t.types ∷ place_pieces order t.offsets
head_pieces order (indexed d) = validity_bytes d.validity ∷ flat_map (key_written order d.index) d.keys ∷ []

-- ── trees ──

-- the nodes of an array that is laid anew, in preorder
abbrev mutual
  pub tree_nodes : Parts → List FieldNode
  tree_nodes (leaf l) = node_in (leaf l) ∷ []
  tree_nodes (nested h cs) = node_in (nested h cs) ∷ trees_nodes cs

  pub trees_nodes : Forest → List FieldNode
  trees_nodes none = []
  trees_nodes (also p cs) = tree_nodes p ++ trees_nodes cs

-- and its buffers
abbrev mutual
  pub tree_pieces : Order → Parts → List (List ℕ)
  tree_pieces order (leaf l) = leaf_pieces order l
  tree_pieces order (nested h cs) = head_pieces order h ++ trees_pieces order cs

  pub trees_pieces : Order → Forest → List (List ℕ)
  trees_pieces order none = []
  trees_pieces order (also p cs) = tree_pieces order p ++ trees_pieces order cs

-- the nodes of an array as they are sent
abbrev pub nodes_in : Parts → List FieldNode
nodes_in p = tree_nodes (sent p)

-- and its buffers
abbrev pub pieces_in : Order → Parts → List (List ℕ)
pieces_in order p = tree_pieces order (sent p)

-- the array as a column that is written
abbrev pub column_in : Order → Parts → WrittenColumn
column_in order p = record { kind = kind_in p; nodes = nodes_in p; pieces = pieces_in order p; views = counts_in (sent p); cells = cells_in p }

-- the same column under another kind
abbrev pub with_kind : Kind → WrittenColumn → WrittenColumn
with_kind k c = record { kind = k; nodes = c.nodes; pieces = c.pieces; views = c.views; cells = c.cells }

-- what is written of an array means its cells under each kind that is alike to its own, where the values of its dictionaries were read under that kind's ids
abbrev pub IsMeant : Order → Parts → Type 0
IsMeant order p = (k : Kind) (d : Dictionaries) → is_alike (kind_in p) k ≡ true → HoldsValuesAt d k p
    → Means order d (rows_in p) (with_kind k (column_in order p))

-- ── numbers that fit ──

-- each offset is one of its width
abbrev pub OffsetsFit : Kind → List ℤ → Type 0
OffsetsFit k offsets = AllByRecursion (λ x. magnitude x < offset_limit (width_of_kind k)) offsets

-- the same of an array without children
abbrev pub LeafFit : LeafParts → Type 0
LeafFit (binaries p) = OffsetsFit p.kind p.offsets
LeafFit (text p) = OffsetsFit p.kind p.offsets
LeafFit p = Unit {0}

-- types are numbers of 8 bits, and places of 32
abbrev pub TagsFit : Option (List ℤ) → List ℤ → Type 0
TagsFit None types = AllByRecursion (λ x. FitsSigned w8 x) types
TagsFit (Some offsets) types = AllByRecursion (λ x. FitsSigned w8 x) types × AllByRecursion (λ x. FitsSigned w32 x) offsets

-- the same of a top that is laid anew over children of so many rows: offsets, keys, and that lists of one size have one child
abbrev pub HeadFit : Head → List ℕ → Type 0
HeadFit (listed l) ns = AllByRecursion (λ x. magnitude x < offset_limit l.width) l.offsets
HeadFit (mapped l) ns = AllByRecursion (λ x. magnitude x < offset_limit l.width) l.offsets
HeadFit (sized c) ns = length ns ≡ 1
HeadFit (structured c) ns = Unit {0}
HeadFit (tagged t) ns = TagsFit t.offsets t.types
HeadFit (indexed d) ns = AllByRecursion (λ key. KeyFits d.index key) d.keys

-- What is sent of an array fits the widths that it is written in. The arrays' types say so: `write` tells it of each.
abbrev mutual
  pub Fit : Parts → Type 0
  Fit (leaf l) = LeafFit l
  Fit (nested h cs) = HeadFit h (rows_each cs) × FitEach cs

  pub FitEach : Forest → Type 0
  FitEach none = Unit {0}
  FitEach (also p cs) = Fit p × FitEach cs
