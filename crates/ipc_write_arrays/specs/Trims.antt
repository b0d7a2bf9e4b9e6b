-- Some rows of an array, laid anew as they are sent: offsets of lists begin at 0, and of the children only what these rows hold is left.
-- (Arrow Columnar Format, "Variable-size List Layout", "Fixed-Size List Layout", "Struct Layout", "Union Layout",
-- "Dictionary-encoded Layout".)
use Rattle.std.specs.Prelude.{Bool, true, false, ℕ, ◌+◌, ◌*◌, ◌-◌, List, Option, ℤ, pos, map}
use Rattle.std.specs.Option.{option_map}
use Rattle.arrow_spec.specs.Kinds.{null}
use Rattle.arrow_spec.specs.Counts.{magnitude}
use Rattle.arrow_buffers.specs.Rows.{part}
use Rattle.arrow_buffers.specs.Variable.{place_at}
use Rattle.arrow_arrays.specs.LeafParts.{leaf_part_of}
use Rattle.arrow_arrays.specs.Heads.{Head, Listed, listed, mapped, sized, structured, tagged, indexed, Cut, whole, run, counted_part, tagged_part, indexed_part, tagged_cut, list_size, head_rows}
use Rattle.arrow_arrays.specs.OffsetsOf.{offsets_in, width_in}
use Rattle.arrow_arrays.specs.declared.offsets.ListOffsets.{ListOffsets}
use Rattle.arrow_arrays.specs.Parts.{Parts, Forest, leaf, nested, none, also, rows_in}

-- offsets counted from a place
abbrev pub counted_from : ℕ → List ℤ → List ℤ
counted_from first = map (λ x. pos (magnitude x - first))

-- lists between offsets, as far as they are written: of their kind nothing is
abbrev pub lists_of : ListOffsets → Option (List Bool) → Listed
lists_of offsets validity = record { kind = null; width = width_in offsets; offsets = offsets_in offsets; validity = validity }

-- lists from a row on, so many of them
abbrev pub listed_trim : ℕ → ℕ → Listed → Listed
listed_trim o n l = record {
  kind = l.kind;
  width = l.width;
  offsets = counted_from (place_at l.offsets o) (part o (n + 1) l.offsets);
  validity = option_map (part o n) l.validity;
}

-- the top of the rows from one on, so many of them
abbrev pub head_trim : ℕ → ℕ → Head → Head
head_trim o n (listed l) = listed (listed_trim o n l)
head_trim o n (mapped l) = mapped (listed_trim o n l)
head_trim o n (sized c) = sized (counted_part o n c)
head_trim o n (structured c) = structured (counted_part o n c)
head_trim o n (tagged t) = tagged (tagged_part o n t)
head_trim o n (indexed d) = indexed (indexed_part o n d)

-- the rows of a child between two offsets
abbrev pub held_between : ℕ → ℕ → List ℤ → Cut
held_between o n offsets = run (place_at offsets o) (place_at offsets (o + n) - place_at offsets o)

-- the rows of a child that these rows hold; a dense union's children and those of a dictionary are held whole
abbrev pub held_by : ℕ → ℕ → Head → Cut
held_by o n (listed l) = held_between o n l.offsets
held_by o n (mapped l) = held_between o n l.offsets
held_by o n (sized c) = run (list_size c.kind * o) (list_size c.kind * n)
held_by o n (structured c) = run o n
held_by o n (tagged t) = tagged_cut o n t.offsets
held_by o n (indexed d) = whole

-- the children that are sent with it: none of a dictionary, of which the keys alone are
abbrev pub sent_under : Head → Forest → Forest
sent_under (indexed d) cs = none
sent_under h cs = cs

abbrev mutual
  pub trim : ℕ → ℕ → Parts → Parts
  trim o n (leaf l) = leaf (leaf_part_of o n l)
  trim o n (nested h cs) = nested (head_trim o n h) (sent_under h (trim_each (held_by o n h) cs))

  pub trim_each : Cut → Forest → Forest
  trim_each whole none = none
  trim_each whole (also p cs) = also (trim 0 (rows_in p) p) (trim_each whole cs)
  trim_each (run o n) none = none
  trim_each (run o n) (also p cs) = also (trim o n p) (trim_each (run o n) cs)

-- where the rows that a child has left begin, and how many they are
abbrev pub cut_from : Cut → ℕ
cut_from whole = 0
cut_from (run o n) = o

abbrev pub cut_count : Cut → ℕ → ℕ
cut_count whole rows = rows
cut_count (run o n) rows = n

-- an array without children
abbrev pub has_no_children : Parts → Bool
has_no_children (leaf l) = true
has_no_children (nested h cs) = false

-- an array as it is sent: all its rows, laid anew where it has children
abbrev pub sent : Parts → Parts
sent (leaf l) = leaf l
sent (nested h cs) = trim 0 (head_rows h) (nested h cs)
