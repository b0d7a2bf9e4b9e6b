-- What is written of the parts of an array: its nodes, the lengths of its buffers, and its view counts.
-- (Arrow Columnar Format, "Buffer Listing for Each Layout", "Dictionary-encoded Layout".)
use Rattle.std.specs.Prelude.{ℕ, ◌+◌, ◌-◌, ◌*◌, ◌/◌, List, [], ◌∷◌, length, map, Bool, true, false, Option, Some, None, ℤ, pos, if◌then◌else◌}
use Rattle.std.specs.Int.{byte_len}
use Rattle.arrow_spec.specs.Arrays.{integer_width}
use Rattle.arrow_spec.specs.Kinds.{Offsets, small, large}
use Rattle.arrow_spec.specs.Counts.{Written}
use Rattle.arrow_spec.specs.Sent.{nothing_written, also_written}
use Rattle.arrow_types.specs.Physical.{physical_of}
use Rattle.arrow_buffers.specs.Rows.{null_rows}
use Rattle.arrow_buffers.specs.Layouts.{is_variable}
use Rattle.arrow_buffers.specs.Variable.{Variable, place_at, variable_rows}
use Rattle.arrow_buffers.specs.Views.{Views}
use Rattle.arrow_arrays.specs.LeafParts.{LeafParts, nulls, bits, numbers, fixed, binary, text, binary_views, text_views, number_size, leaf_part_of}
use Rattle.arrow_arrays.specs.Heads.{Head, Cut, whole, run, listed, mapped, sized, structured, tagged, indexed, list_size, head_rows, head_validity, head_part}
use Rattle.arrow_arrays.specs.Parts.{Parts, Forest, leaf, nested, none, also, rows_in}
use Rattle.arrow_arrays.specs.Nodes.{node_in, leaf_counts_in}

-- the bytes of so many bits
abbrev pub bits_length : ℕ → ℕ
bits_length n = (n + 7) / 8

-- a validity is left out where there is none
abbrev pub validity_bytes : Option (List Bool) → ℕ
validity_bytes None = 0
validity_bytes (Some xs) = bits_length (length xs)

-- the bytes of an offset
abbrev pub offset_bytes : Bool → ℕ
offset_bytes is_large = if is_large then 8 else 4

-- the lengths of a validity, offsets and bytes, of which only those between the first offset and the last are written
abbrev pub variable_lengths : Bool → Variable → List ℕ
variable_lengths is_text p = validity_bytes p.validity ∷ (offset_bytes (is_variable is_text true (physical_of p.kind)) * length p.offsets)
    ∷ (place_at p.offsets (variable_rows p.offsets) - place_at p.offsets 0) ∷ []

-- the lengths of a validity, views and the buffers as held
abbrev pub view_lengths : Views → List ℕ
view_lengths p = validity_bytes p.validity ∷ length p.views ∷ map length p.buffers

-- ── an array without children ──

-- the lengths of its buffers
abbrev pub leaf_lengths_in : LeafParts → List ℕ
leaf_lengths_in (nulls n) = []
leaf_lengths_in (bits f) = validity_bytes f.validity ∷ bits_length (length f.values) ∷ []
leaf_lengths_in (numbers f) = validity_bytes f.validity ∷ (number_size (physical_of f.kind) * length f.values) ∷ []
leaf_lengths_in (fixed f) = validity_bytes f.validity ∷ length f.values ∷ []
leaf_lengths_in (binary p) = variable_lengths false p
leaf_lengths_in (text p) = variable_lengths true p
leaf_lengths_in (binary_views p) = view_lengths p
leaf_lengths_in (text_views p) = view_lengths p

-- its node, the lengths of its buffers, and its view counts
abbrev pub leaf_written_in : LeafParts → Written
leaf_written_in l = record { nodes = node_in (leaf l) ∷ []; lengths = leaf_lengths_in l; views = leaf_counts_in l }

-- ── an array with children ──

-- the bytes of offsets of a width, and the numbers of a union's offsets
abbrev pub width_bytes : Offsets → ℕ
width_bytes small = 4
width_bytes large = 8

abbrev pub places_length : Option (List ℤ) → List ℕ
places_length None = []
places_length (Some offsets) = (4 * length offsets) ∷ []

-- the lengths of the buffers of a top
abbrev pub head_lengths : Head → List ℕ
head_lengths (listed l) = validity_bytes l.validity ∷ (width_bytes l.width * length l.offsets) ∷ []
head_lengths (mapped l) = validity_bytes l.validity ∷ (width_bytes l.width * length l.offsets) ∷ []
head_lengths (sized c) = validity_bytes c.validity ∷ []
head_lengths (structured c) = validity_bytes c.validity ∷ []
head_lengths (tagged t) = length t.types ∷ places_length t.offsets
head_lengths (indexed d) = validity_bytes d.validity ∷ (byte_len (integer_width d.index) * length d.keys) ∷ []

-- its node, and the lengths of its buffers
abbrev pub head_written : Head → Written
head_written h = record {
  nodes = record { length = pos (head_rows h); null_count = pos (null_rows (head_validity h)) } ∷ [];
  lengths = head_lengths h;
  views = [];
}

-- what some rows hold of the children: all of them, or so many rows from a row on
abbrev pub tagged_held : ℕ → ℕ → Option (List ℤ) → Cut
tagged_held offset rows None = run offset rows
tagged_held offset rows (Some offsets) = whole

abbrev pub held_by : ℕ → ℕ → Head → Cut
held_by offset rows (listed l) = run (place_at l.offsets offset) (place_at l.offsets (offset + rows) - place_at l.offsets offset)
held_by offset rows (mapped l) = run (place_at l.offsets offset) (place_at l.offsets (offset + rows) - place_at l.offsets offset)
held_by offset rows (sized c) = run (list_size c.kind * offset) (list_size c.kind * rows)
held_by offset rows (structured c) = run offset rows
held_by offset rows (tagged t) = tagged_held offset rows t.offsets
held_by offset rows (indexed d) = whole

-- what is written of the children: nothing of a dictionary's, of which the keys alone are
abbrev pub written_under : Head → Written → Written
written_under (indexed d) w = nothing_written
written_under h w = w

-- ── any array ──

-- what is written of the rows from a place on, so many of them: of each child what these rows hold
abbrev mutual
  pub written_on : ℕ → ℕ → Parts → Written
  written_on offset rows (leaf l) = leaf_written_in (leaf_part_of offset rows l)
  written_on offset rows (nested h cs) = also_written (head_written (head_part offset rows h)) (written_under h (written_each (held_by offset rows h) cs))

  pub written_each : Cut → Forest → Written
  written_each c none = nothing_written
  written_each whole (also p cs) = also_written (written_on 0 (rows_in p) p) (written_each whole cs)
  written_each (run offset rows) (also p cs) = also_written (written_on offset rows p) (written_each (run offset rows) cs)

-- and of all rows
abbrev pub written_in : Parts → Written
written_in (leaf l) = leaf_written_in l
written_in (nested h cs) = also_written (head_written h) (written_under h (written_each (held_by 0 (head_rows h) h) cs))
