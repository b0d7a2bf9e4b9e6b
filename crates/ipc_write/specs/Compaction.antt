-- A top view column is laid anew where much of its buffers is unused. (Arrow Columnar Format, "Variable-size Binary View Layout"; what a writer may choose is chosen here.)
use Rattle.std.specs.Prelude.{ℕ, zero, suc, ◌+◌, ◌-◌, min, List, [], ◌∷◌, ◌++◌, length, take, Bool, nat_eq, nat_le, not, ◌||◌, if◌then◌else◌, sum_by}
use Rattle.arrow_spec.specs.Layout.{u32, zeros}
use Rattle.arrow_spec.specs.Arrays.{u32_of}
use Rattle.arrow_buffers.specs.Rows.{is_valid}
use Rattle.arrow_buffers.specs.Views.{Views, view_rows, view_at, view_bytes}
use Rattle.arrow_arrays.specs.LeafParts.{binary_views, text_views}
use Rattle.arrow_arrays.specs.Parts.{Parts, leaf}

-- ── when ──

-- the length of a value that is not null
abbrev pub value_length : Views → ℕ → ℕ
value_length p row = if is_valid p.validity row then u32_of (view_at p.views row) 0 else 0

-- the lengths of the first n together
abbrev pub value_lengths : Views → ℕ → ℕ
value_lengths p zero = 0
value_lengths p (suc n) = value_lengths p n + value_length p n

-- at least min(v, 1024) bytes of the buffers are unused, where v is the sum of the lengths
unfoldable pub views_need_compaction : Views → Bool
views_need_compaction p = nat_le (min (value_lengths p (view_rows p.views)) 1024) (sum_by length p.buffers - value_lengths p (view_rows p.views))

-- ── how ──

-- the most bytes of a buffer
abbrev pub buffer_limit : ℕ
buffer_limit = 2147483647

-- a value goes into the buffer that is begun where that is empty or stays within the limit: a buffer that is ended holds something
abbrev pub has_room : ℕ → ℕ → Bool
has_room begun count = nat_eq begun 0 || nat_le (begun + count) buffer_limit

-- views and buffers
pub record Laid : Type 0 where
  pub views : List ℕ
  pub buffers : List (List ℕ)

-- a view before others
abbrev pub view_before : List ℕ → Laid → Laid
view_before view laid = record { views = view ++ laid.views; buffers = laid.buffers }

-- a buffer before others
abbrev pub buffer_before : List ℕ → Laid → Laid
buffer_before bytes laid = record { views = laid.views; buffers = bytes ∷ laid.buffers }

-- a buffer that is begun is one where it has bytes
abbrev pub begun_buffer : List ℕ → List (List ℕ)
begun_buffer [] = []
begun_buffer (b ∷ bs) = (b ∷ bs) ∷ []

-- the view of a value of more than 12 bytes: its length, its first four bytes, the number of its buffer and its place there
abbrev pub long_view : List ℕ → ℕ → ℕ → List ℕ
long_view bytes number at = u32 (length bytes) ++ take 4 bytes ++ u32 number ++ u32 at

-- the value of a row
abbrev pub value_at : Views → ℕ → List ℕ
value_at p row = view_bytes p.buffers (view_at p.views row)

-- n rows from one on, where a buffer of some number is begun: a null row has a view of zeros, a value of up to 12 bytes
-- keeps its view, and a longer one stands in the buffer, or in a new one where that has no room
abbrev pub laid_from : Views → ℕ → ℕ → List ℕ → ℕ → Laid
laid_from p row number begun zero = record { views = []; buffers = begun_buffer begun }
laid_from p row number begun (suc n) =
    let passed : List ℕ → Laid = λ view. view_before view (laid_from p (suc row) number begun n) in
    let here = view_before (long_view (value_at p row) number (length begun)) (laid_from p (suc row) number (begun ++ value_at p row) n) in
    let new = buffer_before begun (view_before (long_view (value_at p row) (suc number) 0) (laid_from p (suc row) (suc number) (value_at p row) n)) in
    if not (is_valid p.validity row) then passed (zeros 16)
    else (if nat_le (value_length p row) 12 then passed (view_at p.views row)
    else (if has_room (length begun) (value_length p row) then here
    else new))

-- all rows
unfoldable pub laid_anew : Views → Laid
laid_anew p = laid_from p 0 0 [] (view_rows p.views)

-- a view array that is laid anew
abbrev pub compacted : Views → Views
compacted p = record { kind = p.kind; views = (laid_anew p).views; buffers = (laid_anew p).buffers; validity = p.validity }

-- where that is asked for
abbrev pub top_views : Views → Views
top_views p = if views_need_compaction p then compacted p else p

-- a top column
abbrev pub top : Parts → Parts
top (leaf (binary_views p)) = leaf (binary_views (top_views p))
top (leaf (text_views p)) = leaf (text_views (top_views p))
top p = p
