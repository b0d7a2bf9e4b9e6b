-- The table that is generated from a number: each cell by its batch, its row and the state of its row. It is this program's own.
use Rattle.std.specs.Prelude.{ℕ, zero, suc, ◌+◌, ◌*◌, ◌/◌, ◌%◌, List, [], ◌∷◌, ◌++◌, true, false, ℤ, pos, nat_eq, if◌then◌else◌, codes}
use Rattle.arrow_spec.specs.declared.types.IntegerType.TheVariants.{Int16, Int32, Int64}
use Rattle.arrow_spec.specs.Kinds.{Kind, Fields, none, field, integer, utf8, dictionary, «list», small}
use Rattle.arrow_spec.specs.Cells as cells
use Rattle.arrow_spec.specs.Cells.{Cell, cells_of}
use Rattle.arrow_spec.specs.Arrays.{from_on}
use Rattle.arrow_spec.specs.Files.{ArrowTable, TableBatch}

-- ── states ──

-- one step: a linear recurrence modulo 2^64
abbrev pub step : ℕ → ℕ
step x = (x * 6364136223846793005 + 1442695040888963407) % 18446744073709551616

-- the state behind so many steps
unfoldable pub state : ℕ → ℕ → ℕ
state seed zero = seed
state seed (suc k) = step (state seed k)

-- how many batches there are, and how many rows in each
abbrev pub batch_count : ℕ
batch_count = 16

abbrev pub row_count : ℕ
row_count = 4096

-- the state of a row of a batch: a step before each row
abbrev pub row_state : ℕ → ℕ → ℕ → ℕ
row_state seed batch row = state seed (row_count * batch + (row + 1))

-- ── cells, by the number of the row in its batch and the row's state ──

-- the last digits of a number, so many
abbrev pub last_digits : ℕ → ℕ → List ℕ
last_digits zero n = []
last_digits (suc k) n = last_digits k (n / 10) ++ (48 + n % 10) ∷ []

-- n: a number, null in each seventh row from the first on
abbrev pub cell_of_n : ℕ → ℕ → Cell
cell_of_n row x = if nat_eq (row % 7) 0 then cells.null else cells.number (pos (x / 2))

-- t: four digits
abbrev pub cell_of_t : ℕ → ℕ → Cell
cell_of_t row x = cells.text (last_digits 4 (x / 4294967296))

-- d: one of "v0" to "v7"
abbrev pub cell_of_d : ℕ → ℕ → Cell
cell_of_d row x = cells.text (118 ∷ (48 + x / 1099511627776 % 8) ∷ [])

-- p: none, one or two numbers
abbrev pub cell_of_p : ℕ → ℕ → Cell
cell_of_p row x = cells.«list» (cells_of (from_on (λ j. cells.number (pos (x / 281474976710656 + j))) 0 (row % 3)))

-- ── the table ──

-- a column of so many rows, by their states
unfoldable pub column : (ℕ → ℕ → Cell) → (ℕ → ℕ) → ℕ → List Cell
column cell states rows = from_on (λ row. cell row (states row)) 0 rows

-- the batch of so many rows, by their states
abbrev pub batch_by : (ℕ → ℕ) → ℕ → TableBatch
batch_by states rows = record {
  rows = rows;
  columns = column cell_of_n states rows ∷ column cell_of_t states rows ∷ column cell_of_d states rows ∷ column cell_of_p states rows ∷ [];
  custom = [];
}

abbrev pub generated_batch : ℕ → ℕ → TableBatch
generated_batch seed batch = batch_by (row_state seed batch) row_count

-- the types of the columns
abbrev pub kind_of_n : Kind
kind_of_n = integer Int64

abbrev pub kind_of_t : Kind
kind_of_t = utf8 small

abbrev pub kind_of_d : Kind
kind_of_d = dictionary Int16 false (pos 0) (utf8 small)

abbrev pub kind_of_p : Kind
kind_of_p = «list» small (field (codes "item") false [] (integer Int32) none)

abbrev pub generated_fields : Fields
generated_fields = field (codes "n") true [] kind_of_n (field (codes "t") false [] kind_of_t (field (codes "d") false [] kind_of_d (field (codes "p") false [] kind_of_p none)))

-- the first batches
unfoldable pub first_batches : ℕ → ℕ → List TableBatch
first_batches seed count = from_on (generated_batch seed) 0 count

-- a table of these columns
abbrev pub table_with : List TableBatch → ArrowTable
table_with batches = record { metadata = []; custom = []; fields = generated_fields; batches = batches }

unfoldable pub generated_table : ℕ → ArrowTable
generated_table seed = table_with (first_batches seed batch_count)
