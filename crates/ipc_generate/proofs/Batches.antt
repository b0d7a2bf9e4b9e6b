-- Batches as a table has them, one after another.
use Rattle.std.proofs.Common.{◌≡◌, ℕ, zero, suc, ◌+◌, ◌*◌, ◌%◌, ◌^◌, ◌<◌, List, [], ◌∷◌, ◌++◌, length, map, refl, sym, ap, ◌∙◌, subst, arith}
use Rattle.std.proofs.lemmas.Nat.{mod_below}
use Rattle.arrow_spec.specs.Arrays.{from_on}
use Rattle.arrow_spec.specs.Cells.{Cell}
use Rattle.arrow_spec.specs.Files.{TableBatch}
use Rattle.arrow_buffers.proofs.Parts.{length-from_on}
use Rattle.arrow_arrays.specs.Parts.{cells_in}
use Rattle.ipc_generate.specs.Arrays.{by_rows, digits_of, items_of, key_of, keys_array, lists_array, number_of, numbers_array, states_behind, table_batch, texts_array}
use Rattle.ipc_generate.specs.Table.{batch_by, cell_of_d, cell_of_n, cell_of_p, cell_of_t, column, first_batches, generated_batch, row_count, row_state, state, step}
use Rattle.ipc_generate.proofs.Cells.{cells_of_d, cells_of_n, cells_of_p, cells_of_t}
use Rattle.ipc_generate.proofs.Runs.{from_on_more, same_run}
use Rattle.ipc_generate.proofs.Recurrence.{state_behind}

-- the state behind a step is below 2^64
below : (at k : ℕ) → state at (k + 1) < 2 ^ 64
unfolding state
below at k = let e : suc k ≡ k + 1 = omega arith in subst (λ n. state at n < 2 ^ 64) e (mod_below (state at k * 6364136223846793005 + 1442695040888963407) (2 ^ 64) (omega arith))

-- a batch of some rows as a table has it
abbrev table_by : ℕ → List (List Cell) → TableBatch
table_by rows columns = record { rows = rows; columns = columns; custom = [] }

by_states : (s : ℕ → ℕ) (n : ℕ) → ((j : ℕ) → s j < 2 ^ 64) → table_batch (from_on s 0 n) ≡ batch_by s n
by_states s n h =
    let xs = from_on s 0 n in
    let t = cells_in (texts_array (map digits_of xs)) in
    let d = cells_in (keys_array (map key_of xs)) in
    let p = cells_in (lists_array (by_rows items_of 0 xs)) in
    ap (λ k. table_by k (cells_in (numbers_array (by_rows number_of 0 xs)) ∷ t ∷ d ∷ p ∷ [])) (length-from_on s 0 n)
    ∙ ap (λ c. table_by n (c ∷ t ∷ d ∷ p ∷ [])) (cells_of_n s n h)
    ∙ ap (λ c. table_by n (column cell_of_n s n ∷ c ∷ d ∷ p ∷ [])) (cells_of_t s n)
    ∙ ap (λ c. table_by n (column cell_of_n s n ∷ column cell_of_t s n ∷ c ∷ p ∷ [])) (cells_of_d s n)
    ∙ ap (λ c. table_by n (column cell_of_n s n ∷ column cell_of_t s n ∷ column cell_of_d s n ∷ c ∷ [])) (cells_of_p s n h)

by_behind : (at n : ℕ) → table_batch (states_behind at n) ≡ batch_by (λ row. state at (row + 1)) n
unfolding states_behind
by_behind at n = by_states (λ row. state at (row + 1)) n (below at)

same_column : (cell : ℕ → ℕ → Cell) (s t : ℕ → ℕ) (n : ℕ) → ((j : ℕ) → s j ≡ t j) → column cell s n ≡ column cell t n
unfolding column
same_column cell s t n h = same_run (λ row. cell row (s row)) (λ row. cell row (t row)) 0 n (λ j l. ap (cell j) (h j))

same_batch : (s t : ℕ → ℕ) (n : ℕ) → ((j : ℕ) → s j ≡ t j) → batch_by s n ≡ batch_by t n
same_batch s t n h =
    ap (λ c. table_by n (c ∷ column cell_of_t s n ∷ column cell_of_d s n ∷ column cell_of_p s n ∷ [])) (same_column cell_of_n s t n h)
    ∙ ap (λ c. table_by n (column cell_of_n t n ∷ c ∷ column cell_of_d s n ∷ column cell_of_p s n ∷ [])) (same_column cell_of_t s t n h)
    ∙ ap (λ c. table_by n (column cell_of_n t n ∷ column cell_of_t t n ∷ c ∷ column cell_of_p s n ∷ [])) (same_column cell_of_d s t n h)
    ∙ ap (λ c. table_by n (column cell_of_n t n ∷ column cell_of_t t n ∷ column cell_of_d t n ∷ c ∷ [])) (same_column cell_of_p s t n h)

-- the batch whose states are behind those of the batches before it
pub generated : (seed at i : ℕ) (states : List ℕ) → at ≡ state seed (row_count * i) → states ≡ states_behind at row_count → table_batch states ≡ generated_batch seed i
generated seed at i states e s =
    ap table_batch s ∙ ap (λ x. table_batch (states_behind x row_count)) e ∙ by_behind (state seed (row_count * i)) row_count
    ∙ same_batch (λ row. state (state seed (row_count * i)) (row + 1)) (row_state seed i) row_count (λ j. state_behind seed (row_count * i) (j + 1))

pub next_at : (seed at i new : ℕ) → at ≡ state seed (row_count * i) → new ≡ state at row_count → new ≡ state seed (row_count * (i + 1))
next_at seed at i new e n =
    n ∙ ap (λ x. state x row_count) e ∙ state_behind seed (row_count * i) row_count
    ∙ ap (state seed) (let k : row_count * i + row_count ≡ row_count * (i + 1) = omega arith in k)

pub no_batches : (seed : ℕ) → [] ≡ first_batches seed 0
unfolding first_batches
no_batches seed = refl

pub one_batch : (seed i : ℕ) → first_batches seed i ++ generated_batch seed i ∷ [] ≡ first_batches seed (i + 1)
unfolding first_batches
one_batch seed i =
    ap (λ k. from_on (generated_batch seed) 0 i ++ generated_batch seed k ∷ []) (let k : i ≡ 0 + i = omega arith in k) ∙ sym (from_on_more (generated_batch seed) 0 i)
    ∙ ap (from_on (generated_batch seed) 0) (let k : suc i ≡ i + 1 = omega arith in k)
