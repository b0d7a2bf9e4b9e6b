-- The arrays of a generated batch, by the states of its rows. (Arrow Columnar Format, "Physical Memory Layout".)
use Rattle.std.specs.Prelude.{ℕ, suc, ◌+◌, ◌/◌, ◌%◌, List, [], ◌∷◌, length, map, is_some, true, false, Option, Some, None, ℤ, pos, nat_eq, if◌then◌else◌, codes}
use Rattle.std.specs.Int.{w32, w64}
use Rattle.std.specs.List.{concat}
use Rattle.arrow_spec.specs.declared.types.IntegerType.TheVariants.{Int16, Int32}
use Rattle.arrow_spec.specs.Arrays.{from_on}
use Rattle.arrow_spec.specs.Files.{TableBatch}
use Rattle.arrow_spec.specs.Flat.{little}
use Rattle.arrow_spec.specs.Kinds.{integer, small}
use Rattle.arrow_types.specs.Child.{Child}
use Rattle.arrow_types.specs.Numbers.{signed_to_bytes}
use Rattle.arrow_types.specs.Schemas.{Keyed}
use Rattle.arrow_arrays.specs.Batches.{Batch}
use Rattle.arrow_arrays.specs.Heads.{indexed, listed}
use Rattle.arrow_arrays.specs.LeafParts.{as_bytes, numbers, text}
use Rattle.arrow_arrays.specs.Parts.{Parts, cells_in, leaf, nested, none, also}
use Rattle.arrow_columns.specs.Optional.{held_or}
use Rattle.arrow_columns.specs.Strings.{ends_from, strings}
use Rattle.ipc_generate.specs.Table.{kind_of_d, kind_of_n, kind_of_p, kind_of_t, last_digits, state}

-- what each row is, by its number and its state, from a number on
abbrev pub by_rows : {A : Type 0} → (ℕ → ℕ → A) → ℕ → List ℕ → List A
by_rows f row [] = []
by_rows f row (x ∷ xs) = f row x ∷ by_rows f (suc row) xs

-- the states behind a state, so many
unfoldable pub states_behind : ℕ → ℕ → List ℕ
states_behind at count = from_on (λ row. state at (row + 1)) 0 count

-- ── n ──

abbrev pub number_of : ℕ → ℕ → Option ℤ
number_of row x = if nat_eq (row % 7) 0 then None else Some (pos (x / 2))

unfoldable pub numbers_array : List (Option ℤ) → Parts
numbers_array rows =
    leaf (numbers (as_bytes (signed_to_bytes w64 little) (record { kind = kind_of_n; values = map (held_or (pos 0)) rows; validity = Some (map is_some rows) })))

-- ── t ──

abbrev pub digits_of : ℕ → List ℕ
digits_of x = last_digits 4 (x / 4294967296)

unfoldable pub texts_array : List (List ℕ) → Parts
texts_array rows = leaf (text (strings true false rows None))

-- ── d ──

abbrev pub key_of : ℕ → ℤ
key_of x = pos (x / 1099511627776 % 8)

-- "v0" to "v7"
abbrev pub dictionary_texts : List (List ℕ)
dictionary_texts = codes "v0" ∷ codes "v1" ∷ codes "v2" ∷ codes "v3" ∷ codes "v4" ∷ codes "v5" ∷ codes "v6" ∷ codes "v7" ∷ []

unfoldable pub dictionary_values : Parts
dictionary_values = texts_array dictionary_texts

unfoldable pub keys_array : List ℤ → Parts
keys_array keys = nested (indexed (record { kind = kind_of_d; index = Int16; keys = keys; validity = None })) (also dictionary_values none)

-- ── p ──

abbrev pub items_of : ℕ → ℕ → List ℕ
items_of row x = from_on (λ j. x / 281474976710656 + j) 0 (row % 3)

abbrev pub numbers_of : List ℤ → Parts
numbers_of items = leaf (numbers (as_bytes (signed_to_bytes w32 little) (record { kind = integer Int32; values = items; validity = None })))

unfoldable pub lists_array : List (List ℕ) → Parts
lists_array rows =
    nested (listed (record { kind = kind_of_p; width = small; offsets = ends_from 0 rows; validity = None })) (also (numbers_of (map pos (concat rows))) none)

-- ── a batch ──

abbrev pub keyed_by_name : Child → Keyed
keyed_by_name c = (c.name, c)

abbrev pub generated_schema : List Keyed
generated_schema = map keyed_by_name (record { name = codes "n"; kind = kind_of_n; nullable = true; metadata = [] }
    ∷ record { name = codes "t"; kind = kind_of_t; nullable = false; metadata = [] }
    ∷ record { name = codes "d"; kind = kind_of_d; nullable = false; metadata = [] }
    ∷ record { name = codes "p"; kind = kind_of_p; nullable = false; metadata = [] } ∷ [])

abbrev pub arrays_of : List ℕ → List Parts
arrays_of states = numbers_array (by_rows number_of 0 states) ∷ texts_array (map digits_of states) ∷ keys_array (map key_of states)
    ∷ lists_array (by_rows items_of 0 states) ∷ []

abbrev pub batch_of : List ℕ → Batch
batch_of states = record { height = length states; schema = generated_schema; arrays = arrays_of states; custom = [] }

-- as a table has it
abbrev pub table_batch : List ℕ → TableBatch
table_batch states = record { rows = length states; columns = map cells_in (arrays_of states); custom = [] }
