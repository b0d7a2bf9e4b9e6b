use Rattle.std.specs.Prelude.{true}
use Rattle.arrow_spec.specs.declared.types.IntegerType.TheVariants.{Int16}
use Rattle.arrow_spec.specs.Kinds as kind
use Rattle.arrow_spec.specs.Kinds.{Fields, none, field}
use Rattle.std.proofs.Common.{◌≡◌, ℕ, List, [], ◌∷◌, Option, Some, None, refl}
use Rattle.std.specs.Prelude.{pos, codes}
use Rattle.laws_worked.proofs.WorkedFiles.{empty_file, three_columns_file, two_batches_file, skipped_views_file, inner_first_file, outer_first_file, sparse_union_file, list_offsets_file, falling_offsets_file, extension_file}
use Rattle.laws_worked.proofs.Int32Table.{computed}
use Rattle.arrow_spec.specs.Meaning.{file_table}
use Rattle.arrow_spec.specs.declared.error.IpcError.{IpcError}
use Rattle.arrow_spec.specs.declared.error.IpcError.TheVariants.{OutOfSpec, Projection}
use Rattle.arrow_spec.specs.declared.error.OutOfSpecKind.TheVariants as kinds
use Rattle.arrow_spec.specs.Cells as cells
use Rattle.arrow_spec.specs.Cells.{Cell, Cells, cells_of}
use Rattle.arrow_spec.specs.Readings.{refusals}
use Rattle.arrow_spec.specs.Files.{file_reading, «all», to_send, TableBatch, ArrowTable, Request}

abbrev pub why : List ℕ → Request → List IpcError
why b r = refusals (file_reading to_send b r None)

abbrev pub batches : Option ArrowTable → List (List (List Cell))
batches None = []
batches (Some t) = columns t.batches
  where
    columns : List TableBatch → List (List (List Cell))
    columns [] = []
    columns (x ∷ xs) = x.columns ∷ columns xs

abbrev pub option_fields : Option ArrowTable → Fields
option_fields None = none
option_fields (Some t) = t.fields

abbrev pub int : ℕ → Cell
int n = cells.number (pos n)

abbrev pub txt : ℕ → Cell
txt c = cells.text (c ∷ [])

abbrev pub request : Option (List ℕ) → Option ℕ → Request
request cs l = record { columns = cs; limit = l }

pub no_batches : batches (file_table empty_file «all») ≡ []
unfolding computed
no_batches = refl

pub columns_as_asked : batches (file_table three_columns_file (request (Some (2 ∷ 0 ∷ [])) None)) ≡ ((int 10 ∷ int 20 ∷ []) ∷ (int 1 ∷ int 2 ∷ []) ∷ []) ∷ []
unfolding computed
columns_as_asked = refl

pub three_columns : batches (file_table three_columns_file «all») ≡ ((int 1 ∷ int 2 ∷ []) ∷ (cells.text (codes "x") ∷ cells.text (codes "yz") ∷ []) ∷ (int 10 ∷ int 20 ∷ []) ∷ []) ∷ []
unfolding computed
three_columns = refl

-- of integers of 32 bits, texts, and integers of 64 bits: nothing refuses it
pub three_columns_sent : why three_columns_file «all» ≡ []
unfolding computed
three_columns_sent = refl

pub limit_cuts : batches (file_table two_batches_file (request None (Some 5))) ≡ ((int 1 ∷ int 2 ∷ int 3 ∷ []) ∷ []) ∷ ((int 4 ∷ int 5 ∷ []) ∷ []) ∷ []
unfolding computed
limit_cuts = refl

pub limit_of_0 : batches (file_table two_batches_file (request None (Some 0))) ≡ ([] ∷ []) ∷ ([] ∷ []) ∷ []
unfolding computed
limit_of_0 = refl

pub views_passed_over : batches (file_table skipped_views_file (request (Some (1 ∷ [])) None)) ≡ ((int 7 ∷ int 8 ∷ []) ∷ []) ∷ []
unfolding computed
views_passed_over = refl

pub views_of_two_buffers : batches (file_table skipped_views_file «all») ≡ ((cells.text (codes "abcdefghijklm") ∷ cells.text (codes "ABCDEFGHIJKLM") ∷ []) ∷ (int 7 ∷ int 8 ∷ []) ∷ []) ∷ []
unfolding computed
views_of_two_buffers = refl

pub inner_dictionary : batches (file_table inner_first_file «all») ≡ ((cells.struct (cells_of (txt 121 ∷ [])) ∷ cells.struct (cells_of (txt 120 ∷ [])) ∷ []) ∷ []) ∷ []
unfolding computed
inner_dictionary = refl

pub outer_before_inner : why outer_first_file «all» ≡ OutOfSpec (kinds.InvalidId (pos 1)) ∷ []
unfolding computed
outer_before_inner = refl

pub union_cut : batches (file_table sparse_union_file (request None (Some 1))) ≡ ((cells.tagged (pos 5) (int 1) ∷ []) ∷ []) ∷ []
unfolding computed
union_cut = refl

pub union_rows : batches (file_table sparse_union_file «all») ≡ ((cells.tagged (pos 5) (int 1) ∷ cells.tagged (pos 7) (txt 121) ∷ []) ∷ []) ∷ []
unfolding computed
union_rows = refl

pub list_from_1 : batches (file_table list_offsets_file «all») ≡ ((cells.«list» (cells_of (int 8 ∷ int 9 ∷ [])) ∷ []) ∷ []) ∷ []
unfolding computed
list_from_1 = refl

pub offsets_in_range : batches (file_table falling_offsets_file (request None (Some 2))) ≡ ((txt 120 ∷ txt 121 ∷ []) ∷ []) ∷ []
unfolding computed
offsets_in_range = refl

pub offsets_fall : why falling_offsets_file «all» ≡ OutOfSpec kinds.InvalidOffsets ∷ []
unfolding computed
offsets_fall = refl

pub column_twice : why three_columns_file (request (Some (1 ∷ 1 ∷ [])) None) ≡ Projection 1 ∷ []
unfolding computed
column_twice = refl

-- an extension's two pairs are no metadata, and pairs stand by key
pub extension : option_fields (file_table extension_file «all») ≡ field (codes "e") true ((codes "b", codes "2") ∷ (codes "z", codes "1") ∷ []) (kind.extension (codes "my") None (kind.integer Int16)) none
unfolding computed
extension = refl
